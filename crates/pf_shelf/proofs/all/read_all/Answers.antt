use Rattle.std.proofs.Common.{◌≡◌, ◌∙◌, ◌≤◌, ◌<◌, ◌+◌, ap, sym, arith, length, take, List, [], ℕ, Option, vec_len}
use Rattle.std.specs.Prelude.{unwrap_or}
use Rattle.pf_shelf.specs.Files.{bytes_at}
use Rattle.pf_shelf.proofs.Told.{next_fits, reached-next, read-next, on_ok}
use Rattle.pf_shelf.specs.Steps.{before_then, still_tells}
use Rattle.pf_shelf.proofs.all.read_all.Goals as goal

-- the buffer goes past what was read
longer : (g : _) (c : goal.Else-at-limit g) → c.turns.at ≤ length c.deref_mut.result.now
longer g c =
    let more : c.turns.at < vec_len c.grow.new.file = on_ok c.grow.result (sym c.is_err.ensures.value ∙ c.if-is_err.false) c.grow.ensures.more in
    omega (arith, c.deref_mut.ensures.len)

fits : (g : _) (c : goal.Else-at-limit g) → c.in-Ok.n ≤ length c.read_at.new.buf
fits g c = omega (arith, c.read_at.auto.buf, (c.in-Ok.ensures).fits)

within : (g : _) (c : goal.Else-at-limit g) → c.turns.at + c.in-Ok.n ≤ vec_len c.grow.new.file
within g c = omega (arith, c.deref_mut.ensures.len, next_fits c.turns.at c.in-Ok.n c.deref_mut.result.now (longer g c) (c.in-Ok.ensures).fits)

-- the file has not changed since the first turn
same : (g : _) (c : goal.Else-at-limit g) → bytes_at (g.S.Shelf.seen c.turns.shelf).told c.args.name.now ≡ bytes_at (g.S.Shelf.seen c.args.shelf.now).told c.args.name.now
same g c = ap (λ (o : Option (List ℕ)). unwrap_or o []) (c.turns.invariant.files.same c.args.name.now)

pub turns-preserved : goal.turns-preserved
turns-preserved g c = record {
  within = omega arith;
  in_file = within g c;
  reached = λ tells. reached-next c.read_at.new.buf (bytes_at (g.S.Shelf.seen c.args.shelf.now).told c.args.name.now) c.turns.at c.in-Ok.n (c.turns.invariant.reached tells) (fits g c)
      (rw (← same g c) ((c.in-Ok.ensures).bytes (still_tells (g.S.Shelf.seen c.args.shelf.now).told (g.S.Shelf.seen c.turns.shelf).told c.turns.invariant.files.tells tells)));
  bytes = λ tells. read-next c.deref_mut.result.now c.read_at.new.buf _ _ (bytes_at (g.S.Shelf.seen c.args.shelf.now).told c.args.name.now) c.turns.at c.in-Ok.n (vec_len c.grow.new.file) (longer g c) (within g c) (fits g c)
      (ap (λ (l : List ℕ). take c.turns.at l) c.deref_mut.ensures.value ∙ c.grow.ensures.same ∙ c.turns.invariant.bytes tells)
      (rw (← same g c) ((c.in-Ok.ensures).bytes (still_tells (g.S.Shelf.seen c.args.shelf.now).told (g.S.Shelf.seen c.turns.shelf).told c.turns.invariant.files.tells tells)));
  files = before_then (g.S.Shelf.seen c.args.shelf.now).told (g.S.Shelf.seen c.turns.shelf).told (g.S.Shelf.seen c.read_at.new.self).told c.turns.invariant.files (c.in-Ok.ensures).files;
  taken = rw ((c.in-Ok.ensures).taken, c.turns.invariant.taken) (omega arith);
  read_faults = (c.in-Ok.ensures).no_fault ∙ c.turns.invariant.read_faults;
  write_faults = (c.in-Ok.ensures).write_faults ∙ c.turns.invariant.write_faults;
  misses = (c.in-Ok.ensures).no_miss ∙ c.turns.invariant.misses;
}
