use Rattle.std.proofs.Common.{arith, ◌∙◌}
use Rattle.pf_shelf.proofs.Told.{held-next, next_fits}
use Rattle.pf_shelf.specs.Steps.{changes_then, still_tells}
use Rattle.pf_shelf.proofs.all.write_all.Goals as goal

pub loop-done-preserved : goal.loop-done-preserved
loop-done-preserved g c = record {
  within = next_fits c.loop-done.done c.in-Ok-append.n c.args.bytes.now c.loop-done.invariant.within (c.in-Ok-append.ensures).fits;
  file = λ tells. held-next (g.S.Shelf.seen c.loop-done.shelf).told (g.S.Shelf.seen c.append.new.self).told c.args.name.now c.loop-done.done c.in-Ok-append.n c.args.bytes.now
      (c.loop-done.invariant.file tells)
      ((c.in-Ok-append.ensures).appended (still_tells (g.S.Shelf.seen c.args.shelf.now).told (g.S.Shelf.seen c.loop-done.shelf).told c.loop-done.invariant.others.tells tells));
  others = changes_then c.args.name.now (g.S.Shelf.seen c.args.shelf.now).told (g.S.Shelf.seen c.loop-done.shelf).told (g.S.Shelf.seen c.append.new.self).told c.loop-done.invariant.others (c.in-Ok-append.ensures).others;
  read_faults = (c.in-Ok-append.ensures).read_faults ∙ c.loop-done.invariant.read_faults;
  write_faults = (c.in-Ok-append.ensures).no_fault ∙ c.loop-done.invariant.write_faults;
  misses = (c.in-Ok-append.ensures).misses ∙ c.loop-done.invariant.misses;
  taken = (c.in-Ok-append.ensures).taken ∙ c.loop-done.invariant.taken;
}
