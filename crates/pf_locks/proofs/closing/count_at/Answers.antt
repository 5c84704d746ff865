use Rattle.std.proofs.Common.{◌≡◌, true, cond, ◌==◌, length, refl, ap, ◌∙◌, subst, inl, arith}
use Rattle.std.specs.Prelude.{Some}
use Rattle.std.proofs.lemmas.Bool.Decides.{nat_tests}
use Rattle.pf_model.specs.Stars.{star_of}
use Rattle.pf_core_model.specs.Sharers.{sharers_in}
use Rattle.pf_core_model.specs.Moves.{locked}
use Rattle.pf_core_model.specs.Core.{mesh_after}
use Rattle.pf_core_model.specs.Seats.{own_log, Knows, IsWhole}
use Rattle.pf_locks.specs.Lists.{list_in}
use Rattle.pf_locks.proofs.Counting.{none_of_dead, not_won}
use Rattle.pf_locks.proofs.closing.count_at.Goals as goal

pub returns-in-Won-clause-count : goal.returns-in-Won-clause-count
returns-in-Won-clause-count c =
    let o = c.args.board.now.table.shared.key in
    let v = c.args.s.now.seat.me.0 in
    let n = c.args.n in
    let told = c.in-Won.ensures.told.1 in
    let star = told.0 in
    let whole : IsWhole o (locked v n (Some star)) = (subst (λ u. Knows o u) told.2 c.in-Won.ensures.seat.knows).1 c.requires.alone in
    let is : Some star ≡ star_of (mesh_after o (own_log v)) n = whole.pairs record { node = n; star = Some star } (inl refl) in
    let hit : (n == n) ≡ true = grind (arith, nat_tests) in
    c.count_of-many.ensures
    ∙ ap (λ l. length (list_in l n)) c.deref.ensures.value
    ∙ ap (λ l. length l) (told.3 n).0
    ∙ ap (λ b. length (cond b (sharers_in v.chunks (Some star)) (list_in c.args.s.now.kept.items n))) hit
    ∙ ap (λ k. length (sharers_in k (Some star))) c.requires.seat.knows.0.opening.2
    ∙ ap (λ x. length (sharers_in o.mesh.chunks x)) is

pub returns-in_default : goal.returns-in_default
returns-in_default c =
    let o = c.args.board.now.table.shared.key in
    let v = c.args.s.now.seat.me.0 in
    let n = c.args.n in
    let r = not_won o n c.args.s.now c.try_lock.new.s c.try_lock.result c.in_default.not-Won c.try_lock.ensures.told (c.try_lock.ensures.alone c.requires.alone) c.requires.alone in
    record { board = c.try_lock.ensures.board; seat = c.try_lock.ensures.seat; stays = r.0; count = none_of_dead (mesh_after o (own_log v)) o.mesh.chunks n r.1 }
