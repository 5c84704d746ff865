use Rattle.std.proofs.Common.{◌∙◌, sym, ap, subst, arith}
use Rattle.pf_core_model.specs.Core.{Opening}
use Rattle.pf_core_model.specs.State.{first_view}
use Rattle.pf_locks.specs.Seats.{IsSeat}
use Rattle.pf_adapt.proofs.Sharing.{first_seat}
use Rattle.pf_adapt.proofs.Ended.{adapted-by, parts_are}
use Rattle.pf_adapt.proofs.adapting.adapt.Goals as goal

pub turns_made-requires-clause-seat : goal.turns_made-requires-clause-seat
turns_made-requires-clause-seat g c κs within =
    let board = c.in_ok-board.board in
    let key = c.in_ok-board.ensures.key in
    let some = c.requires.workers.0 in
    first_seat board.table.shared.table_id board.table.shared.key c.in_ok-board.seat c.args.budget c.args.workers (omega (arith, some)) c.in_ok-board.ensures.board
    (subst (λ (o : Opening). IsSeat o c.in_ok-board.seat) (sym key) c.in_ok-board.ensures.seat)
    (c.in_ok-board.ensures.view ∙ ap first_view (sym key))
    (ap (λ (o : Opening). o.budget) key)
    (ap (λ (o : Opening). o.workers) key)

pub turns_made-requires-clause-parts : goal.turns_made-requires-clause-parts
turns_made-requires-clause-parts g c κs within =
    parts_are c.args.m.mesh c.in_ok-board.board.table.shared.key.mesh c.args.workers c.in_ok-parts.parts.items c.deref.result.now (ap (λ (o : Opening). o.mesh) c.in_ok-board.ensures.key) c.deref.ensures.value c.in_ok-parts.ensures.len c.in_ok-parts.ensures.chunks c.in_ok-parts.ensures.start

pub returns-clause-adapted : goal.returns-clause-adapted
returns-clause-adapted g c =
    let key = c.in_ok-board.ensures.key in
    adapted-by c.in_ok-board.board.table.shared.key c.args.m.mesh c.args.budget c.in_ok-seat-2.seat c.in_ok-mesh.journal.items (ap (λ (o : Opening). o.mesh) key) (ap (λ (o : Opening). o.budget) key) c.in_ok-seat-2.ensures.lone.seat c.in_ok-seat-2.ensures.lone.alone c.in_ok-mesh.ensures.journal c.in_ok-seat-2.ensures.ended
