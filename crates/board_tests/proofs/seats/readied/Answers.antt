use Rattle.std.proofs.Common.{ap, ◌∙◌}
use Rattle.std.specs.Prelude.{List}
use Rattle.pf_star_model.specs.Lent.{Held}
use Rattle.pf_ghost.specs.Prepared.{ready_of}
use Rattle.pf_holder.specs.Prepared.{fresh_of}
use Rattle.pf_locks.specs.Lists.{lent_in}
use Rattle.board_tests.proofs.Making.{patch_told}
use Rattle.board_tests.proofs.seats.readied.Goals as goal

pub returns : goal.returns
returns c =
    let b = c.args.board.now in
    let o = b.table.shared.key in
    let s = c.args.s.now in
    c.in_ok-lists.ensures
    ∙ ap (λ (l : List Held). ready_of b.chunks l) (c.deref.ensures.value ∙ patch_told o s.seat.me.0 s.kept.items c.args.chunk c.args.op c.requires.seat.knows c.requires.lends c.requires.can c.in_ok-fresh.fresh.items c.in_ok-fresh.ensures)
    ∙ (λ i. ready_of (b.chunks_are i) (fresh_of (lent_in s.kept.items) c.args.op))
