use Rattle.std.proofs.Common.{sym, ap, ◌∙◌}
use Rattle.pf_core_model.specs.Core.{nodes_of}
use Rattle.board_tests.specs.Holding.{is_kept}
use Rattle.board_tests.proofs.Lending.{kept_name}
use Rattle.board_tests.proofs.Giving.{node_held}
use Rattle.board_tests.proofs.seats.put_listed.Goals as goal

pub swap_sharers-requires-clause-held : goal.swap_sharers-requires-clause-held
swap_sharers-requires-clause-held c =
    let s = c.args.s.now in
    let n = c.renamed_name-node.result in
    node_held n s.seat.me.1 (nodes_of s.seat.me.0) s.kept.items _ c.requires.seat.shape
    (kept_name n s.kept.items (ap (λ l. is_kept l n) (sym c.deref.ensures.value) ∙ sym c.keeps.ensures ∙ c.if-not-keeps.false))
