use Rattle.std.proofs.Common.{◌∙◌, sym, subst}
use Rattle.pf_model.specs.Conforming.{IsConforming}
use Rattle.pf_core_model.specs.Seats.{own_log}
use Rattle.pf_core_model.proofs.Replays.{conforms_after}
use Rattle.pf_assemble.proofs.whole.end_board.Goals as goal

pub of_parts-requires : goal.of_parts-requires
of_parts-requires c =
    let o = c.args.board.table.shared.key in
    let log = own_log c.args.s.seat.me.0 in
    let whole = c.requires.seat.knows.1 c.requires.alone in
    subst IsConforming (sym c.in_ok-ended.ensures.mesh) (conforms_after o log whole.conforming whole.fresh whole.legal)

pub returns-clause-mesh : goal.returns-clause-mesh
returns-clause-mesh c = c.in_ok-mesh.ensures ∙ c.in_ok-ended.ensures.mesh
