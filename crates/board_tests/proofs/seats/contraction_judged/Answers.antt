use Rattle.std.proofs.Common.{List, ap, ◌∙◌}
use Rattle.pf_model.specs.declared.Band.{Band}
use Rattle.pf_model.specs.declared.Op.TheVariants.{Contract}
use Rattle.pf_star_model.specs.Judged.{judged}
use Rattle.pf_locks.specs.Lists.{lent_in}
use Rattle.board_tests.proofs.Making.{shown_there, lent_there}
use Rattle.board_tests.proofs.seats.contraction_judged.Goals as goal

pub returns : goal.returns
returns c =
    let b = c.args.board.now in
    let s = c.args.s.now in
    let ks = s.kept.items in
    let k = c.requires.seat.knows in
    c.judge.ensures.value k.0.mesh k.0.shown.conforming (shown_there b.table.shared.key s.seat.me.0 ks c.args.u k c.requires.lends (lent_there s.seat.me.0 ks c.args.u c.requires.lends c.requires.lent))
    ∙ ap (λ (x : List Band). judged (lent_in ks) x c.args.chunk (Contract c.args.u c.args.v)) (c.deref.ensures.value ∙ b.bands_are)
