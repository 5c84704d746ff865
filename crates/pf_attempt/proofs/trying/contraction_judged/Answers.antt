use Rattle.std.proofs.Common.{ℕ, List, ap, ◌∙◌}
use Rattle.std.specs.Prelude.{Option}
use Rattle.std.proofs.Props.{props}
use Rattle.std.proofs.Math.Logic.{∥∥₁_elim}
use Rattle.pf_model.specs.declared.Band.{Band}
use Rattle.pf_model.specs.declared.Op.TheVariants.{Contract}
use Rattle.pf_model.specs.Stars.{Star}
use Rattle.pf_star_model.specs.Judged.{judged}
use Rattle.pf_holder.specs.Facts.{AreSeen}
use Rattle.pf_holder.proofs.Held.{held_shown, star_node}
use Rattle.pf_attempt.proofs.trying.contraction_judged.Goals as goal

pub returns : goal.returns
returns g c =
    let m = g.H.Holder in
    let h = c.args.h.now in
    let lent = g.H.Rings.lent h in
    ∥∥₁_elim (g.met.H.Holder.pairs_agree h) (hlevel props) (λ (x : AreSeen (m.opening h) (m.pairs h)).
    c.judge.ensures.value x.mesh x.seen.conforming (ap (λ (f : ℕ → Option Star). f c.args.u) c.requires.lends ∙ held_shown x.mesh (m.pairs h) x.seen.shown c.args.u (star_node (m.pairs h) c.args.u c.requires.held))
    ∙ ap (λ (bs : List Band). judged lent bs c.args.chunk (Contract c.args.u c.args.v)) c.bands.ensures)
