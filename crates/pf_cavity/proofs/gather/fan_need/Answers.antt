use Rattle.pf_rings.specs.Lending.{star_in}
use Rattle.pf_rings.proofs.Lent.{lent-star}
use Rattle.pf_cavity.proofs.Folds.{fan-parts}
use Rattle.pf_cavity.proofs.gather.fan_need.Goals as goal

pub returns-in-Some : goal.returns-in-Some
returns-in-Some g c =
    let lent = lent-star c.ring.result c.in-Some.ring (g.R.Rings.lent c.args.r.now c.args.u) c.ring.ensures c.in-Some.is in
    rw (c.missing_lefts.ensures, c.missing_rights.ensures, c.missing_ends-ends.ensures, c.spokes-spokes.ensures.value) (fan-parts (g.R.Rings.lent c.args.r.now) c.args.u c.args.v (star_in c.in-Some.ring) lent)
