use Rattle.std.proofs.Common.{refl}
use Rattle.pf_rings.proofs.Least.{keeper_in-some}
use Rattle.pf_rings.specs.Lending.{star_in}
use Rattle.pf_rings.proofs.ring.Ring.keeper.Goals as goal

pub returns : goal.returns
returns c =
    let k = keeper_in-some (star_in c.args.self.now).spokes c.requires in
    rw (c.unwrap_or.ensures, c.least_owner.ensures, c.spokes.ensures.value, k.1) refl
