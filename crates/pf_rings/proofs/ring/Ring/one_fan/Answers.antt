use Rattle.std.proofs.Common.{◌∙◌, ap}
use Rattle.pf_model.specs.Stars.{is_one_fan}
use Rattle.pf_star_model.proofs.Shown.{star_parts}
use Rattle.pf_rings.specs.Lending.{star_in}
use Rattle.pf_rings.proofs.ring.Ring.one_fan.Goals as goal

pub returns : goal.returns
returns c m n ok e =
    let p = star_parts m n (star_in c.args.self.now) e in
    c.is_fan.ensures m n ok (c.spokes.ensures.value ∙ p.spokes) ∙ ap is_one_fan c.spokes.ensures.value
