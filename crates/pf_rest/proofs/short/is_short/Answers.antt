use Rattle.std.proofs.Common.{◌≡◌, rules, arith}
use Rattle.std.specs.Prelude.{int_lt}
use Rattle.std.proofs.lemmas.Grind.{common_steps}
use Rattle.std.proofs.lemmas.Int.{to_z-of_z}
use mir.Syntax.{w64}
use Rattle.pf_geom.specs.Plane.{len2_of}
use Rattle.pf_rest.proofs.short.is_short.Goals as goal

pub returns : goal.returns
returns c = λ m s e.
    let y : c.is_below.result ≡ int_lt (len2_of c.point.result c.point-2.result) c.least_length-least.result = rw (to_z-of_z w64 c.least_length-least.result (search rules)) at c.is_below.ensures in
    grind (arith, common_steps, y)
