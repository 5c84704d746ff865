use Rattle.std.proofs.Common.{◌≡◌, ◌∙◌, rules}
use Rattle.std.specs.Prelude.{int_lt, pos, ◌*ℤ◌}
use Rattle.std.proofs.lemmas.Int.{to_z-of_z}
use mir.Syntax.{w64}
use Rattle.pf_geom.specs.Plane.{len2_of}
use Rattle.pf_rules.proofs.bisect.is_too_short.Goals as goal

pub returns : goal.returns
returns c = λ m bands lo hi.
    let y : c.is_below_four.result ≡ int_lt (len2_of c.args.lo.at c.args.hi.at) (pos 4 *ℤ c.least_between-least.result) = rw (to_z-of_z w64 c.least_between-least.result (search rules)) at c.is_below_four.ensures in
    y ∙ (λ i. int_lt (len2_of (lo i) (hi i)) (pos 4 *ℤ c.least_between-least.ensures m c.args.lo.name c.args.hi.name bands lo hi i))
