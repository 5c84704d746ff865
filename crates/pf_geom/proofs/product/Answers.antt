use Rattle.std.proofs.Common.{sym, subst}
use Rattle.std.specs.Prelude.{ℤ}
use Rattle.pf_geom.specs.Plane.{IsWithin}
use Rattle.pf_geom.proofs.Products.{product-within, passed-fits, passed-value}
use Rattle.pf_geom.proofs.product.Goals as goal

pub overflow_mul-result : goal.overflow_mul-result
overflow_mul-result c = passed-fits c.args.x c.args.y c.ranges.x c.ranges.y c.requires.x_within c.requires.y_within

pub returns-clause-value : goal.returns-clause-value
returns-clause-value c = passed-value c.args.x c.args.y c.ranges.x c.ranges.y c.requires.x_within c.requires.y_within

pub returns-clause-within : goal.returns-clause-within
returns-clause-within c =
    subst (λ (z : ℤ). IsWithin 288230376151711744 z)
    (sym (passed-value c.args.x c.args.y c.ranges.x c.ranges.y c.requires.x_within c.requires.y_within))
    (product-within 536870912 536870912 c.args.x c.args.y c.requires.x_within c.requires.y_within)
