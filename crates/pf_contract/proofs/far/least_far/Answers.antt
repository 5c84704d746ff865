use Rattle.std.proofs.Common.{sym}
use Rattle.std.specs.Prelude.{None, map}
use Rattle.pf_model.specs.Rows.{is_too_long}
use Rattle.pf_rings.proofs.Least.{fold-parts}
use Rattle.pf_contract.proofs.far.least_far.Goals as goal

pub returns : goal.returns
returns c = λ m bands v placed.
    rw (c.least_left.ensures m bands v placed, c.least_right-least.ensures m bands v placed) (sym (fold-parts (is_too_long m c.args.v.name c.args.around.now) None (map (λ s. s.right) c.args.spokes.now) (map (λ s. s.left) c.args.spokes.now)))
