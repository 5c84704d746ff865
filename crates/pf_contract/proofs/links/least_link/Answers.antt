use Rattle.std.proofs.Common.{ℕ, Bool, sym}
use Rattle.std.specs.Prelude.{None, map}
use Rattle.pf_model.specs.Rows.{is_link_node}
use Rattle.pf_rings.proofs.Least.{fold-parts}
use Rattle.pf_contract.proofs.links.least_link.Goals as goal

pub returns : goal.returns
returns c =
    let p : ℕ → Bool = is_link_node c.args.sides.left c.args.sides.right c.args.around.now in
    rw (c.least_left.ensures, c.least_right-least.ensures) (sym (fold-parts p None (map (λ s. s.right) c.args.spokes.now) (map (λ s. s.left) c.args.spokes.now)))
