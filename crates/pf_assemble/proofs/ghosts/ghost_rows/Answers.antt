use Rattle.std.proofs.Common.{◌∙◌, List, Vec, Global, ℕ, ap, length, subst, sym}
use Rattle.pf_assemble.specs.Placed.{AreCornersBelow}
use Rattle.pf_assemble.proofs.Corners.{corners-below}
use Rattle.pf_assemble.proofs.ghosts.ghost_rows.Goals as goal

pub near_rows-requires-clause-corners : goal.near_rows-requires-clause-corners
near_rows-requires-clause-corners c =
    subst (λ (n : ℕ). AreCornersBelow n c.args.tris.now) (sym (ap (λ (l : List (Vec ℕ Global)). length l) c.deref.ensures.value ∙ (c.in_ok-sharers.ensures.len ∙ c.past_corners.ensures))) (corners-below 0 c.args.tris.now)
