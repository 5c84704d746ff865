use Rattle.std.proofs.Common.{◌∙◌, false, ◌||◌, ◌==◌}
use Rattle.pf_assemble.specs.Placed.{tri_at, is_owned_at}
use Rattle.pf_assemble.proofs.Filling.{rows-open, rows-close, or-none}
use Rattle.pf_assemble.proofs.ghosts.owned_rows.Goals as goal

pub tris-preserved : goal.tris-preserved
tris-preserved c =
    let p = is_owned_at c.args.tris.now in
    let owner = (tri_at c.args.tris.now c.tris.i).owner in (
      c.mark.ensures.len ∙ c.tris.invariant.0,
      rows-close c.mark.new.rows.items p c.tris.i (λ w. owner == w || false)
          (c.in_ok-mark.ensures.marked p (λ w. false) (rows-open c.tris.rows.items p c.tris.i c.tris.invariant.1))
          (λ w l. or-none (owner == w)),
    )
