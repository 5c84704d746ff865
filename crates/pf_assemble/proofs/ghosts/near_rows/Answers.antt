use Rattle.std.proofs.Common.{◌∙◌, ℕ, Bool, false, not, ◌||◌, ◌&&◌, ◌==◌, sym, subst}
use Rattle.pf_assemble.specs.ChunkList.{owns_at}
use Rattle.pf_assemble.specs.Placed.{tri_at, is_ghost_at}
use Rattle.pf_assemble.specs.Rows.{AreTaken}
use Rattle.pf_assemble.proofs.Filling.{rows-open, rows-close, or-none}
use Rattle.pf_assemble.proofs.ghosts.near_rows.Goals as goal

pub tris-preserved : goal.tris-preserved
tris-preserved c =
    let p = is_ghost_at c.args.tris.now in
    let s : ℕ → ℕ → Bool = λ n k. owns_at k n c.args.tris.now in
    let t = tri_at c.args.tris.now c.tris.i in (
      c.mark_near.ensures.len ∙ c.tris.invariant.0,
      rows-close c.mark_near.new.rows.items p c.tris.i (λ w. (not (t.owner == w) && (s t.a w || (s t.b w || s t.c w))) || false)
          (c.in_ok-mark_near.ensures.marked s p (λ w. false) (subst (λ (k : ℕ). AreTaken c.args.sharers.now s k) (sym c.tris.invariant.0) c.requires.sharers) (rows-open c.tris.rows.items p c.tris.i c.tris.invariant.1))
          (λ w l. or-none (not (t.owner == w) && (s t.a w || (s t.b w || s t.c w)))),
    )
