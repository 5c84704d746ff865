use Rattle.std.proofs.Common.{◌≡◌, ◌∙◌, ℕ, Bool, false, ◌||◌, ap, length, sym, subst, Vec, Global}
use Rattle.std.specs.List.{list_any}
use Rattle.pf_model.specs.Mesh.{has_corner}
use Rattle.pf_assemble.specs.ChunkList.{owns_at}
use Rattle.pf_assemble.specs.Placed.{tri_at, is_owned_at}
use Rattle.pf_assemble.specs.Rows.{taken, AreBelow}
use Rattle.pf_assemble.proofs.Filling.{taken-below, rows-open, rows-close, or-none}
use Rattle.pf_assemble.proofs.Places.{owned-corner}
use Rattle.pf_assemble.proofs.ghosts.sharer_rows.Goals as goal

pub chunks-preserved : goal.chunks-preserved
chunks-preserved c =
    let q : ℕ → ℕ → Bool = λ n k. owns_at k n c.args.tris.now in
    let list = c.deref.result.now in
    let list-is : list ≡ taken (is_owned_at c.args.tris.now c.chunks.chunk) (length c.args.tris.now) = (c.deref.ensures.value ∙ ap (λ (v : Vec ℕ Global). v.items) c.index-owned-chunk.is) ∙ c.requires c.chunks.chunk c.index-owned-chunk.result c.chunks-test.true in (
      c.mark_listed.ensures.len ∙ c.chunks.invariant.0,
      rows-close c.mark_listed.new.rows.items q c.chunks.chunk (λ w. list_any (λ i. has_corner w (tri_at c.args.tris.now i)) list || false)
          (c.in_ok-mark_listed.ensures.marked q (λ w. false) (rows-open c.chunks.rows.items q c.chunks.chunk c.chunks.invariant.1))
          (λ w l. or-none (list_any (λ i. has_corner w (tri_at c.args.tris.now i)) list) ∙ (ap (list_any (λ i. has_corner w (tri_at c.args.tris.now i))) list-is ∙ owned-corner c.args.tris.now c.chunks.chunk w)),
    )

pub mark_listed-requires : goal.mark_listed-requires
mark_listed-requires c =
    let list-is = (c.deref.ensures.value ∙ ap (λ (v : Vec ℕ Global). v.items) c.index-owned-chunk.is) ∙ c.requires c.chunks.chunk c.index-owned-chunk.result c.chunks-test.true in
    subst (AreBelow (length c.args.tris.now)) (sym list-is) (taken-below (is_owned_at c.args.tris.now c.chunks.chunk) (length c.args.tris.now))
