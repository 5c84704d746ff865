use Rattle.std.proofs.Common.{◌∙◌, ◌++◌, ℕ, ◌<◌, ap, sym, subst, map, length, Vec, Global}
use Rattle.pf_assemble.specs.Divided.{copies_in}
use Rattle.pf_assemble.specs.Placed.{copy_at, is_sharer_at}
use Rattle.pf_assemble.specs.Rows.{AreBelow}
use Rattle.pf_assemble.proofs.ByPlaces.{copies-placed}
use Rattle.pf_assemble.proofs.Filling.{taken-below}
use Rattle.pf_assemble.proofs.Loops.{ranged-more}
use Rattle.pf_assemble.proofs.copies.copies_by.Goals as goal

pub put_copies-requires : goal.put_copies-requires
put_copies-requires c =
    let row-is = (c.deref.ensures.value ∙ ap (λ (v : Vec ℕ Global). v.items) c.index-nodes-chunk.is) ∙ c.requires.nodes c.chunks.chunk c.index-nodes-chunk.result (subst (λ (n : ℕ). c.chunks.chunk < n) (sym c.requires.len) c.chunks-test.true) in
    subst (AreBelow (length c.args.stars.now)) (sym row-is) (taken-below (is_sharer_at c.args.stars.now c.chunks.chunk) (length c.args.stars.now))

pub chunks-preserved : goal.chunks-preserved
chunks-preserved c =
    let row-is = (c.deref.ensures.value ∙ ap (λ (v : Vec ℕ Global). v.items) c.index-nodes-chunk.is) ∙ c.requires.nodes c.chunks.chunk c.index-nodes-chunk.result (subst (λ (n : ℕ). c.chunks.chunk < n) (sym c.requires.len) c.chunks-test.true) in
    c.in_ok-put_copies.ensures
    ∙ ((λ i. c.chunks.invariant i ++ (ap (map (copy_at c.chunks.chunk c.args.stars.now)) row-is ∙ copies-placed c.chunks.chunk c.args.stars.now) i)
    ∙ sym (ranged-more (λ k. copies_in k c.args.stars.now) c.chunks.chunk))
