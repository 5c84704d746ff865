-- A flip that passes keeps the sum of a weight over all triangles.
-- Assumes `IsConforming m` and that `first_failing` is None.
use Rattle.std.proofs.Common.{◌≡◌, ℕ, sym, subst, arith}
use Rattle.std.specs.Prelude.{Some, None, min, max, ℤ, ◌+ℤ◌}
use Rattle.std.proofs.lemmas.Int.{ints}
use Rattle.pf_geom.specs.declared.Point.{Point}
use Rattle.pf_model.specs.declared.Op.TheVariants.{Flip}
use Rattle.pf_model.specs.declared.Side.{Side}
use Rattle.pf_model.specs.Mesh.{Undivided, side_of, place_of}
use Rattle.pf_model.specs.Conforming.{IsConforming}
use Rattle.pf_model.specs.Applied.{replaced, is_at_edge, flip_added, flipped}
use Rattle.pf_model.specs.Conditions.{first_failing}
use Rattle.pf_model.proofs.ReadClauses.{FlipPasses, flip_passes}
use Rattle.pf_model.proofs.FlipKeeps.{FlipFacts, flip_facts, after}
use Rattle.pf_model.proofs.FlipArea.{flip_total}
use Rattle.pf_cover_model.proofs.Weights.{IsWeight, round_in, rounds_of, round_in-tri_of, round-cuts}

flip_rounds : (w : Point → Point → ℤ) → IsWeight w → (m : Undivided) (ok : IsConforming m) (lo hi c d o1 o2 : ℕ) (f : FlipFacts m lo hi c d o1 o2) → rounds_of w (after m ok lo hi c d o1 o2 f) ≡ rounds_of w m
flip_rounds w weight m ok lo hi c d o1 o2 f =
    flip_total m ok lo hi c d o1 o2 f (round_in w m)
    (sums (round_in-tri_of w m lo hi c o1) (round_in-tri_of w m hi lo d o2) (round_in-tri_of w m lo d c o1) (round_in-tri_of w m hi c d o2) (round-cuts w weight (place_of m lo) (place_of m hi) (place_of m c) (place_of m d)))
  where
    sums : {x1 x2 x3 x4 y1 y2 y3 y4 : ℤ} → x1 ≡ y1 → x2 ≡ y2 → x3 ≡ y3 → x4 ≡ y4 → y1 +ℤ y2 ≡ y3 +ℤ y4 → x1 +ℤ x2 ≡ x3 +ℤ x4
    sums e1 e2 e3 e4 q = omega (arith, ints, e1, e2, e3, e4, q)

-- what holds of the mesh after a flip with known sides holds of the mesh that is defined
pub flip_by : (P : Undivided → Type 0) (m : Undivided) (chunk a b : ℕ) (ok : IsConforming m) → first_failing m chunk (Flip a b) ≡ None → ((l r : Side) (f : FlipFacts m (min a b) (max a b) l.apex r.apex l.owner r.owner) → FlipPasses m (min a b) (max a b) l r → P (after m ok (min a b) (max a b) l.apex r.apex l.owner r.owner f)) → P (flipped m (min a b) (max a b))
flip_by P m chunk a b ok h known = go (flip_passes m chunk a b h).1
  where
    go : (l r : Side) × FlipPasses m (min a b) (max a b) l r → P (flipped m (min a b) (max a b))
    go x =
        let l = x.0 in let r = x.1 in
        let c : P record m { tris = replaced (is_at_edge (min a b) (max a b)) (flip_added (min a b) (max a b) (Some l) (Some r)) m.tris } = known l r (flip_facts m ok (min a b) (max a b) l r x.2) x.2 in
        let c1 = subst (λ o. P record m { tris = replaced (is_at_edge (min a b) (max a b)) (flip_added (min a b) (max a b) o (Some r)) m.tris }) (sym x.2.left) c in
        subst (λ o. P record m { tris = replaced (is_at_edge (min a b) (max a b)) (flip_added (min a b) (max a b) (side_of m.tris (min a b) (max a b)) o) m.tris }) (sym x.2.right) c1

pub flip_keeps_rounds : (w : Point → Point → ℤ) → IsWeight w → (m : Undivided) (chunk a b : ℕ) → IsConforming m → first_failing m chunk (Flip a b) ≡ None → rounds_of w (flipped m (min a b) (max a b)) ≡ rounds_of w m
flip_keeps_rounds w weight m chunk a b ok h = flip_by (λ k. rounds_of w k ≡ rounds_of w m) m chunk a b ok h (λ l r f p. flip_rounds w weight m ok (min a b) (max a b) l.apex r.apex l.owner r.owner f)
