-- A flip that passes keeps twice the area.
-- Assumes `IsConforming m` and that `first_failing` is None.
use Rattle.std.proofs.Common.{◌≡◌, ℕ, List, [], ◌∷◌, refl, sym, subst, Bool, true, false, ◌⊎◌, inl, inr, arith}
use Rattle.std.specs.Prelude.{Contains, filter, Some, None, min, max, ℤ, ◌+ℤ◌}
use Rattle.std.proofs.lemmas.Int.{ints}
use Rattle.pf_model.specs.declared.Tri.{Tri}
use Rattle.pf_model.specs.declared.Op.TheVariants.{Flip}
use Rattle.pf_model.specs.declared.Side.{Side}
use Rattle.pf_model.specs.Mesh.{Undivided, tri_of, tri_lt, has_edge, side_of, turn_at, place_of}
use Rattle.pf_model.specs.Conforming.{IsConforming}
use Rattle.pf_model.specs.Applied.{applied, replaced, is_at_edge, flip_added, flipped}
use Rattle.pf_model.specs.Conditions.{first_failing}
use Rattle.pf_model.specs.Sums.{total, area2_of}
use Rattle.pf_model.proofs.Members.{nowhere, here, there, cases}
use Rattle.pf_model.proofs.RisingLemmas.{AreApart}
use Rattle.pf_model.proofs.Triangles.{IsEdge, tri_of-edges, tri_lt-apart, tri_lt-order}
use Rattle.pf_model.proofs.Turns.{turn_at-tri_of}
use Rattle.pf_geom.proofs.Orientations.{orient_of-cuts}
use Rattle.pf_model.proofs.ReadClauses.{FlipPasses, flip_passes}
use Rattle.pf_model.proofs.Kept.{has_edge-first}
use Rattle.pf_model.proofs.Totals.{total-replaced, total-removed}
use Rattle.pf_model.proofs.FlipKeeps.{FlipFacts, flip_facts, removed_one, removed_two, removed_is, added, after}

module _ (m : Undivided) (ok : IsConforming m) (lo hi c d o1 o2 : ℕ) (f : FlipFacts m lo hi c d o1 o2) where
  abbrev pub gone : List Tri
  gone = tri_of lo hi c o1 ∷ tri_of hi lo d o2 ∷ []

  gone_share_none : (p q : ℕ) → IsEdge p q lo hi c → IsEdge p q hi lo d → ⊥
  gone_share_none p q x y =
      let i = x.is in let j = y.is in
      let a = f.corners_one.distinct.one in
      let b = f.corners_one.distinct.two in
      let b' = f.corners_one.distinct.three in
      let b2 = f.corners_two.distinct.two in
      let b3 = f.corners_two.distinct.three in
      grind arith

  gone_apart : AreApart tri_lt gone
  gone_apart = (first, ((λ z h. absurd (nowhere z h)), tt))
    where
      t1 : Tri
      t1 = tri_of lo hi c o1

      t2 : Tri
      t2 = tri_of hi lo d o2

      not_there : (b : Bool) → has_edge t1.a t1.b t2 ≡ b → has_edge t1.a t1.b t2 ≡ false
      not_there false e = e
      not_there true e = absurd (gone_share_none t1.a t1.b (tri_of-edges t1.a t1.b lo hi c o1 (has_edge-first t1)) (tri_of-edges t1.a t1.b hi lo d o2 e))

      first : (z : Tri) → Contains (t2 ∷ []) z → (tri_lt t1 z ≡ true) ⊎ (tri_lt z t1 ≡ true)
      first z h = elim (cases z t2 [] h) [ inl e ↦ subst (λ w. (tri_lt t1 w ≡ true) ⊎ (tri_lt w t1 ≡ true)) (sym e) (tri_lt-apart t1 t2 (not_there _ refl)) | inr n ↦ absurd (nowhere z n) ]

  -- what goes, summed
  pub total-flip_removed : (g : Tri → ℤ) → total g (filter (is_at_edge lo hi) m.tris) ≡ total g gone
  total-flip_removed g = total-removed g tri_lt tri_lt-order (is_at_edge lo hi) gone m.tris ok.tris_rise gone_apart forth back
    where
      forth : (z : Tri) → Contains gone z → Contains m.tris z × (is_at_edge lo hi z ≡ true)
      forth z h = elim (cases z (tri_of lo hi c o1) (tri_of hi lo d o2 ∷ []) h) [
        | inl e ↦ subst (λ w. Contains m.tris w × (is_at_edge lo hi w ≡ true)) (sym e) (f.one, removed_one m ok lo hi c d o1 o2 f)
        | inr r ↦ elim (cases z (tri_of hi lo d o2) [] r) [ inl e ↦ subst (λ w. Contains m.tris w × (is_at_edge lo hi w ≡ true)) (sym e) (f.two, removed_two m ok lo hi c d o1 o2 f) | inr n ↦ absurd (nowhere z n) ]
      ]

      back : (z : Tri) → Contains m.tris z → is_at_edge lo hi z ≡ true → Contains gone z
      back z h e = elim (removed_is m ok lo hi c d o1 o2 f z h e) [ inl x ↦ subst (λ w. Contains gone w) (sym x) (here (tri_of lo hi c o1) (tri_of hi lo d o2 ∷ [])) | inr x ↦ subst (λ w. Contains gone w) (sym x) (there (tri_of hi lo d o2) (tri_of lo hi c o1) (tri_of hi lo d o2 ∷ []) (here (tri_of hi lo d o2) [])) ]

  pub flip_total : (g : Tri → ℤ) → g (tri_of lo hi c o1) +ℤ g (tri_of hi lo d o2) ≡ g (tri_of lo d c o1) +ℤ g (tri_of hi c d o2) → total g (after m ok lo hi c d o1 o2 f).tris ≡ total g m.tris
  flip_total g same =
      let a = total-replaced g tri_lt (is_at_edge lo hi) (added m ok lo hi c d o1 o2 f) m.tris in
      let b = total-flip_removed g in
      omega (arith, ints, a, b, same)

  pub flip_area : area2_of (after m ok lo hi c d o1 o2 f) ≡ area2_of m
  flip_area =
      let e1 = turn_at-tri_of m lo hi c o1 in
      let e2 = turn_at-tri_of m hi lo d o2 in
      let e3 = turn_at-tri_of m lo d c o1 in
      let e4 = turn_at-tri_of m hi c d o2 in
      let q = orient_of-cuts (place_of m lo) (place_of m hi) (place_of m c) (place_of m d) in
      flip_total (λ t. turn_at m t.a t.b t.c) (sums e1 e2 e3 e4 q)
    where
      sums : {x1 x2 x3 x4 y1 y2 y3 y4 : ℤ} → x1 ≡ y1 → x2 ≡ y2 → x3 ≡ y3 → x4 ≡ y4 → y1 +ℤ y2 ≡ y3 +ℤ y4 → x1 +ℤ x2 ≡ x3 +ℤ x4
      sums e1 e2 e3 e4 q = omega (arith, ints, e1, e2, e3, e4, q)

-- a flip that passes keeps twice the area
pub flip_keeps_area : (m : Undivided) (chunk a b ticket : ℕ) → IsConforming m → first_failing m chunk (Flip a b) ≡ None → area2_of (applied m record { ticket = ticket; chunk = chunk; op = Flip a b }) ≡ area2_of m
flip_keeps_area m chunk a b ticket ok h = go (flip_passes m chunk a b h).1
  where
    go : (l r : Side) × FlipPasses m (min a b) (max a b) l r → area2_of (flipped m (min a b) (max a b)) ≡ area2_of m
    go x =
        let l = x.0 in let r = x.1 in
        let c : area2_of record m { tris = replaced (is_at_edge (min a b) (max a b)) (flip_added (min a b) (max a b) (Some l) (Some r)) m.tris } ≡ area2_of m = flip_area m ok (min a b) (max a b) l.apex r.apex l.owner r.owner (flip_facts m ok (min a b) (max a b) l r x.2) in
        let c1 = subst (λ o. area2_of record m { tris = replaced (is_at_edge (min a b) (max a b)) (flip_added (min a b) (max a b) o (Some r)) m.tris } ≡ area2_of m) (sym x.2.left) c in
        subst (λ o. area2_of record m { tris = replaced (is_at_edge (min a b) (max a b)) (flip_added (min a b) (max a b) (side_of m.tris (min a b) (max a b)) o) m.tris } ≡ area2_of m) (sym x.2.right) c1
