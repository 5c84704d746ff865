-- A bisection that passes keeps the sum of a weight over all triangles.
-- Assumes `IsConforming m`, that `first_failing` is None, and that each live name is below the new one (`IsFresh`).
use Rattle.std.proofs.Common.{◌≡◌, ℕ, ◌++◌, refl, sym, ◌∙◌, subst, true, ◌⊎◌, inl, inr, arith}
use Rattle.std.specs.Prelude.{Option, Some, None, min, max, ℤ, pos, ◌+ℤ◌}
use Rattle.std.proofs.lemmas.Int.{ints}
use Rattle.pf_geom.specs.declared.Point.{Point}
use Rattle.pf_geom.specs.Plane.{orient_of, middle_of}
use Rattle.pf_geom.proofs.Orientations.{orient_of-turned, orient_of-twice}
use Rattle.pf_model.specs.declared.Op.TheVariants.{Bisect}
use Rattle.pf_model.specs.declared.Side.{Side}
use Rattle.pf_model.specs.Mesh.{Undivided, side_of, place_of, is_edge}
use Rattle.pf_model.specs.Conforming.{IsConforming, IsLive}
use Rattle.pf_model.specs.Applied.{replaced, is_at_edge, halves_of, bisected, new_site}
use Rattle.pf_model.specs.Conditions.{first_failing}
use Rattle.pf_model.specs.Sums.{total}
use Rattle.pf_model.proofs.Middles.{IsMiddle, orient_of-first_half}
use Rattle.pf_model.proofs.ReadClauses.{BisectPasses, bisect_passes}
use Rattle.pf_model.proofs.Totals.{total-agree}
use Rattle.pf_model.proofs.SitesAfter.{AreBelow}
use Rattle.pf_model.proofs.BisectKeeps.{after, place_old, is_middle}
use Rattle.pf_cover_model.proofs.Weights.{IsWeight, round_at, round_in, rounds_of, round_in-tri_of, round-cut}
use Rattle.pf_cover_model.proofs.AtEdge.{old_of}
use Rattle.pf_cover_model.proofs.BisectPatch.{bisect_total, place_new, side_corners}

-- the middle is in one line with the ends
middle-flat : (p q m : Point) → IsMiddle p q m → orient_of p m q ≡ pos 0
middle-flat p q m h = half (orient_of p m q) (orient_of-first_half p q m q h ∙ (sym (orient_of-turned q p q) ∙ (sym (orient_of-turned q q p) ∙ orient_of-twice q p)))
  where
    half : (x : ℤ) → x +ℤ x ≡ pos 0 → x ≡ pos 0
    half x e = omega (arith, ints)

module _ (w : Point → Point → ℤ) (weight : IsWeight w) (m : Undivided) (ok : IsConforming m) (n lo hi : ℕ) (mid : Point) (fresh : AreBelow m.sites n) (middle : middle_of (place_of m lo) (place_of m hi) ≡ Some mid) (edge : is_edge m.tris lo hi ≡ true) where
  abbrev mesh_then : Undivided
  mesh_then = after m ok n lo hi mid fresh middle edge

  round_old : (p q z : ℕ) → IsLive m p → IsLive m q → IsLive m z → round_at w mesh_then p q z ≡ round_at w m p q z
  round_old p q z lp lq lz = rw (place_old m ok n lo hi mid fresh middle edge p lp, place_old m ok n lo hi mid fresh middle edge q lq, place_old m ok n lo hi mid fresh middle edge z lz) refl

  -- a triangle that is cut has the sum of its halves
  side_rounds : (p q : ℕ) → ((p ≡ lo) × (q ≡ hi)) ⊎ ((p ≡ hi) × (q ≡ lo)) → (s : Option Side) → side_of m.tris p q ≡ s → total (round_in w mesh_then) (halves_of n p q s) ≡ total (round_in w mesh_then) (old_of p q s)
  side_rounds p q e None f = refl
  side_rounds p q e (Some s) f =
      let c = side_corners m ok n lo hi mid fresh middle edge p q s f in
      let flat = middle-flat (place_of m p) (place_of m q) mid (is_middle m ok n lo hi mid fresh middle edge p q e) in
      let cut : round_at w mesh_then p n s.apex +ℤ round_at w mesh_then n q s.apex ≡ round_at w mesh_then p q s.apex =
      (rw (place_old m ok n lo hi mid fresh middle edge p c.live_p, place_old m ok n lo hi mid fresh middle edge q c.live_q, place_new m ok n lo hi mid fresh middle edge) (round-cut w weight (place_of m p) (place_of m q) mid (place_of mesh_then s.apex) flat)) in
      sums (round_in-tri_of w mesh_then p n s.apex s.owner) (round_in-tri_of w mesh_then n q s.apex s.owner) (round_in-tri_of w mesh_then p q s.apex s.owner) cut
    where
      sums : {x1 x2 x3 y1 y2 y3 : ℤ} → x1 ≡ y1 → x2 ≡ y2 → x3 ≡ y3 → y1 +ℤ y2 ≡ y3 → x1 +ℤ (x2 +ℤ pos 0) ≡ x3 +ℤ pos 0
      sums a b c d = omega (arith, ints, a, b, c, d)

  pub bisect_rounds : rounds_of w mesh_then ≡ rounds_of w m
  bisect_rounds =
      let a = bisect_total m ok n lo hi mid fresh middle edge (round_in w mesh_then) in
      let e = side_rounds lo hi (inl (refl, refl)) (side_of m.tris lo hi) refl in
      let f = side_rounds hi lo (inr (refl, refl)) (side_of m.tris hi lo) refl in
      let g = total-agree (round_in w mesh_then) (round_in w m) m.tris (λ t h. let p = ok.proper t h in round_old t.a t.b t.c p.first p.second p.third) in
      sums a e f g
    where
      sums : {r t t' n1 n2 o1 o2 : ℤ} → r +ℤ (o1 +ℤ o2) ≡ (n1 +ℤ n2) +ℤ t → n1 ≡ o1 → n2 ≡ o2 → t ≡ t' → r ≡ t'
      sums a e f g = omega (arith, ints, a, e, f, g)

-- what holds of the mesh after a bisection with a known middle holds of the mesh that is defined
pub bisect_by : (P : Undivided → Type 0) (m : Undivided) (chunk a b n : ℕ) (ok : IsConforming m) (fresh : AreBelow m.sites n) → first_failing m chunk (Bisect a b) ≡ None → ((mid : Point) (middle : middle_of (place_of m (min a b)) (place_of m (max a b)) ≡ Some mid) (edge : is_edge m.tris (min a b) (max a b) ≡ true) → P (after m ok n (min a b) (max a b) mid fresh middle edge)) → P (bisected m n (min a b) (max a b))
bisect_by P m chunk a b n ok fresh h known = go (bisect_passes m chunk a b h)
  where
    go : (p : Point) × BisectPasses m (min a b) (max a b) p → P (bisected m n (min a b) (max a b))
    go x = subst (λ o. P record m { sites = m.sites ++ new_site n o; tris = replaced (is_at_edge (min a b) (max a b)) (halves_of n (min a b) (max a b) (side_of m.tris (min a b) (max a b)) ++ halves_of n (max a b) (min a b) (side_of m.tris (max a b) (min a b))) m.tris }) (sym x.1.middle) (known x.0 x.1.middle x.1.edge)

pub bisect_keeps_rounds : (w : Point → Point → ℤ) → IsWeight w → (m : Undivided) (chunk a b n : ℕ) → IsConforming m → AreBelow m.sites n → first_failing m chunk (Bisect a b) ≡ None → rounds_of w (bisected m n (min a b) (max a b)) ≡ rounds_of w m
bisect_keeps_rounds w weight m chunk a b n ok fresh h = bisect_by (λ k. rounds_of w k ≡ rounds_of w m) m chunk a b n ok fresh h (λ mid middle edge. bisect_rounds w weight m ok n (min a b) (max a b) mid fresh middle edge)
