-- A bisection that passes keeps twice the area.
-- Assumes `IsConforming m`, that `first_failing` is None, and that each live name is below the new one (`IsFresh`).
use Rattle.std.proofs.Common.{◌≡◌, ℕ, ◌+◌, List, [], ◌∷◌, ◌++◌, refl, sym, subst, true, ◌⊎◌, inl, inr, arith}
use Rattle.std.specs.Prelude.{Contains, filter, Option, Some, None, min, max, ℤ, pos, ◌+ℤ◌}
use Rattle.std.proofs.lemmas.Int.{ints}
use Rattle.std.proofs.lemmas.List.Elements.{Contains-append_cases, Contains-append_left, Contains-append_right}
use Rattle.std.proofs.lemmas.Bool.{or_cases}
use Rattle.pf_geom.specs.declared.Point.{Point}
use Rattle.pf_geom.specs.Plane.{middle_of}
use Rattle.pf_model.specs.declared.Tri.{Tri}
use Rattle.pf_model.specs.declared.Op.TheVariants.{Bisect}
use Rattle.pf_model.specs.declared.Side.{Side}
use Rattle.pf_model.specs.Mesh.{Undivided, tri_of, tri_lt, has_edge, apex_in, side_of, turn_at, place_of, is_edge}
use Rattle.pf_model.specs.Conforming.{IsConforming}
use Rattle.pf_model.specs.Applied.{IsFresh, applied, replaced, is_at_edge, halves_of, bisected, new_site}
use Rattle.pf_model.specs.Conditions.{first_failing}
use Rattle.pf_model.specs.Sums.{total, area2_of}
use Rattle.pf_model.proofs.Members.{nowhere, here, cases}
use Rattle.pf_model.proofs.Triangles.{IsEdge, tri_of-edges, tri_of-edge_one, tri_of-apex, tri_lt-order, least_first}
use Rattle.pf_model.proofs.Turns.{turn_at-tri_of}
use Rattle.pf_model.proofs.ReadClauses.{BisectPasses, bisect_passes}
use Rattle.pf_model.proofs.Kept.{side_of-stands, side_of-found}
use Rattle.pf_model.proofs.Replacement.{Parts, SharesNone, shares_none-append, shares_none-apart}
use Rattle.pf_model.proofs.Totals.{total-replaced, total-removed, total-append, total-agree}
use Rattle.pf_model.proofs.SitesAfter.{AreBelow}
use Rattle.pf_model.proofs.FlipKeeps.{AreCorners, corners_of}
use Rattle.pf_model.proofs.BisectKeeps.{added, after, turn_old, first_half, second_half, is_middle, removed_by_first, removed_by_second}

-- the triangle left of the directed edge p to q, where there is one
abbrev old_of : ℕ → ℕ → Option Side → List Tri
old_of p q None = []
old_of p q (Some s) = tri_of p q s.apex s.owner ∷ []

module _ (m : Undivided) (ok : IsConforming m) (n lo hi : ℕ) (mid : Point) (fresh : AreBelow m.sites n) (middle : middle_of (place_of m lo) (place_of m hi) ≡ Some mid) (edge : is_edge m.tris lo hi ≡ true) where
  abbrev gone : List Tri
  gone = old_of lo hi (side_of m.tris lo hi) ++ old_of hi lo (side_of m.tris hi lo)

  abbrev mesh_after : Undivided
  mesh_after = after m ok n lo hi mid fresh middle edge

  -- twice the area of a triangle, by the points after
  abbrev turn_after : Tri → ℤ
  turn_after t = turn_at mesh_after t.a t.b t.c

  old-means : (p q : ℕ) (s : Option Side) → side_of m.tris p q ≡ s → (t : Tri) → Contains (old_of p q s) t → (z : ℕ) × (o : ℕ) × (t ≡ tri_of p q z o) × Contains m.tris (tri_of p q z o)
  old-means p q None e t h = absurd (nowhere t h)
  old-means p q (Some s) e t h = elim (cases t (tri_of p q s.apex s.owner) [] h) [ inl x ↦ (s.apex, s.owner, x, side_of-stands m.tris (least_first m ok) p q s e) | inr k ↦ absurd (nowhere t k) ]

  old-has : (p q : ℕ) (t : Tri) → Contains m.tris t → has_edge p q t ≡ true → Contains (old_of p q (side_of m.tris p q)) t
  old-has p q t h e =
      let f = side_of-found m.tris ok.edges_once p q t h e in
      let same = tri_of-apex p q t (least_first m ok t h) e in
      subst (λ o. Contains (old_of p q o) t) (sym f) (subst (λ w. Contains (tri_of p q (apex_in p q t) t.owner ∷ []) w) same (here (tri_of p q (apex_in p q t) t.owner) []))

  old_alone : (p q : ℕ) (s : Option Side) → SharesNone (old_of p q s)
  old_alone p q None = tt
  old_alone p q (Some s) = ((λ z h. absurd (nowhere z h)), tt)

  old_parts : (s t : Tri) → Contains (old_of lo hi (side_of m.tris lo hi)) s → Contains (old_of hi lo (side_of m.tris hi lo)) t → Parts s t
  old_parts s t hs ht x y ks kt =
      let a = old-means lo hi _ refl s hs in
      let b = old-means hi lo _ refl t ht in
      let c = corners_of m ok lo hi a.0 a.1 a.3 in
      let d = corners_of m ok hi lo b.0 b.1 b.3 in
      no a.0 b.0 c d (tri_of-edges x y lo hi a.0 a.1 (subst (λ w. has_edge x y w ≡ true) a.2 ks)) (tri_of-edges x y hi lo b.0 b.1 (subst (λ w. has_edge x y w ≡ true) b.2 kt))
    where
      no : (z w : ℕ) → AreCorners m lo hi z → AreCorners m hi lo w → IsEdge x y lo hi z → IsEdge x y hi lo w → ⊥
      no z w c d i j =
          let u = i.is in let v = j.is in
          let a1 = c.distinct.one in let a2 = c.distinct.two in let a3 = c.distinct.three in
          let b2 = d.distinct.two in let b3 = d.distinct.three in
          grind arith

  total-bisect_removed : (g : Tri → ℤ) → total g (filter (is_at_edge lo hi) m.tris) ≡ total g gone
  total-bisect_removed g =
      total-removed g tri_lt tri_lt-order (is_at_edge lo hi) gone m.tris ok.tris_rise (shares_none-apart gone (shares_none-append (old_of lo hi (side_of m.tris lo hi)) (old_of hi lo (side_of m.tris hi lo)) (old_alone lo hi (side_of m.tris lo hi)) (old_alone hi lo (side_of m.tris hi lo)) old_parts)) forth back
    where
      forth : (z : Tri) → Contains gone z → Contains m.tris z × (is_at_edge lo hi z ≡ true)
      forth z h = elim (Contains-append_cases (old_of lo hi (side_of m.tris lo hi)) (old_of hi lo (side_of m.tris hi lo)) z h) [
        | inl a ↦ (let r = old-means lo hi _ refl z a in subst (λ w. Contains m.tris w × (is_at_edge lo hi w ≡ true)) (sym r.2) (r.3, removed_by_first m ok n lo hi mid fresh middle edge (tri_of lo hi r.0 r.1) (tri_of-edge_one lo hi r.0 r.1)))
        | inr b ↦ (let r = old-means hi lo _ refl z b in subst (λ w. Contains m.tris w × (is_at_edge lo hi w ≡ true)) (sym r.2) (r.3, removed_by_second m ok n lo hi mid fresh middle edge (tri_of hi lo r.0 r.1) (tri_of-edge_one hi lo r.0 r.1)))
      ]

      back : (z : Tri) → Contains m.tris z → is_at_edge lo hi z ≡ true → Contains gone z
      back z h e = elim (or_cases (has_edge lo hi z) (has_edge hi lo z) e) [ inl x ↦ Contains-append_left (old_of lo hi (side_of m.tris lo hi)) (old_of hi lo (side_of m.tris hi lo)) z (old-has lo hi z h x) | inr x ↦ Contains-append_right (old_of lo hi (side_of m.tris lo hi)) (old_of hi lo (side_of m.tris hi lo)) z (old-has hi lo z h x) ]

  -- a triangle that is cut has the area of its halves
  side_area : (p q : ℕ) → ((p ≡ lo) × (q ≡ hi)) ⊎ ((p ≡ hi) × (q ≡ lo)) → (s : Option Side) → side_of m.tris p q ≡ s → total turn_after (halves_of n p q s) ≡ total turn_after (old_of p q s)
  side_area p q w None e = refl
  side_area p q w (Some s) e =
      let st = side_of-stands m.tris (least_first m ok) p q s e in
      let c = corners_of m ok p q s.apex s.owner st in
      let i = is_middle m ok n lo hi mid fresh middle edge p q w in
      let h1 = first_half m ok n lo hi mid fresh middle edge p q s.apex c.live_p c.live_q c.live_z i in
      let h2 = second_half m ok n lo hi mid fresh middle edge p q s.apex c.live_p c.live_q c.live_z i in
      let o = turn_old m ok n lo hi mid fresh middle edge p q s.apex c.live_p c.live_q c.live_z in
      let e1 = turn_at-tri_of mesh_after p n s.apex s.owner in
      let e2 = turn_at-tri_of mesh_after n q s.apex s.owner in
      let e3 = turn_at-tri_of mesh_after p q s.apex s.owner in
      sums e1 e2 e3 h1 h2 o
    where
      sums : {x1 x2 x3 y1 y2 y3 w' : ℤ} → x1 ≡ y1 → x2 ≡ y2 → x3 ≡ y3 → y1 +ℤ y1 ≡ w' → y2 +ℤ y2 ≡ w' → y3 ≡ w' → x1 +ℤ (x2 +ℤ pos 0) ≡ x3 +ℤ pos 0
      sums a b c d e' f = omega (arith, ints, a, b, c, d, e', f)

  pub bisect_area : area2_of mesh_after ≡ area2_of m
  bisect_area =
      let a = total-replaced turn_after tri_lt (is_at_edge lo hi) (added m ok n lo hi mid fresh middle edge) m.tris in
      let b = total-bisect_removed turn_after in
      let c = total-append turn_after (halves_of n lo hi (side_of m.tris lo hi)) (halves_of n hi lo (side_of m.tris hi lo)) in
      let d = total-append turn_after (old_of lo hi (side_of m.tris lo hi)) (old_of hi lo (side_of m.tris hi lo)) in
      let e = side_area lo hi (inl (refl, refl)) (side_of m.tris lo hi) refl in
      let f = side_area hi lo (inr (refl, refl)) (side_of m.tris hi lo) refl in
      let g = total-agree turn_after (λ t. turn_at m t.a t.b t.c) m.tris (λ t h. let p = ok.proper t h in turn_old m ok n lo hi mid fresh middle edge t.a t.b t.c p.first p.second p.third) in
      sums a b c d e f g
    where
      sums : {r g o nn t t' n1 n2 o1 o2 : ℤ} → r +ℤ g ≡ nn +ℤ t → g ≡ o → nn ≡ n1 +ℤ n2 → o ≡ o1 +ℤ o2 → n1 ≡ o1 → n2 ≡ o2 → t ≡ t' → r ≡ t'
      sums a b c d e f g' = omega (arith, ints, a, b, c, d, e, f, g')

-- a bisection that passes keeps twice the area
pub bisect_keeps_area : (m : Undivided) (chunk a b ticket : ℕ) → IsConforming m → IsFresh m ticket → first_failing m chunk (Bisect a b) ≡ None → area2_of (applied m record { ticket = ticket; chunk = chunk; op = Bisect a b }) ≡ area2_of m
bisect_keeps_area m chunk a b ticket ok fresh h = go (bisect_passes m chunk a b h)
  where
    go : (p : Point) × BisectPasses m (min a b) (max a b) p → area2_of (bisected m (m.first_new + ticket) (min a b) (max a b)) ≡ area2_of m
    go x =
        let c = bisect_area m ok (m.first_new + ticket) (min a b) (max a b) x.0 fresh x.1.middle x.1.edge in
        subst (λ o. area2_of record m { sites = m.sites ++ new_site (m.first_new + ticket) o; tris = replaced (is_at_edge (min a b) (max a b)) (halves_of (m.first_new + ticket) (min a b) (max a b) (side_of m.tris (min a b) (max a b)) ++ halves_of (m.first_new + ticket) (max a b) (min a b) (side_of m.tris (max a b) (min a b))) m.tris } ≡ area2_of m) (sym x.1.middle) c
