-- A bisection that passes keeps a mesh conforming, in all its parts.
-- Assumes `IsConforming m`, that `first_failing` is None, and that each live name is below the new one (`IsFresh`).
use Rattle.std.proofs.Common.{◌≡◌, ◌≢◌, ℕ, ◌+◌, ◌<◌, List, [], ◌∷◌, ◌++◌, refl, sym, ◌∙◌, ap, subst, Bool, true, false, ◌⊎◌, inl, inr, arith}
use Rattle.std.specs.Prelude.{Contains, Option, Some, None, is_some, unwrap_or, min, max, ℤ, pos, ◌+ℤ◌, ◌<ℤ◌, nat_eq}
use Rattle.std.proofs.lemmas.Int.{ints}
use Rattle.std.proofs.lemmas.Bool.Decides.{nat_tests}
use Rattle.std.proofs.lemmas.List.Elements.{Contains-append_cases, Contains-append_left, Contains-append_right}
use Rattle.std.proofs.lemmas.Bool.{or_cases}
use Rattle.std.proofs.Math.Bool.{or-true}
use Rattle.pf_geom.specs.declared.Point.{Point}
use Rattle.pf_geom.specs.Plane.{IsInRange, middle_of}
use Rattle.pf_model.specs.declared.Tri.{Tri}
use Rattle.pf_model.specs.declared.Site.{Site}
use Rattle.pf_model.specs.declared.Op.TheVariants.{Bisect}
use Rattle.pf_model.specs.declared.Side.{Side}
use Rattle.pf_model.specs.Mesh.{Undivided, tri_of, has_edge, has_corner, apex_in, side_of, point_of, place_of, turn_at, is_edge}
use Rattle.pf_model.specs.Conforming.{IsConforming, IsLive}
use Rattle.pf_model.specs.Applied.{IsFresh, applied, replaced, is_at_edge, halves_of, bisected, new_site}
use Rattle.pf_model.specs.Conditions.{first_failing}
use Rattle.pf_model.proofs.Members.{nowhere, here, there, cases}
use Rattle.pf_model.proofs.Triangles.{IsEdge, tri_of-edges, tri_of-edge_one, tri_of-edge_two, tri_of-edge_three, tri_of-corners, tri_of-corner, tri_of-owner, tri_of-apex, has_corner-means, has_edge-means, least_first}
use Rattle.pf_model.proofs.Turns.{distinct_from_turn, turn_at-tri_of}
use Rattle.pf_model.proofs.Middles.{IsMiddle, IsMiddle-in_range, middle_of-some, orient_of-first_half, orient_of-second_half}
use Rattle.pf_model.proofs.SitesAfter.{AreBelow, point_of-append, point_of-past, point_of-site, fresh_not_live, sites_rise_push}
use Rattle.pf_model.proofs.ReadClauses.{BisectPasses, bisect_passes, is_some-holds}
use Rattle.pf_model.proofs.Kept.{Meets, any-means, side_of-stands, side_of-found}
use Rattle.pf_model.proofs.Replacement.{Parts, SharesNone, shares_none-append, patched, IsGood, IsUsed, patched_conforms}
use Rattle.pf_model.proofs.FlipKeeps.{AreCorners, corners_of, proper_tri, opposite_apexes}

half_positive : (x y : ℤ) → x +ℤ x ≡ y → pos 0 <ℤ y → pos 0 <ℤ x
half_positive x y e h = omega (arith, ints)

module _ (m : Undivided) (ok : IsConforming m) (n lo hi : ℕ) (mid : Point) (fresh : AreBelow m.sites n) (middle : middle_of (place_of m lo) (place_of m hi) ≡ Some mid) (edge : is_edge m.tris lo hi ≡ true) where
  abbrev pub sites : List Site
  sites = m.sites ++ record { name = n; at = mid } ∷ []

  abbrev pub added : List Tri
  added = halves_of n lo hi (side_of m.tris lo hi) ++ halves_of n hi lo (side_of m.tris hi lo)

  abbrev pub removed : Tri → Bool
  removed = is_at_edge lo hi

  abbrev pub after : Undivided
  after = patched m sites removed added

  -- points after
  pub place_old : (k : ℕ) → IsLive m k → place_of after k ≡ place_of m k
  place_old k l =
      let p = is_some-holds (point_of m.sites k) l in
      ap (λ o. unwrap_or o record { x = pos 0; y = pos 0 }) (point_of-append m.sites (record { name = n; at = mid } ∷ []) k p.0 p.1 ∙ sym p.1)

  pub live_old : (k : ℕ) → IsLive m k → IsLive after k
  live_old k l = let p = is_some-holds (point_of m.sites k) l in ap is_some (point_of-append m.sites (record { name = n; at = mid } ∷ []) k p.0 p.1)

  found_new : point_of sites n ≡ Some mid
  found_new = point_of-past m.sites (record { name = n; at = mid } ∷ []) n (fresh_not_live m.sites n fresh) ∙ at_itself n
    where
      at_itself : (k : ℕ) → point_of (record { name = k; at = mid } ∷ []) k ≡ Some mid
      at_itself k = let e : nat_eq k k ≡ true = grind (arith, nat_tests) in rw e refl

  place_new : place_of after n ≡ mid
  place_new = ap (λ o. unwrap_or o record { x = pos 0; y = pos 0 }) found_new

  live_cases : (k : ℕ) → IsLive after k → IsLive m k ⊎ (k ≡ n)
  live_cases k l = go (point_of m.sites k) refl
    where
      go : (o : Option Point) → point_of m.sites k ≡ o → IsLive m k ⊎ (k ≡ n)
      go (Some p) e = inl (ap is_some e)
      go None e = inr (only (subst (λ o. is_some o ≡ true) (point_of-past m.sites (record { name = n; at = mid } ∷ []) k e) l))
        where
          only : is_some (point_of (record { name = n; at = mid } ∷ []) k) ≡ true → k ≡ n
          only e' = grind (arith, nat_tests)

  -- the turn of three old names
  pub turn_old : (p q z : ℕ) → IsLive m p → IsLive m q → IsLive m z → turn_at after p q z ≡ turn_at m p q z
  turn_old p q z lp lq lz = rw (place_old p lp, place_old q lq, place_old z lz) refl

  -- the new name is in no old triangle
  not_corner : (t : Tri) → Contains m.tris t → has_corner n t ≡ true → ⊥
  not_corner t h e =
      let pr = ok.proper t h in
      let l : IsLive m n = elim (has_corner-means n t e) [ inl x ↦ subst (λ w. IsLive m w) x pr.first | inr y ↦ elim y [ inl x ↦ subst (λ w. IsLive m w) x pr.second | inr x ↦ subst (λ w. IsLive m w) x pr.third ] ] in
      let k : n < n = fresh n l in
      omega arith

  not_edge : (t : Tri) (p q : ℕ) → Contains m.tris t → has_edge p q t ≡ true → (p ≡ n) ⊎ (q ≡ n) → ⊥
  not_edge t p q h e c = not_corner t h (from (has_edge-means p q t e) c)
    where
      from : IsEdge p q t.a t.b t.c → (p ≡ n) ⊎ (q ≡ n) → has_corner n t ≡ true
      from x y = let i = x.is in grind (arith, nat_tests)

  -- t is half of the triangle left of the directed edge p to q
  record IsHalf (p q : ℕ) (t : Tri) : Type 0 where
    z : ℕ
    o : ℕ
    stands : Contains m.tris (tri_of p q z o)
    is : (t ≡ tri_of p n z o) ⊎ (t ≡ tri_of n q z o)

  halves-means : (p q : ℕ) (s : Option Side) → side_of m.tris p q ≡ s → (t : Tri) → Contains (halves_of n p q s) t → IsHalf p q t
  halves-means p q None e t h = absurd (nowhere t h)
  halves-means p q (Some s) e t h =
      record {
        z = s.apex;
        o = s.owner;
        stands = side_of-stands m.tris (least_first m ok) p q s e;
        is = elim (cases t (tri_of p n s.apex s.owner) (tri_of n q s.apex s.owner ∷ []) h) [ inl x ↦ inl x | inr r ↦ elim (cases t (tri_of n q s.apex s.owner) [] r) [ inl x ↦ inr x | inr k ↦ absurd (nowhere t k) ] ];
      }

  added-means : (t : Tri) → Contains added t → IsHalf lo hi t ⊎ IsHalf hi lo t
  added-means t h = elim (Contains-append_cases (halves_of n lo hi (side_of m.tris lo hi)) (halves_of n hi lo (side_of m.tris hi lo)) t h) [ inl a ↦ inl (halves-means lo hi _ refl t a) | inr b ↦ inr (halves-means hi lo _ refl t b) ]

  -- what is known of a cut triangle
  record IsCut (p q z : ℕ) : Type 0 where
    old : AreCorners m p q z
    p_new : p ≢ n
    q_new : q ≢ n
    z_new : z ≢ n

  cut_facts : (p q z o : ℕ) → Contains m.tris (tri_of p q z o) → IsCut p q z
  cut_facts p q z o h =
      record {
        old = corners_of m ok p q z o h;
        p_new = λ e. not_corner (tri_of p q z o) h (tri_of-corner n p q z o (inl e));
        q_new = λ e. not_corner (tri_of p q z o) h (tri_of-corner n p q z o (inr (inl e)));
        z_new = λ e. not_corner (tri_of p q z o) h (tri_of-corner n p q z o (inr (inr e)));
      }

  -- the middle, from either end
  pub is_middle : (p q : ℕ) → ((p ≡ lo) × (q ≡ hi)) ⊎ ((p ≡ hi) × (q ≡ lo)) → IsMiddle (place_of m p) (place_of m q) mid
  is_middle p q (inl e) = rw (e.0, e.1) (middle_of-some (place_of m lo) (place_of m hi) mid middle)
  is_middle p q (inr e) = let h = middle_of-some (place_of m lo) (place_of m hi) mid middle in let a = h.across in let b = h.up in rw (e.0, e.1) record { across = omega (arith, ints, a); up = omega (arith, ints, b) }

  -- both halves turn left
  pub first_half : (p q z : ℕ) → IsLive m p → IsLive m q → IsLive m z → IsMiddle (place_of m p) (place_of m q) mid → turn_at after p n z +ℤ turn_at after p n z ≡ turn_at m p q z
  first_half p q z lp lq lz h = rw (place_old p lp, place_new, place_old z lz) (orient_of-first_half (place_of m p) (place_of m q) mid (place_of m z) h)

  pub second_half : (p q z : ℕ) → IsLive m p → IsLive m q → IsLive m z → IsMiddle (place_of m p) (place_of m q) mid → turn_at after n q z +ℤ turn_at after n q z ≡ turn_at m p q z
  second_half p q z lp lq lz h = rw (place_new, place_old q lq, place_old z lz) (orient_of-second_half (place_of m p) (place_of m q) mid (place_of m z) h)

  good_tri : (p q z o : ℕ) → IsLive after p → IsLive after q → IsLive after z → pos 0 <ℤ turn_at after p q z → o < m.chunks → IsGood after (tri_of p q z o)
  good_tri p q z o lp lq lz h l =
      record {
        proper = proper_tri after p q z o lp lq lz (distinct_from_turn after p q z h);
        positive = subst (λ w. pos 0 <ℤ w) (sym (turn_at-tri_of after p q z o)) h;
        owned = subst (λ w. w < m.chunks) (sym (tri_of-owner p q z o)) l;
      }

  good_half : (p q : ℕ) → ((p ≡ lo) × (q ≡ hi)) ⊎ ((p ≡ hi) × (q ≡ lo)) → (t : Tri) → IsHalf p q t → IsGood after t
  good_half p q w t h =
      let c = corners_of m ok p q h.z h.o h.stands in
      let i = is_middle p q w in
      let own : h.o < m.chunks = subst (λ w'. w' < m.chunks) (tri_of-owner p q h.z h.o) (ok.owned _ h.stands) in
      let ln : IsLive after n = ap is_some found_new in
      elim h.is [
        | inl e ↦ subst (λ x. IsGood after x) (sym e) (good_tri p n h.z h.o (live_old p c.live_p) ln (live_old h.z c.live_z) (half_positive _ _ (first_half p q h.z c.live_p c.live_q c.live_z i) c.left) own)
        | inr e ↦ subst (λ x. IsGood after x) (sym e) (good_tri n q h.z h.o ln (live_old q c.live_q) (live_old h.z c.live_z) (half_positive _ _ (second_half p q h.z c.live_p c.live_q c.live_z i) c.left) own)
      ]

  good_old : (t : Tri) → Contains m.tris t → IsGood after t
  good_old t h =
      let p = ok.proper t h in
      record {
        proper = record { first = live_old t.a p.first; second = live_old t.b p.second; third = live_old t.c p.third; least = p.least; least' = p.least'; apart = p.apart };
        positive = subst (λ w. pos 0 <ℤ w) (sym (turn_old t.a t.b t.c p.first p.second p.third)) (ok.positive t h);
        owned = ok.owned t h;
      }

  -- an edge of a half is an old one of the cut triangle, or has the new name
  half_edges : (p q x y : ℕ) (t : Tri) → (h : IsHalf p q t) → has_edge x y t ≡ true → (has_edge x y (tri_of p q h.z h.o) ≡ true) ⊎ ((x ≡ n) ⊎ (y ≡ n))
  half_edges p q x y t h e = elim h.is [ inl s ↦ first (tri_of-edges x y p n h.z h.o (subst (λ w. has_edge x y w ≡ true) s e)) | inr s ↦ second (tri_of-edges x y n q h.z h.o (subst (λ w. has_edge x y w ≡ true) s e)) ]
    where
      first : IsEdge x y p n h.z → (has_edge x y (tri_of p q h.z h.o) ≡ true) ⊎ ((x ≡ n) ⊎ (y ≡ n))
      first k = elim k.is [ inl a ↦ inr (inr (sym a.1)) | inr b ↦ elim b [ inl a ↦ inr (inl (sym a.0)) | inr a ↦ inl (rw (← a.0, ← a.1) (tri_of-edge_three p q h.z h.o)) ] ]

      second : IsEdge x y n q h.z → (has_edge x y (tri_of p q h.z h.o) ≡ true) ⊎ ((x ≡ n) ⊎ (y ≡ n))
      second k = elim k.is [ inl a ↦ inr (inl (sym a.0)) | inr b ↦ elim b [ inl a ↦ inl (rw (← a.0, ← a.1) (tri_of-edge_two p q h.z h.o)) | inr a ↦ inr (inr (sym a.1)) ] ]

  half_meets : (p q : ℕ) → ((t : Tri) → has_edge p q t ≡ true → removed t ≡ true) → (s t : Tri) (x y : ℕ) → IsHalf p q s → Contains m.tris t → has_edge x y s ≡ true → has_edge x y t ≡ true → removed t ≡ true
  half_meets p q at' s t x y h ht ks kt =
      elim (half_edges p q x y s h ks) [
        | inl a ↦ subst (λ w. removed w ≡ true) (ok.edges_once (tri_of p q h.z h.o) t x y h.stands ht a kt) (at' (tri_of p q h.z h.o) (tri_of-edge_one p q h.z h.o))
        | inr b ↦ absurd (not_edge t x y ht kt b)
      ]

  pub removed_by_first : (t : Tri) → has_edge lo hi t ≡ true → removed t ≡ true
  removed_by_first t e = rw e refl

  pub removed_by_second : (t : Tri) → has_edge hi lo t ≡ true → removed t ≡ true
  removed_by_second t e = rw e (or-true (has_edge lo hi t))

  bisect_meets : Meets removed added m.tris
  bisect_meets s t x y hs ht ks kt = elim (added-means s hs) [ inl h ↦ half_meets lo hi removed_by_first s t x y h ht ks kt | inr h ↦ half_meets hi lo removed_by_second s t x y h ht ks kt ]

  -- halves of one triangle
  parts_same : (p q : ℕ) (s : Option Side) → side_of m.tris p q ≡ s → SharesNone (halves_of n p q s)
  parts_same p q None e = tt
  parts_same p q (Some s) e = (first, ((λ z h. absurd (nowhere z h)), tt))
    where
      facts : IsCut p q s.apex
      facts = cut_facts p q s.apex s.owner (side_of-stands m.tris (least_first m ok) p q s e)

      no : (x y : ℕ) → IsEdge x y p n s.apex → IsEdge x y n q s.apex → ⊥
      no x y i j =
          let a = i.is in let b = j.is in
          let c = facts.old.distinct.one in let c2 = facts.old.distinct.two in let c3 = facts.old.distinct.three in
          let d = facts.p_new in let d2 = facts.q_new in let d3 = facts.z_new in
          grind arith

      first : (z : Tri) → Contains (tri_of n q s.apex s.owner ∷ []) z → Parts (tri_of p n s.apex s.owner) z
      first z h x y kx kz = elim (cases z (tri_of n q s.apex s.owner) [] h) [
        | inl r ↦ no x y (tri_of-edges x y p n s.apex s.owner kx) (tri_of-edges x y n q s.apex s.owner (subst (λ w. has_edge x y w ≡ true) r kz))
        | inr k ↦ nowhere z k
      ]

  -- halves of the two triangles at the edge
  parts_other : (s t : Tri) → IsHalf lo hi s → IsHalf hi lo t → Parts s t
  parts_other s t h k x y ks kt =
      elim h.is [
        | inl e ↦ elim k.is [ inl f ↦ no (tri_of-edges x y lo n h.z h.o (subst (λ w. has_edge x y w ≡ true) e ks)) (tri_of-edges x y hi n k.z k.o (subst (λ w. has_edge x y w ≡ true) f kt)) | inr f ↦ no2 (tri_of-edges x y lo n h.z h.o (subst (λ w. has_edge x y w ≡ true) e ks)) (tri_of-edges x y n lo k.z k.o (subst (λ w. has_edge x y w ≡ true) f kt)) ]
        | inr e ↦ elim k.is [ inl f ↦ no3 (tri_of-edges x y n hi h.z h.o (subst (λ w. has_edge x y w ≡ true) e ks)) (tri_of-edges x y hi n k.z k.o (subst (λ w. has_edge x y w ≡ true) f kt)) | inr f ↦ no4 (tri_of-edges x y n hi h.z h.o (subst (λ w. has_edge x y w ≡ true) e ks)) (tri_of-edges x y n lo k.z k.o (subst (λ w. has_edge x y w ≡ true) f kt)) ]
      ]
    where
      c' : IsCut lo hi h.z
      c' = cut_facts lo hi h.z h.o h.stands

      d' : IsCut hi lo k.z
      d' = cut_facts hi lo k.z k.o k.stands

      ne : h.z ≢ k.z
      ne = opposite_apexes m lo hi h.z k.z c'.old.left d'.old.left

      no : IsEdge x y lo n h.z → IsEdge x y hi n k.z → ⊥
      no i j =
          let u = i.is in let v = j.is in
          let a1 = c'.old.distinct.one in let a2 = c'.old.distinct.two in let a3 = c'.old.distinct.three in
          let b2 = d'.old.distinct.two in let b3 = d'.old.distinct.three in
          let n1 = c'.p_new in let n2 = c'.q_new in let n3 = c'.z_new in let n4 = d'.z_new in let n5 = ne in
          grind arith

      no2 : IsEdge x y lo n h.z → IsEdge x y n lo k.z → ⊥
      no2 i j =
          let u = i.is in let v = j.is in
          let a1 = c'.old.distinct.one in let a2 = c'.old.distinct.two in let a3 = c'.old.distinct.three in
          let b2 = d'.old.distinct.two in let b3 = d'.old.distinct.three in
          let n1 = c'.p_new in let n2 = c'.q_new in let n3 = c'.z_new in let n4 = d'.z_new in let n5 = ne in
          grind arith

      no3 : IsEdge x y n hi h.z → IsEdge x y hi n k.z → ⊥
      no3 i j =
          let u = i.is in let v = j.is in
          let a1 = c'.old.distinct.one in let a2 = c'.old.distinct.two in let a3 = c'.old.distinct.three in
          let b2 = d'.old.distinct.two in let b3 = d'.old.distinct.three in
          let n1 = c'.p_new in let n2 = c'.q_new in let n3 = c'.z_new in let n4 = d'.z_new in let n5 = ne in
          grind arith

      no4 : IsEdge x y n hi h.z → IsEdge x y n lo k.z → ⊥
      no4 i j =
          let u = i.is in let v = j.is in
          let a1 = c'.old.distinct.one in let a2 = c'.old.distinct.two in let a3 = c'.old.distinct.three in
          let b2 = d'.old.distinct.two in let b3 = d'.old.distinct.three in
          let n1 = c'.p_new in let n2 = c'.q_new in let n3 = c'.z_new in let n4 = d'.z_new in let n5 = ne in
          grind arith

  pub bisect_parts : SharesNone added
  bisect_parts = shares_none-append (halves_of n lo hi (side_of m.tris lo hi)) (halves_of n hi lo (side_of m.tris hi lo)) (parts_same lo hi _ refl) (parts_same hi lo _ refl) (λ s t h k. parts_other s t (halves-means lo hi _ refl s h) (halves-means hi lo _ refl t k))

  -- where the triangle left of p to q is cut, both halves stand
  halves-has : (p q : ℕ) (s : Side) → side_of m.tris p q ≡ Some s → Contains (halves_of n p q (side_of m.tris p q)) (tri_of p n s.apex s.owner) × Contains (halves_of n p q (side_of m.tris p q)) (tri_of n q s.apex s.owner)
  halves-has p q s e = subst (λ o. Contains (halves_of n p q o) (tri_of p n s.apex s.owner) × Contains (halves_of n p q o) (tri_of n q s.apex s.owner)) (sym e) both
    where
      t1 : Tri
      t1 = tri_of p n s.apex s.owner

      t2 : Tri
      t2 = tri_of n q s.apex s.owner

      both : Contains (t1 ∷ t2 ∷ []) t1 × Contains (t1 ∷ t2 ∷ []) t2
      both = (here t1 (t2 ∷ []), there t2 t1 (t2 ∷ []) (here t2 []))

  in_first : (t : Tri) → Contains (halves_of n lo hi (side_of m.tris lo hi)) t → Contains added t
  in_first t h = Contains-append_left (halves_of n lo hi (side_of m.tris lo hi)) (halves_of n hi lo (side_of m.tris hi lo)) t h

  in_second : (t : Tri) → Contains (halves_of n hi lo (side_of m.tris hi lo)) t → Contains added t
  in_second t h = Contains-append_right (halves_of n lo hi (side_of m.tris lo hi)) (halves_of n hi lo (side_of m.tris hi lo)) t h

  -- the corners of a triangle that is cut, and the new name, are corners of its halves
  used_by : (p q : ℕ) (s : Side) → side_of m.tris p q ≡ Some s → ((t : Tri) → Contains (halves_of n p q (side_of m.tris p q)) t → Contains added t) → (k : ℕ) → ((p ≡ k) ⊎ ((q ≡ k) ⊎ (s.apex ≡ k))) ⊎ (k ≡ n) → IsUsed removed added m.tris k
  used_by p q s e in' k c = inl (go c)
    where
      one : Contains added (tri_of p n s.apex s.owner)
      one = in' (tri_of p n s.apex s.owner) (halves-has p q s e).0

      two : Contains added (tri_of n q s.apex s.owner)
      two = in' (tri_of n q s.apex s.owner) (halves-has p q s e).1

      go : ((p ≡ k) ⊎ ((q ≡ k) ⊎ (s.apex ≡ k))) ⊎ (k ≡ n) → (t : Tri) × Contains added t × (has_corner k t ≡ true)
      go (inl (inl x)) = (tri_of p n s.apex s.owner, one, tri_of-corner k p n s.apex s.owner (inl x))
      go (inl (inr (inl x))) = (tri_of n q s.apex s.owner, two, tri_of-corner k n q s.apex s.owner (inr (inl x)))
      go (inl (inr (inr x))) = (tri_of p n s.apex s.owner, one, tri_of-corner k p n s.apex s.owner (inr (inr x)))
      go (inr x) = (tri_of p n s.apex s.owner, one, tri_of-corner k p n s.apex s.owner (inr (inl (sym x))))

  used_cut : (p q : ℕ) → ((t : Tri) → Contains (halves_of n p q (side_of m.tris p q)) t → Contains added t) → (t : Tri) → Contains m.tris t → has_edge p q t ≡ true → (k : ℕ) → has_corner k t ≡ true → IsUsed removed added m.tris k
  used_cut p q in' t h e k c =
      let s : Side = record { apex = apex_in p q t; owner = t.owner } in
      let same : tri_of p q (apex_in p q t) t.owner ≡ t = tri_of-apex p q t (least_first m ok t h) e in
      used_by p q record { apex = apex_in p q t; owner = t.owner } (side_of-found m.tris ok.edges_once p q t h e) in' k (inl (tri_of-corners k p q (apex_in p q t) t.owner (subst (λ w. has_corner k w ≡ true) (sym same) c)))

  bisect_used : (k : ℕ) → IsLive after k → IsUsed removed added m.tris k
  bisect_used k l = elim (live_cases k l) [ inl old ↦ by_old (any-means (has_corner k) m.tris (ok.used k old)) | inr e ↦ by_new (or_cases (is_some (side_of m.tris lo hi)) (is_some (side_of m.tris hi lo)) edge) e ]
    where
      by_new : (is_some (side_of m.tris lo hi) ≡ true) ⊎ (is_some (side_of m.tris hi lo) ≡ true) → k ≡ n → IsUsed removed added m.tris k
      by_new (inl a) e = let s = is_some-holds _ a in used_by lo hi s.0 s.1 in_first k (inr e)
      by_new (inr a) e = let s = is_some-holds _ a in used_by hi lo s.0 s.1 in_second k (inr e)

      by_old : (t : Tri) × Contains m.tris t × (has_corner k t ≡ true) → IsUsed removed added m.tris k
      by_old w = at_test (removed w.0) refl
        where
          at_test : (b : Bool) → removed w.0 ≡ b → IsUsed removed added m.tris k
          at_test false e = inr (w.0, w.1, e, w.2)
          at_test true e = elim (or_cases (has_edge lo hi w.0) (has_edge hi lo w.0) e) [ inl x ↦ used_cut lo hi in_first w.0 w.1 x k w.2 | inr x ↦ used_cut hi lo in_second w.0 w.1 x k w.2 ]

  -- both ends are live
  ends_live : IsLive m lo × IsLive m hi
  ends_live = elim (or_cases (is_some (side_of m.tris lo hi)) (is_some (side_of m.tris hi lo)) edge) [
    | inl a ↦ (let s = is_some-holds _ a in let c = corners_of m ok lo hi s.0.apex s.0.owner (side_of-stands m.tris (least_first m ok) lo hi s.0 s.1) in (c.live_p, c.live_q))
    | inr a ↦ (let s = is_some-holds _ a in let c = corners_of m ok hi lo s.0.apex s.0.owner (side_of-stands m.tris (least_first m ok) hi lo s.0 s.1) in (c.live_q, c.live_p))
  ]

  site_at : (k : ℕ) → IsLive m k → (s : Site) × Contains m.sites s × (s.at ≡ place_of m k)
  site_at k l =
      let p = is_some-holds (point_of m.sites k) l in
      let r = point_of-site m.sites k p.0 p.1 in
      let same : p.0 ≡ place_of m k = ap (λ o. unwrap_or o record { x = pos 0; y = pos 0 }) (sym p.1) in
      (r.0, r.1, r.2 ∙ same)

  mid_in_range : IsInRange mid
  mid_in_range =
      let a = site_at lo ends_live.0 in
      let b = site_at hi ends_live.1 in
      IsMiddle-in_range (place_of m lo) (place_of m hi) mid (middle_of-some (place_of m lo) (place_of m hi) mid middle) (subst (λ w. IsInRange w) a.2 (ok.in_range a.0 a.1)) (subst (λ w. IsInRange w) b.2 (ok.in_range b.0 b.1))

  in_range_after : (s : Site) → Contains sites s → IsInRange s.at
  in_range_after s h = elim (Contains-append_cases m.sites (record { name = n; at = mid } ∷ []) s h) [ inl old ↦ ok.in_range s old | inr new ↦ elim (cases s record { name = n; at = mid } [] new) [ inl e ↦ subst (λ w. IsInRange w.at) (sym e) mid_in_range | inr k ↦ absurd (nowhere s k) ] ]

  pub bisect_conforms : IsConforming after
  bisect_conforms =
      patched_conforms m sites removed added ok
      record {
        new = λ t h. elim (added-means t h) [ inl a ↦ good_half lo hi (inl (refl, refl)) t a | inr b ↦ good_half hi lo (inr (refl, refl)) t b ];
        kept = λ t h e. good_old t h;
        parts = bisect_parts;
        meets = bisect_meets;
        used = bisect_used;
        in_range = in_range_after;
        sites_rise = sites_rise_push m.sites n mid fresh ok.sites_rise;
      }

-- a bisection that passes keeps the mesh conforming
pub bisect_keeps : (m : Undivided) (chunk a b ticket : ℕ) → IsConforming m → IsFresh m ticket → first_failing m chunk (Bisect a b) ≡ None → IsConforming (applied m record { ticket = ticket; chunk = chunk; op = Bisect a b })
bisect_keeps m chunk a b ticket ok fresh h = go (bisect_passes m chunk a b h)
  where
    go : (p : Point) × BisectPasses m (min a b) (max a b) p → IsConforming (bisected m (m.first_new + ticket) (min a b) (max a b))
    go x =
        let c = bisect_conforms m ok (m.first_new + ticket) (min a b) (max a b) x.0 fresh x.1.middle x.1.edge in
        subst (λ o. IsConforming record m { sites = m.sites ++ new_site (m.first_new + ticket) o; tris = replaced (is_at_edge (min a b) (max a b)) (halves_of (m.first_new + ticket) (min a b) (max a b) (side_of m.tris (min a b) (max a b)) ++ halves_of (m.first_new + ticket) (max a b) (min a b) (side_of m.tris (max a b) (min a b))) m.tris }) (sym x.1.middle) c
