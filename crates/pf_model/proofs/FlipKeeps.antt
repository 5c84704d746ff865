-- A flip that passes keeps a mesh conforming, in all its parts.
-- Assumes `IsConforming m` and that `first_failing` is None.
use Rattle.std.proofs.Common.{◌≡◌, ◌≢◌, ℕ, ◌<◌, List, [], ◌∷◌, refl, sym, ◌∙◌, subst, Bool, true, false, cond, ◌⊎◌, inl, inr, arith, ◌&&◌}
use Rattle.std.specs.Prelude.{Contains, Some, None, min, max, pos, ◌<ℤ◌, nat_lt}
use Rattle.std.specs.List.{list_any}
use Rattle.std.proofs.lemmas.Int.{ints}
use Rattle.std.proofs.lemmas.Bool.{or_cases}
use Rattle.std.proofs.Math.Bool.{or-true}
use Rattle.pf_model.specs.declared.Tri.{Tri}
use Rattle.pf_model.specs.declared.Op.TheVariants.{Flip}
use Rattle.pf_model.specs.declared.Side.{Side}
use Rattle.pf_model.specs.Mesh.{Undivided, tri_of, tri_lt, has_edge, has_corner, side_of, turn_at, place_of}
use Rattle.pf_model.specs.Conforming.{IsConforming, IsProper, IsLive, HasEdgesOnce}
use Rattle.pf_model.specs.Applied.{applied, replaced, is_at_edge, flip_added, flipped}
use Rattle.pf_model.specs.Conditions.{first_failing}
use Rattle.pf_model.proofs.Members.{nowhere, here, there, cases, each}
use Rattle.pf_model.proofs.RisingLemmas.{AreApart}
use Rattle.pf_model.proofs.Patch.{replaced-cases, replaced-kept, replaced-new}
use Rattle.pf_model.proofs.Triangles.{IsEdge, tri_of-edges, tri_of-edge_one, tri_of-edge_two, tri_of-edge_three, tri_of-corners, tri_of-corner, tri_of-owner, tri_of-least_first, tri_lt-apart, side_of-none, has_corner-means, least_first}
use Rattle.pf_model.proofs.Turns.{AreDistinct, distinct_from_turn, turn_at-tri_of}
use Rattle.pf_geom.proofs.Orientations.{orient_of-swapped}
use Rattle.pf_model.proofs.ReadClauses.{FlipPasses, flip_passes}
use Rattle.pf_model.proofs.Kept.{Meets, any-from, any-means, replaced-edges_once, replaced-rising, side_of-stands, has_edge-first}

-- a proper triangle from its three corners, in any turn
pub proper_tri : (m : Undivided) (p q z o : ℕ) → IsLive m p → IsLive m q → IsLive m z → AreDistinct p q z → IsProper m (tri_of p q z o)
proper_tri m p q z o lp lq lz d =
    let f = tri_of-least_first p q z o d.one d.two d.three in
    record { first = all.0; second = all.1; third = all.2; least = f.least; least' = f.least'; apart = f.apart }
  where
    go : (b c : Bool) → (let t : Tri = cond b record { a = p; b = q; c = z; owner = o } (cond c record { a = q; b = z; c = p; owner = o } record { a = z; b = p; c = q; owner = o }) in IsLive m t.a × IsLive m t.b × IsLive m t.c)
    go true c = (lp, lq, lz)
    go false true = (lq, lz, lp)
    go false false = (lz, lp, lq)

    all : IsLive m (tri_of p q z o).a × IsLive m (tri_of p q z o).b × IsLive m (tri_of p q z o).c
    all = go (nat_lt p q && nat_lt p z) (nat_lt q z && nat_lt q p)

-- corners of a triangle that stands
pub record AreCorners (m : Undivided) (p q z : ℕ) : Type 0 where
  pub live_p : IsLive m p
  pub live_q : IsLive m q
  pub live_z : IsLive m z
  pub distinct : AreDistinct p q z
  pub left : pos 0 <ℤ turn_at m p q z

pub corners_of : (m : Undivided) → IsConforming m → (p q z o : ℕ) → Contains m.tris (tri_of p q z o) → AreCorners m p q z
corners_of m ok p q z o h =
    record {
      live_p = live p (inl refl);
      live_q = live q (inr (inl refl));
      live_z = live z (inr (inr refl));
      distinct = distinct_from_turn m p q z left;
      left = left;
    }
  where
    left : pos 0 <ℤ turn_at m p q z
    left = subst (λ w. pos 0 <ℤ w) (turn_at-tri_of m p q z o) (ok.positive (tri_of p q z o) h)

    live : (n : ℕ) → (p ≡ n) ⊎ ((q ≡ n) ⊎ (z ≡ n)) → IsLive m n
    live n c =
        let pr = ok.proper (tri_of p q z o) h in
        elim (has_corner-means n (tri_of p q z o) (tri_of-corner n p q z o c)) [
          | inl e ↦ subst (λ w. IsLive m w) e pr.first
          | inr e ↦ elim e [ inl f ↦ subst (λ w. IsLive m w) f pr.second | inr f ↦ subst (λ w. IsLive m w) f pr.third ]
        ]

-- the four corners of a flip, and what is known of them
pub record FlipFacts (m : Undivided) (lo hi c d o1 o2 : ℕ) : Type 0 where
  pub one : Contains m.tris (tri_of lo hi c o1)
  pub two : Contains m.tris (tri_of hi lo d o2)
  pub corners_one : AreCorners m lo hi c
  pub corners_two : AreCorners m hi lo d
  pub distinct_lo : AreDistinct lo d c
  pub distinct_hi : AreDistinct hi c d
  pub left_lo : pos 0 <ℤ turn_at m lo d c
  pub left_hi : pos 0 <ℤ turn_at m hi c d
  pub none : (t : Tri) → Contains m.tris t → has_edge c d t ≡ false
  pub none_back : (t : Tri) → Contains m.tris t → has_edge d c t ≡ false

pub flip_facts : (m : Undivided) → IsConforming m → (lo hi : ℕ) (l r : Side) → FlipPasses m lo hi l r → FlipFacts m lo hi l.apex r.apex l.owner r.owner
flip_facts m ok lo hi l r p =
    let s1 = side_of-stands m.tris (least_first m ok) lo hi l p.left in
    let s2 = side_of-stands m.tris (least_first m ok) hi lo r p.right in
    record {
      one = s1;
      two = s2;
      corners_one = corners_of m ok lo hi l.apex l.owner s1;
      corners_two = corners_of m ok hi lo r.apex r.owner s2;
      distinct_lo = distinct_from_turn m lo r.apex l.apex p.convex_lo;
      distinct_hi = distinct_from_turn m hi l.apex r.apex p.convex_hi;
      left_lo = p.convex_lo;
      left_hi = p.convex_hi;
      none = side_of-none m.tris l.apex r.apex p.no_edge;
      none_back = side_of-none m.tris r.apex l.apex p.no_edge_back;
    }

module _ (m : Undivided) (ok : IsConforming m) (lo hi c d o1 o2 : ℕ) (f : FlipFacts m lo hi c d o1 o2) where
  -- what is put in
  abbrev pub added : List Tri
  added = tri_of lo d c o1 ∷ tri_of hi c d o2 ∷ []

  pub removed_one : is_at_edge lo hi (tri_of lo hi c o1) ≡ true
  removed_one = rw (tri_of-edge_one lo hi c o1) refl

  pub removed_two : is_at_edge lo hi (tri_of hi lo d o2) ≡ true
  removed_two = rw (tri_of-edge_one hi lo d o2) (or-true _)

  by_one : (t : Tri) (p q : ℕ) → Contains m.tris t → has_edge p q t ≡ true → has_edge p q (tri_of lo hi c o1) ≡ true → is_at_edge lo hi t ≡ true
  by_one t p q h e k = subst (λ w. is_at_edge lo hi w ≡ true) (ok.edges_once (tri_of lo hi c o1) t p q f.one h k e) removed_one

  by_two : (t : Tri) (p q : ℕ) → Contains m.tris t → has_edge p q t ≡ true → has_edge p q (tri_of hi lo d o2) ≡ true → is_at_edge lo hi t ≡ true
  by_two t p q h e k = subst (λ w. is_at_edge lo hi w ≡ true) (ok.edges_once (tri_of hi lo d o2) t p q f.two h k e) removed_two

  meets_lo : (t : Tri) (p q : ℕ) → Contains m.tris t → has_edge p q t ≡ true → IsEdge p q lo d c → is_at_edge lo hi t ≡ true
  meets_lo t p q h e k =
      elim k.is [
        | inl x ↦ by_two t p q h e (rw (← x.0, ← x.1) (tri_of-edge_two hi lo d o2))
        | inr y ↦ elim y [
          | inl x ↦ absurd (let g : has_edge d c t ≡ true = rw (x.0, x.1) e in let n : true ≡ false = sym g ∙ f.none_back t h in cc)
          | inr x ↦ by_one t p q h e (rw (← x.0, ← x.1) (tri_of-edge_three lo hi c o1))
        ]
      ]

  meets_hi : (t : Tri) (p q : ℕ) → Contains m.tris t → has_edge p q t ≡ true → IsEdge p q hi c d → is_at_edge lo hi t ≡ true
  meets_hi t p q h e k =
      elim k.is [
        | inl x ↦ by_one t p q h e (rw (← x.0, ← x.1) (tri_of-edge_two lo hi c o1))
        | inr y ↦ elim y [
          | inl x ↦ absurd (let g : has_edge c d t ≡ true = rw (x.0, x.1) e in let n : true ≡ false = sym g ∙ f.none t h in cc)
          | inr x ↦ by_two t p q h e (rw (← x.0, ← x.1) (tri_of-edge_three hi lo d o2))
        ]
      ]

  flip_meets : Meets (is_at_edge lo hi) added m.tris
  flip_meets s t p q hs ht ks kt =
      elim (cases s (tri_of lo d c o1) (tri_of hi c d o2 ∷ []) hs) [
        | inl e ↦ meets_lo t p q ht kt (tri_of-edges p q lo d c o1 (subst (λ w. has_edge p q w ≡ true) e ks))
        | inr r ↦ elim (cases s (tri_of hi c d o2) [] r) [
          | inl e ↦ meets_hi t p q ht kt (tri_of-edges p q hi c d o2 (subst (λ w. has_edge p q w ≡ true) e ks))
          | inr n ↦ absurd (nowhere s n)
        ]
      ]

  -- the two new triangles share no directed edge
  not_shared : (p q : ℕ) → IsEdge p q lo d c → IsEdge p q hi c d → ⊥
  not_shared p q x y =
      let i = x.is in let j = y.is in
      let a : lo ≢ hi = f.corners_one.distinct.one in
      let b : hi ≢ c = f.corners_one.distinct.two in
      let b' : c ≢ lo = f.corners_one.distinct.three in
      let b2 : lo ≢ d = f.corners_two.distinct.two in
      let b3 : d ≢ hi = f.corners_two.distinct.three in
      let b4 : d ≢ c = f.distinct_lo.two in
      grind arith

  added_once : HasEdgesOnce added
  added_once s t p q hs ht ks kt = go (which s hs) (which t ht)
    where
      which : (w : Tri) → Contains added w → (w ≡ tri_of lo d c o1) ⊎ (w ≡ tri_of hi c d o2)
      which w h = elim (cases w (tri_of lo d c o1) (tri_of hi c d o2 ∷ []) h) [ inl e ↦ inl e | inr r ↦ elim (cases w (tri_of hi c d o2) [] r) [ inl e ↦ inr e | inr n ↦ absurd (nowhere w n) ] ]

      edges_lo : (w : Tri) → w ≡ tri_of lo d c o1 → has_edge p q w ≡ true → IsEdge p q lo d c
      edges_lo w e k = tri_of-edges p q lo d c o1 (subst (λ x. has_edge p q x ≡ true) e k)

      edges_hi : (w : Tri) → w ≡ tri_of hi c d o2 → has_edge p q w ≡ true → IsEdge p q hi c d
      edges_hi w e k = tri_of-edges p q hi c d o2 (subst (λ x. has_edge p q x ≡ true) e k)

      go : (s ≡ tri_of lo d c o1) ⊎ (s ≡ tri_of hi c d o2) → (t ≡ tri_of lo d c o1) ⊎ (t ≡ tri_of hi c d o2) → s ≡ t
      go (inl x) (inl y) = x ∙ sym y
      go (inl x) (inr y) = absurd (not_shared p q (edges_lo s x ks) (edges_hi t y kt))
      go (inr x) (inl y) = absurd (not_shared p q (edges_lo t y kt) (edges_hi s x ks))
      go (inr x) (inr y) = x ∙ sym y

  added_apart : AreApart tri_lt added
  added_apart = (first, ((λ z h. absurd (nowhere z h)), tt))
    where
      not_there : (b : Bool) → has_edge (tri_of lo d c o1).a (tri_of lo d c o1).b (tri_of hi c d o2) ≡ b → has_edge (tri_of lo d c o1).a (tri_of lo d c o1).b (tri_of hi c d o2) ≡ false
      not_there false e = e
      not_there true e = absurd (not_shared (tri_of lo d c o1).a (tri_of lo d c o1).b (tri_of-edges (tri_of lo d c o1).a (tri_of lo d c o1).b lo d c o1 (has_edge-first (tri_of lo d c o1))) (tri_of-edges (tri_of lo d c o1).a (tri_of lo d c o1).b hi c d o2 e))

      first : (z : Tri) → Contains (tri_of hi c d o2 ∷ []) z → (tri_lt (tri_of lo d c o1) z ≡ true) ⊎ (tri_lt z (tri_of lo d c o1) ≡ true)
      first z h = elim (cases z (tri_of hi c d o2) [] h) [ inl e ↦ subst (λ w. (tri_lt (tri_of lo d c o1) w ≡ true) ⊎ (tri_lt w (tri_of lo d c o1) ≡ true)) (sym e) (tri_lt-apart (tri_of lo d c o1) (tri_of hi c d o2) (not_there _ refl)) | inr n ↦ absurd (nowhere z n) ]

  -- the mesh after
  abbrev pub after : Undivided
  after = record m { tris = replaced (is_at_edge lo hi) added m.tris }

  -- what holds of the new triangles and of each old one holds of each after
  each_after : (P : Tri → Type 0) → P (tri_of lo d c o1) → P (tri_of hi c d o2) → ((t : Tri) → Contains m.tris t → P t) → (t : Tri) → Contains after.tris t → P t
  each_after P p1 p2 rest t h =
      elim (replaced-cases tri_lt (is_at_edge lo hi) added m.tris t h) [
        | inl n ↦ each P (tri_of lo d c o1) (tri_of hi c d o2 ∷ []) p1 (each P (tri_of hi c d o2) [] p2 (λ z k. absurd (nowhere z k))) t n
        | inr o ↦ rest t o.0
      ]

  -- a corner of what goes is one of what is put in
  corner_after : (n : ℕ) → (has_corner n (tri_of lo hi c o1) ≡ true) ⊎ (has_corner n (tri_of hi lo d o2) ≡ true) → list_any (has_corner n) after.tris ≡ true
  corner_after n h = go (which h)
    where
      four : (n ≡ lo) ⊎ ((n ≡ hi) ⊎ ((n ≡ c) ⊎ (n ≡ d))) → list_any (has_corner n) after.tris ≡ true
      four (inl e) = any-from (has_corner n) (tri_of lo d c o1) after.tris (replaced-new tri_lt (is_at_edge lo hi) added m.tris (tri_of lo d c o1) (here (tri_of lo d c o1) (tri_of hi c d o2 ∷ []))) (tri_of-corner n lo d c o1 (inl (sym e)))
      four (inr (inl e)) = any-from (has_corner n) (tri_of hi c d o2) after.tris (replaced-new tri_lt (is_at_edge lo hi) added m.tris (tri_of hi c d o2) (there (tri_of hi c d o2) (tri_of lo d c o1) (tri_of hi c d o2 ∷ []) (here (tri_of hi c d o2) []))) (tri_of-corner n hi c d o2 (inl (sym e)))
      four (inr (inr (inl e))) = any-from (has_corner n) (tri_of lo d c o1) after.tris (replaced-new tri_lt (is_at_edge lo hi) added m.tris (tri_of lo d c o1) (here (tri_of lo d c o1) (tri_of hi c d o2 ∷ []))) (tri_of-corner n lo d c o1 (inr (inr (sym e))))
      four (inr (inr (inr e))) = any-from (has_corner n) (tri_of lo d c o1) after.tris (replaced-new tri_lt (is_at_edge lo hi) added m.tris (tri_of lo d c o1) (here (tri_of lo d c o1) (tri_of hi c d o2 ∷ []))) (tri_of-corner n lo d c o1 (inr (inl (sym e))))

      which : (has_corner n (tri_of lo hi c o1) ≡ true) ⊎ (has_corner n (tri_of hi lo d o2) ≡ true) → (n ≡ lo) ⊎ ((n ≡ hi) ⊎ ((n ≡ c) ⊎ (n ≡ d)))
      which (inl a) = let k = tri_of-corners n lo hi c o1 a in grind arith
      which (inr a) = let k = tri_of-corners n hi lo d o2 a in grind arith

      go : (n ≡ lo) ⊎ ((n ≡ hi) ⊎ ((n ≡ c) ⊎ (n ≡ d))) → list_any (has_corner n) after.tris ≡ true
      go x = four x

  -- a triangle that goes is one of the two
  pub removed_is : (t : Tri) → Contains m.tris t → is_at_edge lo hi t ≡ true → (t ≡ tri_of lo hi c o1) ⊎ (t ≡ tri_of hi lo d o2)
  removed_is t h e = elim (or_cases (has_edge lo hi t) (has_edge hi lo t) e) [ inl x ↦ inl (ok.edges_once t (tri_of lo hi c o1) lo hi h f.one x (tri_of-edge_one lo hi c o1)) | inr x ↦ inr (ok.edges_once t (tri_of hi lo d o2) hi lo h f.two x (tri_of-edge_one hi lo d o2)) ]

  used_after : (n : ℕ) → IsLive after n → list_any (has_corner n) after.tris ≡ true
  used_after n live = go (any-means (has_corner n) m.tris (ok.used n live))
    where
      go : (t : Tri) × Contains m.tris t × (has_corner n t ≡ true) → list_any (has_corner n) after.tris ≡ true
      go w = at_test (is_at_edge lo hi w.0) refl
        where
          at_test : (b : Bool) → is_at_edge lo hi w.0 ≡ b → list_any (has_corner n) after.tris ≡ true
          at_test false e = any-from (has_corner n) w.0 after.tris (replaced-kept tri_lt (is_at_edge lo hi) added m.tris w.0 w.1 e) w.2
          at_test true e = corner_after n (elim (removed_is w.0 w.1 e) [ inl x ↦ inl (subst (λ y. has_corner n y ≡ true) x w.2) | inr x ↦ inr (subst (λ y. has_corner n y ≡ true) x w.2) ])

  pub flip_conforms : IsConforming after
  flip_conforms =
      record {
        proper = each_after (IsProper after) (proper_tri after lo d c o1 f.corners_one.live_p f.corners_two.live_z f.corners_one.live_z f.distinct_lo) (proper_tri after hi c d o2 f.corners_one.live_q f.corners_one.live_z f.corners_two.live_z f.distinct_hi) proper_old;
        positive = each_after (λ t. pos 0 <ℤ turn_at after t.a t.b t.c) (subst (λ w. pos 0 <ℤ w) (sym (turn_at-tri_of after lo d c o1)) f.left_lo) (subst (λ w. pos 0 <ℤ w) (sym (turn_at-tri_of after hi c d o2)) f.left_hi) ok.positive;
        edges_once = replaced-edges_once (is_at_edge lo hi) added m.tris ok.edges_once added_once flip_meets;
        used = used_after;
        owned = each_after (λ t. t.owner < m.chunks) (subst (λ w. w < m.chunks) (tri_of-owner lo hi c o1 ∙ sym (tri_of-owner lo d c o1)) (ok.owned _ f.one)) (subst (λ w. w < m.chunks) (tri_of-owner hi lo d o2 ∙ sym (tri_of-owner hi c d o2)) (ok.owned _ f.two)) ok.owned;
        in_range = ok.in_range;
        default = ok.default;
        sites_rise = ok.sites_rise;
        tris_rise = replaced-rising (is_at_edge lo hi) added m.tris ok.tris_rise added_apart flip_meets;
      }
    where
      proper_old : (t : Tri) → Contains m.tris t → IsProper after t
      proper_old t h = let p = ok.proper t h in record { first = p.first; second = p.second; third = p.third; least = p.least; least' = p.least'; apart = p.apart }

-- a flip that passes keeps the mesh conforming
pub flip_keeps : (m : Undivided) (chunk a b ticket : ℕ) → IsConforming m → first_failing m chunk (Flip a b) ≡ None → IsConforming (applied m record { ticket = ticket; chunk = chunk; op = Flip a b })
flip_keeps m chunk a b ticket ok h = go (flip_passes m chunk a b h).1
  where
    go : (l r : Side) × FlipPasses m (min a b) (max a b) l r → IsConforming (flipped m (min a b) (max a b))
    go x =
        let l = x.0 in let r = x.1 in
        let c : IsConforming record m { tris = replaced (is_at_edge (min a b) (max a b)) (flip_added (min a b) (max a b) (Some l) (Some r)) m.tris } = flip_conforms m ok (min a b) (max a b) l.apex r.apex l.owner r.owner (flip_facts m ok (min a b) (max a b) l r x.2) in
        let c1 = subst (λ o. IsConforming record m { tris = replaced (is_at_edge (min a b) (max a b)) (flip_added (min a b) (max a b) o (Some r)) m.tris }) (sym x.2.left) c in
        subst (λ o. IsConforming record m { tris = replaced (is_at_edge (min a b) (max a b)) (flip_added (min a b) (max a b) (side_of m.tris (min a b) (max a b)) o) m.tris }) (sym x.2.right) c1

-- the apexes on the two sides of an edge are different names
pub opposite_apexes : (m : Undivided) (p q z w : ℕ) → pos 0 <ℤ turn_at m p q z → pos 0 <ℤ turn_at m q p w → z ≢ w
opposite_apexes m p q z w h k e =
    let s = orient_of-swapped (place_of m p) (place_of m q) (place_of m z) in
    let k' : pos 0 <ℤ turn_at m q p z = subst (λ v. pos 0 <ℤ turn_at m q p v) (sym e) k in
    omega (arith, ints, s, h, k')
