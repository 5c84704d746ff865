-- A contraction that passes keeps a mesh conforming, in all its parts.
-- Assumes `IsConforming m` and that `first_failing` is None.
use Rattle.std.proofs.Common.{◌≡◌, ◌≢◌, ℕ, ◌<◌, List, [], ◌∷◌, refl, sym, ◌∙◌, ap, subst, Bool, true, false, cond, ◌⊎◌, inl, inr, arith, ◌&&◌, ◌||◌}
use Rattle.std.specs.Prelude.{Contains, not, Option, Some, None, is_some, unwrap_or, flat_map, ℤ, pos, ◌+ℤ◌, ◌<ℤ◌, ◌==◌}
use Rattle.std.proofs.lemmas.Int.{ints}
use Rattle.std.proofs.lemmas.Bool.Decides.{nat_tests}
use Rattle.std.proofs.lemmas.List.Elements.{Contains-append_cases, Contains-append_left, Contains-append_right}
use Rattle.std.proofs.lemmas.Bool.{cases_Bool, cases_eq, eqb-true, or_cases}
use Rattle.pf_model.specs.Rising.{AreDifferent}
use Rattle.pf_model.specs.declared.Tri.{Tri}
use Rattle.pf_model.specs.declared.Site.{Site}
use Rattle.pf_model.specs.declared.Spoke.{Spoke}
use Rattle.pf_model.specs.declared.Op.TheVariants.{Contract}
use Rattle.pf_model.specs.declared.Side.{Side}
use Rattle.pf_model.specs.Mesh.{Undivided, tri_of, has_edge, has_corner, apex_in, side_of, point_of, place_of, turn_at}
use Rattle.pf_model.specs.Conforming.{IsConforming, IsLive}
use Rattle.pf_model.specs.Applied.{applied, moved_of}
use Rattle.pf_model.specs.Conditions.{first_failing, is_apex, neighbours}
use Rattle.pf_model.specs.Stars.{spokes_of, is_neighbour, path_end}
use Rattle.pf_model.proofs.Members.{nowhere, here, there, cases, filter-out}
use Rattle.pf_model.proofs.Triangles.{IsLeastFirst, IsEdge, tri_of-edges, tri_of-edge_one, tri_of-edge_two, tri_of-edge_three, tri_of-corners, tri_of-corner, tri_of-owner, tri_of-apex, tri_of-turned, least_first}
use Rattle.pf_model.proofs.Turns.{AreDistinct, distinct_from_turn, turn_at-tri_of, turn_at-turned}
use Rattle.pf_geom.proofs.Orientations.{orient_of-swapped}
use Rattle.pf_model.proofs.Kept.{Meets, any-from, any-means, side_of-stands}
use Rattle.pf_model.proofs.Replacement.{Parts, SharesNone, shares_none-append, patched, IsGood, IsUsed, patched_conforms}
use Rattle.pf_model.proofs.SitesLess.{without_name, point_of-without, point_of-gone, sites_rise-without}
use Rattle.pf_model.proofs.Fans.{IsRight, IsLeft}
use Rattle.pf_model.proofs.FanEnds.{fan_start, fan_end}
use Rattle.pf_model.proofs.Spokes.{spokes-means, spokes-has, spokes-simple, rising-different, apex_same}
use Rattle.pf_model.proofs.ReadClauses.{is_some-holds}
use Rattle.pf_model.proofs.ContractClauses.{ContractPasses, contract_passes, right_is_neighbour, left_is_neighbour}
use Rattle.pf_model.proofs.FlipKeeps.{corners_of, proper_tri}

pub flat_map-out : {X Y : Type 0} (h : X → List Y) (xs : List X) (y : Y) → Contains (flat_map h xs) y → (x : X) × Contains xs x × Contains (h x) y
flat_map-out h [] y c = absurd (nowhere y c)
flat_map-out {X} {Y} h (x ∷ xs) y c = elim (Contains-append_cases (h x) (flat_map h xs) y c) [ inl a ↦ (x, here x xs, a) | inr b ↦ let r = flat_map-out h xs y b in (r.0, there r.0 x xs r.1, r.2) ]

pub flat_map-in : {X Y : Type 0} (h : X → List Y) (xs : List X) (x : X) (y : Y) → Contains xs x → Contains (h x) y → Contains (flat_map h xs) y
flat_map-in h [] x y c k = absurd (nowhere x c)
flat_map-in {X} {Y} h (z ∷ zs) x y c k = elim (cases x z zs c) [ inl a ↦ Contains-append_left (h z) (flat_map h zs) y (subst (λ w. Contains (h w) y) a k) | inr b ↦ Contains-append_right (h z) (flat_map h zs) y (flat_map-in h zs x y b k) ]

-- the triangle at u, turned so that u is first, and what is added for it
pub record IsAt (u v : ℕ) (t : Tri) : Type 0 where
  pub x : ℕ
  pub y : ℕ
  pub is : tri_of u x y t.owner ≡ t
  pub moved : (has_corner v t ≡ false) → moved_of u v t ≡ tri_of v x y t.owner ∷ []

pub corner_at : (u v : ℕ) (t : Tri) → IsLeastFirst t → has_corner u t ≡ true → IsAt u v t
corner_at u v t l h = go (t.a == u) (t.b == u) (t.c == u) refl refl refl h
  where
    one : (t.a ≡ u) → tri_of u t.b t.c t.owner ≡ t
    one e = let l1 = l.least in let l2 = l.least' in let l3 = l.apart in grind (arith, nat_tests)

    two : (t.b ≡ u) → tri_of u t.c t.a t.owner ≡ t
    two e = let l1 = l.least in let l2 = l.least' in let l3 = l.apart in grind (arith, nat_tests)

    three : (t.c ≡ u) → tri_of u t.a t.b t.owner ≡ t
    three e = let l1 = l.least in let l2 = l.least' in let l3 = l.apart in grind (arith, nat_tests)

    opened : (a b : Bool) → (t.a == u) ≡ a → (t.b == u) ≡ b → (has_corner v t ≡ false) → moved_of u v t ≡ (cond a (tri_of v t.b t.c t.owner) (cond b (tri_of v t.c t.a t.owner) (tri_of v t.a t.b t.owner)) ∷ [])
    opened a b ea eb n = ap (λ k. cond (k && not (has_corner v t)) (inner (t.a == u) (t.b == u) ∷ []) []) h ∙ (ap (λ k. cond (not k) (inner (t.a == u) (t.b == u) ∷ []) []) n ∙ (ap (λ k. inner k (t.b == u) ∷ []) ea ∙ ap (λ k. inner a k ∷ []) eb))
      where
        inner : Bool → Bool → Tri
        inner i j = cond i (tri_of v t.b t.c t.owner) (cond j (tri_of v t.c t.a t.owner) (tri_of v t.a t.b t.owner))

    go : (a b c : Bool) → (t.a == u) ≡ a → (t.b == u) ≡ b → (t.c == u) ≡ c → (a || (b || c)) ≡ true → IsAt u v t
    go true b c ea eb ec k = record { x = t.b; y = t.c; is = one (eqb-true t.a u ea); moved = opened true b ea eb }
    go false true c ea eb ec k = record { x = t.c; y = t.a; is = two (eqb-true t.b u eb); moved = opened false true ea eb }
    go false false true ea eb ec k = record { x = t.a; y = t.b; is = three (eqb-true t.c u ec); moved = opened false false ea eb }
    go false false false ea eb ec k = absurd (let z : false ≡ true = k in cc)

pub moved-none : (u v : ℕ) (t : Tri) → (has_corner u t && not (has_corner v t)) ≡ false → moved_of u v t ≡ []
moved-none u v t e = ap (λ k. cond k (cond (t.a == u) (tri_of v t.b t.c t.owner) (cond (t.b == u) (tri_of v t.c t.a t.owner) (tri_of v t.a t.b t.owner)) ∷ []) []) e

module _ (m : Undivided) (ok : IsConforming m) (u v : ℕ) (p : ContractPasses m u v) where
  abbrev pub added : List Tri
  added = flat_map (moved_of u v) m.tris

  abbrev pub removed : Tri → Bool
  removed = has_corner u

  abbrev pub sites : List Site
  sites = without_name u m.sites

  abbrev pub after : Undivided
  after = patched m sites removed added

  -- s is u, x, y as v, x, y
  pub record IsMoved (s t : Tri) : Type 0 where
    pub x : ℕ
    pub y : ℕ
    pub o : ℕ
    pub from : t ≡ tri_of u x y o
    pub stands : Contains m.tris (tri_of u x y o)
    pub is : s ≡ tri_of v x y o
    pub x_apart : x ≢ v
    pub y_apart : y ≢ v

  moved-means : (s t : Tri) → Contains m.tris t → Contains (moved_of u v t) s → IsMoved s t
  moved-means s t h c = go (has_corner u t) (has_corner v t) refl refl
    where
      go : (a b : Bool) → has_corner u t ≡ a → has_corner v t ≡ b → IsMoved s t
      go true false ea eb =
          let i = corner_at u v t (least_first m ok t h) ea in
          let c' : Contains (tri_of v i.x i.y t.owner ∷ []) s = subst (λ l. Contains l s) (i.moved eb) c in
          record {
            x = i.x;
            y = i.y;
            o = t.owner;
            from = sym i.is;
            stands = subst (λ w. Contains m.tris w) (sym i.is) h;
            is = elim (cases s (tri_of v i.x i.y t.owner) [] c') [ inl e ↦ e | inr k ↦ absurd (nowhere s k) ];
            x_apart = λ e. let k = tri_of-corner v u i.x i.y t.owner (inr (inl e)) in let z : true ≡ false = sym k ∙ (ap (has_corner v) i.is ∙ eb) in absurd (cc);
            y_apart = λ e. let k = tri_of-corner v u i.x i.y t.owner (inr (inr e)) in let z : true ≡ false = sym k ∙ (ap (has_corner v) i.is ∙ eb) in absurd (cc);
          }
      go true true ea eb = absurd (nowhere s (subst (λ l. Contains l s) (moved-none u v t (ap (λ k. k && not (has_corner v t)) ea ∙ ap not eb)) c))
      go false b ea eb = absurd (nowhere s (subst (λ l. Contains l s) (moved-none u v t (ap (λ k. k && not (has_corner v t)) ea)) c))

  pub added-means : (s : Tri) → Contains added s → (t : Tri) × Contains m.tris t × IsMoved s t
  added-means s h = let r = flat_map-out (moved_of u v) m.tris s h in (r.0, r.1, moved-means s r.0 r.1 r.2)

  pub added-has : (x y o : ℕ) → Contains m.tris (tri_of u x y o) → x ≢ v → y ≢ v → Contains added (tri_of v x y o)
  added-has x y o h nx ny =
      let t = tri_of u x y o in
      let i = corner_at u v (tri_of u x y o) (least_first m ok _ h) (tri_of-corner u u x y o (inl refl)) in
      let same = apex_same m ok u i.x i.y (tri_of u x y o).owner x y o (subst (λ w. Contains m.tris w) (sym i.is) h) h i.is in
      let e : tri_of v i.x i.y (tri_of u x y o).owner ≡ tri_of v x y o = three same.0 same.1 same.2 in
      flat_map-in (moved_of u v) m.tris (tri_of u x y o) (tri_of v x y o) h (subst (λ l. Contains l (tri_of v x y o)) (sym (i.moved (no_v (has_corner v (tri_of u x y o)) refl))) (subst (λ w. Contains (w ∷ []) (tri_of v x y o)) (sym e) (here (tri_of v x y o) [])))
    where
      three : {a b c a' b' c' : ℕ} → a ≡ a' → b ≡ b' → c ≡ c' → tri_of v a b c ≡ tri_of v a' b' c'
      three {a} {b} {c} {a'} {b'} {c'} q r s = ap (λ k. tri_of v k b c) q ∙ (ap (λ k. tri_of v a' k c) r ∙ ap (λ k. tri_of v a' b' k) s)

      no_v : (b : Bool) → has_corner v (tri_of u x y o) ≡ b → b ≡ false
      no_v false e = refl
      no_v true e = absurd (elim (tri_of-corners v u x y o e) [ inl a ↦ p.apart a | inr b ↦ elim b [ inl a ↦ nx a | inr a ↦ ny a ] ])

  -- two that were added and share an edge came from one
  same_source : (s s' t t' : Tri) → IsMoved s t → IsMoved s' t' → (a b : ℕ) → has_edge a b s ≡ true → has_edge a b s' ≡ true → t ≡ t'
  same_source s s' t t' h h' a b ks ks' =
      h.from ∙ (elim (corner_same (tri_of-edges a b v h.x h.y h.o (subst (λ w. has_edge a b w ≡ true) h.is ks)) (tri_of-edges a b v h'.x h'.y h'.o (subst (λ w. has_edge a b w ≡ true) h'.is ks'))) [
        | inl e ↦ ok.edges_once (tri_of u h.x h.y h.o) (tri_of u h'.x h'.y h'.o) u h.x h.stands h'.stands (tri_of-edge_one u h.x h.y h.o) (subst (λ w. has_edge u w (tri_of u h'.x h'.y h'.o) ≡ true) (sym e) (tri_of-edge_one u h'.x h'.y h'.o))
        | inr e ↦ ok.edges_once (tri_of u h.x h.y h.o) (tri_of u h'.x h'.y h'.o) h.y u h.stands h'.stands (tri_of-edge_three u h.x h.y h.o) (subst (λ w. has_edge w u (tri_of u h'.x h'.y h'.o) ≡ true) (sym e) (tri_of-edge_three u h'.x h'.y h'.o))
      ] ∙ sym h'.from)
    where
      corner_same : IsEdge a b v h.x h.y → IsEdge a b v h'.x h'.y → (h.x ≡ h'.x) ⊎ (h.y ≡ h'.y)
      corner_same i j =
          let c = i.is in let d = j.is in
          let n1 = h.x_apart in let n2 = h.y_apart in let n3 = h'.x_apart in let n4 = h'.y_apart in
          grind arith

  parts_of : (ts : List Tri) → ((t : Tri) → Contains ts t → Contains m.tris t) → AreDifferent ts → SharesNone (flat_map (moved_of u v) ts)
  parts_of [] sub d = tt
  parts_of (t ∷ ts) sub d = shares_none-append (moved_of u v t) (flat_map (moved_of u v) ts) (alone t (sub t (here t ts))) (parts_of ts (λ z h. sub z (there z t ts h)) d.1) cross
    where
      alone : (w : Tri) → Contains m.tris w → SharesNone (moved_of u v w)
      alone w h = go (has_corner u w) (has_corner v w) refl refl
        where
          go : (a b : Bool) → has_corner u w ≡ a → has_corner v w ≡ b → SharesNone (moved_of u v w)
          go true false ea eb = let i = corner_at u v w (least_first m ok w h) ea in subst (λ l. SharesNone l) (sym (i.moved eb)) ((λ z k. absurd (nowhere z k)), tt)
          go true true ea eb = subst (λ l. SharesNone l) (sym (moved-none u v w (ap (λ k. k && not (has_corner v w)) ea ∙ ap not eb))) tt
          go false b ea eb = subst (λ l. SharesNone l) (sym (moved-none u v w (ap (λ k. k && not (has_corner v w)) ea))) tt

      cross : (s s' : Tri) → Contains (moved_of u v t) s → Contains (flat_map (moved_of u v) ts) s' → Parts s s'
      cross s s' h k a b ks ks' =
          let r = flat_map-out (moved_of u v) ts s' k in
          d.0 r.0 r.1 (same_source s s' t r.0 (moved-means s t (sub t (here t ts)) h) (moved-means s' r.0 (sub r.0 (there r.0 t ts r.1)) r.2) a b ks ks')

  contract_parts : SharesNone added
  contract_parts = parts_of m.tris (λ t h. h) (rising-different m.tris ok.tris_rise)

  apex_means : (x : ℕ) (o : Option Side) → is_apex x o ≡ true → (s : Side) × (o ≡ Some s) × (s.apex ≡ x)
  apex_means x None h = absurd (let e : false ≡ true = h in cc)
  apex_means x (Some s) h = (s, refl, eqb-true s.apex x h)

  pub apex_stands : (a b x : ℕ) → is_apex x (side_of m.tris a b) ≡ true → (o : ℕ) × Contains m.tris (tri_of a b x o)
  apex_stands a b x h =
      let r = apex_means x (side_of m.tris a b) h in
      (r.0.owner, subst (λ w. Contains m.tris (tri_of a b w r.0.owner)) r.2 (side_of-stands m.tris (least_first m ok) a b r.0 r.1))

  -- a triangle at u is removed
  removed_by : (t t' : Tri) (a b : ℕ) → Contains m.tris t → Contains m.tris t' → has_edge a b t ≡ true → has_edge a b t' ≡ true → has_corner u t' ≡ true → removed t ≡ true
  removed_by t t' a b h h' k k' c = subst (λ w. has_corner u w ≡ true) (ok.edges_once t' t a b h' h k' k) c

  pub neighbour_right : (x y o : ℕ) → Contains m.tris (tri_of v x y o) → is_neighbour x (spokes_of m v) ≡ true
  neighbour_right x y o h = let s = spokes-has m ok v x y o h in any-from (λ r. r.right == x || r.left == x) s.0 (spokes_of m v) s.1 (test s.0.right s.0.left s.2)
    where
      test : (a b : ℕ) → a ≡ x → (a == x || b == x) ≡ true
      test a b e = grind (arith, nat_tests)

  pub neighbour_left : (x y o : ℕ) → Contains m.tris (tri_of v x y o) → is_neighbour y (spokes_of m v) ≡ true
  neighbour_left x y o h = let s = spokes-has m ok v x y o h in any-from (λ r. r.right == y || r.left == y) s.0 (spokes_of m v) s.1 (test s.0.right s.0.left s.3)
    where
      test : (a b : ℕ) → b ≡ y → (a == y || b == y) ≡ true
      test a b e = grind (arith, nat_tests)

  -- t with the edge v to x, where u, x, y stands and y is not v
  meets_right : (t : Tri) (x y o : ℕ) → Contains m.tris t → has_edge v x t ≡ true → Contains m.tris (tri_of u x y o) → y ≢ v → removed t ≡ true
  meets_right t x y o h k st ny =
      let same = tri_of-apex v x t (least_first m ok t h) k in
      let st' : Contains m.tris (tri_of v x (apex_in v x t) t.owner) = subst (λ w. Contains m.tris w) (sym same) h in
      let su = spokes-has m ok u x y o st in
      let c = subst (λ w. Contains (neighbours (spokes_of m u)) w) su.2 (right_is_neighbour (spokes_of m u) su.0 su.1) in
      elim (or_cases (is_apex x (side_of m.tris u v)) (is_apex x (side_of m.tris v u)) (p.link x c (neighbour_right x _ _ st'))) [
        | inl a ↦ (let r = apex_stands u v x a in removed_by t (tri_of u v x r.0) v x h r.1 k (tri_of-edge_two u v x r.0) (tri_of-corner u u v x r.0 (inl refl)))
        | inr a ↦ absurd (let r = apex_stands v u x a in
            let e = ok.edges_once (tri_of v u x r.0) (tri_of u x y o) u x r.1 st (tri_of-edge_two v u x r.0) (tri_of-edge_one u x y o) in
            let turned : tri_of v u x r.0 ≡ tri_of u x v r.0 = (let d = (corners_of m ok v u x r.0 r.1).distinct in tri_of-turned v u x r.0 d.one d.two d.three) in
            let z = apex_same m ok u x v r.0 x y o (subst (λ w. Contains m.tris w) turned r.1) st (sym turned ∙ e) in
            ny (sym z.1))
      ]

  -- t with the edge y to v, where u, x, y stands and x is not v
  meets_left : (t : Tri) (x y o : ℕ) → Contains m.tris t → has_edge y v t ≡ true → Contains m.tris (tri_of u x y o) → x ≢ v → removed t ≡ true
  meets_left t x y o h k st nx =
      let same = tri_of-apex y v t (least_first m ok t h) k in
      let st0 : Contains m.tris (tri_of y v (apex_in y v t) t.owner) = subst (λ w. Contains m.tris w) (sym same) h in
      let d0 = (corners_of m ok y v (apex_in y v t) t.owner st0).distinct in
      let st' : Contains m.tris (tri_of v (apex_in y v t) y t.owner) = subst (λ w. Contains m.tris w) (tri_of-turned y v (apex_in y v t) t.owner d0.one d0.two d0.three) st0 in
      let su = spokes-has m ok u x y o st in
      let c = subst (λ w. Contains (neighbours (spokes_of m u)) w) su.3 (left_is_neighbour (spokes_of m u) su.0 su.1) in
      elim (or_cases (is_apex y (side_of m.tris u v)) (is_apex y (side_of m.tris v u)) (p.link y c (neighbour_left _ y _ st'))) [
        | inl a ↦ absurd (let r = apex_stands u v y a in
            let e = ok.edges_once (tri_of u v y r.0) (tri_of u x y o) y u r.1 st (tri_of-edge_three u v y r.0) (tri_of-edge_three u x y o) in
            let z = apex_same m ok u v y r.0 x y o r.1 st e in
            nx (sym z.0))
        | inr a ↦ (let r = apex_stands v u y a in removed_by t (tri_of v u y r.0) y v h r.1 k (tri_of-edge_three v u y r.0) (tri_of-corner u v u y r.0 (inr (inl refl))))
      ]

  pub contract_meets : Meets removed added m.tris
  contract_meets s t a b hs ht ks kt =
      let r = added-means s hs in
      let h = r.2 in
      go h.x h.y h.o h.stands h.x_apart h.y_apart (tri_of-edges a b v h.x h.y h.o (subst (λ w. has_edge a b w ≡ true) h.is ks))
    where
      go : (x y o : ℕ) → Contains m.tris (tri_of u x y o) → x ≢ v → y ≢ v → IsEdge a b v x y → removed t ≡ true
      go x y o st nx ny k =
          elim k.is [
            | inl e ↦ meets_right t x y o ht (rw (e.0, e.1) kt) st ny
            | inr f ↦ elim f [
              | inl e ↦ removed_by t (tri_of u x y o) a b ht st kt (rw (← e.0, ← e.1) (tri_of-edge_two u x y o)) (tri_of-corner u u x y o (inl refl))
              | inr e ↦ meets_left t x y o ht (rw (e.0, e.1) kt) st nx
            ]
          ]

  -- points and names after
  pub place_after : (k : ℕ) → k ≢ u → place_of after k ≡ place_of m k
  place_after k n = ap (λ o. unwrap_or o record { x = pos 0; y = pos 0 }) (point_of-without u k m.sites n)

  live_after : (k : ℕ) → k ≢ u → IsLive m k → IsLive after k
  live_after k n l = ap is_some (point_of-without u k m.sites n) ∙ l

  live_before : (k : ℕ) → IsLive after k → (k ≢ u) × IsLive m k
  live_before k l = elim (cases_eq k u) [
    | inl e ↦ absurd (let g : is_some (point_of sites u) ≡ false = ap is_some (point_of-gone u m.sites) in let l' : is_some (point_of sites u) ≡ true = subst (λ w. is_some (point_of sites w) ≡ true) e l in let z : true ≡ false = sym l' ∙ g in cc)
    | inr n ↦ (n, sym (ap is_some (point_of-without u k m.sites n)) ∙ l)
  ]

  pub turn_after : (a b c : ℕ) → a ≢ u → b ≢ u → c ≢ u → turn_at after a b c ≡ turn_at m a b c
  turn_after a b c na nb nc = rw (place_after a na, place_after b nb, place_after c nc) refl

  pub no_corner : (t : Tri) (k : ℕ) → has_corner u t ≡ false → (t.a ≡ k) ⊎ ((t.b ≡ k) ⊎ (t.c ≡ k)) → k ≢ u
  no_corner t k h c e = let z : has_corner u t ≡ true = grind (arith, nat_tests) in let y : true ≡ false = sym z ∙ h in absurd (cc)

  good_kept : (t : Tri) → Contains m.tris t → removed t ≡ false → IsGood after t
  good_kept t h e =
      let q = ok.proper t h in
      let na = no_corner t t.a e (inl refl) in
      let nb = no_corner t t.b e (inr (inl refl)) in
      let nc = no_corner t t.c e (inr (inr refl)) in
      record {
        proper = record { first = live_after t.a na q.first; second = live_after t.b nb q.second; third = live_after t.c nc q.third; least = q.least; least' = q.least'; apart = q.apart };
        positive = subst (λ w. pos 0 <ℤ w) (sym (turn_after t.a t.b t.c na nb nc)) (ok.positive t h);
        owned = ok.owned t h;
      }

  -- a new triangle turns left
  pub new_turn : (x y o : ℕ) → Contains m.tris (tri_of u x y o) → x ≢ v → y ≢ v → pos 0 <ℤ turn_at m v x y
  new_turn x y o h nx ny =
      let s = spokes-has m ok u x y o h in
      let t = p.turns s.0 s.1 (λ e. nx (sym s.2 ∙ e)) (λ e. ny (sym s.3 ∙ e)) in
      let t1 = subst (λ w. pos 0 <ℤ turn_at m v w s.0.left) s.2 t in
      subst (λ w. pos 0 <ℤ turn_at m v x w) s.3 t1

  v_live : IsLive m v
  v_live = elim (or_cases (is_some (side_of m.tris u v)) (is_some (side_of m.tris v u)) p.edge) [
    | inl a ↦ (let s = is_some-holds _ a in (corners_of m ok u v s.0.apex s.0.owner (side_of-stands m.tris (least_first m ok) u v s.0 s.1)).live_q)
    | inr a ↦ (let s = is_some-holds _ a in (corners_of m ok v u s.0.apex s.0.owner (side_of-stands m.tris (least_first m ok) v u s.0 s.1)).live_p)
  ]

  pub good_new : (s : Tri) → Contains added s → IsGood after s
  good_new s h = let r = added-means s h in let q = r.2 in subst (λ w. IsGood after w) (sym q.is) (go q.x q.y q.o q.stands q.x_apart q.y_apart)
    where
      go : (x y o : ℕ) → Contains m.tris (tri_of u x y o) → x ≢ v → y ≢ v → IsGood after (tri_of v x y o)
      go x y o st nx ny =
          let c = corners_of m ok u x y o st in
          let xu : x ≢ u = λ e. c.distinct.one (sym e) in
          let yu : y ≢ u = c.distinct.three in
          let vu : v ≢ u = λ e. p.apart (sym e) in
          let t = subst (λ w. pos 0 <ℤ w) (sym (turn_after v x y vu xu yu)) (new_turn x y o st nx ny) in
          record {
            proper = proper_tri after v x y o (live_after v vu v_live) (live_after x xu c.live_q) (live_after y yu c.live_z) (distinct_from_turn after v x y t);
            positive = subst (λ w. pos 0 <ℤ w) (sym (turn_at-tri_of after v x y o)) t;
            owned = subst (λ w. w < m.chunks) (tri_of-owner u x y o ∙ sym (tri_of-owner v x y o)) (ok.owned _ st);
          }

  -- two triangles at u on one edge turn against each other
  not_both : (x y o o' : ℕ) → Contains m.tris (tri_of u x y o) → Contains m.tris (tri_of u y x o') → ⊥
  not_both x y o o' h k =
      let a = (corners_of m ok u x y o h).left in
      let b = (corners_of m ok u y x o' k).left in
      let b' = subst (λ w. pos 0 <ℤ w) (turn_at-turned m u y x ∙ turn_at-turned m y x u) b in
      let s = orient_of-swapped (place_of m u) (place_of m x) (place_of m y) in
      against a b' s
    where
      against : {i j : ℤ} → pos 0 <ℤ i → pos 0 <ℤ j → i +ℤ j ≡ pos 0 → ⊥
      against a b' s = omega (arith, ints, a, b', s)

  spoke_is : (s : Spoke) → Contains (spokes_of m u) s → Contains m.tris (tri_of u s.right s.left s.owner)
  spoke_is s h = spokes-means m ok u s h

  -- beside u, v, y there is a further triangle at y, as u has more than one triangle
  pub after_v : (y o : ℕ) → Contains m.tris (tri_of u v y o) → (z : ℕ) × (o' : ℕ) × Contains m.tris (tri_of u y z o')
  after_v y o h = elim (list_has (spokes_of m u)) [ inl r ↦ (r.0.left, r.0.owner, subst (λ w. Contains m.tris (tri_of u w r.0.left r.0.owner)) r.2 (spoke_is r.0 r.1)) | inr n ↦ absurd (no n) ]
    where
      list_has : (ss : List Spoke) → IsRight ss y ⊎ (IsRight ss y → ⊥)
      list_has [] = inr (λ k. nowhere k.0 k.1)
      list_has (s ∷ ss) = elim (cases_eq s.right y) [ inl e ↦ inl (s, here s ss, e) | inr n ↦ elim (list_has ss) [ inl r ↦ inl (r.0, there r.0 s ss r.1, r.2) | inr k ↦ inr (λ c. elim (cases c.0 s ss c.1) [ inl e ↦ n (ap (λ w. w.right) (sym e) ∙ c.2) | inr r ↦ k (c.0, r, c.2) ]) ] ]

      no : (IsRight (spokes_of m u) y → ⊥) → ⊥
      no n =
          let s = spokes-has m ok u v y o h in
          let f = fan_end (spokes_of m u) (spokes-simple m ok u) p.fan y (s.0, s.1, s.3) n in
          let c = corners_of m ok u v y o h in
          elim (p.onto f.0) [
            | inl e ↦ (let t = p.straight f.0 in
                let t1 = subst (λ w. turn_at m w u (unwrap_or (path_end (spokes_of m u) (spokes_of m u)) 0) ≡ pos 0) e t in
                let t2 : turn_at m v u y ≡ pos 0 = subst (λ w. turn_at m v u w ≡ pos 0) f.1 t1 in
                let q = orient_of-swapped (place_of m u) (place_of m v) (place_of m y) in
                flat c.left q t2)
            | inr e ↦ c.distinct.two (sym e ∙ f.1)
          ]
        where
          flat : {i j : ℤ} → pos 0 <ℤ i → i +ℤ j ≡ pos 0 → j ≡ pos 0 → ⊥
          flat a b c = omega (arith, ints, a, b, c)

  pub before_v : (x o : ℕ) → Contains m.tris (tri_of u x v o) → (z : ℕ) × (o' : ℕ) × Contains m.tris (tri_of u z x o')
  before_v x o h = elim (list_has (spokes_of m u)) [ inl r ↦ (r.0.right, r.0.owner, subst (λ w. Contains m.tris (tri_of u r.0.right w r.0.owner)) r.2 (spoke_is r.0 r.1)) | inr n ↦ absurd (no n) ]
    where
      list_has : (ss : List Spoke) → IsLeft ss x ⊎ (IsLeft ss x → ⊥)
      list_has [] = inr (λ k. nowhere k.0 k.1)
      list_has (s ∷ ss) = elim (cases_eq s.left x) [ inl e ↦ inl (s, here s ss, e) | inr n ↦ elim (list_has ss) [ inl r ↦ inl (r.0, there r.0 s ss r.1, r.2) | inr k ↦ inr (λ c. elim (cases c.0 s ss c.1) [ inl e ↦ n (ap (λ w. w.left) (sym e) ∙ c.2) | inr r ↦ k (c.0, r, c.2) ]) ] ]

      no : (IsLeft (spokes_of m u) x → ⊥) → ⊥
      no n =
          let s = spokes-has m ok u x v o h in
          let f = fan_start (spokes_of m u) (spokes-simple m ok u) p.fan x (s.0, s.1, s.2) n in
          let c = corners_of m ok u x v o h in
          elim (p.onto f.0) [
            | inl e ↦ c.distinct.two (sym f.1 ∙ e)
            | inr e ↦ (let t = p.straight f.0 in
                let t1 = subst (λ w. turn_at m w u (unwrap_or (path_end (spokes_of m u) (spokes_of m u)) 0) ≡ pos 0) f.1 t in
                let t2 : turn_at m x u v ≡ pos 0 = subst (λ w. turn_at m x u w ≡ pos 0) e t1 in
                let q = orient_of-swapped (place_of m u) (place_of m x) (place_of m v) in
                flat c.left q t2)
          ]
        where
          flat : {i j : ℤ} → pos 0 <ℤ i → i +ℤ j ≡ pos 0 → j ≡ pos 0 → ⊥
          flat a b c = omega (arith, ints, a, b, c)

  -- each corner but u of a triangle at u is a corner after
  used_by : (x y o k : ℕ) → Contains m.tris (tri_of u x y o) → (x ≡ k) ⊎ (y ≡ k) → IsUsed removed added m.tris k
  used_by x y o k h c = go (cases_eq x v) (cases_eq y v)
    where
      d : AreDistinct u x y
      d = (corners_of m ok u x y o h).distinct

      -- the new triangle v, a, b has k
      new : (a b w : ℕ) → Contains m.tris (tri_of u a b w) → a ≢ v → b ≢ v → (v ≡ k) ⊎ ((a ≡ k) ⊎ (b ≡ k)) → IsUsed removed added m.tris k
      new a b w st na nb q = inl (tri_of v a b w, added-has a b w st na nb, tri_of-corner k v a b w q)

      go : (x ≡ v) ⊎ (x ≢ v) → (y ≡ v) ⊎ (y ≢ v) → IsUsed removed added m.tris k
      go (inr nx) (inr ny) = new x y o h nx ny (inr c)
      go (inl ex) (inl ey) = absurd (d.two (ex ∙ sym ey))
      go (inl ex) (inr ny) =
          let st = subst (λ w. Contains m.tris (tri_of u w y o)) ex h in
          let z = after_v y o st in
          new y z.0 z.1 z.2 ny (λ e. not_both v y o z.1 st (subst (λ w. Contains m.tris (tri_of u y w z.1)) e z.2)) (elim c [ inl e ↦ inl (sym ex ∙ e) | inr e ↦ inr (inl e) ])
      go (inr nx) (inl ey) =
          let st = subst (λ w. Contains m.tris (tri_of u x w o)) ey h in
          let z = before_v x o st in
          new z.0 x z.1 z.2 (λ e. not_both x v o z.1 st (subst (λ w. Contains m.tris (tri_of u w x z.1)) e z.2)) nx (elim c [ inl e ↦ inr (inr e) | inr e ↦ inl (sym ey ∙ e) ])

  contract_used : (k : ℕ) → IsLive after k → IsUsed removed added m.tris k
  contract_used k l = let b = live_before k l in go b.0 (any-means (has_corner k) m.tris (ok.used k b.1))
    where
      go : k ≢ u → (t : Tri) × Contains m.tris t × (has_corner k t ≡ true) → IsUsed removed added m.tris k
      go n w = elim (cases_Bool (removed w.0)) [ inr e ↦ inr (w.0, w.1, e, w.2) | inl e ↦ at_u (corner_at u v w.0 (least_first m ok w.0 w.1) e) ]
        where
          at_u : IsAt u v w.0 → IsUsed removed added m.tris k
          at_u i =
              let st : Contains m.tris (tri_of u i.x i.y w.0.owner) = subst (λ t. Contains m.tris t) (sym i.is) w.1 in
              elim (tri_of-corners k u i.x i.y w.0.owner (subst (λ t. has_corner k t ≡ true) (sym i.is) w.2)) [ inl e ↦ absurd (n (sym e)) | inr c ↦ used_by i.x i.y w.0.owner k st c ]

  pub contract_conforms : IsConforming after
  contract_conforms =
      patched_conforms m sites removed added ok
      record {
        new = good_new;
        kept = good_kept;
        parts = contract_parts;
        meets = contract_meets;
        used = contract_used;
        in_range = λ s h. ok.in_range s (filter-out (λ r. not (r.name == u)) s m.sites h).0;
        sites_rise = sites_rise-without u m.sites ok.sites_rise;
      }

-- a contraction that passes keeps the mesh conforming
pub contract_keeps : (m : Undivided) (chunk u v ticket : ℕ) → IsConforming m → first_failing m chunk (Contract u v) ≡ None → IsConforming (applied m record { ticket = ticket; chunk = chunk; op = Contract u v })
contract_keeps m chunk u v ticket ok h = contract_conforms m ok u v (contract_passes m chunk u v h)
