-- The copies of a mesh give it back: each node has one copy at its keeper, and each triangle stands in that of its least corner.
-- Assumes `IsConforming m`.
use Rattle.std.proofs.Common.{◌≡◌, ◌≢◌, ℕ, ◌<◌, List, [], ◌∷◌, refl, sym, ◌∙◌, ap, subst, Bool, true, false, cond, ◌⊎◌, inl, inr, arith, ◌&&◌, ◌||◌}
use Rattle.std.specs.Prelude.{Contains, Option, Some, None, pos, filter, filter_map, map, flat_map, nat_lt, unwrap_or, ◌==◌}
use Rattle.std.proofs.lemmas.Bool.Decides.{nat_tests}
use Rattle.std.proofs.lemmas.Bool.{and_parts, and_from, cases_Bool, eq-eqb, eqb-true, or_left, or_right}
use Rattle.pf_geom.specs.declared.Point.{Point}
use Rattle.pf_model.specs.declared.Tri.{Tri}
use Rattle.pf_model.specs.declared.Site.{Site}
use Rattle.pf_model.specs.declared.Spoke.{Spoke}
use Rattle.pf_model.specs.Rising.{AreDifferent, IsRising, sorted_by}
use Rattle.pf_model.specs.Mesh.{Undivided, tri_of, tri_lt, has_edge, has_corner, point_of, place_of}
use Rattle.pf_model.specs.Conforming.{IsConforming, IsLive}
use Rattle.pf_model.specs.Stars.{Star, star_of, spokes_of, spoke_of, spoke_lt, is_sharer, keeper_in}
use Rattle.pf_model.proofs.Members.{nowhere, here, there, cases, filter-in, filter-out}
use Rattle.pf_model.proofs.RisingLemmas.{IsStrictOrder, AreApart, rising-nil, rising-head, rising-tail, rising-filter, rising-insert_all_by}
use Rattle.pf_model.proofs.Sorted.{sorted-is, sorted-back, different-map_within}
use Rattle.pf_model.proofs.Totals.{different-append, different-filter, map-in, map-means}
use Rattle.pf_model.proofs.Triangles.{least_first, tri_lt-order, tri_lt-apart, tri_of-itself}
use Rattle.pf_model.proofs.Kept.{any-means, has_edge-first}
use Rattle.pf_model.proofs.Spokes.{filter_map-in, spoke_of-there, spokes-means, spokes-has, spokes-simple}
use Rattle.pf_model.proofs.OneFan.{same_spoke}
use Rattle.pf_model.proofs.ContractKeeps.{flat_map-in, flat_map-out}
use Rattle.pf_model.proofs.SitesAfter.{site_is_live}
use Rattle.pf_star_model.specs.Lent.{tri_at}
use Rattle.pf_star_model.specs.Copies.{Copy, copy_of, copy_lt, copies_of, due_copy}
use Rattle.pf_star_model.specs.Assembled.{is_kept, site_in, site_lt, least_tris, assembled}
use Rattle.pf_star_model.proofs.Shown.{star_parts, point_of-name}
use Rattle.pf_star_model.proofs.Patching.{star_with}
use Rattle.pf_star_model.proofs.Copies.{due_copy-means, copies-means, copies-has, copies_are_shared}

-- the keeper of spokes owns one of them
keeper-owns : (ss : List Spoke) (k : ℕ) → keeper_in ss ≡ Some k → is_sharer k ss ≡ true
keeper-owns [] k h = absurd (let e : None ≡ Some k = h in cc)
keeper-owns (s ∷ ss) k h = go (keeper_in ss) refl h (λ j e. keeper-owns ss j e)
  where
    some_same : {a b : ℕ} → Some a ≡ Some b → a ≡ b
    some_same e = cc

    go : (o : Option ℕ) → keeper_in ss ≡ o → elim o [ None ↦ Some s.owner | Some j ↦ Some (cond (nat_lt s.owner j) s.owner j) ] ≡ Some k → ((j : ℕ) → keeper_in ss ≡ Some j → is_sharer j ss ≡ true) → (s.owner == k || is_sharer k ss) ≡ true
    go None e f ih = or_left (s.owner == k) (is_sharer k ss) (eq-eqb s.owner k (some_same f))
    go (Some j) e f ih = lesser (nat_lt s.owner j) (some_same f)
      where
        lesser : (b : Bool) → cond b s.owner j ≡ k → (s.owner == k || is_sharer k ss) ≡ true
        lesser true g = or_left (s.owner == k) (is_sharer k ss) (eq-eqb s.owner k g)
        lesser false g = or_right (s.owner == k) (is_sharer k ss) (ih k (e ∙ ap (λ n. Some n) g))

-- spokes have a keeper
keeper-there : (s : Spoke) (ss : List Spoke) → (k : ℕ) × (keeper_in (s ∷ ss) ≡ Some k)
keeper-there s ss = go (keeper_in ss)
  where
    go : (o : Option ℕ) → (k : ℕ) × (elim o [ None ↦ Some s.owner | Some j ↦ Some (cond (nat_lt s.owner j) s.owner j) ] ≡ Some k)
    go None = (s.owner, refl)
    go (Some j) = (cond (nat_lt s.owner j) s.owner j, refl)

keeper-some : (ss : List Spoke) → (s : Spoke) → Contains ss s → (k : ℕ) × (keeper_in ss ≡ Some k)
keeper-some [] s h = absurd (nowhere s h)
keeper-some (r ∷ rs) s h = keeper-there r rs

-- a kept copy is its node's star, at the keeper
pub record IsKeptCopy (m : Undivided) (x : Copy) : Type 0 where
  pub star : star_of m x.star.node ≡ Some x.star
  pub at : x.star.at ≡ place_of m x.star.node
  pub spokes : x.star.spokes ≡ spokes_of m x.star.node
  pub keeper : keeper_in x.star.spokes ≡ Some x.chunk

kept-means : (m : Undivided) (x : Copy) → Contains (filter is_kept (copies_of m)) x → IsKeptCopy m x
kept-means m x h =
    let f = filter-out is_kept x (copies_of m) h in
    let d = due_copy-means x.chunk (star_of m x.star.node) x.star (copies-means m x f.0) in
    let p = star_parts m x.star.node x.star d.star in
    record { star = d.star; at = p.at; spokes = p.spokes; keeper = go (keeper_in x.star.spokes) refl f.1 }
  where
    go : (o : Option ℕ) → keeper_in x.star.spokes ≡ o → elim o [ None ↦ false | Some k ↦ k == x.chunk ] ≡ true → o ≡ Some x.chunk
    go None e t = absurd (let z : false ≡ true = t in cc)
    go (Some k) e t = ap (λ n. Some n) (eqb-true k x.chunk t)

copy_same : (x y : Copy) → x.chunk ≡ y.chunk → x.star ≡ y.star → x ≡ y
copy_same x y e f = λ i. record { chunk = e i; star = f i }

-- two kept copies of one node are one
kept-one : (m : Undivided) (x y : Copy) → IsKeptCopy m x → IsKeptCopy m y → x.star.node ≡ y.star.node → x ≡ y
kept-one m x y p q e = copy_same x y (some_same (sym p.keeper ∙ (ap (λ (s : Star). keeper_in s.spokes) stars ∙ q.keeper))) stars
  where
    some_same : {X : Type 0} {a b : X} → Some a ≡ Some b → a ≡ b
    some_same k = cc

    stars : x.star ≡ y.star
    stars = some_same (sym p.star ∙ (ap (star_of m) e ∙ q.star))

-- a copy is not before itself
copy_lt-not : (x : Copy) → copy_lt x x ≡ true → ⊥
copy_lt-not x h = test x.chunk x.star.node h
  where
    test : (a b : ℕ) → (nat_lt a a || (a == a && nat_lt b b)) ≡ true → ⊥
    test a b e = grind (arith, nat_tests)

abbrev origin : Point
origin = record { x = pos 0; y = pos 0 }

-- kept copies that come one after the other are of different nodes
kept-apart : (m : Undivided) (x y : Copy) → IsKeptCopy m x → IsKeptCopy m y → copy_lt x y ≡ true → x.star.node ≢ y.star.node
kept-apart m x y p q l e = copy_lt-not x (subst (λ w. copy_lt x w ≡ true) (sym (kept-one m x y p q e)) l)

site_lt-order : IsStrictOrder site_lt
site_lt-order = record { irreflexive = λ x. itself x.name; transitive = λ x y z h k. step x.name y.name z.name h k }
  where
    itself : (a : ℕ) → nat_lt a a ≡ false
    itself a = grind (arith, nat_tests)

    step : (a b c : ℕ) → nat_lt a b ≡ true → nat_lt b c ≡ true → nat_lt a c ≡ true
    step a b c h k = grind (arith, nat_tests)

either : (a b : ℕ) → a ≢ b → (nat_lt a b ≡ true) ⊎ (nat_lt b a ≡ true)
either a b n = grind (arith, nat_tests)

sites-apart : (m : Undivided) (xs : List Copy) → IsRising copy_lt xs → ((x : Copy) → Contains xs x → IsKeptCopy m x) → AreApart site_lt (map site_in xs)
sites-apart m [] up kept = tt
sites-apart m (x ∷ xs) up kept = (first, sites-apart m xs (rising-tail copy_lt x xs up) (λ y h. kept y (there y x xs h)))
  where
    first : (z : Site) → Contains (map site_in xs) z → (site_lt (site_in x) z ≡ true) ⊎ (site_lt z (site_in x) ≡ true)
    first z h =
        let r = map-means site_in xs z h in
        subst (λ w. (site_lt (site_in x) w ≡ true) ⊎ (site_lt w (site_in x) ≡ true)) r.2 (either x.star.node r.0.star.node (kept-apart m x r.0 (kept x (here x xs)) (kept r.0 (there r.0 x xs r.1)) (rising-head copy_lt x r.0 xs up r.1)))

-- the node of a triangle that a copy gives
least-means : (x : Copy) (t : Tri) → Contains (least_tris x) t → (s : Spoke) × Contains x.star.spokes s × (nat_lt x.star.node s.right ≡ true) × (nat_lt x.star.node s.left ≡ true) × (tri_at x.star.node s ≡ t)
least-means x t h =
    let r = map-means (tri_at x.star.node) (filter (λ s. nat_lt x.star.node s.right && nat_lt x.star.node s.left) x.star.spokes) t h in
    let f = filter-out (λ s. nat_lt x.star.node s.right && nat_lt x.star.node s.left) r.0 x.star.spokes r.1 in
    let b = and_parts (nat_lt x.star.node r.0.right) (nat_lt x.star.node r.0.left) f.1 in
    (r.0, f.0, b.0, b.1, r.2)

-- a triangle that begins with its least corner
tri_of-starts : (n r l o : ℕ) → nat_lt n r ≡ true → nat_lt n l ≡ true → tri_of n r l o ≡ record { a = n; b = r; c = l; owner = o }
tri_of-starts n r l o h k = ap (λ b. cond b (record { a = n; b = r; c = l; owner = o }) other) (and_from (nat_lt n r) (nat_lt n l) h k)
  where
    other : Tri
    other = cond (nat_lt r l && nat_lt r n) record { a = r; b = l; c = n; owner = o } record { a = l; b = n; c = r; owner = o }

least-node : (x : Copy) (t : Tri) → Contains (least_tris x) t → t.a ≡ x.star.node
least-node x t h = let r = least-means x t h in ap (λ w. w.a) (sym r.4) ∙ ap (λ w. w.a) (tri_of-starts x.star.node r.0.right r.0.left r.0.owner r.2 r.3)

-- the triangles of one copy differ
least-different : (m : Undivided) → IsConforming m → (x : Copy) → IsKeptCopy m x → AreDifferent (least_tris x)
least-different m ok x p =
    different-map_within (tri_at n) (filter test x.star.spokes) one
    (different-filter test x.star.spokes (different-spokes x.star.spokes (subst (λ ss. AreDifferent (map (λ r. r.right) ss)) (sym p.spokes) (spokes-simple m ok n).different)))
  where
    n : ℕ
    n = x.star.node

    test : Spoke → Bool
    test s = nat_lt n s.right && nat_lt n s.left

    different-spokes : (ss : List Spoke) → AreDifferent (map (λ r. r.right) ss) → AreDifferent ss
    different-spokes [] d = tt
    different-spokes (s ∷ ss) d = ((λ z h e. d.0 z.right (map-in (λ r. r.right) ss z h) (ap (λ w. w.right) e)), different-spokes ss d.1)

    one : (s r : Spoke) → Contains (filter test x.star.spokes) s → Contains (filter test x.star.spokes) r → tri_at n s ≡ tri_at n r → s ≡ r
    one s r h k e =
        let a = filter-out test s x.star.spokes h in
        let b = filter-out test r x.star.spokes k in
        let sa = and_parts (nat_lt n s.right) (nat_lt n s.left) a.1 in
        let sb = and_parts (nat_lt n r.right) (nat_lt n r.left) b.1 in
        same_spoke x.star.spokes s r (subst (λ ss. AreDifferent (map (λ w. w.right) ss)) (sym p.spokes) (spokes-simple m ok n).different) a.0 b.0
        (ap (λ w. w.b) (sym (tri_of-starts n s.right s.left s.owner sa.0 sa.1) ∙ (e ∙ tri_of-starts n r.right r.left r.owner sb.0 sb.1)))

-- those of all kept copies, too
all-different : (m : Undivided) → IsConforming m → (xs : List Copy) → IsRising copy_lt xs → ((x : Copy) → Contains xs x → IsKeptCopy m x) → AreDifferent (flat_map least_tris xs)
all-different m ok [] up kept = tt
all-different m ok (x ∷ xs) up kept =
    different-append (least_tris x) (flat_map least_tris xs) (least-different m ok x (kept x (here x xs)))
    (all-different m ok xs (rising-tail copy_lt x xs up) (λ y h. kept y (there y x xs h)))
    (λ t h k.
    let r = flat_map-out least_tris xs t k in
    kept-apart m x r.0 (kept x (here x xs)) (kept r.0 (there r.0 x xs r.1)) (rising-head copy_lt x r.0 xs up r.1) (sym (least-node x t h) ∙ least-node r.0 t r.2))

-- different triangles of a mesh compare
tris-apart : (m : Undivided) → IsConforming m → (ts : List Tri) → ((t : Tri) → Contains ts t → Contains m.tris t) → AreDifferent ts → AreApart tri_lt ts
tris-apart m ok [] within d = tt
tris-apart m ok (t ∷ ts) within d = (first, tris-apart m ok ts (λ z h. within z (there z t ts h)) d.1)
  where
    first : (z : Tri) → Contains ts z → (tri_lt t z ≡ true) ⊎ (tri_lt z t ≡ true)
    first z h = elim (cases_Bool (has_edge t.a t.b z)) [
      | inl e ↦ absurd (d.0 z h (ok.edges_once t z t.a t.b (within t (here t ts)) (within z (there z t ts h)) (has_edge-first t) e))
      | inr e ↦ tri_lt-apart t z e
    ]

module _ (m : Undivided) (ok : IsConforming m) where
  abbrev kept : List Copy
  kept = filter is_kept (copies_of m)

  each-kept : (x : Copy) → Contains kept x → IsKeptCopy m x
  each-kept x h = kept-means m x h

  kept-rise : IsRising copy_lt kept
  kept-rise = rising-filter copy_lt is_kept (copies_of m) (copies_are_shared m ok).rise

  -- each corner of a triangle has a copy at its keeper
  kept-there : (n : ℕ) → IsLive m n → (s : Spoke) → Contains (spokes_of m n) s → (x : Copy) × Contains kept x × (x.star.node ≡ n)
  kept-there n live s h =
      let k = keeper-some (spokes_of m n) s h in
      let star : star_of m n ≡ star_with n (place_of m n) (spokes_of m n) = ap (λ b. cond b (star_with n (place_of m n) (spokes_of m n)) None) live in
      let due : copy_of m k.0 n ≡ star_with n (place_of m n) (spokes_of m n) = ap (due_copy k.0) star ∙ ap (λ b. cond b (star_with n (place_of m n) (spokes_of m n)) None) (keeper-owns (spokes_of m n) k.0 k.1) in
      (copy k.0, filter-in is_kept (copy k.0) (copies_of m) (copies-has m ok k.0 n whole due) (ap (λ o. elim o [ None ↦ false | Some j ↦ j == k.0 ]) k.1 ∙ eq-eqb k.0 k.0 refl), refl)
    where
      whole : Star
      whole = record { node = n; at = place_of m n; spokes = spokes_of m n }

      copy : ℕ → Copy
      copy c = record { chunk = c; star = whole }

  -- the sites
  sites-up : IsRising site_lt m.sites
  sites-up i j d l k = test _ _ (ok.sites_rise i j d l k)
    where
      test : (a b : ℕ) → a < b → nat_lt a b ≡ true
      test a b h = grind (arith, nat_tests)

  -- where a site stands
  site-place : (ss : List Site) → IsRising site_lt ss → (s : Site) → Contains ss s → point_of ss s.name ≡ Some s.at
  site-place [] up s h = absurd (nowhere s h)
  site-place (r ∷ rs) up s h = go (cases s r rs h) (λ k. site-place rs (rising-tail site_lt r rs up) s k)
    where
      itself : (a : ℕ) → (a == a) ≡ true
      itself a = eq-eqb a a refl

      past : (a b : ℕ) → nat_lt a b ≡ true → (a == b) ≡ false
      past a b l = grind (arith, nat_tests)

      go : (s ≡ r) ⊎ Contains rs s → (Contains rs s → point_of rs s.name ≡ Some s.at) → cond (r.name == s.name) (Some r.at) (point_of rs s.name) ≡ Some s.at
      go (inl e) ih = subst (λ (w : Site). cond (r.name == w.name) (Some r.at) (point_of rs w.name) ≡ Some w.at) (sym e) (ap (λ b. cond b (Some r.at) (point_of rs r.name)) (itself r.name))
      go (inr k) ih = ap (λ b. cond b (Some r.at) (point_of rs s.name)) (past r.name s.name (rising-head site_lt r s rs up k)) ∙ ih k

  place-is : (s : Site) → Contains m.sites s → place_of m s.name ≡ s.at
  place-is s h = ap (λ o. unwrap_or o origin) (site-place m.sites sites-up s h)

  -- a live node has a spoke
  spoke-there : (n : ℕ) → IsLive m n → (s : Spoke) × Contains (spokes_of m n) s
  spoke-there n live =
      let t = any-means (has_corner n) m.tris (ok.used n live) in
      let s = spoke_of-there m n t.0 t.2 in
      (s.0, sorted-back spoke_lt (filter_map (spoke_of m n) m.tris) s.0 (filter_map-in (spoke_of m n) m.tris t.0 s.0 t.1 s.1))

  site_same : (r s : Site) → r.name ≡ s.name → r.at ≡ s.at → r ≡ s
  site_same r s e f = λ i. record { name = e i; at = f i }

  sites-forth : (z : Site) → Contains (map site_in kept) z → Contains m.sites z
  sites-forth z h =
      let r = map-means site_in kept z h in
      let p = each-kept r.0 r.1 in
      let n = point_of-name m.sites r.0.star.node (star_parts m r.0.star.node r.0.star p.star).live in
      subst (λ w. Contains m.sites w) (site_same n.0 (site_in r.0) n.2 (sym (place-is n.0 n.1) ∙ (ap (place_of m) n.2 ∙ sym p.at)) ∙ r.2) n.1

  sites-back : (z : Site) → Contains m.sites z → Contains (map site_in kept) z
  sites-back z h =
      let live = site_is_live m.sites z h in
      let s = spoke-there z.name live in
      let c = kept-there z.name live s.0 s.1 in
      let p = each-kept c.0 c.1 in
      subst (λ w. Contains (map site_in kept) w) (site_same (site_in c.0) z c.2 (p.at ∙ (ap (place_of m) c.2 ∙ place-is z h))) (map-in site_in kept c.0 c.1)

  pub sites-same : m.sites ≡ sorted_by site_lt (map site_in kept)
  sites-same =
      sorted-is site_lt site_lt-order (map site_in kept) m.sites
      (rising-insert_all_by site_lt site_lt-order (map site_in kept) [] (sites-apart m kept kept-rise each-kept) (λ x h z k. absurd (nowhere z k)) (rising-nil site_lt))
      sites-up sites-forth sites-back

  -- the triangles
  tris-forth : (t : Tri) → Contains (flat_map least_tris kept) t → Contains m.tris t
  tris-forth t h =
      let r = flat_map-out least_tris kept t h in
      let l = least-means r.0 t r.2 in
      let p = each-kept r.0 r.1 in
      subst (λ w. Contains m.tris w) l.4 (spokes-means m ok r.0.star.node l.0 (subst (λ ss. Contains ss l.0) p.spokes l.1))

  tris-back : (t : Tri) → Contains m.tris t → Contains (flat_map least_tris kept) t
  tris-back t h =
      let p = ok.proper t h in
      let itself = tri_of-itself t (least_first m ok t h) in
      let k = spokes-has m ok t.a t.b t.c t.owner (subst (λ w. Contains m.tris w) (sym itself) h) in
      let c = kept-there t.a p.first k.0 k.1 in
      let q = each-kept c.0 c.1 in
      let spokes : c.0.star.spokes ≡ spokes_of m t.a = q.spokes ∙ ap (spokes_of m) c.2 in
      let test : Spoke → Bool = λ s. nat_lt c.0.star.node s.right && nat_lt c.0.star.node s.left in
      let passes = and_from (nat_lt c.0.star.node k.0.right) (nat_lt c.0.star.node k.0.left) (below c.0.star.node k.0.right t.a t.b c.2 k.2 p.least) (below c.0.star.node k.0.left t.a t.c c.2 k.3 p.least') in
      let listed = map-in (tri_at c.0.star.node) (filter test c.0.star.spokes) k.0 (filter-in test k.0 c.0.star.spokes (subst (λ ss. Contains ss k.0) (sym spokes) k.1) passes) in
      let same : tri_at c.0.star.node k.0 ≡ t = (λ i. tri_of (c.2 i) (k.2 i) (k.3 i) (k.4 i)) ∙ itself in
      flat_map-in least_tris kept c.0 t c.1 (subst (λ w. Contains (least_tris c.0) w) same listed)
    where
      below : (a b x y : ℕ) → a ≡ x → b ≡ y → x < y → nat_lt a b ≡ true
      below a b x y e f l = grind (arith, nat_tests)

  pub tris-same : m.tris ≡ sorted_by tri_lt (flat_map least_tris kept)
  tris-same =
      sorted-is tri_lt tri_lt-order (flat_map least_tris kept) m.tris
      (rising-insert_all_by tri_lt tri_lt-order (flat_map least_tris kept) [] (tris-apart m ok (flat_map least_tris kept) tris-forth (all-different m ok kept kept-rise each-kept)) (λ x h z k. absurd (nowhere z k)) (rising-nil tri_lt))
      ok.tris_rise tris-forth tris-back

pub copies_give_mesh : (m : Undivided) → IsConforming m → assembled m.first_new m.bands m.chunks (copies_of m) ≡ m
copies_give_mesh m ok = λ i. record { first_new = m.first_new; sites = sym (sites-same m ok) i; tris = sym (tris-same m ok) i; bands = m.bands; chunks = m.chunks }
