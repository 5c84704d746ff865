-- The mesh that is built of points in range, where no fault is found, is conforming.
use Rattle.std.proofs.Common.{◌≡◌, ◌≢◌, ℕ, zero, suc, ◌+◌, ◌<◌, ◌≤◌, List, [], ◌∷◌, ◌++◌, length, refl, sym, ◌∙◌, ap, subst, Bool, true, false, cond, ◌⊎◌, inl, inr, arith}
use Rattle.std.specs.Prelude.{ℤ, pos, negsuc, ◌<ℤ◌, int_lt, Contains, AllPairs, Option, Some, None, Result, Ok, Err, is_some, unwrap_or, map, filter, find, not, nat_lt, ◌==◌, slice_index}
use Rattle.std.specs.Ordering.{int_eq}
use Rattle.std.specs.List.{list_any}
use Rattle.std.proofs.lemmas.Int.{ints}
use Rattle.std.proofs.lemmas.List.Elements.{Contains-get_or}
use Rattle.std.proofs.lemmas.Bool.Decides.{nat_tests, Decides-int_eq}
use Rattle.std.proofs.lemmas.Bool.{eqb-true}
use Rattle.pf_geom.specs.declared.Point.{Point}
use Rattle.pf_geom.specs.Plane.{IsInRange, orient_of}
use Rattle.pf_geom.proofs.Orientations.{orient_of-swapped, orient_of-turned}
use Rattle.pf_model.specs.declared.Tri.{Tri}
use Rattle.pf_model.specs.declared.Site.{Site}
use Rattle.pf_model.specs.declared.BuildErr.{BuildErr}
use Rattle.pf_model.specs.declared.BuildErr.TheVariants.{BadNode, Flat, EdgeTwice}
use Rattle.pf_model.specs.Rising.{IsRising}
use Rattle.pf_model.specs.Clauses.{when, when_some, first_of}
use Rattle.pf_model.specs.Mesh.{Undivided, DirectedEdge, directed_edges_in, tri_of, tri_lt, has_edge, has_corner, side_of, point_of, place_of, turn_at}
use Rattle.pf_model.specs.Conforming.{IsConforming, IsProper, IsLive, HasDefault}
use Rattle.pf_model.specs.Build.{point_at, listed_turn, turned_left, build_clauses, first_fault, sites_from, default_band, mesh_with, built}
use Rattle.pf_model.proofs.Members.{nowhere, here, there, cases, filter-out, insert_all_by-new, insert_all_by-cases}
use Rattle.pf_model.proofs.RisingLemmas.{rising-nil, rising-cons, rising-filter, rising-insert_all_by}
use Rattle.pf_model.proofs.Triangles.{has_edge-means, side_of-none, tri_of-owner, tri_of-corner, tri_lt-order}
use Rattle.pf_model.proofs.Turns.{distinct_from_turn, turn_at-tri_of}
use Rattle.pf_model.proofs.ReadClauses.{when-none, first_of-none, is_some-none}
use Rattle.pf_model.proofs.Kept.{any-from, any-means}
use Rattle.pf_model.proofs.Replacement.{Parts, SharesNone, shares_none-once, shares_none-apart}
use Rattle.pf_model.proofs.FlipKeeps.{proper_tri}
use Rattle.pf_model.proofs.Totals.{map-means}

find-none : {X : Type 0} (p : X → Bool) (xs : List X) (x : X) → find p xs ≡ None → Contains xs x → p x ≡ false
find-none p [] x h c = absurd (nowhere x c)
find-none {X} p (y ∷ ys) x h c = go (p y) refl h (cases x y ys c) (λ e k. find-none p ys x e k)
  where
    go : (b : Bool) → p y ≡ b → cond b (Some y) (find p ys) ≡ None → (x ≡ y) ⊎ Contains ys x → (find p ys ≡ None → Contains ys x → p x ≡ false) → p x ≡ false
    go true e f k ih = absurd (let z : Some y ≡ None = f in cc)
    go false e f (inl k) ih = ap p k ∙ e
    go false e f (inr k) ih = ih f k

when_some-none : {X Y : Type 0} (o : Option X) (f : X → Y) → when_some o f ≡ None → o ≡ None
when_some-none None f h = refl
when_some-none (Some x) f h = absurd (let e : Some (f x) ≡ None = h in cc)

-- what no fault of a triangle says
pub record HasNoFault (points : List Point) (earlier : List Tri) (t : List ℕ) : Type 0 where
  pub corners : (n : ℕ) → Contains t n → n < length points
  pub turns : listed_turn points t ≢ pos 0
  pub edges : (s : Tri) → Contains earlier s → Parts s (turned_left points t)

-- an edge of a triangle stands in its list
edge_listed : (p q : ℕ) (t : Tri) → has_edge p q t ≡ true → Contains (directed_edges_in t) record { from = p; to = q }
edge_listed p q t h = go (has_edge-means p q t h).is
  where
    w1 : DirectedEdge
    w1 = record { from = t.a; to = t.b }

    w2 : DirectedEdge
    w2 = record { from = t.b; to = t.c }

    w3 : DirectedEdge
    w3 = record { from = t.c; to = t.a }

    at : (w : DirectedEdge) → w.from ≡ p → w.to ≡ q → Contains (w1 ∷ w2 ∷ w3 ∷ []) w → Contains (w1 ∷ w2 ∷ w3 ∷ []) record { from = p; to = q }
    at w e f k = subst (λ x. Contains (w1 ∷ w2 ∷ w3 ∷ []) x) (λ i. record { from = e i; to = f i }) k

    go : ((t.a ≡ p) × (t.b ≡ q)) ⊎ (((t.b ≡ p) × (t.c ≡ q)) ⊎ ((t.c ≡ p) × (t.a ≡ q))) → Contains (directed_edges_in t) record { from = p; to = q }
    go (inl x) = at w1 x.0 x.1 (here w1 (w2 ∷ w3 ∷ []))
    go (inr (inl x)) = at w2 x.0 x.1 (there w2 w1 (w2 ∷ w3 ∷ []) (here w2 (w3 ∷ [])))
    go (inr (inr x)) = at w3 x.0 x.1 (there w3 w1 (w2 ∷ w3 ∷ []) (there w3 w2 (w3 ∷ []) (here w3 [])))

no_fault : (points : List Point) (earlier : List Tri) (k : ℕ) (t : List ℕ) (rest : Option BuildErr) → first_of (build_clauses points earlier k t ++ rest ∷ []) ≡ None → HasNoFault points earlier t × (rest ≡ None)
no_fault points earlier k t rest h =
    let one = first_of-none (when_some (find (λ n. not (nat_lt n (length points))) t) (λ n. BadNode k n)) _ h in
    let two = first_of-none (when (int_eq (listed_turn points t) (pos 0)) (Flat k)) _ one.1 in
    let three = first_of-none (when_some (find (λ e. is_some (side_of earlier e.from e.to)) (directed_edges_in (turned_left points t))) (λ e. EdgeTwice e.from e.to)) _ two.1 in
    let four = first_of-none rest [] three.1 in (
      record {
        corners = λ n c. below n (find-none (λ n. not (nat_lt n (length points))) t n (when_some-none _ _ one.0) c);
        turns = λ e. differs (when-none _ _ two.0) e;
        edges = λ s c p q ks kt. meets s c p q ks (find-none (λ e. is_some (side_of earlier e.from e.to)) (directed_edges_in (turned_left points t)) record { from = p; to = q } (when_some-none _ _ three.0) (edge_listed p q (turned_left points t) kt));
      },
      four.0,
    )
  where
    below : (n : ℕ) → not (nat_lt n (length points)) ≡ false → n < length points
    below n e = grind (arith, nat_tests)

    differs : int_eq (listed_turn points t) (pos 0) ≡ false → listed_turn points t ≡ pos 0 → ⊥
    differs e f = let w : true ≡ false = sym ((Decides-int_eq (listed_turn points t) (pos 0)).1 f) ∙ e in absurd (cc)

    meets : (s : Tri) → Contains earlier s → (p q : ℕ) → has_edge p q s ≡ true → is_some (side_of earlier p q) ≡ false → ⊥
    meets s c p q ks e = let n = side_of-none earlier p q (is_some-none (side_of earlier p q) e) s c in let w : true ≡ false = sym ks ∙ n in absurd (cc)

-- where none of the triangles has a fault, no two share a directed edge, and none shares one with those before
pub record HaveNoFault (points : List Point) (earlier : List Tri) (ts : List (List ℕ)) : Type 0 where
  pub each : (t : List ℕ) → Contains ts t → ((n : ℕ) → Contains t n → n < length points) × (listed_turn points t ≢ pos 0)
  pub before : (s z : Tri) → Contains earlier s → Contains (map (turned_left points) ts) z → Parts s z
  pub parts : SharesNone (map (turned_left points) ts)

pub no_faults : (points : List Point) (earlier : List Tri) (k : ℕ) (ts : List (List ℕ)) → first_fault points earlier k ts ≡ None → HaveNoFault points earlier ts
no_faults points earlier k [] h = record { each = λ t c. absurd (nowhere t c); before = λ s z c d. absurd (nowhere z d); parts = tt }
no_faults points earlier k (t ∷ ts) h = go (no_fault points earlier k t (first_fault points (turned_left points t ∷ earlier) (suc k) ts) h) (λ e. no_faults points (turned_left points t ∷ earlier) (suc k) ts e)
  where
    go : HasNoFault points earlier t × (first_fault points (turned_left points t ∷ earlier) (suc k) ts ≡ None) → (first_fault points (turned_left points t ∷ earlier) (suc k) ts ≡ None → HaveNoFault points (turned_left points t ∷ earlier) ts) → HaveNoFault points earlier (t ∷ ts)
    go f more =
        let ih = more f.1 in
        record {
          each = λ x c. elim (cases x t ts c) [ inl e ↦ subst (λ w. ((n : ℕ) → Contains w n → n < length points) × (listed_turn points w ≢ pos 0)) (sym e) (f.0.corners, f.0.turns) | inr r ↦ ih.each x r ];
          before = λ s z c d. elim (cases z (turned_left points t) (map (turned_left points) ts) d) [ inl e ↦ subst (λ w. Parts s w) (sym e) (f.0.edges s c) | inr r ↦ ih.before s z (there s (turned_left points t) earlier c) r ];
          parts = ((λ z d. ih.before (turned_left points t) z (here (turned_left points t) earlier) d), ih.parts);
        }

same-test : (a b : ℕ) → a ≡ b → (a == b) ≡ true
same-test a b e = grind (arith, nat_tests)

other-test : (a b : ℕ) → a ≢ b → (a == b) ≡ false
other-test a b n = grind (arith, nat_tests)

-- the point of a name that passes a test, among the sites that do
site_found : (used : ℕ → Bool) (points : List Point) (k n name : ℕ) → name ≡ k + n → n < length points → used name ≡ true → point_of (filter (λ s. used s.name) (sites_from k points)) name ≡ Some (point_at points n)
site_found used [] k n name e l u = absurd (omega arith)
site_found used (p ∷ ps) k zero name e l u =
    let here' : k ≡ name = omega arith in
    let first = subst (λ w. used w ≡ true) (sym here') u in
    ap (λ b. point_of (cond b (record { name = k; at = p } ∷ filter (λ s. used s.name) (sites_from (suc k) ps)) (filter (λ s. used s.name) (sites_from (suc k) ps))) name) first
    ∙ ap (λ b. cond b (Some p) (point_of (filter (λ s. used s.name) (sites_from (suc k) ps)) name)) (same-test k name here')
site_found used (p ∷ ps) k (suc n) name e l u = go (used k) (site_found used ps (suc k) n name (omega arith) (let l' : suc n < suc (length ps) = l in omega arith) u)
  where
    apart : k ≢ name
    apart = omega arith

    go : (b : Bool) → point_of (filter (λ s. used s.name) (sites_from (suc k) ps)) name ≡ Some (point_at ps n) → point_of (cond b (record { name = k; at = p } ∷ filter (λ s. used s.name) (sites_from (suc k) ps)) (filter (λ s. used s.name) (sites_from (suc k) ps))) name ≡ Some (point_at ps n)
    go true ih = ap (λ b. cond b (Some p) (point_of (filter (λ s. used s.name) (sites_from (suc k) ps)) name)) (other-test k name apart) ∙ ih
    go false ih = ih

-- a name that has a point among the sites that pass a test passes it
site_used : (used : ℕ → Bool) (ss : List Site) (name : ℕ) → is_some (point_of (filter (λ s. used s.name) ss) name) ≡ true → used name ≡ true
site_used used [] name h = absurd (let w : false ≡ true = h in cc)
site_used used (s ∷ ss) name h = go (used s.name) refl h (λ k. site_used used ss name k)
  where
    at : (b : Bool) → (s.name == name) ≡ b → used s.name ≡ true → is_some (cond b (Some s.at) (point_of (filter (λ s. used s.name) ss) name)) ≡ true → (is_some (point_of (filter (λ s. used s.name) ss) name) ≡ true → used name ≡ true) → used name ≡ true
    at true e u k ih = subst (λ w. used w ≡ true) (eqb-true s.name name e) u
    at false e u k ih = ih k

    go : (b : Bool) → used s.name ≡ b → is_some (point_of (cond b (s ∷ filter (λ s. used s.name) ss) (filter (λ s. used s.name) ss)) name) ≡ true → (is_some (point_of (filter (λ s. used s.name) ss) name) ≡ true → used name ≡ true) → used name ≡ true
    go true e k ih = at (s.name == name) refl e k ih
    go false e k ih = ih k

-- sites named from k on are named at least k
sites_from-above : (k : ℕ) (points : List Point) (s : Site) → Contains (sites_from k points) s → (k ≤ s.name) × Contains points s.at
sites_from-above k [] s h = absurd (nowhere s h)
sites_from-above k (p ∷ ps) s h = go (cases s record { name = k; at = p } (sites_from (suc k) ps) h) (λ r. sites_from-above (suc k) ps s r)
  where
    go : (s ≡ record { name = k; at = p }) ⊎ Contains (sites_from (suc k) ps) s → (Contains (sites_from (suc k) ps) s → (suc k ≤ s.name) × Contains ps s.at) → (k ≤ s.name) × Contains (p ∷ ps) s.at
    go (inl e) ih = let n = ap (λ w. w.name) e in let a = ap (λ w. w.at) e in (omega arith, subst (λ w. Contains (w ∷ ps) s.at) a (here s.at ps))
    go (inr r) ih = let i = ih r in let l = i.0 in (omega arith, there s.at p ps i.1)

sites_from-rising : (k : ℕ) (points : List Point) → IsRising (λ r s. nat_lt r.name s.name) (sites_from k points)
sites_from-rising k [] = rising-nil (λ r s. nat_lt r.name s.name)
sites_from-rising k (p ∷ ps) = rising-cons (λ r s. nat_lt r.name s.name) record { name = k; at = p } (sites_from (suc k) ps) (λ z h. above z (sites_from-above (suc k) ps z h).0) (sites_from-rising (suc k) ps)
  where
    above : (z : Site) → suc k ≤ z.name → nat_lt k z.name ≡ true
    above z l = grind (arith, nat_tests)

rising_names : (ss : List Site) → IsRising (λ r s. nat_lt r.name s.name) ss → AllPairs (λ r s. r.name < s.name) ss
rising_names ss up i j d l k = means _ _ (up i j d l k)
  where
    means : (a b : ℕ) → nat_lt a b ≡ true → a < b
    means a b h = grind (arith, nat_tests)

default_holds : HasDefault (default_band ∷ [])
default_holds p h = let x = h.x in let y = h.y in let xl = x.low in let xh = x.high in let yl = y.low in let yh = y.high in grind (arith, ints)

-- an orientation that is not zero is positive or negative
left_or_right : (z : ℤ) → z ≢ pos 0 → ((int_lt (pos 0) z ≡ true) × (pos 0 <ℤ z)) ⊎ ((int_lt (pos 0) z ≡ false) × (z <ℤ pos 0))
left_or_right (pos zero) n = absurd (n refl)
left_or_right (pos (suc k)) n = inl (grind (arith, ints), omega (arith, ints))
left_or_right (negsuc k) n = inr (refl, omega (arith, ints))

three_long : (t : List ℕ) → length t ≡ 3 → (k : ℕ) → k < 3 → Contains t (slice_index t k)
three_long t e k l = Contains-get_or t k 0 (omega arith)

module _ (points : List Point) (tris : List (List ℕ)) (in_range : (p : Point) → Contains points p → IsInRange p) (three : (t : List ℕ) → Contains tris t → length t ≡ 3) (clean : first_fault points [] 0 tris ≡ None) where
  abbrev new : List Tri
  new = map (turned_left points) tris

  abbrev m : Undivided
  m = mesh_with points new

  facts : HaveNoFault points [] tris
  facts = no_faults points [] 0 tris clean

  listed : (t : Tri) → Contains m.tris t → Contains new t
  listed t h = elim (insert_all_by-cases tri_lt t new [] h) [ inl a ↦ a | inr n ↦ absurd (nowhere t n) ]

  standing : (t : Tri) → Contains new t → Contains m.tris t
  standing t h = insert_all_by-new tri_lt t new [] h

  -- a corner of a triangle is live, at its point
  corner_found : (n : ℕ) (t : Tri) → n < length points → Contains new t → has_corner n t ≡ true → point_of m.sites n ≡ Some (point_at points n)
  corner_found n t l h c = site_found (λ k. list_any (has_corner k) new) points 0 n n (omega arith) l (any-from (has_corner n) t new h c)

  -- what is known of a triangle, as three corners in a turn
  record IsTurned (t : Tri) : Type 0 where
    p : ℕ
    q : ℕ
    z : ℕ
    is : t ≡ tri_of p q z 0
    below_p : p < length points
    below_q : q < length points
    below_z : z < length points
    left : pos 0 <ℤ orient_of (point_at points p) (point_at points q) (point_at points z)

  turned : (x : List ℕ) → Contains tris x → IsTurned (turned_left points x)
  turned x h = go (left_or_right (listed_turn points x) (facts.each x h).1)
    where
      below : (k : ℕ) → k < 3 → slice_index x k < length points
      below k l = (facts.each x h).0 (slice_index x k) (three_long x (three x h) k l)

      go : ((int_lt (pos 0) (listed_turn points x) ≡ true) × (pos 0 <ℤ listed_turn points x)) ⊎ ((int_lt (pos 0) (listed_turn points x) ≡ false) × (listed_turn points x <ℤ pos 0)) → IsTurned (turned_left points x)
      go (inl e) =
          record {
            p = slice_index x 0;
            q = slice_index x 1;
            z = slice_index x 2;
            is = ap (λ b. cond b (tri_of (slice_index x 0) (slice_index x 1) (slice_index x 2) 0) (tri_of (slice_index x 0) (slice_index x 2) (slice_index x 1) 0)) e.0;
            below_p = below 0 (omega arith);
            below_q = below 1 (omega arith);
            below_z = below 2 (omega arith);
            left = e.1;
          }
      go (inr e) =
          record {
            p = slice_index x 0;
            q = slice_index x 2;
            z = slice_index x 1;
            is = ap (λ b. cond b (tri_of (slice_index x 0) (slice_index x 1) (slice_index x 2) 0) (tri_of (slice_index x 0) (slice_index x 2) (slice_index x 1) 0)) e.0;
            below_p = below 0 (omega arith);
            below_q = below 2 (omega arith);
            below_z = below 1 (omega arith);
            left = mirrored (point_at points (slice_index x 0)) (point_at points (slice_index x 1)) (point_at points (slice_index x 2)) e.1;
          }
        where
          mirrored : (u v w : Point) → orient_of u v w <ℤ pos 0 → pos 0 <ℤ orient_of u w v
          mirrored u v w k = let i = orient_of-swapped u v w in let j = orient_of-turned u w v in let j2 = orient_of-turned w v u in (let j3 = orient_of-turned v u w in omega (arith, ints, i, j, j2, j3, k))

  turned_at : (t : Tri) → Contains new t → IsTurned t
  turned_at t h = let r = map-means (turned_left points) tris t h in subst (λ w. IsTurned w) r.2 (turned r.0 r.1)

  -- the triangle is good
  pub record IsSound (t : Tri) : Type 0 where
    pub proper : IsProper m t
    pub positive : pos 0 <ℤ turn_at m t.a t.b t.c
    pub owner : t.owner < 1

  sound : (t : Tri) → Contains new t → IsSound t
  sound t h = go (turned_at t h)
    where
      go : IsTurned t → IsSound t
      go r = subst (λ w. IsSound w) (sym r.is) record {
        proper = proper_tri m r.p r.q r.z 0 (ap is_some found_p) (ap is_some found_q) (ap is_some found_z) (distinct_from_turn m r.p r.q r.z left);
        positive = subst (λ w. pos 0 <ℤ w) (sym (turn_at-tri_of m r.p r.q r.z 0)) left;
        owner = subst (λ w. w < 1) (sym (tri_of-owner r.p r.q r.z 0)) (omega arith);
      }
        where
          found : (n : ℕ) → n < length points → (r.p ≡ n) ⊎ ((r.q ≡ n) ⊎ (r.z ≡ n)) → point_of m.sites n ≡ Some (point_at points n)
          found n l c = corner_found n t l h (subst (λ w. has_corner n w ≡ true) (sym r.is) (tri_of-corner n r.p r.q r.z 0 c))

          found_p : point_of m.sites r.p ≡ Some (point_at points r.p)
          found_p = found r.p r.below_p (inl refl)

          found_q : point_of m.sites r.q ≡ Some (point_at points r.q)
          found_q = found r.q r.below_q (inr (inl refl))

          found_z : point_of m.sites r.z ≡ Some (point_at points r.z)
          found_z = found r.z r.below_z (inr (inr refl))

          place : (n : ℕ) → point_of m.sites n ≡ Some (point_at points n) → place_of m n ≡ point_at points n
          place n e = ap (λ o. unwrap_or o record { x = pos 0; y = pos 0 }) e

          left : pos 0 <ℤ turn_at m r.p r.q r.z
          left = rw (place r.p found_p, place r.q found_q, place r.z found_z) r.left

  pub built_conforms : IsConforming m
  built_conforms = record {
    proper = λ t h. (sound t (listed t h)).proper;
    positive = λ t h. (sound t (listed t h)).positive;
    edges_once = λ s t p q hs ht ks kt. shares_none-once new facts.parts s t p q (listed s hs) (listed t ht) ks kt;
    used = used;
    owned = λ t h. (sound t (listed t h)).owner;
    in_range = λ s h. in_range s.at (sites_from-above 0 points s (filter-out (λ r. list_any (has_corner r.name) new) s (sites_from 0 points) h).0).1;
    default = default_holds;
    sites_rise = rising_names m.sites (rising-filter (λ r s. nat_lt r.name s.name) (λ s. list_any (has_corner s.name) new) (sites_from 0 points) (sites_from-rising 0 points));
    tris_rise = rising-insert_all_by tri_lt tri_lt-order new [] (shares_none-apart new facts.parts) (λ x h z k. absurd (nowhere z k)) (rising-nil tri_lt);
  }
    where
      used : (n : ℕ) → IsLive m n → list_any (has_corner n) m.tris ≡ true
      used n l =
          let r = any-means (has_corner n) new (site_used (λ k. list_any (has_corner k) new) (sites_from 0 points) n l) in
          any-from (has_corner n) r.0 m.tris (standing r.0 r.1) r.2

-- what is built is conforming
pub built-conforms : (points : List Point) (tris : List (List ℕ)) (m : Undivided) → ((p : Point) → Contains points p → IsInRange p) → ((t : List ℕ) → Contains tris t → length t ≡ 3) → built points tris ≡ Ok m → IsConforming m
built-conforms points tris m in_range three h = go (first_fault points [] 0 tris) refl h
  where
    ok_same : (x y : Undivided) → (let a : Result Undivided BuildErr = Ok x in a ≡ Ok y) → x ≡ y
    ok_same x y e = cc

    go : (f : Option BuildErr) → first_fault points [] 0 tris ≡ f → (let r : Result Undivided BuildErr = elim f [ Some fault ↦ Err fault | None ↦ Ok (mesh_with points (map (turned_left points) tris)) ] in r ≡ Ok m) → IsConforming m
    go (Some fault) e k = absurd (let a : Result Undivided BuildErr = Err fault in let w : a ≡ Ok m = k in cc)
    go None e k = subst (λ w. IsConforming w) (ok_same _ _ k) (built_conforms points tris in_range three e)
