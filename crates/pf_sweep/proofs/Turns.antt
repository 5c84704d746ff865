-- The triangles as their corners have them: those at a node are its spokes, and no two have the same node and right.
use Rattle.std.proofs.Common.{◌≡◌, ◌≢◌, ℕ, ◌+◌, ◌<◌, ◌≤◌, List, [], ◌∷◌, ◌++◌, length, get_or, refl, sym, ◌∙◌, ap, subst, Bool, true, false, cond, ◌==◌, ◌&&◌, ◌||◌, ◌⊎◌, inl, inr, arith, Option, Some, None}
use Rattle.std.specs.Prelude.{All, Contains, filter, filter_map, map, nat_lt}
use Rattle.std.specs.List.{IsDistinct, cons_option}
use Rattle.std.specs.List.Sorted.{IsPermutation}
use Rattle.std.proofs.lemmas.Bool.Decides.{nat_tests}
use Rattle.std.proofs.lemmas.List.{get_or-map, length-map}
use Rattle.std.proofs.lemmas.Map.Keys.{IsDistinct-from_apart, IsDistinct-IsPermutation, apart_from_distinct}
use Rattle.std.proofs.lemmas.List.Elements.{Contains-get_or}
use Rattle.pf_geom.specs.declared.Point.{Point}
use Rattle.pf_geom.specs.Plane.{IsInRange}
use Rattle.pf_model.specs.declared.Tri.{Tri}
use Rattle.pf_model.specs.declared.Spoke.{Spoke}
use Rattle.pf_model.specs.Rising.{AreDifferent, IsRising}
use Rattle.pf_model.specs.Mesh.{Undivided, DirectedEdge, directed_edges_of, place_of}
use Rattle.pf_model.specs.Build.{point_at}
use Rattle.pf_model.specs.Stars.{spoke_of}
use Rattle.pf_model.proofs.Members.{here, there}
use Rattle.pf_model.proofs.RisingLemmas.{IsStrictOrder}
use Rattle.pf_model.proofs.Totals.{map-means}
use Rattle.pf_model.proofs.Sorted.{different-at, rising-steps}
use Rattle.pf_model.proofs.Triangles.{IsLeastFirst}
use Rattle.pf_model.proofs.EdgeSum.{AreSound, directed_edges_of-different}
use Rattle.pf_model.proofs.Exchange.{bool_cases}
use Rattle.pf_spokes.specs.Spokes.{HasSpots}
use Rattle.pf_sweep.proofs.PointsByName.{point-in_range}
use Rattle.pf_sweep.specs.declared.corners.Corner.{Corner}
use Rattle.pf_sweep.specs.Sweep.{turns_of, corners_of, corner_at, spoke_by, IsNotAfter, AreInOrder}

-- the corners at n are those that the triangles have there
pub corners-at : (n : ℕ) (ts : List Tri) → ((t : Tri) → Contains ts t → IsLeastFirst t) → filter (λ c. c.node == n) (corners_of ts) ≡ filter_map (corner_at n) ts
corners-at n [] least = refl
corners-at n (t ∷ ts) least = go (t.a == n) (t.b == n) (t.c == n) refl refl refl (corners-at n ts (λ s h. least s (there s t ts h)))
  where
    c1 : Corner
    c1 = record { node = t.a; right = t.b; left = t.c; owner = t.owner }

    c2 : Corner
    c2 = record { node = t.b; right = t.c; left = t.a; owner = t.owner }

    c3 : Corner
    c3 = record { node = t.c; right = t.a; left = t.b; owner = t.owner }

    two : (x y k : ℕ) → (x ≡ y → ⊥) → (x == k) ≡ true → (y == k) ≡ true → ⊥
    two x y k d e f = grind (arith, nat_tests)

    l : IsLeastFirst t
    l = least t (here t ts)

    ab : t.a ≡ t.b → ⊥
    ab e = let x = l.least in omega arith

    ac : t.a ≡ t.c → ⊥
    ac e = let x = l.least' in omega arith

    go : (a b c : Bool) → (t.a == n) ≡ a → (t.b == n) ≡ b → (t.c == n) ≡ c → filter (λ c. c.node == n) (corners_of ts) ≡ filter_map (corner_at n) ts
        → (let f : List Corner = filter (λ c. c.node == n) (corners_of ts) in
        let g : List Corner = cond c (c3 ∷ f) f in
        let h : List Corner = cond b (c2 ∷ g) g in
        cond a (c1 ∷ h) h ≡ cons_option (cond a (Some c1) (cond b (Some c2) (cond c (Some c3) None))) (filter_map (corner_at n) ts))
    go true true c ea eb ec ih = absurd (two t.a t.b n ab ea eb)
    go true false true ea eb ec ih = absurd (two t.a t.c n ac ea ec)
    go false true true ea eb ec ih = absurd (two t.b t.c n l.apart eb ec)
    go true false false ea eb ec ih = ap (λ x. c1 ∷ x) ih
    go false true false ea eb ec ih = ap (λ x. c2 ∷ x) ih
    go false false true ea eb ec ih = ap (λ x. c3 ∷ x) ih
    go false false false ea eb ec ih = ih

-- and, with the points, the node's spokes
pub spokes-at : (m : Undivided) (points : List Point) (n : ℕ) → ((k : ℕ) → point_at points k ≡ place_of m k) → (ts : List Tri) → map (spoke_by points) (filter_map (corner_at n) ts) ≡ filter_map (spoke_of m n) ts
spokes-at m points n p [] = refl
spokes-at m points n p (t ∷ ts) = go (t.a == n) (t.b == n) (t.c == n) (spokes-at m points n p ts)
  where
    c1 : Corner
    c1 = record { node = t.a; right = t.b; left = t.c; owner = t.owner }

    c2 : Corner
    c2 = record { node = t.b; right = t.c; left = t.a; owner = t.owner }

    c3 : Corner
    c3 = record { node = t.c; right = t.a; left = t.b; owner = t.owner }

    spoke : ℕ → ℕ → Spoke
    spoke r l = record { right = r; right_at = place_of m r; left = l; left_at = place_of m l; owner = t.owner }

    is : (k r l : ℕ) → spoke_by points record { node = k; right = r; left = l; owner = t.owner } ≡ spoke r l
    is k r l = λ i. record { right = r; right_at = p r i; left = l; left_at = p l i; owner = t.owner }

    go : (a b c : Bool) → map (spoke_by points) (filter_map (corner_at n) ts) ≡ filter_map (spoke_of m n) ts
        → map (spoke_by points) (cons_option (cond a (Some c1) (cond b (Some c2) (cond c (Some c3) None))) (filter_map (corner_at n) ts))
        ≡ cons_option (cond a (Some (spoke t.b t.c)) (cond b (Some (spoke t.c t.a)) (cond c (Some (spoke t.a t.b)) None))) (filter_map (spoke_of m n) ts)
    go true b c ih = λ i. is t.a t.b t.c i ∷ ih i
    go false true c ih = λ i. is t.b t.c t.a i ∷ ih i
    go false false true ih = λ i. is t.c t.a t.b i ∷ ih i
    go false false false ih = ih

-- points in range give spokes in range
pub spots-by : (points : List Point) (cs : List Corner) → All IsInRange points → All HasSpots (map (spoke_by points) cs)
spots-by points cs all k d within =
    let r = map-means (spoke_by points) cs (get_or (map (spoke_by points) cs) k d) (Contains-get_or (map (spoke_by points) cs) k d within) in
    subst (λ s. HasSpots s) r.2 record { right = point-in_range points r.0.right all; left = point-in_range points r.0.left all }

-- the order by node and then by right
abbrev pub corner_lt : Corner → Corner → Bool
corner_lt c d = nat_lt c.node d.node || (c.node == d.node && nat_lt c.right d.right)

pub corner_lt-order : IsStrictOrder corner_lt
corner_lt-order = record { irreflexive = λ c. none c.node c.right; transitive = λ c d e h k. on c.node c.right d.node d.right e.node e.right h k }
  where
    none : (a b : ℕ) → (nat_lt a a || (a == a && nat_lt b b)) ≡ false
    none a b = grind (arith, nat_tests)

    on : (a x b y c z : ℕ) → (nat_lt a b || (a == b && nat_lt x y)) ≡ true → (nat_lt b c || (b == c && nat_lt y z)) ≡ true → (nat_lt a c || (a == c && nat_lt x z)) ≡ true
    on a x b y c z h k = grind (arith, nat_tests)

-- they have the same node and right
abbrev corner_eq : Corner → Corner → Bool
corner_eq c d = c.node == d.node && c.right == d.right

eq_flips : (c d : Corner) → corner_eq c d ≡ corner_eq d c
eq_flips c d = go c.node d.node c.right d.right
  where
    flip : (a b : ℕ) → (a == b) ≡ (b == a)
    flip a b = grind (arith, nat_tests)

    go : (a b x y : ℕ) → (a == b && x == y) ≡ (b == a && y == x)
    go a b x y = λ i. flip a b i && flip x y i

-- a corner as a directed edge
abbrev edge_in : Corner → DirectedEdge
edge_in c = record { from = c.node; to = c.right }

edges-are : (ts : List Tri) → map edge_in (corners_of ts) ≡ directed_edges_of ts
edges-are [] = refl
edges-are (t ∷ ts) = ap (λ es. record { from = t.a; to = t.b } ∷ record { from = t.b; to = t.c } ∷ record { from = t.c; to = t.a } ∷ es) (edges-are ts)

same_edge : (c d : Corner) → corner_eq c d ≡ true → edge_in c ≡ edge_in d
same_edge c d e = let k = parts c.node d.node c.right d.right e in λ i. record { from = k.0 i; to = k.1 i }
  where
    parts : (a b x y : ℕ) → (a == b && x == y) ≡ true → (a ≡ b) × (x ≡ y)
    parts a b x y h = (grind (arith, nat_tests), grind (arith, nat_tests))

corners-distinct : (ts : List Tri) → AreSound ts → IsDistinct corner_eq (corners_of ts)
corners-distinct ts s = IsDistinct-from_apart corner_eq (corners_of ts) apart
  where
    es : List DirectedEdge
    es = map edge_in (corners_of ts)

    different : AreDifferent es
    different = subst (λ l. AreDifferent l) (sym (edges-are ts)) (directed_edges_of-different ts s)

    apart : (i j : ℕ) (d : Corner) → i < j → j < length (corners_of ts) → corner_eq (get_or (corners_of ts) i d) (get_or (corners_of ts) j d) ≡ false
    apart i j d l k =
        let few = length-map (corners_of ts) edge_in in
        let a = get_or-map edge_in (corners_of ts) i d (edge_in d) (omega (arith, l, k)) in
        let b = get_or-map edge_in (corners_of ts) j d (edge_in d) k in
        elim (bool_cases (corner_eq (get_or (corners_of ts) i d) (get_or (corners_of ts) j d))) [
          | inl e ↦ absurd (different-at es different i j (edge_in d) l (omega (arith, few, k)) (a ∙ (same_edge (get_or (corners_of ts) i d) (get_or (corners_of ts) j d) e ∙ sym b)))
          | inr e ↦ e
        ]

steps_up : (c d : Corner) → IsNotAfter c d → corner_eq c d ≡ false → corner_lt c d ≡ true
steps_up c d n e = go c.node c.right d.node d.right n e
  where
    go : (a x b y : ℕ) → (a < b) ⊎ ((a ≡ b) × (x ≤ y)) → (a == b && x == y) ≡ false → (nat_lt a b || (a == b && nat_lt x y)) ≡ true
    go a x b y (inl l) e = grind (arith, nat_tests)
    go a x b y (inr p) e = let q = p.0 in let r = p.1 in grind (arith, nat_tests)

-- once sorted they rise
pub corners-rise : (ts : List Tri) (cs : List Corner) → AreSound ts → IsPermutation (corners_of ts) cs → AreInOrder cs → IsRising corner_lt cs
corners-rise ts cs s p order =
    rising-steps corner_lt corner_lt-order cs
    (λ k d l. steps_up (get_or cs k d) (get_or cs (k + 1) d) (order k d l) (apart_from_distinct corner_eq cs k (k + 1) d (IsDistinct-IsPermutation corner_eq eq_flips (corners_of ts) cs p (corners-distinct ts s)) (omega arith) l))
