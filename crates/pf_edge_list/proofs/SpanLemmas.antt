-- The edges of the triangles: gathered triangle by triangle, different, and sorted by names.
use Rattle.std.proofs.Common.{◌≡◌, ◌≢◌, ℕ, zero, suc, ◌+◌, ◌<◌, ◌≤◌, List, [], ◌∷◌, ◌++◌, append_assoc, length, drop, get_or, refl, sym, ◌∙◌, ap, subst, Bool, true, false, cond, ◌&&◌, ◌||◌, ◌==◌, ◌⊎◌, inl, inr, arith}
use Rattle.std.specs.Prelude.{Contains, filter, flat_map, map, min, max, not, Option, Some, None, is_some, nat_lt}
use Rattle.std.specs.List.{IsDistinct}
use Rattle.std.specs.Ordering.{is_lt, nat_cmp, ordering_then}
use Rattle.std.specs.List.Sorted.{IsPermutation}
use Rattle.std.proofs.lemmas.Bool.Decides.{nat_tests}
use Rattle.std.proofs.lemmas.List.{drop_more, get_or-map, length-map}
use Rattle.std.proofs.lemmas.List.Sorted.{Contains-permutation, IsPermutation-append_comm, IsPermutation-append_left, IsPermutation-append_right, IsPermutation-refl, IsPermutation-sym, IsPermutation-trans}
use Rattle.std.proofs.lemmas.List.Elements.{Contains-get_or}
use Rattle.std.proofs.lemmas.Map.Keys.{IsDistinct-from_apart, IsDistinct-IsPermutation, apart_from_distinct}
use Rattle.pf_model.specs.declared.Tri.{Tri}
use Rattle.pf_model.specs.Rising.{AreDifferent, IsRising, sorted_by}
use Rattle.pf_model.specs.Mesh.{Undivided, DirectedEdge, directed_edges_in, directed_edges_of, side_of}
use Rattle.pf_model.specs.Lengths.{Edge, edge_of}
use Rattle.pf_model.specs.Sums.{edge_lt, is_counted}
use Rattle.pf_model.specs.Conforming.{IsConforming}
use Rattle.pf_model.proofs.Members.{nowhere, here, there, filter-out, insert_all_by-new, insert_all_by-cases}
use Rattle.pf_model.proofs.RisingLemmas.{IsStrictOrder, rising-same}
use Rattle.pf_model.proofs.Totals.{Compares, different-filter, map-means, sorted-rises}
use Rattle.pf_model.proofs.Triangles.{side_of-none}
use Rattle.pf_model.proofs.EdgeSum.{conforming-sound, directed_edges_of-different, directed_edges_of-means}
use Rattle.pf_edge_list.specs.declared.edges.Corner.{Corner}
use Rattle.pf_edge_list.specs.declared.edges.Corner.TheVariants.{First, Second, Third}
use Rattle.pf_edge_list.specs.declared.edges.Sided.{Sided}
use Rattle.pf_edge_list.specs.Edges.{counted_from, counted_in, edge_from, sided_edge}
use Rattle.pf_model.proofs.Exchange.{bool_cases}

-- the edges of the triangles that are left

counted-append : (ts : List Tri) (es fs : List DirectedEdge) → counted_in ts (es ++ fs) ≡ counted_in ts es ++ counted_in ts fs
counted-append ts [] fs = refl
counted-append ts (e ∷ es) fs = go (is_counted ts e) (counted-append ts es fs)
  where
    edge : DirectedEdge → Edge
    edge d = edge_of d.from d.to

    go : (b : Bool) → counted_in ts (es ++ fs) ≡ counted_in ts es ++ counted_in ts fs → map edge (cond b (e ∷ filter (is_counted ts) (es ++ fs)) (filter (is_counted ts) (es ++ fs))) ≡ map edge (cond b (e ∷ filter (is_counted ts) es) (filter (is_counted ts) es)) ++ counted_in ts fs
    go true ih = ap (λ l. edge e ∷ l) ih
    go false ih = ih

-- one triangle's edge more
pub counted_from-more : (ts us : List Tri) (corner : Corner) (i : ℕ) (t : Tri) → i < length us → counted_from ts corner (drop i us) ≡ counted_in ts (edge_from corner (get_or us i t) ∷ []) ++ counted_from ts corner (drop (i + 1) us)
counted_from-more ts us corner i t l = ap (counted_from ts corner) (drop_more us i t l)

-- the edges of each triangle, by their corners
abbrev counted_by : List Tri → Tri → List Edge
counted_by ts t = counted_in ts (edge_from First t ∷ []) ++ (counted_in ts (edge_from Second t ∷ []) ++ counted_in ts (edge_from Third t ∷ []))

counted-by_corners : (ts : List Tri) (t : Tri) → counted_in ts (directed_edges_in t) ≡ counted_by ts t
counted-by_corners ts t =
    counted-append ts (edge_from First t ∷ []) (edge_from Second t ∷ edge_from Third t ∷ [])
    ∙ ap (λ l. counted_in ts (edge_from First t ∷ []) ++ l) (counted-append ts (edge_from Second t ∷ []) (edge_from Third t ∷ []))

counted-by_triangles : (ts us : List Tri) → counted_in ts (directed_edges_of us) ≡ flat_map (counted_by ts) us
counted-by_triangles ts [] = refl
counted-by_triangles ts (u ∷ us) =
    counted-append ts (directed_edges_in u) (directed_edges_of us)
    ∙ (ap (λ l. l ++ counted_in ts (directed_edges_of us)) (counted-by_corners ts u) ∙ ap (λ l. counted_by ts u ++ l) (counted-by_triangles ts us))

-- two lists in parts, part by part
parts-exchanged : {X : Type 0} (a b c d : List X) → IsPermutation ((a ++ b) ++ (c ++ d)) ((a ++ c) ++ (b ++ d))
parts-exchanged {X} a b c d =
    subst (λ l. IsPermutation l ((a ++ c) ++ (b ++ d))) (sym (append_assoc a b (c ++ d)))
    (subst (λ l. IsPermutation (a ++ (b ++ (c ++ d))) l) (sym (append_assoc a c (b ++ d))) (IsPermutation-append_right a (b ++ (c ++ d)) (c ++ (b ++ d)) inner))
  where
    inner : IsPermutation (b ++ (c ++ d)) (c ++ (b ++ d))
    inner =
        subst (λ l. IsPermutation l (c ++ (b ++ d))) (append_assoc b c d)
        (subst (λ l. IsPermutation ((b ++ c) ++ d) l) (append_assoc c b d) (IsPermutation-append_left d (b ++ c) (c ++ b) (IsPermutation-append_comm b c)))

-- what three passes gather is what one pass gathers
three_passes : {T X : Type 0} (f g h : T → List X) (ts : List T) → IsPermutation (flat_map (λ t. f t ++ (g t ++ h t)) ts) (flat_map f ts ++ (flat_map g ts ++ flat_map h ts))
three_passes f g h [] = IsPermutation-refl []
three_passes {T} {X} f g h (t ∷ ts) =
    let fs : List X = flat_map f ts in
    let gs : List X = flat_map g ts in
    let hs : List X = flat_map h ts in
    let each : List X = flat_map (λ u. f u ++ (g u ++ h u)) ts in
    let start : List X = f t ++ (g t ++ h t) in
    IsPermutation-trans (start ++ each) (start ++ (fs ++ (gs ++ hs))) ((f t ++ fs) ++ ((g t ++ gs) ++ (h t ++ hs)))
    (IsPermutation-append_right start each (fs ++ (gs ++ hs)) (three_passes f g h ts))
    (
    IsPermutation-trans (start ++ (fs ++ (gs ++ hs))) ((f t ++ fs) ++ ((g t ++ h t) ++ (gs ++ hs))) ((f t ++ fs) ++ ((g t ++ gs) ++ (h t ++ hs)))
    (parts-exchanged (f t) (g t ++ h t) fs (gs ++ hs))
    (IsPermutation-append_right (f t ++ fs) ((g t ++ h t) ++ (gs ++ hs)) ((g t ++ gs) ++ (h t ++ hs)) (parts-exchanged (g t) (h t) gs hs))
    )

-- the counted edges, corner by corner
pub counted-permuted : (ts us : List Tri) → IsPermutation (counted_in ts (directed_edges_of us)) (counted_from ts First us ++ (counted_from ts Second us ++ counted_from ts Third us))
counted-permuted ts us =
    subst (λ l. IsPermutation l (counted_from ts First us ++ (counted_from ts Second us ++ counted_from ts Third us))) (sym (counted-by_triangles ts us))
    (three_passes (λ t. counted_in ts (edge_from First t ∷ [])) (λ t. counted_in ts (edge_from Second t ∷ [])) (λ t. counted_in ts (edge_from Third t ∷ [])) us)

-- the counted edges are different

different-map_within : {X Y : Type 0} (h : X → Y) (xs : List X) → ((x z : X) → Contains xs x → Contains xs z → h x ≡ h z → x ≡ z) → AreDifferent xs → AreDifferent (map h xs)
different-map_within h [] one d = tt
different-map_within {X} {Y} h (x ∷ xs) one d = (first, different-map_within h xs (λ y z p q e. one y z (there y x xs p) (there z x xs q) e) d.1)
  where
    first : (y : Y) → Contains (map h xs) y → h x ≢ y
    first y c e = let k = map-means h xs y c in d.0 k.0 k.1 (one x k.0 (here x xs) (there k.0 x xs k.1) (e ∙ sym k.2))

-- either the same, or turned round
ends_of : (a b c d : ℕ) → min a b ≡ min c d → max a b ≡ max c d → ((a ≡ c) × (b ≡ d)) ⊎ ((a ≡ d) × (b ≡ c))
ends_of a b c d e f = grind arith

directed-same : (x z : DirectedEdge) → x.from ≡ z.from → x.to ≡ z.to → x ≡ z
directed-same x z e f = λ i. record { from = e i; to = f i }

-- where an edge is counted and stands the other way round too, it rises
counted-rises : (ts : List Tri) (p q : ℕ) → is_counted ts record { from = p; to = q } ≡ true → Contains (directed_edges_of ts) record { from = q; to = p } → nat_lt p q ≡ true
counted-rises ts p q c h = go (side_of ts q p) refl c
  where
    go : (o : Option _) → side_of ts q p ≡ o → (not (is_some o) || nat_lt p q) ≡ true → nat_lt p q ≡ true
    go (Some s) e k = k
    go None e k = absurd (let t = directed_edges_of-means ts record { from = q; to = p } h in let n = side_of-none ts q p e t.0 t.1 in let z : true ≡ false = sym t.2 ∙ n in cc)

counted-one : (ts : List Tri) (x z : DirectedEdge) → Contains (filter (is_counted ts) (directed_edges_of ts)) x → Contains (filter (is_counted ts) (directed_edges_of ts)) z → edge_of x.from x.to ≡ edge_of z.from z.to → x ≡ z
counted-one ts x z h k e =
    let a = filter-out (is_counted ts) x (directed_edges_of ts) h in
    let b = filter-out (is_counted ts) z (directed_edges_of ts) k in
    elim (ends_of x.from x.to z.from z.to (ap (λ w. w.lo) e) (ap (λ w. w.hi) e)) [
      | inl s ↦ directed-same x z s.0 s.1
      | inr s ↦ absurd (
          let turned : z ≡ record { from = x.to; to = x.from } = directed-same z record { from = x.to; to = x.from } (sym s.1) (sym s.0) in
          let up = counted-rises ts x.from x.to a.1 (subst (λ w. Contains (directed_edges_of ts) w) turned b.0) in
          let down = counted-rises ts x.to x.from (subst (λ w. is_counted ts w ≡ true) turned b.1) a.0 in
          both x.from x.to up down
          )
    ]
  where
    both : (p q : ℕ) → nat_lt p q ≡ true → nat_lt q p ≡ true → ⊥
    both p q u d = grind (arith, nat_tests)

pub counted-different : (m : Undivided) → IsConforming m → AreDifferent (counted_in m.tris (directed_edges_of m.tris))
counted-different m ok =
    different-map_within (λ e. edge_of e.from e.to) (filter (is_counted m.tris) (directed_edges_of m.tris)) (counted-one m.tris)
    (different-filter (is_counted m.tris) (directed_edges_of m.tris) (directed_edges_of-different m.tris (conforming-sound m ok)))

-- edges that are sorted by names

pub edge_lt-order : IsStrictOrder edge_lt
edge_lt-order = record { irreflexive = λ x. grind (arith, nat_tests); transitive = λ x y z h k. grind (arith, nat_tests) }

edge-same : (x y : Edge) → x.lo ≡ y.lo → x.hi ≡ y.hi → x ≡ y
edge-same x y e f = λ i. record { lo = e i; hi = f i }

pub edge_lt-compares : Compares edge_lt
edge_lt-compares x y n = elim (cases_of x.lo x.hi y.lo y.hi) [ inl e ↦ absurd (n (edge-same x y e.0 e.1)) | inr r ↦ r ]
  where
    cases_of : (a b c d : ℕ) → ((a ≡ c) × (b ≡ d)) ⊎ (((nat_lt a c || (a == c && nat_lt b d)) ≡ true) ⊎ ((nat_lt c a || (c == a && nat_lt d b)) ≡ true))
    cases_of a b c d = grind (arith, nat_tests)

abbrev same_names : Edge → Edge → Bool
same_names e f = e.lo == f.lo && e.hi == f.hi

same_names-flips : (e f : Edge) → same_names e f ≡ same_names f e
same_names-flips e f = grind (arith, nat_tests)

names_equal : (e f : Edge) → same_names e f ≡ true → e ≡ f
names_equal e f h = edge-same e f (grind (arith, nat_tests)) (grind (arith, nat_tests))

different-at : (xs : List Edge) → AreDifferent xs → (i j : ℕ) (d : Edge) → i < j → j < length xs → get_or xs i d ≢ get_or xs j d
different-at [] o i j d l k e = omega arith
different-at (x ∷ xs) o zero zero d l k e = omega arith
different-at (x ∷ xs) o zero (suc j) d l k e = o.0 (get_or xs j d) (Contains-get_or xs j d (let w : suc j < suc (length xs) = k in omega arith)) e
different-at (x ∷ xs) o (suc i) zero d l k e = omega arith
different-at (x ∷ xs) o (suc i) (suc j) d l k e = different-at xs o.1 i j d (omega arith) (let w : suc j < suc (length xs) = k in omega arith) e

distinct-names : (xs : List Edge) → AreDifferent xs → IsDistinct same_names xs
distinct-names xs o =
    IsDistinct-from_apart same_names xs
    (λ i j d l k. elim (bool_cases (same_names (get_or xs i d) (get_or xs j d))) [ inl e ↦ absurd (different-at xs o i j d l k (names_equal (get_or xs i d) (get_or xs j d) e)) | inr e ↦ e ])

-- each stands before the next
abbrev Steps : List Edge → Type 0
Steps xs = (k : ℕ) (d : Edge) → k + 1 < length xs → edge_lt (get_or xs k d) (get_or xs (k + 1) d) ≡ true

rising-steps : (xs : List Edge) → Steps xs → IsRising edge_lt xs
rising-steps xs s i j d l k = go j l k
  where
    go : (n : ℕ) → i < n → n < length xs → edge_lt (get_or xs i d) (get_or xs n d) ≡ true
    go zero l' k' = absurd (omega arith)
    go (suc n) l' k' = elim (cases_of i n l') [
      | inl e ↦ subst (λ a. edge_lt (get_or xs a d) (get_or xs (suc n) d) ≡ true) (sym e) (last n k')
      | inr l'' ↦ edge_lt-order.transitive (get_or xs i d) (get_or xs n d) (get_or xs (suc n) d) (go n l'' (omega arith)) (last n k')
    ]
      where
        cases_of : (a b : ℕ) → a < suc b → (a ≡ b) ⊎ (a < b)
        cases_of a b h = grind arith

        last : (a : ℕ) → suc a < length xs → edge_lt (get_or xs a d) (get_or xs (suc a) d) ≡ true
        last a h = let e : a + 1 ≡ suc a = omega arith in subst (λ b. edge_lt (get_or xs a d) (get_or xs b d) ≡ true) e (s a d (omega arith))

-- by the order of names, the second not before the first
abbrev pub NotBefore : Sided → Sided → Type 0
NotBefore y x = is_lt (ordering_then (nat_cmp y.span.lo x.span.lo) (nat_cmp y.span.hi x.span.hi)) ≡ false

steps_up : (x y : Sided) → NotBefore y x → same_names (sided_edge x) (sided_edge y) ≡ false → edge_lt (sided_edge x) (sided_edge y) ≡ true
steps_up x y n e = grind (arith, nat_tests)

pub sorted-spans : (es : List Edge) (ys : List Sided) → AreDifferent es → IsPermutation es (map sided_edge ys) → ((k : ℕ) (d : Sided) → 0 ≤ k → k + 1 < length ys → NotBefore (get_or ys (k + 1) d) (get_or ys k d)) → map sided_edge ys ≡ sorted_by edge_lt es
sorted-spans es ys o p n =
    rising-same edge_lt edge_lt-order (map sided_edge ys) (sorted_by edge_lt es) (rising-steps (map sided_edge ys) steps) (sorted-rises edge_lt edge_lt-order edge_lt-compares es o)
    (λ z h. insert_all_by-new edge_lt z es [] (Contains-permutation (map sided_edge ys) es z (IsPermutation-sym es (map sided_edge ys) p) h))
    (λ z h. elim (insert_all_by-cases edge_lt z es [] h) [ inl a ↦ Contains-permutation es (map sided_edge ys) z p a | inr b ↦ absurd (nowhere z b) ])
  where
    distinct : IsDistinct same_names (map sided_edge ys)
    distinct = IsDistinct-IsPermutation same_names same_names-flips es (map sided_edge ys) p (distinct-names es o)

    steps : Steps (map sided_edge ys)
    steps k d l =
        let few : k + 1 < length ys = omega (arith, length-map ys sided_edge) in
        let s : Sided = record { span = record { lo = d.lo; hi = d.hi }; edge_sides = record { left = None; right = None } } in
        let a = get_or-map sided_edge ys k s d (omega arith) in
        let b = get_or-map sided_edge ys (k + 1) s d few in
        let apart : same_names (sided_edge (get_or ys k s)) (sided_edge (get_or ys (k + 1) s)) ≡ false = rw (a, b) at (apart_from_distinct same_names (map sided_edge ys) k (k + 1) d distinct (omega arith) l) in
        rw (a, b) (steps_up (get_or ys k s) (get_or ys (k + 1) s) (n k s (omega arith) few) apart)
