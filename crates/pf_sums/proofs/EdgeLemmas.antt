-- The directed edges of a mesh in rising order: a filter of them, how many there are, and how one is found among them.
use Rattle.std.proofs.Common.{◌≡◌, ℕ, ◌+◌, ◌<◌, ◌≤◌, List, ◌∷◌, length, drop, get_or, add-one, ◌||◌, refl, sym, ◌∙◌, ap, Bool, true, false, ◌&&◌, ◌==◌, ◌⊎◌, inl, inr, arith}
use Rattle.std.specs.Prelude.{Contains, filter, map, not, Option, Some, None, is_some, Result, Ok, Err, is_err}
use Rattle.std.specs.Ordering.{is_lt}
use Rattle.std.specs.List.Sorted.{IsBinarySearchResult, IsPartitionPoint, IsSearchInRange}
use Rattle.std.specs.Cmp.{IsTotalOrder}
use Rattle.std.specs.declared.cmp.Ordering.TheVariants.{Less, Equal, Greater}
use Rattle.std.proofs.lemmas.Bool.Decides.{nat_tests}
use Rattle.std.proofs.lemmas.List.{length-map}
use Rattle.std.proofs.Math.Seq.{drop-cons}
use Rattle.std.proofs.lemmas.List.Sorted.{Contains-permutation, IsPermutation-sym, searchable_from_sorted}
use Rattle.std.proofs.lemmas.Cmp.{nat_cmp_total, on_total, then_total}
use Rattle.pf_model.specs.declared.Tri.{Tri}
use Rattle.pf_model.specs.Rising.{sorted_by}
use Rattle.pf_model.specs.declared.Side.{Side}
use Rattle.pf_model.specs.Mesh.{Undivided, DirectedEdge, directed_edges_of, side_of}
use Rattle.pf_model.specs.Lengths.{edge_of}
use Rattle.pf_model.specs.Conforming.{IsConforming}
use Rattle.pf_model.specs.Sums.{directed_edge_lt, is_open, is_counted, boundary_of, edges_of, edge_lt}
use Rattle.pf_model.proofs.Triangles.{side_of-some, side_of-none}
use Rattle.pf_model.proofs.Totals.{AreDifferent, sorted-rises, map-means, map-in}
use Rattle.pf_model.proofs.EdgeSum.{AreSound, directed_edge_lt-order, directed_edge_lt-compares, directed_edges_of-means, directed_edges_of-from, directed_edges_of-different, conforming-sound}
use Rattle.pf_sums.specs.Edges.{edge_at, pair_cmp, AreEdgesOf}
use Rattle.pf_model.proofs.Sorted.{filter-sorted, length-sorted, different-distinct, sorted-mapped}

-- the two have the same ends
abbrev same_ends : DirectedEdge → DirectedEdge → Bool
same_ends e f = e.from == f.from && e.to == f.to

same_ends-flips : (e f : DirectedEdge) → same_ends e f ≡ same_ends f e
same_ends-flips e f = grind (arith, nat_tests)

ends_equal : (e f : DirectedEdge) → same_ends e f ≡ true → (e.from ≡ f.from) × (e.to ≡ f.to)
ends_equal e f h = (grind (arith, nat_tests), grind (arith, nat_tests))

ends-same : (e f : DirectedEdge) → same_ends e f ≡ true → e ≡ f
ends-same e f h = let k = ends_equal e f h in λ i. record { from = k.0 i; to = k.1 i }

steps_up : (x y : ℕ × ℕ) → is_lt (pair_cmp y x) ≡ false → same_ends (edge_at x) (edge_at y) ≡ false → directed_edge_lt (edge_at x) (edge_at y) ≡ true
steps_up x y n e = grind (arith, nat_tests)

edges-forth : (ts : List Tri) (edges : List (ℕ × ℕ)) → AreEdgesOf ts edges → (e : DirectedEdge) → Contains (map edge_at edges) e → Contains (directed_edges_of ts) e
edges-forth ts edges are e h = Contains-permutation (map edge_at edges) (directed_edges_of ts) e (IsPermutation-sym (directed_edges_of ts) (map edge_at edges) are.same) h

edges-back : (ts : List Tri) (edges : List (ℕ × ℕ)) → AreEdgesOf ts edges → (e : DirectedEdge) → Contains (directed_edges_of ts) e → Contains (map edge_at edges) e
edges-back ts edges are e h = Contains-permutation (directed_edges_of ts) (map edge_at edges) e are.same h

-- they are the model's sorted list
edges-are : (ts : List Tri) (edges : List (ℕ × ℕ)) → AreSound ts → AreEdgesOf ts edges → map edge_at edges ≡ sorted_by directed_edge_lt (directed_edges_of ts)
edges-are ts edges sound are =
    sorted-mapped directed_edge_lt directed_edge_lt-order same_ends same_ends-flips edge_at (0, 0) (directed_edges_of ts) edges
    (sorted-rises directed_edge_lt directed_edge_lt-order directed_edge_lt-compares (directed_edges_of ts) apart)
    (different-distinct same_ends (directed_edges_of ts) (λ e f h k. ends-same e f) apart) are.same
    (λ k l n. steps_up (get_or edges k (0, 0)) (get_or edges (k + 1) (0, 0)) (are.sorted k (0, 0) (omega arith) l) n)
  where
    apart : AreDifferent (directed_edges_of ts)
    apart = directed_edges_of-different ts sound

edges-filtered : (ts : List Tri) (edges : List (ℕ × ℕ)) → AreSound ts → AreEdgesOf ts edges → (p : DirectedEdge → Bool) → filter p (map edge_at edges) ≡ sorted_by directed_edge_lt (filter p (directed_edges_of ts))
edges-filtered ts edges sound are p =
    ap (filter p) (edges-are ts edges sound are)
    ∙ filter-sorted directed_edge_lt directed_edge_lt-order directed_edge_lt-compares p (directed_edges_of ts) (directed_edges_of-different ts sound)

-- the open ones are the boundary
pub open-are_boundary : (m : Undivided) (edges : List (ℕ × ℕ)) → IsConforming m → AreEdgesOf m.tris edges → filter (is_open m.tris) (map edge_at edges) ≡ boundary_of m
open-are_boundary m edges ok are = edges-filtered m.tris edges (conforming-sound m ok) are (is_open m.tris)

-- those that are counted are as many as the edges
pub counted-are_edges : (m : Undivided) (edges : List (ℕ × ℕ)) → IsConforming m → AreEdgesOf m.tris edges → length (filter (is_counted m.tris) (map edge_at edges)) ≡ length (edges_of m)
counted-are_edges m edges ok are =
    ap length (edges-filtered m.tris edges (conforming-sound m ok) are (is_counted m.tris))
    ∙ length-sorted directed_edge_lt (filter (is_counted m.tris) (directed_edges_of m.tris))
    ∙ sym (length-map (filter (is_counted m.tris) (directed_edges_of m.tris)) (λ e. edge_of e.from e.to))
    ∙ sym (length-sorted edge_lt (map (λ e. edge_of e.from e.to) (filter (is_counted m.tris) (directed_edges_of m.tris))))

-- a pair of names stands in the list where the edge has a triangle on its left
has_left : (ts : List Tri) (p q : ℕ) → Contains (directed_edges_of ts) record { from = p; to = q } → is_some (side_of ts p q) ≡ true
has_left ts p q h = go (side_of ts p q) refl
  where
    go : (o : Option Side) → side_of ts p q ≡ o → is_some o ≡ true
    go None f = absurd (let r = directed_edges_of-means ts record { from = p; to = q } h in let n = side_of-none ts p q f r.0 r.1 in let k : true ≡ false = sym r.2 ∙ n in cc)
    go (Some s) f = refl

left_has : (ts : List Tri) (p q : ℕ) (s : Side) → side_of ts p q ≡ Some s → Contains (directed_edges_of ts) record { from = p; to = q }
left_has ts p q s f = let r = side_of-some ts p q s f in directed_edges_of-from ts record { from = p; to = q } r.0 r.1 r.2

pair_order : IsTotalOrder pair_cmp
pair_order = then_total (on_total (λ p. p.0) nat_cmp_total) (on_total (λ p. p.1) nat_cmp_total)

equal_names : (x : ℕ × ℕ) (p q : ℕ) → pair_cmp x (p, q) ≡ Equal → (x.0 ≡ p) × (x.1 ≡ q)
equal_names x p q h = (grind (arith, nat_tests), grind (arith, nat_tests))

equal-itself : (x : ℕ × ℕ) (p q : ℕ) → x.0 ≡ p → x.1 ≡ q → pair_cmp x (p, q) ≡ Equal
equal-itself x p q e f = grind (arith, nat_tests)

pair_same : (x y : ℕ × ℕ) → x.0 ≡ y.0 → x.1 ≡ y.1 → x ≡ y
pair_same x y e f = λ i. (e i, f i)

-- whether a binary search for the pair turned round finds nothing is whether the edge is open
pub missed-is_open : (ts : List Tri) (edges : List (ℕ × ℕ)) → AreEdgesOf ts edges → (p q : ℕ) (r : Result ℕ ℕ) → IsSearchInRange r (length edges) → IsBinarySearchResult (λ y. pair_cmp y (q, p)) edges r → is_err r ≡ is_open ts record { from = p; to = q }
missed-is_open ts edges are p q (Ok i) range found =
    let names = equal_names (get_or edges i (q, p)) q p (found (q, p)) in
    let is : get_or edges i (q, p) ≡ (q, p) = pair_same (get_or edges i (q, p)) (q, p) names.0 names.1 in
    let listed : Contains edges (q, p) = (i, range, is) in
    let left = has_left ts q p (edges-forth ts edges are record { from = q; to = p } (map-in edge_at edges (q, p) listed)) in
    rw left refl
missed-is_open ts edges are p q (Err i) range missed = go (side_of ts q p) refl
  where
    parted : IsPartitionPoint (λ y. pair_cmp y (q, p) ≡ Less) (λ y. pair_cmp y (q, p) ≡ Greater) edges i
    parted = missed (searchable_from_sorted pair_order (λ y. y) edges (q, p) are.sorted)

    apart : (x : ℕ × ℕ) (k : ℕ) → k < length edges → pair_cmp (get_or edges k x) (q, p) ≡ Equal → ⊥
    apart x k l e = elim (sides k i) [ inl below ↦ (let f : Less ≡ Equal = sym (parted.0 k x (omega arith) below) ∙ e in cc) | inr above ↦ (let f : Greater ≡ Equal = sym (parted.1 k x above l) ∙ e in cc) ]
      where
        sides : (a b : ℕ) → (a < b) ⊎ (b ≤ a)
        sides a b = grind arith

    go : (o : Option Side) → side_of ts q p ≡ o → true ≡ not (is_some o)
    go None f = refl
    go (Some s) f =
        let r = map-means edge_at edges record { from = q; to = p } (edges-back ts edges are record { from = q; to = p } (left_has ts q p s f)) in
        let at = r.1 in
        let e : pair_cmp (get_or edges at.0 r.0) (q, p) ≡ Equal = rw at.2 (equal-itself r.0 q p (ap (λ w. w.from) r.2) (ap (λ w. w.to) r.2)) in
        absurd (apart r.0 at.0 at.1 e)

-- the first of what is left passes
pub left-passes : (p : DirectedEdge → Bool) (xs : List (ℕ × ℕ)) (i : ℕ) (d : ℕ × ℕ) → i < length xs → p (edge_at (get_or xs i d)) ≡ true → filter p (map edge_at (drop i xs)) ≡ edge_at (get_or xs i d) ∷ filter p (map edge_at (drop (i + 1) xs))
left-passes p xs i d h e = rw (add-one, drop-cons xs i d h) (rw e refl)

-- the first of what is left doesn't pass
pub left-fails : (p : DirectedEdge → Bool) (xs : List (ℕ × ℕ)) (i : ℕ) (d : ℕ × ℕ) → i < length xs → p (edge_at (get_or xs i d)) ≡ false → filter p (map edge_at (drop i xs)) ≡ filter p (map edge_at (drop (i + 1) xs))
left-fails p xs i d h e = rw (add-one, drop-cons xs i d h) (rw e refl)

or-flips : (a b : Bool) → (a || b) ≡ (b || a)
or-flips true true = refl
or-flips true false = refl
or-flips false true = refl
or-flips false false = refl
