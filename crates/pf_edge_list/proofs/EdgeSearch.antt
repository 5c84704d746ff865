-- Looking an edge up in the list of all edges: where it can stand, and that a search which finds none has missed none.
-- Assumes `IsConforming m` where it speaks of a mesh.
use Rattle.std.proofs.Common.{◌≡◌, ◌≢◌, ℕ, ◌+◌, ◌<◌, ◌≤◌, List, [], ◌∷◌, ◌++◌, length, get_or, refl, sym, ◌∙◌, ap, subst, Bool, true, false, ◌||◌, ◌⊎◌, inl, inr, arith}
use Rattle.std.specs.Prelude.{Contains, IfSome, filter, map, min, max, not, Option, Some, None, is_some, nat_lt, slice_get, slice_index_or}
use Rattle.std.proofs.Math.ListN.{get_or-append}
use Rattle.std.proofs.Math.Seq.{get_or-append_seam}
use Rattle.std.proofs.lemmas.Bool.Decides.{nat_tests}
use Rattle.std.proofs.lemmas.List.{get_or-map, length-map, length-append}
use Rattle.std.proofs.lemmas.Option.{slice_get_within, slice_get_read, slice_get-map, get_or_from_slice_get}
use Rattle.pf_model.specs.Rising.{IsRising}
use Rattle.pf_model.specs.Mesh.{Undivided, DirectedEdge, directed_edges_of, side_of, is_edge}
use Rattle.pf_model.specs.declared.Side.{Side}
use Rattle.pf_model.specs.Lengths.{Edge, edge_of}
use Rattle.pf_model.specs.Sums.{edge_lt, edges_of, is_counted}
use Rattle.pf_model.specs.Conforming.{IsConforming}
use Rattle.pf_model.proofs.EdgeSum.{conforming-sound, has_left, left_has}
use Rattle.pf_model.proofs.FlipKeeps.{corners_of}
use Rattle.pf_model.proofs.Kept.{side_of-stands}
use Rattle.pf_model.proofs.Members.{nowhere, filter-in, filter-out, insert_all_by-new, insert_all_by-cases}
use Rattle.pf_model.proofs.ReadClauses.{is_edge-sorted}
use Rattle.pf_model.proofs.Totals.{map-in, map-means, sorted-rises}
use Rattle.pf_edge_list.specs.declared.edges.Sided.{Sided}
use Rattle.pf_edge_list.specs.Edges.{sided_edge, counted_in, AreRising, AreStarts, IsAbsent, IsBelow, IsOnlyIn, IsStart, IsUpFrom, StandsAt}
use Rattle.pf_edge_list.proofs.SpanLemmas.{counted-different, edge_lt-compares, edge_lt-order}

-- what a read past the list gives
abbrev pub blank : Sided
blank = record { span = record { lo = 0; hi = 0 }; edge_sides = record { left = None; right = None } }

-- the edges of the mesh rise
pub edges-rise : (m : Undivided) → IsConforming m → (edges : List Sided) → map sided_edge edges ≡ edges_of m → AreRising edges
edges-rise m ok edges all = record { each = each }
  where
    rises : IsRising edge_lt (map sided_edge edges)
    rises = subst (λ l. IsRising edge_lt l) (sym all) (sorted-rises edge_lt edge_lt-order edge_lt-compares (counted_in m.tris (directed_edges_of m.tris)) (counted-different m ok))

    each : (i j : ℕ) (x y : Sided) → slice_get edges i ≡ Some x → slice_get edges j ≡ Some y → i < j → edge_lt (sided_edge x) (sided_edge y) ≡ true
    each i j x y h k l =
        let few : j < length edges = slice_get_within edges j y k in
        let few' : j < length (map sided_edge edges) = omega (arith, length-map edges sided_edge) in
        let a : get_or (map sided_edge edges) i (sided_edge x) ≡ sided_edge x = get_or-map sided_edge edges i x (sided_edge x) (omega arith) ∙ ap sided_edge (get_or_from_slice_get edges i x x h) in
        let b : get_or (map sided_edge edges) j (sided_edge x) ≡ sided_edge y = get_or-map sided_edge edges j x (sided_edge x) few ∙ ap sided_edge (get_or_from_slice_get edges j y x k) in
        subst (λ e. edge_lt e (sided_edge y) ≡ true) a (subst (λ e. edge_lt (get_or (map sided_edge edges) i (sided_edge x)) e ≡ true) b (rises i j (sided_edge x) l few'))

-- so their lower names don't fall
lower-names : (edges : List Sided) → AreRising edges → (i j : ℕ) (x y : Sided) → slice_get edges i ≡ Some x → slice_get edges j ≡ Some y → i ≤ j → x.span.lo ≤ y.span.lo
lower-names edges rise i j x y h k l = go (cases_of i j l)
  where
    cases_of : (a b : ℕ) → a ≤ b → (a ≡ b) ⊎ (a < b)
    cases_of a b p = grind arith

    below : (p q : Sided) → edge_lt (sided_edge p) (sided_edge q) ≡ true → p.span.lo ≤ q.span.lo
    below p q t = grind (arith, nat_tests)

    go : (i ≡ j) ⊎ (i < j) → x.span.lo ≤ y.span.lo
    go (inl e) = let s : Some x ≡ Some y = sym h ∙ ap (slice_get edges) e ∙ k in let t : x ≡ y = cc in let u : x.span.lo ≡ y.span.lo = ap (λ w. w.span.lo) t in omega arith
    go (inr p) = below x y (rise.each i j x y h k p)

-- an edge at a place, where the lower name isn't less, begins those that haven't less
pub up-from : (edges : List Sided) (n s : ℕ) (x : Sided) → AreRising edges → slice_get edges s ≡ Some x → n ≤ x.span.lo → IsUpFrom edges n s
up-from edges n s x rise h l = record { each = λ i y k p. let q = lower-names edges rise s i x y h k p in omega arith }

-- none are left behind the list
pub up-none : (edges : List Sided) (n s : ℕ) → length edges ≤ s → IsUpFrom edges n s
up-none edges n s l = record { each = λ i y k p. let w = slice_get_within edges i y k in absurd (omega arith) }

-- one edge more that has a lower name less than n
pub below-more : (edges : List Sided) (n s : ℕ) (x : Sided) → IsBelow edges n s → slice_get edges s ≡ Some x → x.span.lo < n → IsBelow edges n (s + 1)
below-more edges n s x b h l = record { each = each }
  where
    cases_of : (a c : ℕ) → a < c + 1 → (a ≡ c) ⊎ (a < c)
    cases_of a c p = grind arith

    each : (i : ℕ) (y : Sided) → slice_get edges i ≡ Some y → i < s + 1 → y.span.lo < n
    each i y k p = go (cases_of i s p)
      where
        go : (i ≡ s) ⊎ (i < s) → y.span.lo < n
        go (inl e) = let t : Some y ≡ Some x = sym k ∙ ap (slice_get edges) e ∙ h in let u : y ≡ x = cc in let v : y.span.lo ≡ x.span.lo = ap (λ w. w.span.lo) u in omega arith
        go (inr q) = b.each i y k q

-- none are before the list
pub below-none : (edges : List Sided) (n : ℕ) → IsBelow edges n 0
below-none edges n = record { each = λ i y k p. absurd (omega arith) }

-- what is less than a name is less than the next one
pub below-next : (edges : List Sided) (n s : ℕ) → IsBelow edges n s → IsBelow edges (n + 1) s
below-next edges n s b = record { each = λ i y k p. let q = b.each i y k p in omega arith }

-- one name's place more
pub starts-more : (edges : List Sided) (starts : List ℕ) (n s : ℕ) → length starts ≡ n → AreStarts edges starts → IsStart edges n s → AreStarts edges (starts ++ s ∷ [])
starts-more edges starts n s many are is = record { each = each }
  where
    cases_of : (a c : ℕ) → a < c + 1 → (a ≡ c) ⊎ (a < c)
    cases_of a c p = grind arith

    each : (k d : ℕ) → k < length (starts ++ s ∷ []) → IsStart edges k (slice_index_or (starts ++ s ∷ []) k d)
    each k d l = go (cases_of k (length starts) (omega (arith, length-append starts (s ∷ []))))
      where
        go : (k ≡ length starts) ⊎ (k < length starts) → IsStart edges k (slice_index_or (starts ++ s ∷ []) k d)
        go (inl e) =
            let at : get_or (starts ++ s ∷ []) k d ≡ s = ap (λ j. get_or (starts ++ s ∷ []) j d) e ∙ get_or-append_seam starts s [] d in
            subst (λ w. IsStart edges k w) (sym at) (subst (λ w. IsStart edges w s) (sym (e ∙ many)) is)
        go (inr p) = subst (λ w. IsStart edges k w) (sym (get_or-append starts (s ∷ []) d k p)) (are.each k d p)

-- a place less, where another edge stands
pub only-more : (edges : List Sided) (e : Edge) (from to : ℕ) (x : Sided) → IsOnlyIn edges e from to → slice_get edges from ≡ Some x → sided_edge x ≢ e → IsOnlyIn edges e (from + 1) to
only-more edges e from to x only h apart = record { each = each }
  where
    cases_of : (a c : ℕ) → c ≤ a → (a ≡ c) ⊎ (c + 1 ≤ a)
    cases_of a c p = grind arith

    each : (i : ℕ) (y : Sided) → slice_get edges i ≡ Some y → sided_edge y ≡ e → (from + 1 ≤ i) × (i < to)
    each i y k s = go (cases_of i from (only.each i y k s).0)
      where
        go : (i ≡ from) ⊎ (from + 1 ≤ i) → (from + 1 ≤ i) × (i < to)
        go (inl q) = let t : Some x ≡ Some y = sym h ∙ ap (slice_get edges) (sym q) ∙ k in let u : x ≡ y = cc in absurd (apart (ap sided_edge u ∙ s))
        go (inr q) = (q, (only.each i y k s).1)

-- no place is left
pub only-none : (edges : List Sided) (e : Edge) (from to : ℕ) → to ≤ from → IsOnlyIn edges e from to → IsAbsent edges e
only-none edges e from to l only = record { nowhere = λ i x h s. let w = only.each i x h s in let a = w.0 in let b = w.1 in absurd (omega arith) }

-- an edge that stands after that of a place
pub only-after : (edges : List Sided) (e : Edge) (from to k : ℕ) (x : Sided) → AreRising edges → IsOnlyIn edges e from to → slice_get edges k ≡ Some x → edge_lt (sided_edge x) e ≡ true → IsOnlyIn edges e (k + 1) to
only-after edges e from to k x rise only h t = record { each = λ i y p s. (later i y p s, (only.each i y p s).1) }
  where
    cases_of : (a c : ℕ) → (a ≡ c) ⊎ ((a < c) ⊎ (c + 1 ≤ a))
    cases_of a c = grind arith

    not_below : (f : Edge) → edge_lt f f ≡ true → ⊥
    not_below f b = let z : true ≡ false = sym b ∙ edge_lt-order.irreflexive f in cc

    later : (i : ℕ) (y : Sided) → slice_get edges i ≡ Some y → sided_edge y ≡ e → k + 1 ≤ i
    later i y p s = go (cases_of i k)
      where
        here' : edge_lt (sided_edge x) (sided_edge y) ≡ true
        here' = subst (λ w. edge_lt (sided_edge x) w ≡ true) (sym s) t

        go : (i ≡ k) ⊎ ((i < k) ⊎ (k + 1 ≤ i)) → k + 1 ≤ i
        go (inl q) = let r : Some x ≡ Some y = sym h ∙ ap (slice_get edges) (sym q) ∙ p in let u : x ≡ y = cc in absurd (not_below (sided_edge y) (subst (λ w. edge_lt (sided_edge w) (sided_edge y) ≡ true) u here'))
        go (inr (inl q)) = absurd (not_below (sided_edge y) (edge_lt-order.transitive (sided_edge y) (sided_edge x) (sided_edge y) (rise.each i k y x p h q) here'))
        go (inr (inr q)) = q

-- an edge that doesn't stand after that of a place
pub only-until : (edges : List Sided) (e : Edge) (from to k : ℕ) (x : Sided) → AreRising edges → IsOnlyIn edges e from to → slice_get edges k ≡ Some x → edge_lt (sided_edge x) e ≡ false → IsOnlyIn edges e from (k + 1)
only-until edges e from to k x rise only h t = record { each = λ i y p s. ((only.each i y p s).0, sooner i y p s) }
  where
    cases_of : (a c : ℕ) → (a < c + 1) ⊎ (c < a)
    cases_of a c = grind arith

    sooner : (i : ℕ) (y : Sided) → slice_get edges i ≡ Some y → sided_edge y ≡ e → i < k + 1
    sooner i y p s = go (cases_of i k)
      where
        go : (i < k + 1) ⊎ (k < i) → i < k + 1
        go (inl q) = q
        go (inr q) = absurd (let r : edge_lt (sided_edge x) e ≡ true = subst (λ w. edge_lt (sided_edge x) w ≡ true) s (rise.each k i x y h p q) in let z : true ≡ false = sym r ∙ t in cc)

-- no place is past the list
pub only-within : (edges : List Sided) (e : Edge) (from to : ℕ) → IsOnlyIn edges e from to → IsOnlyIn edges e from (min to (length edges))
only-within edges e from to only = record { each = λ i y p s. ((only.each i y p s).0, (let w = slice_get_within edges i y p in let l = (only.each i y p s).1 in omega arith)) }

-- an edge stands where its lower name begins, before the next name does
pub only-between : (edges : List Sided) (e : Edge) (from to : ℕ) → IsBelow edges e.lo from → IsUpFrom edges (e.lo + 1) to → IsOnlyIn edges e from to
only-between edges e from to b u = record { each = each }
  where
    cases_of : (a c : ℕ) → (a < c) ⊎ (c ≤ a)
    cases_of a c = grind arith

    each : (i : ℕ) (y : Sided) → slice_get edges i ≡ Some y → sided_edge y ≡ e → (from ≤ i) × (i < to)
    each i y p s = (first (cases_of i from), last (cases_of i to))
      where
        low : y.span.lo ≡ e.lo
        low = ap (λ w. w.lo) s

        first : (i < from) ⊎ (from ≤ i) → from ≤ i
        first (inl q) = absurd (let k = b.each i y p q in omega (arith, low))
        first (inr q) = q

        last : (i < to) ⊎ (to ≤ i) → i < to
        last (inl q) = q
        last (inr q) = absurd (let k = u.each i y p q in omega (arith, low))

-- no edge joins a node to itself
not_own : (m : Undivided) → IsConforming m → (a b : ℕ) (s : Side) → side_of m.tris a b ≡ Some s → a ≢ b
not_own m ok a b s h = (corners_of m ok a b s.apex s.owner (side_of-stands m.tris (conforming-sound m ok).least a b s h)).distinct.one

-- an edge of the mesh is among the edges
edge-member : (m : Undivided) → IsConforming m → (a b : ℕ) → a ≤ b → is_edge m.tris a b ≡ true → Contains (edges_of m) record { lo = a; hi = b }
edge-member m ok a b l h = go (side_of m.tris a b) refl (side_of m.tris b a) refl
  where
    e : DirectedEdge
    e = record { from = a; to = b }

    f : DirectedEdge
    f = record { from = b; to = a }

    it : Edge
    it = record { lo = a; hi = b }

    named : (x y : ℕ) → min x y ≡ a → max x y ≡ b → edge_of x y ≡ it
    named x y p q = λ i. record { lo = p i; hi = q i }

    counted : (d : DirectedEdge) → is_some (side_of m.tris d.from d.to) ≡ true → is_counted m.tris d ≡ true → edge_of d.from d.to ≡ it → Contains (edges_of m) it
    counted d s c n =
        let stands = filter-in (is_counted m.tris) d (directed_edges_of m.tris) (left_has m.tris d s) c in
        let made = map-in (λ w. edge_of w.from w.to) (filter (is_counted m.tris) (directed_edges_of m.tris)) d stands in
        insert_all_by-new edge_lt it (counted_in m.tris (directed_edges_of m.tris)) [] (subst (λ w. Contains (counted_in m.tris (directed_edges_of m.tris)) w) n made)

    rises : (x y : ℕ) → x ≤ y → x ≢ y → nat_lt x y ≡ true
    rises x y p q = grind (arith, nat_tests)

    or_right : (x y : Bool) → y ≡ true → (x || y) ≡ true
    or_right true y p = refl
    or_right false y p = p

    or_left : (x y : Bool) → x ≡ true → (x || y) ≡ true
    or_left true y p = refl
    or_left false y p = absurd (let k : false ≡ true = p in cc)

    go : (o : Option Side) → side_of m.tris a b ≡ o → (r : Option Side) → side_of m.tris b a ≡ r → Contains (edges_of m) it
    go (Some s) p r q = counted e (ap is_some p) (or_right _ _ (rises a b l (not_own m ok a b s p))) (named a b (omega arith) (omega arith))
    go None p (Some s) q = counted f (ap is_some q) (or_left _ _ (ap (λ w. not (is_some w)) p)) (named b a (omega arith) (omega arith))
    go None p None q = absurd (let k : is_edge m.tris a b ≡ false = (λ i. is_some (p i) || is_some (q i)) in let z : true ≡ false = sym h ∙ k in cc)

-- and each of the edges is one of the mesh
member-edge : (m : Undivided) (e : Edge) → Contains (edges_of m) e → is_edge m.tris e.lo e.hi ≡ true
member-edge m e h = elim (insert_all_by-cases edge_lt e (counted_in m.tris (directed_edges_of m.tris)) [] h) [ inl a ↦ from a | inr n ↦ absurd (nowhere e n) ]
  where
    or_left : (x y : Bool) → x ≡ true → (x || y) ≡ true
    or_left true y p = refl
    or_left false y p = absurd (let k : false ≡ true = p in cc)

    from : Contains (counted_in m.tris (directed_edges_of m.tris)) e → is_edge m.tris e.lo e.hi ≡ true
    from c =
        let d = map-means (λ w. edge_of w.from w.to) (filter (is_counted m.tris) (directed_edges_of m.tris)) e c in
        let stands = filter-out (is_counted m.tris) d.0 (directed_edges_of m.tris) d.1 in
        let edge : is_edge m.tris d.0.from d.0.to ≡ true = or_left _ _ (has_left m.tris d.0 stands.0) in
        subst (λ w. is_edge m.tris w.lo w.hi ≡ true) d.2 (is_edge-sorted m.tris d.0.from d.0.to edge)

-- what a search in all edges says of an edge of the mesh
pub search-told : (m : Undivided) → IsConforming m → (edges : List Sided) → map sided_edge edges ≡ edges_of m → (e : Edge) → e.lo ≤ e.hi → (o : Option ℕ) → IfSome o (StandsAt edges e) → (o ≡ None → IsAbsent edges e) → is_some o ≡ is_edge m.tris e.lo e.hi
search-told m ok edges all e l (Some i) stands absent = sym (member-edge m e (subst (λ w. Contains w e) all member))
  where
    found : slice_get (map sided_edge edges) i ≡ Some e
    found = slice_get-map sided_edge edges i ∙ stands

    member : Contains (map sided_edge edges) e
    member = (i, slice_get_within (map sided_edge edges) i e found, get_or_from_slice_get (map sided_edge edges) i e e found)
search-told m ok edges all e l None stands absent = go (is_edge m.tris e.lo e.hi) refl
  where
    go : (b : Bool) → is_edge m.tris e.lo e.hi ≡ b → false ≡ b
    go false h = refl
    go true h = absurd (let k = map-means sided_edge edges e (subst (λ w. Contains w e) (sym all) (edge-member m ok e.lo e.hi l h)) in at k.0 k.1 k.2)
      where
        at : (x : Sided) → Contains edges x → sided_edge x ≡ e → ⊥
        at x c s = (absent refl).nowhere c.0 x (slice_get_read edges (length edges) c.0 x refl c.1 (sym c.2)) s
