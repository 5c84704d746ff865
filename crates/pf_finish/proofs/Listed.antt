-- The edges of the mesh as a list, and what is known of the ends of an edge.
-- Assumes `IsConforming m` where it says so.
use Rattle.std.proofs.Common.{◌≡◌, ◌≢◌, ℕ, ◌<◌, ◌≤◌, refl, sym, ◌∙◌, ap, subst, Bool, true, false, ◌||◌, arith}
use Rattle.std.specs.Prelude.{Contains, filter, map, min, max, not, ◌==◌, ◌&&◌, cond, Option, Some, None, is_some, nat_lt}
use Rattle.std.specs.List.{list_any}
use Rattle.std.proofs.lemmas.Bool.Decides.{nat_tests}
use Rattle.pf_model.specs.declared.Side.{Side}
use Rattle.pf_model.specs.Mesh.{Undivided, DirectedEdge, directed_edges_of, side_of, is_edge}
use Rattle.pf_model.specs.Lengths.{Edge, edge_of, longer_of, longest_of, is_longer}
use Rattle.pf_model.specs.Sums.{edge_lt, edges_of, is_counted}
use Rattle.pf_model.specs.Wishes.{acting_chunk, owner_of, longer_on, either_of, next_longer, terminal_of}
use Rattle.pf_model.specs.Conforming.{IsConforming}
use Rattle.pf_model.proofs.EdgeSum.{conforming-sound, has_left, left_has}
use Rattle.pf_model.proofs.FlipKeeps.{corners_of}
use Rattle.pf_model.proofs.Triangles.{tri_of-owner}
use Rattle.pf_model.proofs.Kept.{side_of-stands, any-from, any-means}
use Rattle.pf_model.proofs.Members.{filter-in, filter-out}
use Rattle.pf_model.proofs.Sorted.{sorted-forth, sorted-back}
use Rattle.pf_model.proofs.ReadClauses.{is_edge-sorted}
use Rattle.pf_model.proofs.Totals.{map-in, map-means}
use Rattle.pf_model.proofs.Walks.{walk_ends_at_terminal}

or_left : (x y : Bool) → x ≡ true → (x || y) ≡ true
or_left true y p = refl
or_left false y p = absurd (let k : false ≡ true = p in cc)

or_right : (x y : Bool) → y ≡ true → (x || y) ≡ true
or_right true y p = refl
or_right false y p = p

-- the lower name stands first
abbrev pub IsSorted : Edge → Type 0
IsSorted e = e.lo ≤ e.hi

pub edge_of-same : (e : Edge) → IsSorted e → edge_of e.lo e.hi ≡ e
edge_of-same e l = λ i. record { lo = low i; hi = high i }
  where
    low : min e.lo e.hi ≡ e.lo
    low = omega arith

    high : max e.lo e.hi ≡ e.hi
    high = omega arith

pub edge_of-sorted : (a b : ℕ) → IsSorted (edge_of a b)
edge_of-sorted a b = omega arith

-- each of the edges is one of the mesh, with its lower name first
pub member-edge : (m : Undivided) (e : Edge) → Contains (edges_of m) e → (is_edge m.tris e.lo e.hi ≡ true) × IsSorted e
member-edge m e h =
    let d = map-means (λ (w : DirectedEdge). edge_of w.from w.to) (filter (is_counted m.tris) (directed_edges_of m.tris)) e (sorted-forth edge_lt _ e h) in
    let stands = filter-out (is_counted m.tris) d.0 (directed_edges_of m.tris) d.1 in
    let edge : is_edge m.tris d.0.from d.0.to ≡ true = or_left _ _ (has_left m.tris d.0 stands.0) in
    (subst (λ (w : Edge). is_edge m.tris w.lo w.hi ≡ true) d.2 (is_edge-sorted m.tris d.0.from d.0.to edge), subst (λ (w : Edge). IsSorted w) d.2 (edge_of-sorted d.0.from d.0.to))

-- no edge joins a node to itself
not_own : (m : Undivided) → IsConforming m → (a b : ℕ) (s : Side) → side_of m.tris a b ≡ Some s → a ≢ b
not_own m ok a b s h = (corners_of m ok a b s.apex s.owner (side_of-stands m.tris (conforming-sound m ok).least a b s h)).distinct.one

abbrev pub is_same : Edge → Edge → Bool
is_same e f = f.lo == e.lo && f.hi == e.hi

same-itself : (e : Edge) → is_same e e ≡ true
same-itself e = itself e.lo e.hi
  where
    itself : (a b : ℕ) → (a == a && b == b) ≡ true
    itself a b = grind (arith, nat_tests)

same-means : (e f : Edge) → is_same e f ≡ true → f ≡ e
same-means e f h = let p = parts f.lo e.lo f.hi e.hi h in λ i. record { lo = p.0 i; hi = p.1 i }
  where
    parts : (a b c d : ℕ) → (a == b && c == d) ≡ true → (a ≡ b) × (c ≡ d)
    parts a b c d x = (left a b c d x, right a b c d x)
      where
        left : (a b c d : ℕ) → (a == b && c == d) ≡ true → a ≡ b
        left a b c d x = grind (arith, nat_tests)

        right : (a b c d : ℕ) → (a == b && c == d) ≡ true → c ≡ d
        right a b c d x = grind (arith, nat_tests)

-- an edge of the mesh is among the edges, as a test
pub edge-listed : (m : Undivided) → IsConforming m → (e : Edge) → IsSorted e → is_edge m.tris e.lo e.hi ≡ true → list_any (is_same e) (edges_of m) ≡ true
edge-listed m ok e l h = any-from (is_same e) e (edges_of m) (go (side_of m.tris e.lo e.hi) refl (side_of m.tris e.hi e.lo) refl) (same-itself e)
  where
    forth : DirectedEdge
    forth = record { from = e.lo; to = e.hi }

    back : DirectedEdge
    back = record { from = e.hi; to = e.lo }

    named : (x y : ℕ) → min x y ≡ e.lo → max x y ≡ e.hi → edge_of x y ≡ e
    named x y p q = λ i. record { lo = p i; hi = q i }

    counted : (d : DirectedEdge) → is_some (side_of m.tris d.from d.to) ≡ true → is_counted m.tris d ≡ true → edge_of d.from d.to ≡ e → Contains (edges_of m) e
    counted d s c n =
        let stands = filter-in (is_counted m.tris) d (directed_edges_of m.tris) (left_has m.tris d s) c in
        let made = map-in (λ (w : DirectedEdge). edge_of w.from w.to) (filter (is_counted m.tris) (directed_edges_of m.tris)) d stands in
        sorted-back edge_lt _ e (subst (λ (w : Edge). Contains (map (λ (w : DirectedEdge). edge_of w.from w.to) (filter (is_counted m.tris) (directed_edges_of m.tris))) w) n made)

    rises : (x y : ℕ) → x ≤ y → x ≢ y → nat_lt x y ≡ true
    rises x y p q = grind (arith, nat_tests)

    go : (o : Option Side) → side_of m.tris e.lo e.hi ≡ o → (r : Option Side) → side_of m.tris e.hi e.lo ≡ r → Contains (edges_of m) e
    go (Some s) p r q = counted forth (ap is_some p) (or_right _ _ (rises e.lo e.hi l (not_own m ok e.lo e.hi s p))) (named e.lo e.hi (omega arith) (omega arith))
    go None p (Some s) q = counted back (ap is_some q) (or_left _ _ (ap (λ w. not (is_some w)) p)) (named e.hi e.lo (omega arith) (omega arith))
    go None p None q = absurd (let k : is_edge m.tris e.lo e.hi ≡ false = (λ i. is_some (p i) || is_some (q i)) in let z : true ≡ false = sym h ∙ k in cc)

-- an edge that is listed stands in the list
pub listed-member : (m : Undivided) (e : Edge) → list_any (is_same e) (edges_of m) ≡ true → Contains (edges_of m) e
listed-member m e h = let f = any-means (is_same e) (edges_of m) h in subst (λ (w : Edge). Contains (edges_of m) w) (same-means e f.0 f.2) f.1

-- the acting chunk of an edge is a chunk
pub acting-below : (m : Undivided) → IsConforming m → (e : Edge) → is_edge m.tris e.lo e.hi ≡ true → acting_chunk m e < m.chunks
acting-below m ok e h = go (side_of m.tris e.lo e.hi) refl (side_of m.tris e.hi e.lo) refl
  where
    below : (a b : ℕ) (s : Side) → side_of m.tris a b ≡ Some s → s.owner < m.chunks
    below a b s p = subst (λ (k : ℕ). k < m.chunks) (tri_of-owner a b s.apex s.owner) (ok.owned _ (side_of-stands m.tris (conforming-sound m ok).least a b s p))

    go : (o : Option Side) → side_of m.tris e.lo e.hi ≡ o → (r : Option Side) → side_of m.tris e.hi e.lo ≡ r → acting_chunk m e < m.chunks
    go (Some s) p r q = subst (λ (k : ℕ). k < m.chunks) (sym (ap (λ o. owner_of o (side_of m.tris e.hi e.lo)) p)) (below e.lo e.hi s p)
    go None p (Some s) q = subst (λ (k : ℕ). k < m.chunks) (sym (λ i. owner_of (p i) (q i))) (below e.hi e.lo s q)
    go None p None q = absurd (let k : is_edge m.tris e.lo e.hi ≡ false = (λ i. is_some (p i) || is_some (q i)) in let z : true ≡ false = sym h ∙ k in cc)

-- the longest edge of three names has its lower name first
longer_of-sorted : (m : Undivided) (e f : Edge) → IsSorted e → IsSorted f → IsSorted (longer_of m e f)
longer_of-sorted m e f a b = go (is_longer m e f)
  where
    go : (t : Bool) → IsSorted (cond t f e)
    go true = b
    go false = a

longest_of-sorted : (m : Undivided) (p q z : ℕ) → IsSorted (longest_of m p q z)
longest_of-sorted m p q z = longer_of-sorted m _ _ (longer_of-sorted m _ _ (edge_of-sorted p q) (edge_of-sorted q z)) (edge_of-sorted z p)

longer_on-sorted : (m : Undivided) (e f : Edge) (s : Option Side) → longer_on m e s ≡ Some f → IsSorted f
longer_on-sorted m e f None h = absurd (let k : None ≡ Some f = h in cc)
longer_on-sorted m e f (Some s) h = go ((longest_of m e.lo e.hi s.apex).lo == e.lo && (longest_of m e.lo e.hi s.apex).hi == e.hi) h
  where
    go : (t : Bool) → cond t None (Some (longest_of m e.lo e.hi s.apex)) ≡ Some f → IsSorted f
    go true k = absurd (let z : None ≡ Some f = k in cc)
    go false k = let same : longest_of m e.lo e.hi s.apex ≡ f = (let z : Some (longest_of m e.lo e.hi s.apex) ≡ Some f = k in cc) in subst (λ (w : Edge). IsSorted w) same (longest_of-sorted m e.lo e.hi s.apex)

-- a move of the walk goes to an edge with its lower name first
pub next-sorted : (m : Undivided) (e f : Edge) → next_longer m e ≡ Some f → IsSorted f
next-sorted m e f h = go (longer_on m e (side_of m.tris e.lo e.hi)) (longer_on m e (side_of m.tris e.hi e.lo)) refl refl h
  where
    go : (a b : Option Edge) → longer_on m e (side_of m.tris e.lo e.hi) ≡ a → longer_on m e (side_of m.tris e.hi e.lo) ≡ b → either_of a b ≡ Some f → IsSorted f
    go None b p q k = longer_on-sorted m e f (side_of m.tris e.hi e.lo) (q ∙ k)
    go (Some g) b p q k = longer_on-sorted m e f (side_of m.tris e.lo e.hi) (p ∙ k)

-- the walk from an edge of the mesh ends at one
pub end-edge : (m : Undivided) (e : Edge) → IsSorted e → is_edge m.tris e.lo e.hi ≡ true → is_edge m.tris (terminal_of m e).lo (terminal_of m e).hi ≡ true
end-edge m e l h = subst (λ (w : Edge). is_edge m.tris (terminal_of m w).lo (terminal_of m w).hi ≡ true) (edge_of-same e l) (walk_ends_at_terminal m e.lo e.hi h).edge

-- where there is no edge, no walk goes on
pub no-walk : (m : Undivided) (e : Edge) → is_edge m.tris e.lo e.hi ≡ false → next_longer m e ≡ None
no-walk m e h = go (side_of m.tris e.lo e.hi) refl (side_of m.tris e.hi e.lo) refl
  where
    go : (o : Option Side) → side_of m.tris e.lo e.hi ≡ o → (r : Option Side) → side_of m.tris e.hi e.lo ≡ r → next_longer m e ≡ None
    go None p None q = λ i. either_of (longer_on m e (p i)) (longer_on m e (q i))
    go (Some s) p r q = absurd (let k : is_edge m.tris e.lo e.hi ≡ true = or_left _ _ (ap is_some p) in let z : true ≡ false = sym k ∙ h in cc)
    go None p (Some s) q = absurd (let k : is_edge m.tris e.lo e.hi ≡ true = or_right (is_some (side_of m.tris e.lo e.hi)) _ (ap is_some q) in let z : true ≡ false = sym k ∙ h in cc)
