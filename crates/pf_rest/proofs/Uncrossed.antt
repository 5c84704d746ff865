-- That no node is a link node of a contraction, where no two neighbours share an edge outside the star.
-- Assumes `IsConforming m`.
use Rattle.std.proofs.Common.{◌≡◌, ◌≢◌, ℕ, ◌<◌, ◌≤◌, List, [], ◌∷◌, ◌+◌, length, refl, sym, ◌∙◌, ap, subst, Bool, true, false, not, ◌&&◌, ◌||◌, ◌==◌, ◌⊎◌, inl, inr, suc, arith, None, map}
use Rattle.std.specs.Prelude.{is_some, min, slice_index_or}
use Rattle.std.proofs.lemmas.Bool.Decides.{nat_tests}
use Rattle.std.proofs.lemmas.List.{get_or_default}
use Rattle.pf_model.specs.declared.Spoke.{Spoke}
use Rattle.pf_model.specs.Mesh.{Undivided, apex_in, is_edge, side_of, tri_of}
use Rattle.pf_model.specs.Conforming.{IsConforming}
use Rattle.pf_model.specs.Rows.{is_apex, least_that}
use Rattle.pf_model.specs.Lengths.{Edge}
use Rattle.pf_model.specs.Stars.{is_neighbour, spokes_of}
use Rattle.pf_model.specs.Sums.{edges_of}
use Rattle.pf_model.proofs.FlipKeeps.{corners_of}
use Rattle.pf_model.proofs.Kept.{any-means, side_of-found}
use Rattle.pf_model.proofs.Triangles.{tri_of-edge_one, tri_of-edge_three}
use Rattle.pf_model.proofs.Spokes.{spokes-means}
use Rattle.pf_edge_list.specs.declared.edges.Sided.{Sided}
use Rattle.pf_rules.specs.Contract.{AreAround, is_link_at}
use Rattle.pf_rest.specs.Crossed.{IsClear, IsUncrossed, is_name, is_link_edge}
use Rattle.pf_edge_list.specs.Edges.{IsAbsent, IsOnlyIn, sided_edge}
use Rattle.pf_rules.proofs.ContractReads.{neighbour-edge}
use Rattle.pf_edge_list.proofs.EdgeSearch.{only-within, search-told}
use Rattle.pf_rules.proofs.Names.{names-neighbours, none-least}

-- the apexes of two sides of a triangle
apex-first : (p q z o : ℕ) → p ≢ q → q ≢ z → z ≢ p → apex_in p q (tri_of p q z o) ≡ z
apex-first p q z o a b c = grind (arith, nat_tests)

apex-last : (p q z o : ℕ) → p ≢ q → q ≢ z → z ≢ p → apex_in z p (tri_of p q z o) ≡ q
apex-last p q z o a b c = grind (arith, nat_tests)

itself : (n : ℕ) → (n == n) ≡ true
itself n = grind (arith, nat_tests)

-- which way a spoke runs
ways : (a b v w : ℕ) → ((a == v && b == w) || (a == w && b == v)) ≡ true → ((a ≡ v) × (b ≡ w)) ⊎ ((a ≡ w) × (b ≡ v))
ways a b v w h = grind (arith, nat_tests)

shut : (a b c : Bool) → (b || c) ≡ true → (a && not (b || c)) ≡ false
shut true b c h = ap not h
shut false b c h = refl

or_left : (a b : Bool) → a ≡ true → (a || b) ≡ true
or_left true b e = refl
or_left false b e = absurd (let k : false ≡ true = e in cc)

or_right : (a b : Bool) → b ≡ true → (a || b) ≡ true
or_right true b e = refl
or_right false b e = e

or_swap : (a b : Bool) → (a || b) ≡ (b || a)
or_swap true true = refl
or_swap true false = refl
or_swap false true = refl
or_swap false false = refl

-- where a spoke runs between them, the one is an apex of the edge to the other
shape-apex : (m : Undivided) → IsConforming m → (u v x : ℕ) → is_link_edge v x (spokes_of m u) ≡ true → (is_apex x (side_of m.tris u v) || is_apex x (side_of m.tris v u)) ≡ true
shape-apex m ok u v x h =
    let f = any-means (λ s. (s.right == v && s.left == x) || (s.right == x && s.left == v)) (spokes_of m u) h in
    let t = spokes-means m ok u f.0 f.1 in
    let d = (corners_of m ok u f.0.right f.0.left f.0.owner t).distinct in
    elim (ways f.0.right f.0.left v x f.2) [
      | inl e ↦ or_left (is_apex x (side_of m.tris u v)) (is_apex x (side_of m.tris v u)) (
          ap (λ n. is_apex x (side_of m.tris u n)) (sym e.0)
          ∙ (ap (is_apex x) (side_of-found m.tris ok.edges_once u f.0.right _ t (tri_of-edge_one u f.0.right f.0.left f.0.owner))
          ∙ (ap (λ n. n == x) (apex-first u f.0.right f.0.left f.0.owner d.one d.two d.three ∙ e.1) ∙ itself x)))
      | inr e ↦ or_right (is_apex x (side_of m.tris u v)) (is_apex x (side_of m.tris v u)) (
          ap (λ n. is_apex x (side_of m.tris n u)) (sym e.1)
          ∙ (ap (is_apex x) (side_of-found m.tris ok.edges_once f.0.left u _ t (tri_of-edge_three u f.0.right f.0.left f.0.owner))
          ∙ (ap (λ n. n == x) (apex-last u f.0.right f.0.left f.0.owner d.one d.two d.three ∙ e.0) ∙ itself x)))
    ]

-- so it is no link node
shape-none : (m : Undivided) → IsConforming m → (u v x : ℕ) → is_link_edge v x (spokes_of m u) ≡ true → is_link_at m u v (spokes_of m v) x ≡ false
shape-none m ok u v x h = shut (is_neighbour x (spokes_of m v)) (is_apex x (side_of m.tris u v)) (is_apex x (side_of m.tris v u)) (shape-apex m ok u v x h)

-- nor is it where the two share no edge
edge-none : (m : Undivided) → IsConforming m → (u v x : ℕ) → is_edge m.tris v x ≡ false → is_link_at m u v (spokes_of m v) x ≡ false
edge-none m ok u v x h = ap (λ b. b && not (is_apex x (side_of m.tris u v) || is_apex x (side_of m.tris v u))) (neighbour-edge m ok x v ∙ h)

-- the shape's edges have no direction
shape-swap : (v w : ℕ) (us : List Spoke) → is_link_edge v w us ≡ is_link_edge w v us
shape-swap v w [] = refl
shape-swap v w (s ∷ us) = λ i. or_swap (s.right == v && s.left == w) (s.right == w && s.left == v) i || shape-swap v w us i

-- no place is past one that the list ends before
pub only-to : (edges : List Sided) (e : Edge) (from to end : ℕ) → IsOnlyIn edges e from to → min to (length edges) ≤ end → IsOnlyIn edges e from end
only-to edges e from to end only l = record { each = λ i y p s. (let o = only-within edges e from to only in ((o.each i y p s).0, let k = (o.each i y p s).1 in omega (arith, k, l))) }

-- an edge that stands nowhere in the list is none
pub absent-none : (m : Undivided) → IsConforming m → (edges : List Sided) → map sided_edge edges ≡ edges_of m → (v w : ℕ) → v ≤ w → IsAbsent edges record { lo = v; hi = w } → is_edge m.tris v w ≡ false
absent-none m ok edges all v w l absent = sym (search-told m ok edges all record { lo = v; hi = w } l None _ (λ e. absent))

-- where each of the names is clear, none is a link node
pub clear-uncrossed : (m : Undivided) → IsConforming m → (u : ℕ) (us : List Spoke) (names : List ℕ) → us ≡ spokes_of m u → AreAround us names
    → ((v : ℕ) → is_name v names ≡ true → IsClear m us names v) → IsUncrossed m u us
clear-uncrossed m ok u us names all around clear v x hv hx = go (is_link_edge v x us) refl
  where
    named : (n : ℕ) → is_neighbour n us ≡ true → is_name n names ≡ true
    named n h = names-neighbours us names around n ∙ h

    order : (a b : ℕ) → (a ≤ b) ⊎ (b ≤ a)
    order a b = grind arith

    go : (b : Bool) → is_link_edge v x us ≡ b → is_link_at m u v (spokes_of m v) x ≡ false
    go true h = shape-none m ok u v x (subst (λ l. is_link_edge v x l ≡ true) all h)
    go false h = edge-none m ok u v x (elim (order v x) [
      | inl l ↦ (clear v (named v hv)).each x l (named x hx) h
      | inr l ↦ or_swap (is_some (side_of m.tris v x)) (is_some (side_of m.tris x v)) ∙ (clear x (named x hx)).each v l (named v hv) (shape-swap x v us ∙ h)
    ])

-- what holds at each place holds of each name
pub named-each : (P : ℕ → Type 0) (names : List ℕ) → ((k d : ℕ) → k < length names → P (slice_index_or names k d)) → (x : ℕ) → is_name x names ≡ true → P x
named-each P [] h x e = absurd (let k : false ≡ true = e in cc)
named-each P (y ∷ ys) h x e = go (y == x) refl e (named-each P ys (λ k d l. h (suc k) d (omega arith)) x)
  where
    same_name : (a b : ℕ) → (a == b) ≡ true → a ≡ b
    same_name a b q = grind (arith, nat_tests)

    go : (b : Bool) → (y == x) ≡ b → (b || is_name x ys) ≡ true → (is_name x ys ≡ true → P x) → P x
    go true q k ih = subst P (same_name y x q) (h 0 y (omega arith))
    go false q k ih = ih k

-- one name more is clear
pub clear-more : (m : Undivided) (us : List Spoke) (names : List ℕ) (i e : ℕ) → i < length names → IsClear m us names (slice_index_or names i e)
    → ((k d : ℕ) → k < i → IsClear m us names (slice_index_or names k d)) → (k d : ℕ) → k < i + 1 → IsClear m us names (slice_index_or names k d)
clear-more m us names i e within one before k d l = go (cases_of k i l)
  where
    cases_of : (a b : ℕ) → a < b + 1 → (a < b) ⊎ (a ≡ b)
    cases_of a b h = grind arith

    go : (k < i) ⊎ (k ≡ i) → IsClear m us names (slice_index_or names k d)
    go (inl h) = before k d h
    go (inr h) = subst (λ j. IsClear m us names (slice_index_or names j d)) (sym h) (subst (IsClear m us names) (get_or_default names i e d within) one)

-- where no neighbour is a link node of the contraction onto v, there is no least
pub uncrossed-least : (m : Undivided) (u v : ℕ) (us : List Spoke) (names : List ℕ) → IsUncrossed m u us → is_neighbour v us ≡ true → AreAround us names
    → None ≡ least_that (is_link_at m u v (spokes_of m v)) names
uncrossed-least m u v us names none hv around =
    sym (none-least (is_link_at m u v (spokes_of m v)) names (λ x e. none v x hv (sym (names-neighbours us names around x) ∙ e)))
