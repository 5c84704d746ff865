-- Reading the conditions of a contraction: neighbours by edges, and which clauses are left after which.
-- Assumes `IsConforming m` where it speaks of neighbours.
use Rattle.std.proofs.Common.{◌≡◌, ℕ, ◌<◌, ◌≤◌, List, [], ◌∷◌, length, refl, sym, ◌∙◌, ap, Bool, true, false, not, ◌⊎◌, inl, inr, arith, ◌==◌, ◌||◌, Option, Some, None}
use Rattle.std.specs.Prelude.{nat_lt, is_some}
use Rattle.std.proofs.lemmas.Bool.Decides.{nat_tests}
use Rattle.pf_model.specs.declared.Cond.{Cond}
use Rattle.pf_model.specs.declared.Cond.TheVariants.{NoEdge, Foreign, TooWide, Pinched}
use Rattle.pf_model.specs.declared.Op.TheVariants.{Contract}
use Rattle.pf_model.specs.Clauses.{when, first_of}
use Rattle.pf_model.specs.Mesh.{Undivided, tri_of, side_of, is_edge}
use Rattle.pf_model.specs.Conforming.{IsConforming}
use Rattle.pf_model.specs.Stars.{spokes_of, is_one_fan, is_neighbour}
use Rattle.pf_model.specs.Rows.{is_owned}
use Rattle.pf_model.specs.Conditions.{edge_clauses, first_failing}
use Rattle.pf_model.proofs.FlipKeeps.{corners_of}
use Rattle.pf_model.proofs.Kept.{any-from, any-means, side_of-found}
use Rattle.pf_model.proofs.Triangles.{tri_of-edge_one, tri_of-edge_three}
use Rattle.pf_model.proofs.Spokes.{spokes-means}
use Rattle.pf_model.proofs.ReadClauses.{when-none, first_of-none, or-false, not-false}
use Rattle.pf_rules.specs.Contract.{star_clauses}
use Rattle.pf_rules.proofs.StarSpokes.{edge-spoke}

one_of : (a b x : ℕ) → (a == x || b == x) ≡ true → (a ≡ x) ⊎ (b ≡ x)
one_of a b x h = grind (arith, nat_tests)

either : (a b x : ℕ) → (a ≡ x) ⊎ (b ≡ x) → (a == x || b == x) ≡ true
either a b x h = grind (arith, nat_tests)

or_left : (a b : Bool) → a ≡ true → (a || b) ≡ true
or_left true b e = refl
or_left false b e = absurd (let k : false ≡ true = e in cc)

or_right : (a b : Bool) → b ≡ true → (a || b) ≡ true
or_right true b e = refl
or_right false b e = e

pub or_swap : (a b : Bool) → (a || b) ≡ (b || a)
or_swap true true = refl
or_swap true false = refl
or_swap false true = refl
or_swap false false = refl

-- a neighbour is an end of an edge
pub neighbour-edge : (m : Undivided) → IsConforming m → (x v : ℕ) → is_neighbour x (spokes_of m v) ≡ is_edge m.tris v x
neighbour-edge m ok x v = go (is_neighbour x (spokes_of m v)) refl (is_edge m.tris v x) refl
  where
    forth : is_neighbour x (spokes_of m v) ≡ true → is_edge m.tris v x ≡ true
    forth e =
        let s = any-means (λ r. r.right == x || r.left == x) (spokes_of m v) e in
        let h = spokes-means m ok v s.0 s.1 in
        elim (one_of s.0.right s.0.left x s.2) [
          | inl q ↦ or_left (is_some (side_of m.tris v x)) (is_some (side_of m.tris x v)) (ap is_some (ap (side_of m.tris v) (sym q) ∙ side_of-found m.tris ok.edges_once v s.0.right (tri_of v s.0.right s.0.left s.0.owner) h (tri_of-edge_one v s.0.right s.0.left s.0.owner)))
          | inr q ↦ or_right (is_some (side_of m.tris v x)) (is_some (side_of m.tris x v)) (ap is_some (ap (λ n. side_of m.tris n v) (sym q) ∙ side_of-found m.tris ok.edges_once s.0.left v (tri_of v s.0.right s.0.left s.0.owner) h (tri_of-edge_three v s.0.right s.0.left s.0.owner)))
        ]

    back : is_edge m.tris v x ≡ true → is_neighbour x (spokes_of m v) ≡ true
    back e = let s = edge-spoke m ok v x e in any-from (λ r. r.right == x || r.left == x) s.0 (spokes_of m v) s.1 (either s.0.right s.0.left x s.2)

    go : (a : Bool) → is_neighbour x (spokes_of m v) ≡ a → (b : Bool) → is_edge m.tris v x ≡ b → a ≡ b
    go true e true f = refl
    go false e false f = refl
    go true e false f = sym (forth e) ∙ f
    go false e true f = sym e ∙ back f

-- no node is its own neighbour
pub not-own : (m : Undivided) → IsConforming m → (x v : ℕ) → x ≡ v → not (x == v) ≡ is_neighbour x (spokes_of m v)
not-own m ok x v same = itself x v same ∙ go (is_neighbour x (spokes_of m v)) refl
  where
    itself : (a b : ℕ) → a ≡ b → not (a == b) ≡ false
    itself a b e = grind (arith, nat_tests)

    go : (b : Bool) → is_neighbour x (spokes_of m v) ≡ b → false ≡ b
    go false e = refl
    go true e =
        let s = any-means (λ r. r.right == x || r.left == x) (spokes_of m v) e in
        let apart = (corners_of m ok v s.0.right s.0.left s.0.owner (spokes-means m ok v s.0 s.1)).distinct in
        absurd (elim (one_of s.0.right s.0.left x s.2) [ inl q ↦ apart.one (sym (q ∙ same)) | inr q ↦ apart.three (q ∙ same) ])

skip_two : (a b : Option Cond) (cs : List (Option Cond)) → first_of (a ∷ b ∷ []) ≡ None → first_of (a ∷ b ∷ cs) ≡ first_of cs
skip_two None None cs h = refl
skip_two (Some x) b cs h = absurd (let e : Some x ≡ None = h in cc)
skip_two None (Some x) cs h = absurd (let e : Some x ≡ None = h in cc)

wide_test : (n k : ℕ) → k ≡ n → 60 < n → nat_lt 60 k ≡ true
wide_test n k e l = grind (arith, nat_tests)

slim_test : (n k : ℕ) → k ≡ n → n ≤ 60 → nat_lt 60 k ≡ false
slim_test n k e l = grind (arith, nat_tests)

module _ (m : Undivided) (chunk u v : ℕ) (pass : None ≡ first_of (edge_clauses m chunk u v)) where
  -- the edge is there
  pub edge-there : is_edge m.tris u v ≡ true
  edge-there =
      let one = first_of-none (when (u == v || not (is_edge m.tris u v)) NoEdge) (when (not (is_owned chunk (side_of m.tris u v) || is_owned chunk (side_of m.tris v u))) Foreign ∷ []) (sym pass) in
      not-false _ (or-false (u == v) _ (when-none _ _ one.0)).1

  abbrev rest : List (Option Cond)
  rest = when (nat_lt 60 (length (spokes_of m u))) TooWide ∷ when (not (is_one_fan (spokes_of m u))) Pinched ∷ star_clauses m u v (spokes_of m u) (spokes_of m v)

  after_edge : first_failing m chunk (Contract u v) ≡ first_of rest
  after_edge = skip_two (when (u == v || not (is_edge m.tris u v)) NoEdge) (when (not (is_owned chunk (side_of m.tris u v) || is_owned chunk (side_of m.tris v u))) Foreign) rest (sym pass)

  pub too-wide : (n : ℕ) → length (spokes_of m u) ≡ n → 60 < n → Some TooWide ≡ first_failing m chunk (Contract u v)
  too-wide n e l = sym (after_edge ∙ ap (λ b. first_of (when b TooWide ∷ when (not (is_one_fan (spokes_of m u))) Pinched ∷ star_clauses m u v (spokes_of m u) (spokes_of m v))) (wide_test n (length (spokes_of m u)) e l))

  after_wide : (n : ℕ) → length (spokes_of m u) ≡ n → n ≤ 60 → first_failing m chunk (Contract u v) ≡ first_of (when (not (is_one_fan (spokes_of m u))) Pinched ∷ star_clauses m u v (spokes_of m u) (spokes_of m v))
  after_wide n e l = after_edge ∙ ap (λ b. first_of (when b TooWide ∷ when (not (is_one_fan (spokes_of m u))) Pinched ∷ star_clauses m u v (spokes_of m u) (spokes_of m v))) (slim_test n (length (spokes_of m u)) e l)

  pub pinched : (n : ℕ) → length (spokes_of m u) ≡ n → n ≤ 60 → is_one_fan (spokes_of m u) ≡ false → Some Pinched ≡ first_failing m chunk (Contract u v)
  pinched n e l f = sym (after_wide n e l ∙ ap (λ b. first_of (when (not b) Pinched ∷ star_clauses m u v (spokes_of m u) (spokes_of m v))) f)

  pub by-star : (n : ℕ) → length (spokes_of m u) ≡ n → n ≤ 60 → is_one_fan (spokes_of m u) ≡ true → first_of (star_clauses m u v (spokes_of m u) (spokes_of m v)) ≡ first_failing m chunk (Contract u v)
  by-star n e l f = sym (after_wide n e l ∙ ap (λ b. first_of (when (not b) Pinched ∷ star_clauses m u v (spokes_of m u) (spokes_of m v))) f)

-- a contraction that passes is of a node with at most 60 triangles
pub narrow : (m : Undivided) (chunk u v : ℕ) → first_failing m chunk (Contract u v) ≡ None → length (spokes_of m u) ≤ 60
narrow m chunk u v h =
    let one = first_of-none (when (u == v || not (is_edge m.tris u v)) NoEdge) _ h in
    let two = first_of-none (when (not (is_owned chunk (side_of m.tris u v) || is_owned chunk (side_of m.tris v u))) Foreign) _ one.1 in
    let three = first_of-none (when (nat_lt 60 (length (spokes_of m u))) TooWide) _ two.1 in
    at_most (length (spokes_of m u)) (when-none _ _ three.0)
  where
    at_most : (n : ℕ) → nat_lt 60 n ≡ false → n ≤ 60
    at_most n e = grind (arith, nat_tests)
