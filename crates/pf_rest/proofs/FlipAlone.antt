-- Whether the acting chunk's flip of an edge passes is told by the clauses of a flip alone.
use Rattle.std.proofs.Common.{◌≡◌, ℕ, List, ◌∷◌, refl, sym, ◌∙◌, ap, subst, Bool, true, false, ◌&&◌, ◌||◌, ◌==◌, ◌⊎◌, inl, inr, arith}
use Rattle.std.specs.Prelude.{◌≤◌, Option, Some, None, is_some, is_none, not, min, max}
use Rattle.std.proofs.lemmas.Bool.Decides.{nat_tests}
use Rattle.pf_model.specs.declared.Tri.{Tri}
use Rattle.pf_model.specs.declared.Cond.{Cond}
use Rattle.pf_model.specs.declared.Cond.TheVariants.{NoEdge, Foreign, OnBoundary}
use Rattle.pf_model.specs.declared.Op.TheVariants.{Flip}
use Rattle.pf_model.specs.Clauses.{when, first_of}
use Rattle.pf_model.specs.Mesh.{Undivided, has_edge, side_of, is_edge}
use Rattle.pf_model.specs.declared.Side.{Side}
use Rattle.pf_model.specs.Lengths.{Edge}
use Rattle.pf_model.specs.Conforming.{IsConforming}
use Rattle.pf_model.specs.Rows.{is_owned}
use Rattle.pf_model.specs.Conditions.{flip_clauses, first_failing}
use Rattle.pf_model.specs.Wishes.{owner_of, acting_chunk}
use Rattle.pf_model.proofs.ReadClauses.{when-none, first_of-none, is_some-holds, not-false, and-true}
use Rattle.pf_model.proofs.Triangles.{IsLeastFirst, side_of-some}
use Rattle.pf_model.proofs.EdgeSum.{conforming-sound}

-- the clauses of the flip of a and b alone
abbrev pub turning_clauses : Undivided → ℕ → ℕ → List (Option Cond)
turning_clauses m a b = flip_clauses m (min a b) (max a b)

abbrev HasBoth : Undivided → ℕ → ℕ → Type 0
HasBoth m a b = (is_some (side_of m.tris a b) ≡ true) × (is_some (side_of m.tris b a) ≡ true)

-- where the sorted edge has both its sides, so has the edge as written
both-written : (m : Undivided) (a b : ℕ) → HasBoth m (min a b) (max a b) → HasBoth m a b
both-written m a b h = elim (cases_of a b) [
  | inl l ↦ subst (λ w. HasBoth m a w) l.1 (subst (λ w. HasBoth m w (max a b)) l.0 h)
  | inr l ↦ let k = subst (λ w. HasBoth m b w) l.1 (subst (λ w. HasBoth m w (max a b)) l.0 h) in (k.1, k.0)
]
  where
    cases_of : (p q : ℕ) → ((min p q ≡ p) × (max p q ≡ q)) ⊎ ((min p q ≡ q) × (max p q ≡ p))
    cases_of p q = grind arith

-- no triangle has an edge from a corner to itself
no_loop : (p q : ℕ) (t : Tri) → IsLeastFirst t → has_edge p q t ≡ true → (p == q) ≡ false
no_loop p q t l h = let x = l.least in let y = l.least' in let z = l.apart in grind (arith, nat_tests)

apart-ends : (m : Undivided) → IsConforming m → (a b : ℕ) (s : Side) → side_of m.tris a b ≡ Some s → (a == b) ≡ false
apart-ends m ok a b s e = let t = side_of-some m.tris a b s e in no_loop a b t.0 ((conforming-sound m ok).least t.0 t.1) t.2

same_name : (n : ℕ) → (n == n) ≡ true
same_name n = grind (arith, nat_tests)

-- with both its sides, the edge is there, and the acting chunk owns one
edge-there : (m : Undivided) → IsConforming m → (a b : ℕ) → HasBoth m a b → (a == b || not (is_edge m.tris a b)) ≡ false
edge-there m ok a b h =
    let s = is_some-holds (side_of m.tris a b) h.0 in
    λ i. apart-ends m ok a b s.0 s.1 i || not (h.0 i || is_some (side_of m.tris b a))

edge-owned : (m : Undivided) (a b : ℕ) → HasBoth m a b → not (is_owned (owner_of (side_of m.tris a b) (side_of m.tris b a)) (side_of m.tris a b) || is_owned (owner_of (side_of m.tris a b) (side_of m.tris b a)) (side_of m.tris b a)) ≡ false
edge-owned m a b h =
    let s = is_some-holds (side_of m.tris a b) h.0 in
    let r = side_of m.tris b a in
    subst (λ o. not (is_owned (owner_of o r) o || is_owned (owner_of o r) r) ≡ false) (sym s.1)
    (λ i. not (same_name s.0.owner i || is_owned s.0.owner r))

later-some : (c d : Option Cond) (cs : List (Option Cond)) (x : Cond) → first_of cs ≡ Some x → false ≡ is_none (first_of (c ∷ d ∷ cs))
later-some (Some y) d cs x h = refl
later-some None (Some y) cs x h = refl
later-some None None cs x h = sym (ap is_none h)

pub turning-alone : (m : Undivided) → IsConforming m → (e : Edge) → is_none (first_of (turning_clauses m e.lo e.hi)) ≡ is_none (first_failing m (acting_chunk m e) (Flip e.lo e.hi))
turning-alone m ok e = go (first_of (turning_clauses m e.lo e.hi)) refl
  where
    a : ℕ
    a = e.lo

    b : ℕ
    b = e.hi

    chunk : ℕ
    chunk = acting_chunk m e

    both : first_of (turning_clauses m a b) ≡ None → HasBoth m a b
    both p =
        let one = first_of-none (when (not (is_some (side_of m.tris (min a b) (max a b)) && is_some (side_of m.tris (max a b) (min a b)))) OnBoundary) _ p in
        both-written m a b (and-true _ _ (not-false _ (when-none _ _ one.0)))

    go : (o : Option Cond) → first_of (turning_clauses m a b) ≡ o → is_none o ≡ is_none (first_failing m chunk (Flip a b))
    go None p =
        let h = both p in
        sym (ap is_none p) ∙ sym (λ i. is_none (first_of (when (edge-there m ok a b h i) NoEdge ∷ when (edge-owned m a b h i) Foreign ∷ turning_clauses m a b)))
    go (Some x) p =
        later-some
        (when (a == b || not (is_edge m.tris a b)) NoEdge)
        (when (not (is_owned chunk (side_of m.tris a b) || is_owned chunk (side_of m.tris b a))) Foreign)
        (turning_clauses m a b) x p

-- the same where the lower name stands first
pub turning-sorted : (m : Undivided) → IsConforming m → (e : Edge) → e.lo ≤ e.hi
    → is_none (first_of (flip_clauses m e.lo e.hi)) ≡ is_none (first_failing m (acting_chunk m e) (Flip e.lo e.hi))
turning-sorted m ok e sorted =
    sym (λ i. is_none (first_of (flip_clauses m (low i) (high i))))
    ∙ turning-alone m ok e
  where
    low : min e.lo e.hi ≡ e.lo
    low = omega arith

    high : max e.lo e.hi ≡ e.hi
    high = omega arith

-- as the call of is_none says it
pub none-told : (o : Option Cond) (told : Bool) → is_some o ≡ not told → told ≡ is_none o
none-told None true h = refl
none-told None false h = absurd (let e : false ≡ true = h in cc)
none-told (Some x) true h = absurd (let e : true ≡ false = h in cc)
none-told (Some x) false h = refl
