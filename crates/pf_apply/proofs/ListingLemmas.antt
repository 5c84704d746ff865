-- A triangle's place in a list that rises by corners, and the list after it is taken out or put in there.
use Rattle.std.proofs.Common.{◌≡◌, ℕ, zero, suc, ◌+◌, ◌<◌, ◌≤◌, List, [], ◌∷◌, length, get_or, refl, sym, ◌∙◌, ap, subst, Bool, true, false, cond, not, ◌⊎◌, inl, inr, arith}
use Rattle.std.specs.Prelude.{Contains, insert, remove}
use Rattle.std.proofs.lemmas.List.{get_or_default}
use Rattle.pf_model.specs.declared.Tri.{Tri}
use Rattle.pf_model.specs.Rising.{IsRising, insert_by}
use Rattle.pf_model.specs.Mesh.{tri_lt, has_edge}
use Rattle.pf_model.specs.Conforming.{HasEdgesOnce}
use Rattle.pf_model.proofs.Members.{here, there}
use Rattle.pf_model.proofs.RisingLemmas.{rising-insert_by, rising-filter}
use Rattle.pf_model.proofs.Triangles.{tri_lt-order, tri_lt-apart}
use Rattle.pf_model.proofs.Kept.{has_edge-first}
use Rattle.pf_model.specs.Exchange.{AreOnce, SharesNoEdge, without, without_all}
use Rattle.pf_apply.specs.Listing.{IsRank}
use Rattle.pf_model.proofs.Exchange.{bool_cases, filter-all}

not_false : (b : Bool) → b ≡ false → not b ≡ true
not_false b e = ap not e

apart : (b : Bool) → b ≡ true → b ≡ false → ⊥
apart b e f = let k : true ≡ false = sym e ∙ f in absurd (cc)

-- a search goes on below the middle
pub above-middle : (ts : List Tri) (t : Tri) (m : ℕ) → IsRising tri_lt ts → (d : Tri) → m < length ts → tri_lt t (get_or ts m d) ≡ true → (k : ℕ) (e : Tri) → m ≤ k → k < length ts → tri_lt t (get_or ts k e) ≡ true
above-middle ts t m up d l h k e n k' = go (cases_of m k n)
  where
    cases_of : (a b : ℕ) → a ≤ b → (a ≡ b) ⊎ (a < b)
    cases_of a b h' = grind arith

    h' : tri_lt t (get_or ts m e) ≡ true
    h' = subst (λ x. tri_lt t x ≡ true) (get_or_default ts m d e l) h

    go : (m ≡ k) ⊎ (m < k) → tri_lt t (get_or ts k e) ≡ true
    go (inl q) = subst (λ x. tri_lt t (get_or ts x e) ≡ true) q h'
    go (inr q) = tri_lt-order.transitive t (get_or ts m e) (get_or ts k e) h' (up m k e q k')

-- or above it
pub below-middle : (ts : List Tri) (t : Tri) (m : ℕ) → IsRising tri_lt ts → (d : Tri) → m < length ts → tri_lt t (get_or ts m d) ≡ false → (k : ℕ) (e : Tri) → k < m + 1 → tri_lt t (get_or ts k e) ≡ false
below-middle ts t m up d l h k e n = go (cases_of k m n)
  where
    cases_of : (a b : ℕ) → a < b + 1 → (a ≡ b) ⊎ (a < b)
    cases_of a b h' = grind arith

    h' : tri_lt t (get_or ts m e) ≡ false
    h' = subst (λ x. tri_lt t x ≡ false) (get_or_default ts m d e l) h

    go : (k ≡ m) ⊎ (k < m) → tri_lt t (get_or ts k e) ≡ false
    go (inl q) = subst (λ x. tri_lt t (get_or ts x e) ≡ false) (sym q) h'
    go (inr q) = elim (bool_cases (tri_lt t (get_or ts k e))) [ inl x ↦ absurd (apart _ (tri_lt-order.transitive t (get_or ts k e) (get_or ts m e) x (up k m e q l)) h') | inr x ↦ x ]

pub insert-rank : (t : Tri) (ts : List Tri) (r : ℕ) → IsRank t ts r → insert ts r t ≡ insert_by tri_lt t ts
insert-rank t [] r k = let e : r ≡ 0 = (let w = k.within in omega arith) in rw e refl
insert-rank t (s ∷ ts) zero k = sym (ap (λ b. cond b (t ∷ s ∷ ts) (s ∷ insert_by tri_lt t ts)) (k.from 0 s (omega arith) (omega arith)))
insert-rank t (s ∷ ts) (suc r) k = ap (λ l. s ∷ l) (insert-rank t ts r rest) ∙ sym (ap (λ b. cond b (t ∷ s ∷ ts) (s ∷ insert_by tri_lt t ts)) (k.before 0 s (omega arith)))
  where
    rest : IsRank t ts r
    rest = record { within = (let w : suc r ≤ suc (length ts) = k.within in omega arith); before = λ i d l. k.before (suc i) d (omega arith); from = λ i d l m. k.from (suc i) d (omega arith) (omega arith) }

-- the triangle stands just before its rank
pub rank-found : (t : Tri) (ts : List Tri) (r : ℕ) → IsRising tri_lt ts → IsRank t ts r → (h : Contains ts t) → r ≡ h.0 + 1
rank-found t ts r up k h = elim (three h.0 r) [ inl l ↦ absurd (apart _ (k.from h.0 t l h.1) (subst (λ x. tri_lt t x ≡ false) (sym h.2) (tri_lt-order.irreflexive t))) | inr q ↦ elim q [ inl e ↦ e | inr l ↦ absurd (apart _ (subst (λ x. tri_lt x (get_or ts (h.0 + 1) t) ≡ true) h.2 (up h.0 (h.0 + 1) t (omega arith) (let w = k.within in omega arith))) (k.before (h.0 + 1) t l)) ] ]
  where
    three : (a b : ℕ) → (b ≤ a) ⊎ ((b ≡ a + 1) ⊎ (a + 1 < b))
    three a b = grind arith

pub remove-without : (t : Tri) (ts : List Tri) (j : ℕ) → HasEdgesOnce ts → AreOnce ts → j < length ts → get_or ts j t ≡ t → remove ts j ≡ without t ts
remove-without t [] j once different l e = absurd (omega arith)
remove-without t (s ∷ ts) zero once different l e =
    let rest : without t ts ≡ ts = filter-all (λ x. not (has_edge t.a t.b x)) ts (λ x i. elim (bool_cases (has_edge t.a t.b x)) [ inl y ↦ absurd (different.0 x i (once s x t.a t.b (here s ts) (there x s ts i) (subst (λ w. has_edge t.a t.b w ≡ true) (sym e) (has_edge-first t)) y)) | inr y ↦ not_false _ y ]) in
    sym rest ∙ sym (ap (λ b. cond (not b) (s ∷ without t ts) (without t ts)) (subst (λ w. has_edge t.a t.b w ≡ true) (sym e) (has_edge-first t)))
remove-without t (s ∷ ts) (suc j) once different l e =
    let l' : j < length ts = (let w : suc j < suc (length ts) = l in omega arith) in
    let h : Contains ts t = (j, l', e) in
    let no : has_edge t.a t.b s ≡ false = elim (bool_cases (has_edge t.a t.b s)) [ inl y ↦ absurd (different.0 t h (once s t t.a t.b (here s ts) (there t s ts h) y (has_edge-first t))) | inr y ↦ y ] in
    ap (λ l. s ∷ l) (remove-without t ts j (λ x y p q a b c d. once x y p q (there x s ts a) (there y s ts b) c d) different.1 l' e)
    ∙ sym (ap (λ b. cond (not b) (s ∷ without t ts) (without t ts)) no)

pub rising-fit : (t : Tri) (ts : List Tri) → IsRising tri_lt ts → SharesNoEdge t ts → IsRising tri_lt (insert_by tri_lt t ts)
rising-fit t ts up f = rising-insert_by tri_lt tri_lt-order t ts (λ z h. tri_lt-apart t z (f z t.a t.b h (has_edge-first t))) up

pub rising-without_all : (removed ts : List Tri) → IsRising tri_lt ts → IsRising tri_lt (without_all removed ts)
rising-without_all [] ts up = up
rising-without_all (g ∷ gs) ts up = rising-without_all gs (without g ts) (rising-filter tri_lt (λ t. not (has_edge g.a g.b t)) ts up)
