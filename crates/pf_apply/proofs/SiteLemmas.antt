-- A name's place in the list of live nodes, and the list without it.
use Rattle.std.proofs.Common.{◌≡◌, ◌≢◌, ℕ, zero, suc, ◌+◌, ◌<◌, ◌≤◌, List, [], ◌∷◌, length, get_or, refl, sym, ◌∙◌, ap, subst, true, false, cond, not, filter, ◌⊎◌, inl, inr, arith}
use Rattle.std.specs.Prelude.{AllPairs, Contains, remove, ◌==◌}
use Rattle.std.proofs.lemmas.Bool.Decides.{nat_tests}
use Rattle.std.proofs.lemmas.List.{get_or_default}
use Rattle.pf_model.specs.declared.Site.{Site}
use Rattle.pf_model.proofs.Members.{here, there}
use Rattle.pf_apply.specs.Sites.{IsIndexOfSite}

-- the sites rise by name
abbrev pub AreNamed : List Site → Type 0
AreNamed ss = AllPairs (λ r s. r.name < s.name) ss

-- a search goes on below the middle
pub from-middle : (ss : List Site) (n m : ℕ) → AreNamed ss → (d : Site) → m < length ss → n ≤ (get_or ss m d).name → (k : ℕ) (e : Site) → m ≤ k → k < length ss → n ≤ (get_or ss k e).name
from-middle ss n m up d l h k e le k' = go (cases_of m k le)
  where
    cases_of : (a b : ℕ) → a ≤ b → (a ≡ b) ⊎ (a < b)
    cases_of a b h' = grind arith

    h' : n ≤ (get_or ss m e).name
    h' = subst (λ x. n ≤ x.name) (get_or_default ss m d e l) h

    go : (m ≡ k) ⊎ (m < k) → n ≤ (get_or ss k e).name
    go (inl q) = subst (λ x. n ≤ (get_or ss x e).name) q h'
    go (inr q) = let x : (get_or ss m e).name < (get_or ss k e).name = up m k e q k' in omega (arith, h', x)

-- or above it
pub before-middle : (ss : List Site) (n m : ℕ) → AreNamed ss → (d : Site) → m < length ss → (get_or ss m d).name < n → (k : ℕ) (e : Site) → k < m + 1 → (get_or ss k e).name < n
before-middle ss n m up d l h k e le = go (cases_of k m le)
  where
    cases_of : (a b : ℕ) → a < b + 1 → (a ≡ b) ⊎ (a < b)
    cases_of a b h' = grind arith

    h' : (get_or ss m e).name < n
    h' = subst (λ x. x.name < n) (get_or_default ss m d e l) h

    go : (k ≡ m) ⊎ (k < m) → (get_or ss k e).name < n
    go (inl q) = subst (λ x. (get_or ss x e).name < n) (sym q) h'
    go (inr q) = let x : (get_or ss k e).name < (get_or ss m e).name = up k m e q l in omega (arith, h', x)

not_same : (a b : ℕ) → a ≢ b → (a == b) ≡ false
not_same a b n = grind (arith, nat_tests)

same : (a b : ℕ) → a ≡ b → (a == b) ≡ true
same a b e = grind (arith, nat_tests)

-- the list has nothing to lose
pub without-none : (n : ℕ) (ss : List Site) → ((s : Site) → Contains ss s → s.name ≢ n) → filter (λ s. not (s.name == n)) ss ≡ ss
without-none n [] h = refl
without-none n (s ∷ ss) h =
    ap (λ b. cond (not b) (s ∷ filter (λ r. not (r.name == n)) ss) (filter (λ r. not (r.name == n)) ss)) (not_same s.name n (h s (here s ss)))
    ∙ ap (λ l. s ∷ l) (without-none n ss (λ r k. h r (there r s ss k)))

-- past the last site
pub without-past : (n : ℕ) (ss : List Site) (r : ℕ) → IsIndexOfSite n ss r → length ss ≤ r → ss ≡ filter (λ s. not (s.name == n)) ss
without-past n ss r p past = sym (without-none n ss (λ s h. apart s h))
  where
    apart : (s : Site) → Contains ss s → s.name ≢ n
    apart s h = let l : h.0 < r = (let x = h.1 in omega (arith, past, x)) in let b = p.before h.0 s l in let e : (get_or ss h.0 s).name ≡ s.name = ap (λ x. x.name) h.2 in omega (arith, b, e)

-- another name stands there
pub without-other : (n : ℕ) (ss : List Site) (r : ℕ) (d : Site) → AreNamed ss → IsIndexOfSite n ss r → r < length ss → (get_or ss r d).name ≢ n → ss ≡ filter (λ s. not (s.name == n)) ss
without-other n ss r d up p l other = sym (without-none n ss (λ s h. go s h (three h.0 r)))
  where
    three : (a b : ℕ) → (a < b) ⊎ ((a ≡ b) ⊎ (b < a))
    three a b = grind arith

    go : (s : Site) → (h : Contains ss s) → (h.0 < r) ⊎ ((h.0 ≡ r) ⊎ (r < h.0)) → s.name ≢ n
    go s h (inl q) = let b = p.before h.0 s q in let e : (get_or ss h.0 s).name ≡ s.name = ap (λ x. x.name) h.2 in omega (arith, b, e)
    go s h (inr (inl q)) = let e : (get_or ss r d).name ≡ s.name = ap (λ x. x.name) (get_or_default ss r d s l ∙ (ap (λ i. get_or ss i s) (sym q) ∙ h.2)) in subst (λ x. x ≢ n) e other
    go s h (inr (inr q)) =
        let a : (get_or ss r s).name < (get_or ss h.0 s).name = up r h.0 s q h.1 in
        let b : n ≤ (get_or ss r s).name = p.from r s (omega arith) l in
        let e : (get_or ss h.0 s).name ≡ s.name = ap (λ x. x.name) h.2 in
        omega (arith, a, b, e)

named-rest : (s : Site) (ss : List Site) → AreNamed (s ∷ ss) → AreNamed ss
named-rest s ss up i j d l k = up (suc i) (suc j) d (omega arith) (omega arith)

-- the site with this name is taken out
pub without-found : (n : ℕ) (ss : List Site) (r : ℕ) (d : Site) → AreNamed ss → r < length ss → (get_or ss r d).name ≡ n → remove ss r ≡ filter (λ s. not (s.name == n)) ss
without-found n [] r d up l e = absurd (omega arith)
without-found n (s ∷ ss) zero d up l e =
    sym (without-none n ss (λ t h. later t h))
    ∙ sym (ap (λ b. cond (not b) (s ∷ filter (λ t. not (t.name == n)) ss) (filter (λ t. not (t.name == n)) ss)) (same s.name n e))
  where
    later : (t : Site) → Contains ss t → t.name ≢ n
    later t h = let a : s.name < (get_or ss h.0 t).name = up 0 (suc h.0) t (omega arith) (let x = h.1 in omega (arith, x)) in let q : (get_or ss h.0 t).name ≡ t.name = ap (λ x. x.name) h.2 in omega (arith, a, q, e)
without-found n (s ∷ ss) (suc r) d up l e =
    let l' : r < length ss = (let x : suc r < suc (length ss) = l in omega arith) in
    let a : s.name < (get_or ss r d).name = up 0 (suc r) d (omega arith) l in
    let other : s.name ≢ n = omega (arith, a, e) in
    ap (λ k. s ∷ k) (without-found n ss r d (named-rest s ss up) l' e)
    ∙ sym (ap (λ b. cond (not b) (s ∷ filter (λ t. not (t.name == n)) ss) (filter (λ t. not (t.name == n)) ss)) (not_same s.name n other))
