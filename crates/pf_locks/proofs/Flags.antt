-- Numbers that are set or not.
use Rattle.std.proofs.Common.{◌≡◌, ◌≢◌, ℕ, zero, suc, ◌+◌, ◌<◌, ◌≤◌, Bool, true, false, cond, ◌==◌, ◌||◌, ◌&&◌, nat_lt, List, [], ◌∷◌, length, set, replicate, refl, sym, ap, ◌∙◌, arith, get_or}
use Rattle.std.proofs.lemmas.Bool.{eqb-true, eqb-false}
use Rattle.std.proofs.lemmas.Bool.Decides.{nat_tests}
use Rattle.std.proofs.lemmas.List.{get_or-set_same, get_or-set_other}
use Rattle.std.proofs.Math.Decide.{dec_lt}
use mathlib.Core.Logic.{dite}
use Rattle.pf_locks.specs.Seats.{flag_at}
use Rattle.pf_locks.proofs.Keeping.{by_test}

pub set_flag : (fs : List Bool) (i j : ℕ) (b : Bool) → i < length fs → flag_at (set fs i b) j ≡ cond (j == i) b (flag_at fs j)
set_flag fs i j b near = by_test (j == i) (flag_at (set fs i b) j ≡ cond (j == i) b (flag_at fs j))
    (λ e. ap (λ (k : ℕ). get_or (set fs i b) k false) (eqb-true j i e) ∙ get_or-set_same fs i b false near ∙ sym (ap (λ (x : Bool). cond x b (flag_at fs j)) e))
    (λ e. get_or-set_other fs i j b false (eqb-false j i e) ∙ sym (ap (λ (x : Bool). cond x b (flag_at fs j)) e))

pub none_set : (n k : ℕ) → flag_at (replicate n false) k ≡ false
none_set zero k = refl
none_set (suc n) zero = refl
none_set (suc n) (suc k) = none_set n k

pub no_flag : (fs : List Bool) (k : ℕ) → length fs ≤ k → flag_at fs k ≡ false
no_flag [] k h = refl
no_flag (f ∷ fs) zero h = absurd (omega arith)
no_flag (f ∷ fs) (suc k) h = no_flag fs k (omega arith)

-- one number more
pub one_below : (fs : List Bool) (k : ℕ) → k < length fs → ((j : ℕ) → flag_at fs j ≡ nat_lt j k) → (j : ℕ) → flag_at (set fs k true) j ≡ nat_lt j (k + 1)
one_below fs k near all j = set_flag fs k j true near ∙ by_test (j == k) (cond (j == k) true (flag_at fs j) ≡ nat_lt j (k + 1))
    (λ e. let is : j ≡ k = eqb-true j k e in let low : nat_lt j (k + 1) ≡ true = grind (arith, nat_tests) in ap (λ (x : Bool). cond x true (flag_at fs j)) e ∙ sym low)
    (λ e. let is : j ≢ k = eqb-false j k e in let same : nat_lt j k ≡ nat_lt j (k + 1) = grind (arith, nat_tests) in ap (λ (x : Bool). cond x true (flag_at fs j)) e ∙ all j ∙ same)

-- one number of another's more
or_none : (a : Bool) → a ≡ (a || false)
or_none true = refl
or_none false = refl

pub one_too : (fs init os : List Bool) (k : ℕ) (b : Bool) → k < length fs → ((j : ℕ) → flag_at fs j ≡ (flag_at init j || (nat_lt j k && flag_at os j))) → b ≡ (flag_at fs k || flag_at os k)
    → (j : ℕ) → flag_at (set fs k b) j ≡ (flag_at init j || (nat_lt j (k + 1) && flag_at os j))
one_too fs init os k b near all is j = set_flag fs k j b near ∙ by_test (j == k) (cond (j == k) b (flag_at fs j) ≡ (flag_at init j || (nat_lt j (k + 1) && flag_at os j)))
    (λ e.
    let same : j ≡ k = eqb-true j k e in
    let low : nat_lt k (k + 1) ≡ true = grind (arith, nat_tests) in
    let high : nat_lt k k ≡ false = grind (arith, nat_tests) in
    let before : flag_at fs k ≡ flag_at init k = all k ∙ ap (λ (x : Bool). flag_at init k || (x && flag_at os k)) high ∙ sym (or_none (flag_at init k)) in
    ap (λ (x : Bool). cond x b (flag_at fs j)) e ∙ is ∙ ap (λ (x : Bool). x || flag_at os k) before ∙ ap (λ (x : Bool). flag_at init k || (x && flag_at os k)) (sym low)
    ∙ ap (λ (i : ℕ). flag_at init i || (nat_lt i (k + 1) && flag_at os i)) (sym same))
    (λ e.
    let other : j ≢ k = eqb-false j k e in
    let same : nat_lt j k ≡ nat_lt j (k + 1) = grind (arith, nat_tests) in
    ap (λ (x : Bool). cond x b (flag_at fs j)) e ∙ all j ∙ ap (λ (x : Bool). flag_at init j || (x && flag_at os j)) same)

pub all_too : (init os fs : List Bool) (k : ℕ) → length os ≤ k → ((j : ℕ) → flag_at fs j ≡ (flag_at init j || (nat_lt j k && flag_at os j))) → (j : ℕ) → flag_at fs j ≡ (flag_at init j || flag_at os j)
all_too init os fs k long all j = all j ∙ ap (λ (x : Bool). flag_at init j || x) (dite (dec_lt j k)
    (λ low. let t : nat_lt j k ≡ true = grind (arith, nat_tests) in ap (λ (x : Bool). x && flag_at os j) t)
    (λ high. let t : nat_lt j k ≡ false = grind (arith, nat_tests) in ap (λ (x : Bool). x && flag_at os j) t ∙ sym (no_flag os j (omega arith))))
