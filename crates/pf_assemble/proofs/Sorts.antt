-- What a sort makes of a list without repeats is the sorted list.
-- Assumes a strict order and a test of sameness by which each two elements are the same, or one stands before the other.
use Rattle.std.proofs.Common.{◌≡◌, ℕ, zero, suc, ◌+◌, ◌<◌, List, [], ◌∷◌, length, get_or, refl, sym, ◌∙◌, subst, Bool, true, false, cond, inl, inr, arith}
use Rattle.std.specs.Prelude.{Contains, Result, Ok, Err, OnOk}
use Rattle.std.specs.Result.{is_err}
use Rattle.std.specs.List.Sorted.{IsPermutation}
use Rattle.std.proofs.lemmas.List.Elements.{Contains-get_or}
use Rattle.std.proofs.lemmas.Map.Keys.{IsDistinct-from_apart}
use Rattle.pf_model.specs.Rising.{IsRising, insert_by, sorted_by}
use Rattle.pf_model.proofs.Members.{nowhere, cases, insert_by-new, insert_by-old}
use Rattle.pf_model.proofs.RisingLemmas.{IsStrictOrder, rising-nil, rising-head, rising-tail, rising-cons}
use Rattle.pf_model.proofs.Sorted.{sorted-from, sorted-back}

-- how the order and the test of sameness go together
pub record AreTests {X : Type 0} (lt eq : X → X → Bool) : Type 0 where
  pub order : IsStrictOrder lt
  pub flips : (x y : X) → eq x y ≡ eq y x
  pub apart : (x y : X) → lt x y ≡ true → eq x y ≡ false
  pub total : (x y : X) → lt y x ≡ false → eq x y ≡ false → lt x y ≡ true

-- no element is the same as x
abbrev pub IsNew : {X : Type 0} → (X → X → Bool) → X → List X → Type 0
IsNew {X} eq x ys = (z : X) → Contains ys z → eq x z ≡ false

-- where a list rises with an element more, it rises without it, and has no such element
insert-parts : {X : Type 0} (lt eq : X → X → Bool) → AreTests lt eq → (x : X) (ys : List X) → IsRising lt (insert_by lt x ys) → IsRising lt ys × IsNew eq x ys
insert-parts lt eq t x [] up = (rising-nil lt, λ z h. absurd (nowhere z h))
insert-parts {X} lt eq t x (y ∷ ys) up = go (lt x y) refl up (λ u. insert-parts lt eq t x ys u)
  where
    go : (b : Bool) → lt x y ≡ b → IsRising lt (cond b (x ∷ y ∷ ys) (y ∷ insert_by lt x ys)) → (IsRising lt (insert_by lt x ys) → IsRising lt ys × IsNew eq x ys) → IsRising lt (y ∷ ys) × IsNew eq x (y ∷ ys)
    go true e u ih = (rising-tail lt x (y ∷ ys) u, λ z h. t.apart x z (rising-head lt x z (y ∷ ys) u h))
    go false e u ih =
        let r = ih (rising-tail lt y (insert_by lt x ys) u) in (
          rising-cons lt y ys (λ z h. rising-head lt y z (insert_by lt x ys) u (insert_by-old lt x z ys h)) r.0,
          λ z h. elim (cases z y ys h) [
            | inl q ↦ subst (λ w. eq x w ≡ false) (sym q) (t.flips x y ∙ t.apart y x (rising-head lt y x (insert_by lt x ys) u (insert_by-new lt x ys)))
            | inr k ↦ r.1 z k
          ],
        )

-- where the sorted list rises, no two elements are the same
apart : {X : Type 0} (lt eq : X → X → Bool) → AreTests lt eq → (xs : List X) → IsRising lt (sorted_by lt xs) → (i j : ℕ) (d : X) → i < j → j < length xs → eq (get_or xs i d) (get_or xs j d) ≡ false
apart lt eq t [] up i j d l k = absurd (omega arith)
apart {X} lt eq t (x ∷ xs) up i j d l k = go i j l k (λ a b q r. apart lt eq t xs parts.0 a b d q r)
  where
    parts : IsRising lt (sorted_by lt xs) × IsNew eq x (sorted_by lt xs)
    parts = insert-parts lt eq t x (sorted_by lt xs) up

    go : (i j : ℕ) → i < j → j < length (x ∷ xs) → ((a b : ℕ) → a < b → b < length xs → eq (get_or xs a d) (get_or xs b d) ≡ false) → eq (get_or (x ∷ xs) i d) (get_or (x ∷ xs) j d) ≡ false
    go zero zero l k ih = absurd (omega arith)
    go zero (suc j) l k ih = parts.1 (get_or xs j d) (sorted-back lt xs (get_or xs j d) (Contains-get_or xs j d (let w : suc j < suc (length xs) = k in omega arith)))
    go (suc i) zero l k ih = absurd (omega arith)
    go (suc i) (suc j) l k ih = ih i j (omega arith) (let w : suc j < suc (length xs) = k in omega arith)

-- a list with the same elements, in which none stands before the one that it follows
pub sorts : {X : Type 0} (lt eq : X → X → Bool) → AreTests lt eq → (xs ys : List X) → IsPermutation xs ys → ((k : ℕ) (d : X) → k + 1 < length ys → lt (get_or ys (k + 1) d) (get_or ys k d) ≡ false) → IsRising lt (sorted_by lt xs) → ys ≡ sorted_by lt xs
sorts lt eq t xs ys same steps up =
    sorted-from lt t.order eq t.flips xs ys up (IsDistinct-from_apart eq xs (apart lt eq t xs up)) same
    (λ k d l e. t.total (get_or ys k d) (get_or ys (k + 1) d) (steps k d l) e)

-- what is so of a success
pub of_success : {T E P : Type 0} (r : Result T E) → false ≡ is_err r → OnOk r P → P
of_success (Ok x) n h = h
of_success (Err x) n h = absurd (let z : false ≡ true = n in cc)
