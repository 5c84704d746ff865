-- Runs at the front of a list.
use Rattle.std.proofs.Common.{◌≡◌, ℕ, ◌+◌, ◌<◌, ◌≤◌, Bool, true, false, not, suc, List, length, get_or, take, drop, ◌-◌, length-drop, [], ◌∷◌, refl, sym, arith}
use Rattle.std.proofs.Math.Seq.{take-length}
use Rattle.std.specs.List.{prefix_len, before_first, after_first}
use Rattle.std.proofs.lemmas.List.Sums.{prefix_len_is}

-- where all elements pass, the run is the whole list
pub whole_run : (p : ℕ → Bool) (xs : List ℕ) (n : ℕ) → length xs ≤ n → ((k : ℕ) → k < n → p (get_or xs k 0) ≡ true) → length xs ≡ prefix_len p xs
whole_run p xs n past pass =
    sym (prefix_len_is p xs (length xs) 0 (omega arith) (λ k h. pass k (omega arith)) (λ h. absurd (omega arith)))

-- the part from a place to the end
pub rest_from : (n : ℕ) (xs : List ℕ) → take (length xs - n) (drop n xs) ≡ drop n xs
rest_from n xs = rw (← length-drop n xs) (take-length (drop n xs))

pub empty_list : (xs : List ℕ) → length xs ≡ 0 → xs ≡ []
empty_list [] none = refl
empty_list (x ∷ xs) none = absurd (omega arith)

pub take-one : {X : Type 0} (n : ℕ) (x : X) (xs : List X) → take (1 + n) (x ∷ xs) ≡ x ∷ take n xs
take-one n x xs = let e : 1 + n ≡ suc n = omega arith in rw e refl

pub drop-one : {X : Type 0} (n : ℕ) (x : X) (xs : List X) → drop (1 + n) (x ∷ xs) ≡ drop n xs
drop-one n x xs = let e : 1 + n ≡ suc n = omega arith in rw e refl

pub before_first-no : (p : ℕ → Bool) (x : ℕ) (xs : List ℕ) → p x ≡ false → before_first p (x ∷ xs) ≡ x ∷ before_first p xs
before_first-no p x xs fails = rw fails (take-one (prefix_len (λ y. not (p y)) xs) x xs)

pub before_first-yes : (p : ℕ → Bool) (x : ℕ) (xs : List ℕ) → p x ≡ true → before_first p (x ∷ xs) ≡ []
before_first-yes p x xs passes = rw passes refl

pub after_first-no : (p : ℕ → Bool) (x : ℕ) (xs : List ℕ) → p x ≡ false → after_first p (x ∷ xs) ≡ after_first p xs
after_first-no p x xs fails =
    let shifted : 1 + prefix_len (λ y. not (p y)) xs + 1 ≡ 1 + (prefix_len (λ y. not (p y)) xs + 1) = omega arith in
    rw (fails, shifted) (drop-one (prefix_len (λ y. not (p y)) xs + 1) x xs)

pub after_first-yes : (p : ℕ → Bool) (x : ℕ) (xs : List ℕ) → p x ≡ true → after_first p (x ∷ xs) ≡ xs
after_first-yes p x xs passes = rw passes refl
