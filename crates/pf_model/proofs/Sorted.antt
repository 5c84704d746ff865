-- Sorted lists: a list with the elements of another, in rising order, is the other one sorted.
-- The premises are a strict order, and a test of sameness by which no two elements are the same.
use Rattle.std.proofs.Common.{◌≡◌, ◌≢◌, ℕ, zero, suc, ◌+◌, ◌<◌, List, [], ◌∷◌, length, get_or, refl, sym, ◌∙◌, ap, subst, Bool, true, false, cond, ◌⊎◌, inl, inr, arith}
use Rattle.std.specs.Prelude.{Contains, filter, map}
use Rattle.std.specs.List.{IsDistinct}
use Rattle.std.specs.List.Sorted.{IsPermutation}
use Rattle.std.proofs.lemmas.Bool.{cases_Bool}
use Rattle.std.proofs.lemmas.List.{get_or-map, length-map}
use Rattle.std.proofs.lemmas.List.Sorted.{Contains-permutation, IsPermutation-sym}
use Rattle.std.proofs.lemmas.List.Elements.{Contains-get_or}
use Rattle.std.proofs.lemmas.Map.Keys.{IsDistinct-from_apart, IsDistinct-IsPermutation, apart_from_distinct}
use Rattle.pf_model.specs.Rising.{AreDifferent, IsRising, insert_by, insert_all_by, sorted_by}
use Rattle.pf_model.proofs.Members.{nowhere, here, there, filter-in, filter-out, insert_all_by-new, insert_all_by-cases}
use Rattle.pf_model.proofs.RisingLemmas.{IsStrictOrder, rising-filter, rising-same}
use Rattle.pf_model.proofs.Totals.{Compares, sorted-rises, different-filter, map-means}

-- the sorted list has the same members
pub sorted-forth : {X : Type 0} (lt : X → X → Bool) (xs : List X) (z : X) → Contains (sorted_by lt xs) z → Contains xs z
sorted-forth lt xs z h = elim (insert_all_by-cases lt z xs [] h) [ inl a ↦ a | inr b ↦ absurd (nowhere z b) ]

pub sorted-back : {X : Type 0} (lt : X → X → Bool) (xs : List X) (z : X) → Contains xs z → Contains (sorted_by lt xs) z
sorted-back lt xs z h = insert_all_by-new lt z xs [] h

-- what passes of the sorted list is what passes, sorted
pub filter-sorted : {X : Type 0} (lt : X → X → Bool) → IsStrictOrder lt → Compares lt → (p : X → Bool) (xs : List X) → AreDifferent xs → filter p (sorted_by lt xs) ≡ sorted_by lt (filter p xs)
filter-sorted lt o c p xs d =
    rising-same lt o (filter p (sorted_by lt xs)) (sorted_by lt (filter p xs))
    (rising-filter lt p (sorted_by lt xs) (sorted-rises lt o c xs d)) (sorted-rises lt o c (filter p xs) (different-filter p xs d))
    (λ z h. let w = filter-out p z (sorted_by lt xs) h in sorted-back lt (filter p xs) z (filter-in p z xs (sorted-forth lt xs z w.0) w.1))
    (λ z h. let w = filter-out p z xs (sorted-forth lt (filter p xs) z h) in filter-in p z (sorted_by lt xs) (sorted-back lt xs z w.0) w.1)

-- lengths
pub length-insert_by : {X : Type 0} (lt : X → X → Bool) (x : X) (xs : List X) → length (insert_by lt x xs) ≡ suc (length xs)
length-insert_by lt x [] = refl
length-insert_by {X} lt x (y ∷ ys) = go (lt x y) (length-insert_by lt x ys)
  where
    go : (b : Bool) → length (insert_by lt x ys) ≡ suc (length ys) → length (cond b (x ∷ y ∷ ys) (y ∷ insert_by lt x ys)) ≡ suc (suc (length ys))
    go true ih = refl
    go false ih = ap suc ih

pub length-insert_all_by : {X : Type 0} (lt : X → X → Bool) (xs ys : List X) → length (insert_all_by lt xs ys) ≡ length xs + length ys
length-insert_all_by lt [] ys = omega arith
length-insert_all_by lt (x ∷ xs) ys = let a = length-insert_by lt x (insert_all_by lt xs ys) in let b = length-insert_all_by lt xs ys in omega (arith, a, b)

pub length-sorted : {X : Type 0} (lt : X → X → Bool) (xs : List X) → length (sorted_by lt xs) ≡ length xs
length-sorted lt [] = refl
length-sorted lt (x ∷ xs) = length-insert_by lt x (sorted_by lt xs) ∙ ap suc (length-sorted lt xs)

-- different elements stay different under a map that keeps those of the list apart
pub different-map_within : {X Y : Type 0} (h : X → Y) (xs : List X) → ((x z : X) → Contains xs x → Contains xs z → h x ≡ h z → x ≡ z) → AreDifferent xs → AreDifferent (map h xs)
different-map_within h [] one d = tt
different-map_within {X} {Y} h (x ∷ xs) one d = (first, different-map_within h xs (λ y z p q e. one y z (there y x xs p) (there z x xs q) e) d.1)
  where
    first : (y : Y) → Contains (map h xs) y → h x ≢ y
    first y c e = let k = map-means h xs y c in d.0 k.0 k.1 (one x k.0 (here x xs) (there k.0 x xs k.1) (e ∙ sym k.2))

-- elements at two places differ
pub different-at : {X : Type 0} (xs : List X) → AreDifferent xs → (i j : ℕ) (d : X) → i < j → j < length xs → get_or xs i d ≢ get_or xs j d
different-at [] o i j d l k e = absurd (omega arith)
different-at (x ∷ xs) o zero zero d l k e = absurd (omega arith)
different-at (x ∷ xs) o zero (suc j) d l k e = o.0 (get_or xs j d) (Contains-get_or xs j d (let w : suc j < suc (length xs) = k in omega arith)) e
different-at (x ∷ xs) o (suc i) zero d l k e = absurd (omega arith)
different-at (x ∷ xs) o (suc i) (suc j) d l k e = different-at xs o.1 i j d (omega arith) (let w : suc j < suc (length xs) = k in omega arith) e

-- no two are the same by a test that passes for equals alone, as it does for the elements of the list
pub different-distinct : {X : Type 0} (eq : X → X → Bool) (xs : List X) → ((x y : X) → Contains xs x → Contains xs y → eq x y ≡ true → x ≡ y) → AreDifferent xs → IsDistinct eq xs
different-distinct eq xs same o = IsDistinct-from_apart eq xs apart
  where
    apart : (i j : ℕ) (d : _) → i < j → j < length xs → eq (get_or xs i d) (get_or xs j d) ≡ false
    apart i j d l k = elim (cases_Bool (eq (get_or xs i d) (get_or xs j d))) [
      | inl e ↦ absurd (different-at xs o i j d l k (same (get_or xs i d) (get_or xs j d) (Contains-get_or xs i d (omega arith)) (Contains-get_or xs j d k) e))
      | inr e ↦ e
    ]

-- each stands before the next
abbrev pub Steps : {X : Type 0} → (X → X → Bool) → List X → Type 0
Steps {X} lt xs = (k : ℕ) (d : X) → k + 1 < length xs → lt (get_or xs k d) (get_or xs (k + 1) d) ≡ true

pub rising-steps : {X : Type 0} (lt : X → X → Bool) → IsStrictOrder lt → (xs : List X) → Steps lt xs → IsRising lt xs
rising-steps lt o xs s i j d l k = go j l k
  where
    go : (n : ℕ) → i < n → n < length xs → lt (get_or xs i d) (get_or xs n d) ≡ true
    go zero l' k' = absurd (omega arith)
    go (suc n) l' k' = elim (cases_of i n l') [
      | inl e ↦ subst (λ a. lt (get_or xs a d) (get_or xs (suc n) d) ≡ true) (sym e) (last n k')
      | inr l'' ↦ o.transitive (get_or xs i d) (get_or xs n d) (get_or xs (suc n) d) (go n l'' (omega arith)) (last n k')
    ]
      where
        cases_of : (a b : ℕ) → a < suc b → (a ≡ b) ⊎ (a < b)
        cases_of a b h = grind arith

        last : (a : ℕ) → suc a < length xs → lt (get_or xs a d) (get_or xs (suc a) d) ≡ true
        last a h = let e : a + 1 ≡ suc a = omega arith in subst (λ b. lt (get_or xs a d) (get_or xs b d) ≡ true) e (s a d (omega arith))

-- the sorted list by its members
pub sorted-is : {X : Type 0} (lt : X → X → Bool) → IsStrictOrder lt → (xs ys : List X) → IsRising lt (sorted_by lt xs) → IsRising lt ys → ((z : X) → Contains xs z → Contains ys z) → ((z : X) → Contains ys z → Contains xs z) → ys ≡ sorted_by lt xs
sorted-is lt o xs ys sorts up forth back =
    rising-same lt o ys (sorted_by lt xs) up sorts
    (λ z h. sorted-back lt xs z (back z h))
    (λ z h. forth z (sorted-forth lt xs z h))

-- a list with the same elements, of which no two are the same by a test, and each stands before the next where it isn't the same
pub sorted-from : {X : Type 0} (lt : X → X → Bool) → IsStrictOrder lt → (eq : X → X → Bool) → ((x y : X) → eq x y ≡ eq y x) → (xs ys : List X) → IsRising lt (sorted_by lt xs) → IsDistinct eq xs → IsPermutation xs ys
    → ((k : ℕ) (d : X) → k + 1 < length ys → eq (get_or ys k d) (get_or ys (k + 1) d) ≡ false → lt (get_or ys k d) (get_or ys (k + 1) d) ≡ true) → ys ≡ sorted_by lt xs
sorted-from lt o eq flips xs ys sorts distinct p step =
    sorted-is lt o xs ys sorts (rising-steps lt o ys (λ k d l. step k d l (apart_from_distinct eq ys k (k + 1) d (IsDistinct-IsPermutation eq flips xs ys p distinct) (omega arith) l)))
    (λ z h. Contains-permutation xs ys z p h)
    (λ z h. Contains-permutation ys xs z (IsPermutation-sym xs ys p) h)

-- the same of a list that is mapped
pub sorted-mapped : {X Y : Type 0} (lt : X → X → Bool) → IsStrictOrder lt → (eq : X → X → Bool) → ((x y : X) → eq x y ≡ eq y x) → (f : Y → X) (some : Y) (xs : List X) (ys : List Y) → IsRising lt (sorted_by lt xs) → IsDistinct eq xs → IsPermutation xs (map f ys)
    → ((k : ℕ) → k + 1 < length ys → eq (f (get_or ys k some)) (f (get_or ys (k + 1) some)) ≡ false → lt (f (get_or ys k some)) (f (get_or ys (k + 1) some)) ≡ true) → map f ys ≡ sorted_by lt xs
sorted-mapped {X} lt o eq flips f some xs ys sorts distinct p step = sorted-from lt o eq flips xs (map f ys) sorts distinct p steps
  where
    steps : (k : ℕ) (d : X) → k + 1 < length (map f ys) → eq (get_or (map f ys) k d) (get_or (map f ys) (k + 1) d) ≡ false → lt (get_or (map f ys) k d) (get_or (map f ys) (k + 1) d) ≡ true
    steps k d l e =
        let few : k + 1 < length ys = omega (arith, length-map ys f) in
        let a = get_or-map f ys k some d (omega arith) in
        let b = get_or-map f ys (k + 1) some d few in
        let apart : eq (f (get_or ys k some)) (f (get_or ys (k + 1) some)) ≡ false = rw (a, b) at e in
        rw (a, b) (step k few apart)
