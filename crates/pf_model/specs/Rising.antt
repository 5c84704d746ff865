-- Lists that rise by a test, how elements are put into them, and lists without repeats.
use Rattle.std.specs.Prelude.{◌≡◌, ◌≢◌, List, [], ◌∷◌, Bool, true, cond, AllPairs, Contains}

-- the list rises strictly
abbrev pub IsRising : {X : Type 0} → (X → X → Bool) → List X → Type 0
IsRising lt xs = AllPairs (λ x y. lt x y ≡ true) xs

-- the list with an element more, before the first that it is below
abbrev pub insert_by : {X : Type 0} → (X → X → Bool) → X → List X → List X
insert_by lt x [] = x ∷ []
insert_by lt x (y ∷ ys) = cond (lt x y) (x ∷ y ∷ ys) (y ∷ insert_by lt x ys)

-- each element of the first inserted into the second
abbrev pub insert_all_by : {X : Type 0} → (X → X → Bool) → List X → List X → List X
insert_all_by lt [] ys = ys
insert_all_by lt (x ∷ xs) ys = insert_by lt x (insert_all_by lt xs ys)

-- the elements in rising order
abbrev pub sorted_by : {X : Type 0} → (X → X → Bool) → List X → List X
sorted_by lt xs = insert_all_by lt xs []

-- no element stands twice
abbrev pub AreDifferent : {X : Type 0} → List X → Type 0
AreDifferent [] = Unit {0}
AreDifferent {X} (x ∷ xs) = ((z : X) → Contains xs z → x ≢ z) × AreDifferent xs
