-- Rows of numbers: the row of w has the numbers that a test takes for w, rising.
use Rattle.std.specs.Prelude.{◌≡◌, ℕ, ◌<◌, List, [], ◌∷◌, ◌++◌, Bool, cond, filter, length, slice_index_or, All, Vec}
use Rattle.std.specs.List.{range_with_len}
use Rattle.std.specs.declared.alloc.Global.{Global}

-- the numbers below n that a test takes
abbrev pub taken : (ℕ → Bool) → ℕ → List ℕ
taken p n = filter p (range_with_len 0 n)

-- the same, and n where it is marked
abbrev pub marked : (ℕ → Bool) → ℕ → Bool → List ℕ
marked p n b = taken p n ++ cond b (n ∷ []) []

-- each row has the numbers below n that its test takes
abbrev pub AreTaken : List (Vec ℕ Global) → (ℕ → ℕ → Bool) → ℕ → Type 0
AreTaken rows p n = (w : ℕ) (d : Vec ℕ Global) → w < length rows → (slice_index_or rows w d).items ≡ taken (p w) n

-- the same, and n where the row is marked
abbrev pub AreMarked : List (Vec ℕ Global) → (ℕ → ℕ → Bool) → ℕ → (ℕ → Bool) → Type 0
AreMarked rows p n q = (w : ℕ) (d : Vec ℕ Global) → w < length rows → (slice_index_or rows w d).items ≡ marked (p w) n (q w)

-- these are numbers below n
abbrev pub AreBelow : ℕ → List ℕ → Type 0
AreBelow n ks = All (λ k. k < n) ks
