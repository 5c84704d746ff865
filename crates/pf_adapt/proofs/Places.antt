-- Facts on the elements of a list, each with its place.
use Rattle.std.proofs.Common.{ℕ, ◌<◌, List, [], ◌∷◌, ◌++◌, length, length-append, sym, subst, arith}
use mathlib.Core.Logic.{dite}
use native.Mathlib.Decide.{ℕ_discrete}
use Rattle.std.specs.Prelude.{slice_index_or}
use Rattle.std.proofs.Math.ListN.{get_or-append}
use Rattle.std.proofs.Math.Seq.{get_or-append_seam}

-- the fact of each element and its place
abbrev pub AtEach : {X : Type 0} → List X → (ℕ → X → Type 0) → Type 0
AtEach {X} xs P = (k : ℕ) (d : X) → k < length xs → P k (slice_index_or xs k d)

pub front_each : {X : Type 0} (P : ℕ → X → Type 0) (xs : List X) (x : X) → AtEach (xs ++ x ∷ []) P → AtEach xs P
front_each P xs x h k d low = subst (P k) (get_or-append xs (x ∷ []) d k low) (h k d (let l = length-append xs (x ∷ []) in omega (arith, l, low)))

pub last_each : {X : Type 0} (P : ℕ → X → Type 0) (xs : List X) (x : X) → AtEach (xs ++ x ∷ []) P → P (length xs) x
last_each P xs x h = subst (P (length xs)) (get_or-append_seam xs x [] x) (h (length xs) x (let l = length-append xs (x ∷ []) in omega (arith, l)))

pub more_each : {X : Type 0} (P : ℕ → X → Type 0) (xs : List X) (x : X) → AtEach xs P → P (length xs) x → AtEach (xs ++ x ∷ []) P
more_each P xs x h p k d low =
    dite (ℕ_discrete (length xs) k)
    (λ e. subst (λ (j : ℕ). P j (slice_index_or (xs ++ x ∷ []) j d)) e (subst (P (length xs)) (sym (get_or-append_seam xs x [] d)) p))
    (λ far. let l = length-append xs (x ∷ []) in let near : k < length xs = omega (arith, l, low, far) in subst (P k) (sym (get_or-append xs (x ∷ []) d k near)) (h k d near))
