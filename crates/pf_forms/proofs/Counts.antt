-- How many elements of a list pass, counted element by element.
use Rattle.std.proofs.Common.{◌≡◌, refl, ℕ, ◌+◌, suc, ◌<◌, Bool, true, false, add-one, List, length, drop}
use Rattle.std.specs.Prelude.{filter, slice_index_or}
use Rattle.std.proofs.Math.Seq.{drop-cons}

-- the first of what is left passes
pub passing-next : {X : Type 0} (f : X → Bool) (xs : List X) (i : ℕ) (d : X) → i < length xs → f (slice_index_or xs i d) ≡ true → length (filter f (drop i xs)) ≡ suc (length (filter f (drop (i + 1) xs)))
passing-next f xs i d h e = rw (add-one, drop-cons xs i d h) (rw e refl)

-- the first of what is left doesn't pass
pub failing-next : {X : Type 0} (f : X → Bool) (xs : List X) (i : ℕ) (d : X) → i < length xs → f (slice_index_or xs i d) ≡ false → length (filter f (drop i xs)) ≡ length (filter f (drop (i + 1) xs))
failing-next f xs i d h e = rw (add-one, drop-cons xs i d h) (rw e refl)
