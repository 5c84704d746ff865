-- The least of names and owners.
use Rattle.std.specs.Prelude.{ℕ, Bool, true, cond, nat_lt, Option, Some, None}

-- the number is above this one, where there is one
abbrev pub past : Option ℕ → ℕ → Bool
past None n = true
past (Some k) n = nat_lt k n

-- the lesser of two owners, where there is a second
abbrev pub keeper_with : ℕ → Option ℕ → Option ℕ
keeper_with owner None = Some owner
keeper_with owner (Some k) = Some (cond (nat_lt owner k) owner k)
