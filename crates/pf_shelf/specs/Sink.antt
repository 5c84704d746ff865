-- What a sink has taken.
use Rattle.std.specs.Prelude.{◌≡◌, ℕ, ◌≤◌, List, ◌++◌, length, take, Option, Some, None}

-- what is told after these bytes more; a sink that tells nothing still tells nothing
abbrev pub extended : Option (List ℕ) → List ℕ → Option (List ℕ)
extended None bytes = None
extended (Some text) bytes = Some (text ++ bytes)

-- the sink has gained a prefix of these bytes
abbrev pub GainsPrefix : List ℕ → Option (List ℕ) → Option (List ℕ) → Type 0
GainsPrefix bytes old new = (n : ℕ) × (n ≤ length bytes) × (new ≡ extended old (take n bytes))
