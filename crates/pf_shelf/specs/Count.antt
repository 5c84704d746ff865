-- Counts that rise and never fall. In code each is a `u64`, which stands still at its last value.
use Rattle.std.specs.Prelude.{ℕ, ◌+◌, ◌-◌, ◌^◌, ◌≤◌, ◌<◌, ◌⊎◌, min}

-- the last value of a count
abbrev pub last_count : ℕ
last_count = 2 ^ 64 - 1

-- a count after n more, as far as its last value
abbrev pub raised : ℕ → ℕ → ℕ
raised before n = before + min n (last_count - before)

-- the count rose, or stands at its last value
abbrev pub Rose : ℕ → ℕ → Type 0
Rose before now = min (before + 1) last_count ≤ now

-- the count rose by more than n, or stands at its last value
abbrev pub RoseByMore : ℕ → ℕ → ℕ → Type 0
RoseByMore n before now = (before + n < now) ⊎ (last_count ≤ now)
