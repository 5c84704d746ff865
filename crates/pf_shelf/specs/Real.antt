-- What contracts see of a shelf over real files: its counts.
use Rattle.std.specs.Prelude.{ℕ, None}
use Rattle.pf_shelf.specs.Seen.{Seen}

pub record Counts : Type 0 where
  pub read_faults : ℕ
  pub write_faults : ℕ
  pub misses : ℕ
  pub taken : ℕ

abbrev pub no_counts : Counts
no_counts = record { read_faults = 0; write_faults = 0; misses = 0; taken = 0 }

-- what contracts see of it as a shelf: it tells nothing
abbrev pub seen_of : Counts → Seen
seen_of counts = record { told = None; read_faults = counts.read_faults; write_faults = counts.write_faults; misses = counts.misses; taken = counts.taken }
