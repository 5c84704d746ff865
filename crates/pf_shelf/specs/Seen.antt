-- What contracts see of a shelf and of a sink.
use Rattle.std.specs.Prelude.{ℕ, List, Option}
use Rattle.pf_shelf.specs.Files.{Files}

-- of a shelf: its files, where it tells them, and its counts
pub record Seen : Type 0 where
  -- the files, where the shelf tells them
  pub told : Option Files
  -- how often a read has failed
  pub read_faults : ℕ
  -- how often a write has failed
  pub write_faults : ℕ
  -- how often a name wasn't there
  pub misses : ℕ
  -- how many bytes reads have given
  pub taken : ℕ

-- of a sink: what it has taken, where it tells that, and its count of faults
pub record Heard : Type 0 where
  -- the bytes that it has taken so far, where it tells them
  pub told : Option (List ℕ)
  -- how often it has failed
  pub faults : ℕ
