-- Runs round the spokes of a node.
use Rattle.std.specs.Prelude.{◌≡◌, ℕ, ◌+◌, List, length}
use Rattle.pf_model.specs.declared.Spoke.{Spoke}
use Rattle.pf_model.specs.Stars.{run_leaves}

-- a run from this right passes so many spokes, and leaves the others
pub record IsWholeRun (ss : List Spoke) (start passed : ℕ) : Type 0 where
  pub leaves : length (run_leaves (length ss) ss start) + passed ≡ length ss
