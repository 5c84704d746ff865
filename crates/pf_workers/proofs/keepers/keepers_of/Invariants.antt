use Rattle.std.proofs.Common.{◌≡◌, ℕ, ◌<◌, length, drop}
use Rattle.std.specs.Prelude.{None}
use Rattle.pf_workers.specs.Keepers.{kept_at, gathered}
use Rattle.pf_workers.proofs.keepers.keepers_of.Given as goal

abbrev pub invariant-tris : goal.invariant-tris
invariant-tris l = (length l.keepers.items ≡ l.names) × ((n : ℕ) → n < l.names → gathered n (kept_at l.keepers.items n) (drop l.tri-index l.tris) ≡ gathered n None l.tris)
