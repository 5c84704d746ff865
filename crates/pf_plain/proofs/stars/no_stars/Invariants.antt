use Rattle.std.proofs.Common.{◌≡◌, ℕ, vec_len}
use Rattle.std.specs.Prelude.{None}
use Rattle.pf_plain.specs.Stars.{star_by}
use Rattle.pf_plain.proofs.stars.no_stars.Given as goal

abbrev pub invariant-loop-n : goal.invariant-loop-n
invariant-loop-n l = ((k : ℕ) → star_by l.stars.items k ≡ None) × (vec_len l.stars ≡ l.n)
