-- Which lines of a rest list pass, and which operations answer one.
use Rattle.std.specs.Prelude.{◌≡◌, ◌⊎◌, ℕ, Bool, true, ◌||◌, None, is_none, Contains}
use Rattle.std.specs.List.{list_any}
use Rattle.pf_model.specs.declared.Op.{Op}
use Rattle.pf_model.specs.declared.Op.TheVariants.{Flip, Bisect, Contract}
use Rattle.pf_model.specs.declared.RestLine.{RestLine}
use Rattle.pf_model.specs.declared.RestLine.TheVariants as line
use Rattle.pf_model.specs.Mesh.{Undivided}
use Rattle.pf_model.specs.Lengths.{Edge}
use Rattle.pf_model.specs.Wishes.{acting_chunk, rest_of}

-- the line passes: nothing forbids its operation, or one of its two
abbrev pub passes : RestLine → Bool
passes (line.Long lo hi c d why) = is_none why
passes (line.Short lo hi why why') = is_none why || is_none why'
passes (line.Flip lo hi) = true

-- a line of the rest list passes
abbrev pub has_passing : Undivided → Bool
has_passing m = list_any passes (rest_of m)

-- the edge with these names, as they stand
abbrev pub edge_at : ℕ → ℕ → Edge
edge_at lo hi = record { lo = lo; hi = hi }

-- the operation, by its edge's acting chunk, answers the line, which passes: the bisection of the edge where the walk of a long edge
-- ends, a contraction of a short edge that nothing forbids, or the flip
abbrev pub Answers : Undivided → ℕ → Op → RestLine → Type 0
Answers m chunk op (line.Long lo hi c d why) = (why ≡ None) × (op ≡ Bisect c d) × (chunk ≡ acting_chunk m (edge_at c d))
Answers m chunk op (line.Short lo hi why why') = (chunk ≡ acting_chunk m (edge_at lo hi)) × (((why ≡ None) × (op ≡ Contract lo hi)) ⊎ ((why' ≡ None) × (op ≡ Contract hi lo)))
Answers m chunk op (line.Flip lo hi) = (chunk ≡ acting_chunk m (edge_at lo hi)) × (op ≡ Flip lo hi)

-- it answers a line of the rest list
pub record IsAnswer (m : Undivided) (chunk : ℕ) (op : Op) : Type 0 where
  pub line : RestLine
  pub stands : Contains (rest_of m) line
  pub answers : Answers m chunk op line
