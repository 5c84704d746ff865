-- When an answer is right.
use Rattle.std.specs.Prelude.{◌≡◌, ◌⊎◌, ℕ, ◌+◌, ◌<◌, ◌≤◌, List, ◌∷◌, Option, Some, None, Contains, is_some, true}
use Rattle.pf_model.specs.declared.Band.{Band}
use Rattle.pf_model.specs.declared.Op.{Op}
use Rattle.pf_model.specs.declared.Cond.{Cond}
use Rattle.pf_model.specs.declared.Entry.{Entry}
use Rattle.pf_model.specs.Ends.{first_end, second_end, normal_of}
use Rattle.pf_model.specs.Mesh.{Undivided}
use Rattle.pf_model.specs.Conditions.{first_failing}
use Rattle.pf_model.specs.Stars.{Star, star_of}
use Rattle.pf_star_model.specs.Cavity.{cavity_of}
use Rattle.pf_star_model.specs.Lent.{Held}
use Rattle.pf_core_model.specs.declared.view.Mark.{Mark}
use Rattle.pf_core_model.specs.Lists.{In}
use Rattle.pf_core_model.specs.Core.{Opening, names_of, nodes_in}
use Rattle.pf_core_model.specs.Right.{Gain, dead, never, mark, refusal, IsEnd}
use Rattle.pf_holder.specs.Facts.{won_pair, IsSeen, IsJudged, lost_to}
use Rattle.pf_core_model.specs.declared.answer.Answer.{Answer}
use Rattle.pf_core_model.specs.declared.answer.Answer.TheVariants.{Done, Refused, Busy, Gone, Unborn, Spent, Memory}

-- a star is held of the node
abbrev pub HoldsStar : List Held → ℕ → Type 0
HoldsStar pairs n = (s : Star) × In (won_pair n s) pairs

-- the node is in the cavity on each conforming mesh with these bands that agrees with the pairs
abbrev pub IsInCavity : List Band → List Held → ℕ → Op → ℕ → Type 0
IsInCavity bands pairs chunk op n = (m : Undivided) → IsSeen bands pairs m → Contains (cavity_of m chunk op) n

-- a mark of this moment was gained, of which this holds
abbrev pub IsMarkOf : ℕ → (Gain → Type 0) → (Mark → Type 0) → Type 0
IsMarkOf t gained P = (m : Mark) × (m.at ≡ t) × gained (mark m) × P m

-- the answer to a try of an operation is backed: by the tickets seen before, and by what was gained in between
abbrev pub IsBacked : Opening → ℕ → Op → ℕ → (Gain → Type 0) → Answer → Type 0
IsBacked o chunk op seen gained (Done t) = seen ≤ t
IsBacked o chunk op seen gained (Refused t why) = (seen ≤ t) × gained (refusal (record { at = t; chunk = chunk; op = op; cond = why })) × IsMarkOf t gained (λ m. HoldsStar m.pairs (first_end op) × HoldsStar m.pairs (second_end op))
IsBacked o chunk op seen gained (Busy t n k) = (seen ≤ t) × gained (lost_to n k) × IsMarkOf t gained (λ m. IsInCavity o.mesh.bands m.pairs chunk op n)
IsBacked o chunk op seen gained (Gone t n) = (seen ≤ t) × IsEnd n op × gained (dead n) × IsMarkOf t gained (λ m. In n m.gone)
IsBacked o chunk op seen gained (Unborn n) = IsEnd n op × (gained (never n) ⊎ (names_of o ≤ n))
IsBacked o chunk op seen gained Spent = Unit {0}
IsBacked o chunk op seen gained Memory = (t : ℕ) × (seen ≤ t) × IsMarkOf t gained (λ m. IsJudged o.mesh.bands m.pairs chunk op None)

-- the allowance and the entries before and after: Done adds its entry and takes 1, and every other answer leaves them. Spent is
-- the answer exactly where the allowance is 0
abbrev pub IsEntered : ℕ → Op → ℕ → List Entry → ℕ → List Entry → Answer → Type 0
IsEntered chunk op rich before left after (Done t) = (left + 1 ≡ rich) × (after ≡ record { ticket = t; chunk = chunk; op = normal_of op } ∷ before)
IsEntered chunk op rich before left after Spent = (rich ≡ 0) × (left ≡ rich) × (after ≡ before)
IsEntered chunk op rich before left after _ = (0 < rich) × (left ≡ rich) × (after ≡ before)

-- the node is live
abbrev pub HasStar : Undivided → ℕ → Type 0
HasStar m n = is_some (star_of m n) ≡ true

-- both ends are live, and the first condition that fails is this
abbrev pub IsFailing : Undivided → ℕ → Op → Option Cond → Type 0
IsFailing m chunk op x = HasStar m (first_end op) × HasStar m (second_end op) × (first_failing m chunk op ≡ x)

-- an end isn't live
abbrev pub IsEndGone : Undivided → Op → ℕ → Type 0
IsEndGone m op n = IsEnd n op × (star_of m n ≡ None)

-- what an answer says where nobody else is, and this is the mesh
abbrev pub TellsOf : Undivided → ℕ → Op → Answer → Type 0
TellsOf m chunk op (Done t) = IsFailing m chunk op None
TellsOf m chunk op (Refused t why) = IsFailing m chunk op (Some why)
TellsOf m chunk op (Busy t n k) = ⊥
TellsOf m chunk op (Gone t n) = IsEndGone m op n
TellsOf m chunk op (Unborn n) = IsEndGone m op n
TellsOf m chunk op Spent = Unit {0}
TellsOf m chunk op Memory = Unit {0}

-- it was done, or no memory was left
abbrev pub IsDoneAnswer : Answer → Type 0
IsDoneAnswer (Done t) = Unit {0}
IsDoneAnswer Memory = Unit {0}
IsDoneAnswer _ = ⊥

-- no lost try and no find was gained
pub record FoundNothing (gained : Gain → Type 0) : Type 0 where
  pub no_lost : (n k : ℕ) → gained (lost_to n k) → ⊥
  pub no_dead : (n : ℕ) → gained (dead n) → ⊥
  pub no_never : (n : ℕ) → gained (never n) → ⊥

-- both ends are names
abbrev pub AreEndsNames : Opening → Op → Type 0
AreEndsNames o op = (first_end op < names_of o) × (second_end op < names_of o)

-- it was done, refused, or no memory was left
abbrev pub IsJudgedAnswer : Answer → Type 0
IsJudgedAnswer (Done t) = Unit {0}
IsJudgedAnswer (Refused t why) = Unit {0}
IsJudgedAnswer Memory = Unit {0}
IsJudgedAnswer _ = ⊥
