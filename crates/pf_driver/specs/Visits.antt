-- When a drive has visited a node.
use Rattle.std.specs.Prelude.{◌≡◌, ◌⊎◌, ℕ, ◌+◌, ◌<◌, ◌≤◌, List, ◌++◌, length, slice_index_or, Some}
use Rattle.pf_model.specs.declared.Op.{Op}
use Rattle.pf_model.specs.declared.Entry.{Entry}
use Rattle.pf_model.specs.Ends.{normal_of}
use Rattle.pf_model.specs.Stars.{Star}
use Rattle.pf_core_model.specs.declared.event.Asked.{Asked}
use Rattle.pf_core_model.specs.declared.view.Mark.{Mark}
use Rattle.pf_core_model.specs.declared.answer.Answer.{Answer}
use Rattle.pf_core_model.specs.declared.answer.Answer.TheVariants.{Done, Spent, Memory}
use Rattle.pf_core_model.specs.Lists.{In}
use Rattle.pf_core_model.specs.Core.{Opening}
use Rattle.pf_core_model.specs.Right.{Gain, dead, never, mark}
use Rattle.pf_holder.specs.Facts.{won_pair, lost_to}
use Rattle.pf_holder.specs.Answers.{IsBacked}
use Rattle.pf_wishes.specs.First.{first_wish_of}

-- an answer of a try that took place
abbrev pub IsTried : Answer → Type 0
IsTried Spent = ⊥
IsTried Memory = ⊥
IsTried _ = Unit {0}

-- where it was done, its entry stands among these
abbrev pub IsAmong : ℕ → Op → List Entry → Answer → Type 0
IsAmong chunk op added (Done t) = In (record { ticket = t; chunk = chunk; op = normal_of op }) added
IsAmong chunk op added _ = Unit {0}

-- an answer to the wish, which is neither Spent nor Memory: backed by what was gained, and entered where it was done
pub record IsAnswered (o : Opening) (q : Asked) (seen : ℕ) (gained : Gain → Type 0) (added : List Entry) : Type 0 where
  pub answer : Answer
  pub tried : IsTried answer
  pub backed : IsBacked o q.chunk q.op seen gained answer
  pub entered : IsAmong q.chunk q.op added answer

-- a mark was gained that holds the node's pair, and the first wish of its star was answered
pub record IsLookedAt (chunks : List ℕ) (o : Opening) (seen : ℕ) (gained : Gain → Type 0) (added : List Entry) (n : ℕ) : Type 0 where
  pub it : Mark
  pub known : gained (mark it)
  pub star : Star
  pub holds : In (won_pair n star) it.pairs
  pub answered : (q : Asked) → first_wish_of o.mesh.bands chunks star ≡ Some q → IsAnswered o q seen gained added

-- the node was found dead or never live, a try for it was lost, or it was looked at
abbrev pub IsVisited : List ℕ → Opening → ℕ → (Gain → Type 0) → List Entry → ℕ → Type 0
IsVisited chunks o seen gained added n = gained (dead n) ⊎ (gained (never n) ⊎ (((k : ℕ) × gained (lost_to n k)) ⊎ IsLookedAt chunks o seen gained added n))

-- the entry of a try that was done, in the normal form of its operation, with a ticket from the one number to below the other
pub record IsMade (from to : ℕ) (e : Entry) : Type 0 where
  pub op : Op
  pub normal : e.op ≡ normal_of op
  pub since : from ≤ e.ticket
  pub below : e.ticket < to

-- the entries grew by those of tries that were done while the tickets that are seen grew from the one number to the other;
-- each took 1 from the allowance
pub record HasGrown (from rich : ℕ) (before : List Entry) (to left : ℕ) (after : List Entry) : Type 0 where
  pub added : List Entry
  pub grown : after ≡ added ++ before
  pub paid : left + length added ≡ rich
  pub made : (e : Entry) → In e added → IsMade from to e
  pub seen : from ≤ to

-- the first so many of these names were visited, and the entries grew by those of their answers at least
pub record HasVisited (chunks : List ℕ) (o : Opening) (seen : ℕ) (gained : Gain → Type 0) (before after : List Entry) (names : List ℕ) (count : ℕ) : Type 0 where
  pub added : List Entry
  pub grown : after ≡ added ++ before
  pub visited : (k : ℕ) → k < count → IsVisited chunks o seen gained added (slice_index_or names k 0)
