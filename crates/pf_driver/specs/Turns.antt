-- What a look and a turn tell.
use Rattle.std.specs.Prelude.{◌≡◌, ◌⊎◌, ℕ, ◌<◌, ◌≤◌, List, ◌++◌, Option}
use Rattle.pf_model.specs.declared.Entry.{Entry}
use Rattle.pf_model.specs.Stars.{Star}
use Rattle.pf_core_model.specs.declared.event.Asked.{Asked}
use Rattle.pf_core_model.specs.declared.view.Mark.{Mark}
use Rattle.pf_core_model.specs.declared.answer.Answer.{Answer}
use Rattle.pf_core_model.specs.declared.answer.Answer.TheVariants as answers
use Rattle.pf_core_model.specs.Lists.{In}
use Rattle.pf_core_model.specs.Core.{Opening, names_of}
use Rattle.pf_core_model.specs.Right.{Gain, dead, never, mark}
use Rattle.pf_holder.specs.Facts.{won_pair, lost_to}
use Rattle.pf_wishes.specs.First.{first_wish_of}
use Rattle.pf_driver.specs.declared.looking.Look.{Look}
use Rattle.pf_driver.specs.declared.looking.Look.TheVariants.{Seen, Away, Absent, NoRoom}
use Rattle.pf_driver.specs.declared.turns.Turn.{Turn}
use Rattle.pf_driver.specs.declared.turns.Turn.TheVariants.{Went, Spent, Memory}
use Rattle.pf_driver.specs.declared.driving.DriveEnd.{DriveEnd}
use Rattle.pf_driver.specs.declared.driving.DriveEnd.TheVariants as ends
use Rattle.pf_driver.specs.Visits.{IsAnswered, IsVisited, IsTried}

-- what a look at the node tells
abbrev pub TellsLook : List ℕ → Opening → (Gain → Type 0) → ℕ → Look → Type 0
TellsLook chunks o gained n (Seen wish) = (m : Mark) × gained (mark m) × ((s : Star) × In (won_pair n s) m.pairs × (wish ≡ first_wish_of o.mesh.bands chunks s))
TellsLook chunks o gained n Away = (k : ℕ) × gained (lost_to n k)
TellsLook chunks o gained n Absent = gained (dead n) ⊎ (gained (never n) ⊎ (names_of o ≤ n))
TellsLook chunks o gained n NoRoom = Unit {0}

-- the wish was answered, and the entries grew by that of the answer at most
pub record HasAnswered (o : Opening) (q : Asked) (seen : ℕ) (gained : Gain → Type 0) (before after : List Entry) : Type 0 where
  pub added : List Entry
  pub grown : after ≡ added ++ before
  pub answered : IsAnswered o q seen gained added

-- the node was visited, and the entries grew by that of an answer at most
pub record HasVisitedOne (chunks : List ℕ) (o : Opening) (seen : ℕ) (gained : Gain → Type 0) (before after : List Entry) (n : ℕ) : Type 0 where
  pub added : List Entry
  pub grown : after ≡ added ++ before
  pub visited : IsVisited chunks o seen gained added n

-- what is so where the turn took place to its end
abbrev pub OnWent : Turn → Type 0 → Type 0
OnWent Went P = P
OnWent _ P = Unit {0}

-- what is left of the allowance where it is said to be spent
abbrev pub IsSpentAt : ℕ → Turn → Type 0
IsSpentAt left Spent = left ≡ 0
IsSpentAt left _ = Unit {0}

-- what is so where the drive was done
abbrev pub OnDone : DriveEnd → Type 0 → Type 0
OnDone ends.Done P = P
OnDone _ P = Unit {0}

-- Spent is the end exactly where nothing is left of the allowance
abbrev pub IsEndAt : ℕ → DriveEnd → Type 0
IsEndAt left ends.Spent = left ≡ 0
IsEndAt left _ = 0 < left

-- the look has this wish, where there was memory
abbrev pub IsSeenAs : Option Asked → Look → Type 0
IsSeenAs wish (Seen w) = w ≡ wish
IsSeenAs wish NoRoom = Unit {0}
IsSeenAs wish _ = ⊥

-- it took place to its end, or memory was wanting
abbrev pub IsWentBy : Turn → Type 0
IsWentBy Spent = ⊥
IsWentBy _ = Unit {0}

-- how a turn ends with this answer: to its end only where a try took place, and as spent only where the answer is so
abbrev pub TellsEnd : Answer → Turn → Type 0
TellsEnd a Went = IsTried a
TellsEnd a Spent = a ≡ answers.Spent
TellsEnd a Memory = Unit {0}

abbrev pub TellsStop : Answer → Turn → Type 0
TellsStop a Spent = a ≡ answers.Spent
TellsStop a _ = Unit {0}

-- a drive is done only where its last turn took place to its end
abbrev pub IsEndOf : Turn → DriveEnd → Type 0
IsEndOf t ends.Done = t ≡ Went
IsEndOf t _ = Unit {0}
