-- What was done: the entries that were added, each of which answers a line.
use Rattle.std.specs.Prelude.{◌≡◌, ℕ, ◌+◌, List, [], ◌∷◌, ◌++◌, length, true, false, Option, Some, None}
use Rattle.pf_model.specs.declared.Op.{Op}
use Rattle.pf_model.specs.declared.Entry.{Entry}
use Rattle.pf_model.specs.Ends.{normal_of}
use Rattle.pf_model.specs.Mesh.{Undivided}
use Rattle.pf_core_model.specs.declared.answer.Answer.{Answer}
use Rattle.pf_core_model.specs.declared.answer.Answer.TheVariants as answer
use Rattle.pf_core_model.specs.Core.{Opening}
use Rattle.pf_holder.specs.Facts.{mesh_alone}
use Rattle.pf_finish.specs.Passing.{IsAnswer, has_passing}
use Rattle.pf_finish.specs.declared.pass.FinishEnd.{FinishEnd}
use Rattle.pf_finish.specs.declared.pass.FinishEnd.TheVariants as end
use Rattle.pf_finish.specs.declared.tries.Answered.{Answered}
use Rattle.pf_finish.specs.declared.tries.Answered.TheVariants.{Done, Spent, Memory}

-- each entry, the latest first, answers a line of the rest list of the mesh before it: of that after those that came earlier
abbrev pub AreAnswers : Opening → List Entry → List Entry → Type 0
AreAnswers o before [] = Unit {0}
AreAnswers o before (e ∷ es) = IsAnswer (mesh_alone o (es ++ before)) e.chunk e.op × AreAnswers o before es

-- the entries have grown by answers, and the allowance has fallen by as many
pub record HasWorkedOff (o : Opening) (rich : ℕ) (before : List Entry) (left : ℕ) (after : List Entry) : Type 0 where
  pub added : List Entry
  pub grown : after ≡ added ++ before
  pub answers : AreAnswers o before added
  pub paid : left + length added ≡ rich

-- what an end says: no line of the rest list passes; or one does, and nothing is left of the allowance
abbrev pub IsFinished : Undivided → ℕ → FinishEnd → Type 0
IsFinished m left end.Quiet = has_passing m ≡ false
IsFinished m left end.Spent = (left ≡ 0) × (has_passing m ≡ true)
IsFinished m left end.Memory = Unit {0}

-- what the answer to a try of an operation makes of a wish: None where it is refused
abbrev pub answered_of : Op → Answer → Option Answered
answered_of op (answer.Done t) = Some (Done t op)
answered_of op answer.Memory = Some Memory
answered_of op _ = None

-- one entry was added, which answers a line; or a line passes and nothing is left of the allowance; or memory was wanting
abbrev pub IsWorkedOff : Opening → ℕ → List Entry → ℕ → List Entry → Answered → Type 0
IsWorkedOff o rich before left after (Done t op) = (left + 1 ≡ rich) × ((chunk : ℕ) × (after ≡ record { ticket = t; chunk = chunk; op = normal_of op } ∷ before) × IsAnswer (mesh_alone o before) chunk (normal_of op))
IsWorkedOff o rich before left after Spent = (rich ≡ 0) × (left ≡ rich) × (after ≡ before) × (has_passing (mesh_alone o before) ≡ true)
IsWorkedOff o rich before left after Memory = (left ≡ rich) × (after ≡ before)
