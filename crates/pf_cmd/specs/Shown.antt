-- The code's commands and readings, as what they say.
use Rattle.std.specs.Prelude.{◌≡◌, ℕ, List, length, Ok, Option}
use Rattle.pf_model.specs.Replay.{replayed, IsLegal}
use Rattle.pf_model.specs.Wishes.{rest_of}
use Rattle.pf_adapt.specs.Adapted.{IsAdapted}
use Rattle.pf_say.specs.Shown.{stems_of}
use Rattle.pf_cmd.specs.declared.words.Command.{Command as CodedCommand}
use Rattle.pf_cmd.specs.declared.input.Partitioned.{Partitioned as CodedParted}
use Rattle.pf_cmd.specs.declared.input.Budgeted.{Budgeted as CodedBudgeted}
use Rattle.pf_cmd.specs.declared.adapt.Refined.{Refined as CodedRefined}
use Rattle.pf_cmd.specs.declared.replay.Replayed.{Replayed as CodedReplayed}
use Rattle.pf_cmd.specs.Input.{HeldFiles, Partitioned}
use Rattle.pf_cmd.specs.Commands.{Command, Budgeted, budgeted_in, Journalled, journalled_in, Traced, traced_in}
use Rattle.trace_text.specs.Verdicts.{answer_text}

-- what a command asks for
abbrev pub shown : CodedCommand → Command
shown command = record { task = command.task; stems = stems_of command.stems; scale = command.scale }

-- a mesh as it is listed with its chunks, as what it says
abbrev pub parted_of : CodedParted → Partitioned
parted_of read = record { listed = record { base = read.listed.base; mesh = read.listed.mesh.mesh; triangles = read.listed.triangles.items }; parts = read.parts }

-- a mesh with the operations that may be made of it, as what it says
abbrev pub budgeted_of : CodedBudgeted → Budgeted
budgeted_of read = record { base = read.base; mesh = read.mesh.mesh; budget = read.budget }

-- a mesh that was adapted, as what it was before
pub record IsRefined (ops : Option ℕ) (scale : ℕ) (files : HeldFiles) (after : CodedRefined) : Type 0 where
  pub input : Budgeted
  pub is_input : budgeted_in ops scale files ≡ Ok input
  pub adapted : IsAdapted input.mesh input.budget after.adapted.journal.items
  pub base : after.base ≡ input.base
  pub mesh : after.adapted.mesh.mesh ≡ replayed input.mesh after.adapted.journal.items

-- a mesh after its journal, as what it was before
pub record IsReplayed (scale : ℕ) (files : HeldFiles) (after : CodedReplayed) : Type 0 where
  pub input : Journalled
  pub is_input : journalled_in scale files ≡ Ok input
  pub legal : IsLegal input.mesh input.entries
  pub base : after.base ≡ input.base
  pub mesh : after.mesh.mesh ≡ replayed input.mesh input.entries
  pub operations : after.operations ≡ length input.entries

-- the text that the trace of the files is answered by
pub record IsTraced (scale : ℕ) (files : HeldFiles) (text : List ℕ) : Type 0 where
  pub input : Traced
  pub is_input : traced_in scale files ≡ Ok input
  pub answer : text ≡ answer_text input.mesh input.said
