-- How a command ends: it is done, or it stops.
use Rattle.std.specs.Prelude.{◌≡◌, ℕ, List, Ok, ◌⊎◌}
use Rattle.pf_shelf.specs.Count.{Rose}
use Rattle.pf_shelf.specs.Files.{Tells, held}
use Rattle.pf_shelf.specs.Seen.{Seen}
use Rattle.pf_say.specs.declared.place.Place.{Place}
use Rattle.pf_say.specs.declared.stop.Trouble.TheVariants.{Unwritten}
use Rattle.pf_say.specs.declared.stop.Stop.{Stop}
use Rattle.pf_say.specs.declared.stop.Stop.TheVariants.{Device}
use Rattle.pf_cmd.specs.Input.{files_in}
use Rattle.pf_cmd.specs.Output.{Given, written}
use Rattle.pf_cmd.specs.CutOff.{IsCutAt}
use Rattle.pf_cmd.specs.Causes.{IsOnlyRead, IsQuiet, Explains}
use Rattle.pf_cmd.specs.declared.words.Task.{Task}
use Rattle.pf_cmd.specs.declared.words.Task.TheVariants as act
use Rattle.pf_cmd.specs.Commands.{Command, Input, input_in, reads_of, MayGive, demo_report}

-- the files, as they were, have no refusal, and this is given of what they say
pub record IsGiven (command : Command) (old : Seen) (given : Given) : Type 0 where
  pub input : Input
  pub is_input : input_in command (files_in old command.stems) ≡ Ok input
  pub may : MayGive command.task command.stems input given

-- what is given is written, every other file is as before, and this is to be said
pub record IsDone (command : Command) (old new : Seen) (report : List ℕ) : Type 0 where
  pub given : Given
  pub is_given : IsGiven command old given
  pub files : (name : List ℕ) → held new.told name ≡ written given.writes (held old.told) name
  pub says : report ≡ given.report

-- the report of a command that reads no file is the defined one, whatever a shelf tells
abbrev pub IsFileless : Task → List ℕ → Type 0
IsFileless (act.Demo cells) report = report ≡ demo_report cells
IsFileless task report = Unit {0}

-- a command is done, and no fault was counted
pub record Finishes (command : Command) (old new : Seen) (report : List ℕ) : Type 0 where
  pub done : Tells old.told → IsDone command old new report
  pub fileless : IsFileless command.task report
  pub quiet : IsQuiet old new
  pub write_faults : new.write_faults ≡ old.write_faults

-- the file of this place is cut off, those before it are written, every other file is as before
pub record IsHalted (command : Command) (old new : Seen) (place : Place) : Type 0 where
  pub given : Given
  pub is_given : IsGiven command old given
  pub cut : IsCutAt given.writes (held old.told) (held new.told) place

-- a command stops while it writes: a write of this file failed
pub record StopsWriting (command : Command) (old new : Seen) (stop : Stop) : Type 0 where
  pub place : Place
  pub named : stop ≡ Device (Unwritten place)
  pub fault : Rose old.write_faults new.write_faults
  pub halted : Tells old.told → IsHalted command old new place
  pub quiet : IsQuiet old new

-- a command stops before it writes, with all files as before
pub record StopsReading (command : Command) (old new : Seen) (stop : Stop) : Type 0 where
  pub explained : Explains (reads_of command.task) old new command.stems (input_in command) stop
  pub only_read : IsOnlyRead old new

-- a command stops
abbrev pub Stops : Command → Seen → Seen → Stop → Type 0
Stops command old new stop = StopsWriting command old new stop ⊎ StopsReading command old new stop
