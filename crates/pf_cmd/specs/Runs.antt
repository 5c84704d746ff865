-- What a run did, from its words to its status.
use Rattle.std.specs.Prelude.{◌≡◌, ◌<◌, ℕ, List, Option, Some, None, Err, codes, ◌⊎◌}
use Rattle.pf_shelf.specs.Count.{Rose}
use Rattle.pf_shelf.specs.Files.{Tells}
use Rattle.pf_shelf.specs.Seen.{Seen, Heard}
use Rattle.pf_shelf.specs.Sink.{extended, GainsPrefix}
use Rattle.pf_say.specs.declared.place.Place.{Place}
use Rattle.pf_say.specs.declared.stop.Trouble.TheVariants.{Missing, Unread, Unwritten}
use Rattle.pf_say.specs.declared.stop.Stop.{Stop}
use Rattle.pf_say.specs.declared.stop.Stop.TheVariants.{Device}
use Rattle.pf_say.specs.Stop.{status_of, line_of, memory_text}
use Rattle.pf_words.specs.Grammar.{command_of}
use Rattle.pf_cmd.specs.Words.{command_in}
use Rattle.pf_cmd.specs.Input.{files_in, without}
use Rattle.pf_cmd.specs.Causes.{IsOnlyRead, IsQuiet, IsAmong}
use Rattle.pf_cmd.specs.Commands.{Command, input_in, reads_of}
use Rattle.pf_cmd.specs.Ends.{IsDone, Finishes, IsHalted, Stops}

-- that the words are in no command's form
abbrev pub words_text : List ℕ
words_text = codes "parfum: words refused\n"

-- the text was said whole, and the status is this; or the sink failed, gained a prefix of the text, and the status is 4
abbrev pub IsSaid : ℕ → List ℕ → Heard → Heard → ℕ → Type 0
IsSaid status text silent heard result = ((result ≡ status) × (heard.told ≡ extended silent.told text) × (heard.faults ≡ silent.faults)) ⊎ ((result ≡ 4) × Rose silent.faults heard.faults × GainsPrefix text silent.told heard.told)

-- the status is this, or the sink failed, and it is 4
abbrev pub IsStatus : ℕ → Heard → Heard → ℕ → Type 0
IsStatus status silent heard result = (result ≡ status) ⊎ ((result ≡ 4) × Rose silent.faults heard.faults)

-- Which text is due, with which status. The words are in no command's form, or memory ran out before they were read, and
-- nothing else is read. A command is done, and its report is due. Or it stops, and the line of the reason is due.
pub data Due (words : List (List ℕ)) (old new : Seen) (status : ℕ) (text : List ℕ) : Type 0 where
  refused : command_of words ≡ None → IsOnlyRead old new → IsQuiet old new → status ≡ 2 → text ≡ words_text → Due words old new status text
  forgotten : IsOnlyRead old new → IsQuiet old new → status ≡ 5 → text ≡ memory_text → Due words old new status text
  done : (command : Command) → command_in words ≡ Some command → Finishes command old new text → status ≡ 0 → Due words old new status text
  stopped : (command : Command) → command_in words ≡ Some command → (stop : Stop) → Stops command old new stop → status ≡ status_of stop → text ≡ line_of command.stems stop → Due words old new status text

-- a text was due, with a status, and it was said
pub record Runs (words : List (List ℕ)) (old new : Seen) (silent heard : Heard) (result : ℕ) : Type 0 where
  pub status : ℕ
  pub text : List ℕ
  pub due : Due words old new status text
  pub said : IsSaid status text silent heard result

-- at status 0 a command was done: its files are written, all others are as before, and its report was said
pub record IsPerformed (words : List (List ℕ)) (old new : Seen) (silent heard : Heard) : Type 0 where
  pub command : Command
  pub asked : command_in words ≡ Some command
  pub report : List ℕ
  pub done : IsDone command old new report
  pub said : heard.told ≡ extended silent.told report

-- the line of this reason was said
pub record IsStopTold (words : List (List ℕ)) (silent heard : Heard) (command : Command) (stop : Stop) : Type 0 where
  pub asked : command_in words ≡ Some command
  pub said : heard.told ≡ extended silent.told (line_of command.stems stop)

-- at 1, 6 and 7: the files, as they are when the run begins, have this refusal first, with this status, and its line was said
pub record IsRefusal (words : List (List ℕ)) (old : Seen) (silent heard : Heard) (result : ℕ) : Type 0 where
  pub command : Command
  pub stop : Stop
  pub refusal : input_in command (files_in old command.stems) ≡ Err stop
  pub status : status_of stop ≡ result
  pub line : IsStopTold words silent heard command stop

-- at 3: a read failed, and the line names a file that the command reads. Where the shelf tells, every file before it is held,
-- and the input has no refusal before it: with the file taken out, its first refusal is that the file isn't held
pub record IsUnread (words : List (List ℕ)) (old new : Seen) (silent heard : Heard) : Type 0 where
  pub command : Command
  pub place : Place
  pub fault : Rose old.read_faults new.read_faults
  pub reads : IsAmong place (reads_of command.task)
  pub reached : Tells old.told → input_in command (without place (files_in old command.stems)) ≡ Err (Device (Missing place))
  pub line : IsStopTold words silent heard command (Device (Unread place))

-- at 7: a name wasn't there, and the line names a file that the command reads
pub record IsMissed (words : List (List ℕ)) (old new : Seen) (silent heard : Heard) : Type 0 where
  pub command : Command
  pub place : Place
  pub miss : Rose old.misses new.misses
  pub reads : IsAmong place (reads_of command.task)
  pub line : IsStopTold words silent heard command (Device (Missing place))

-- at 4: the sink failed, and gained a prefix of the text that was due; or a file wasn't written, and the line names it
pub data IsUnfinished (words : List (List ℕ)) (old new : Seen) (silent heard : Heard) : Type 0 where
  unsaid : (status : ℕ) (text : List ℕ) → Due words old new status text → Rose silent.faults heard.faults → GainsPrefix text silent.told heard.told → IsUnfinished words old new silent heard
  unwritten : (command : Command) (place : Place) → Rose old.write_faults new.write_faults → IsHalted command old new place → IsStopTold words silent heard command (Device (Unwritten place)) → IsUnfinished words old new silent heard

-- no read and no write on the sink has failed
pub record AllowsRefusal (old new : Seen) (silent heard : Heard) : Type 0 where
  pub reads : Rose old.read_faults new.read_faults → ⊥
  pub sink : Rose silent.faults heard.faults → ⊥

-- no read, no write and no write on the sink has failed
pub record IsFaultless (old new : Seen) (silent heard : Heard) : Type 0 where
  pub reads : Rose old.read_faults new.read_faults → ⊥
  pub writes : Rose old.write_faults new.write_faults → ⊥
  pub sink : Rose silent.faults heard.faults → ⊥
