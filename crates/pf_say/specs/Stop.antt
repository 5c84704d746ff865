-- Why a run ends before its end: its status, and the one line that is said.
use Rattle.std.specs.Prelude.{ℕ, List, [], ◌++◌, codes, decimal, Option, Some, None}
use Rattle.pf_say.specs.declared.place.Place.{Place}
use Rattle.pf_model.specs.declared.Refusal.{Refusal}
use Rattle.pf_model.specs.declared.Refusal.TheVariants.{Gone, Failing}
use Rattle.pf_say.specs.declared.stop.Trouble.{Trouble}
use Rattle.pf_say.specs.declared.stop.Trouble.TheVariants.{Missing, Unread, Unwritten, Memory}
use Rattle.pf_say.specs.declared.stop.Stop.{Stop}
use Rattle.pf_say.specs.declared.stop.Stop.TheVariants.{Input, Limit, Operation, Device}
use Rattle.pf_say.specs.Place.{Stems, name_of}
use Rattle.pf_say.specs.Conditions.{condition_text}
use Rattle.pf_say.specs.Faults.{fault_text}

-- that memory ran out
abbrev pub memory_stop : Stop
memory_stop = Device Memory

-- the status of what happened to a device
abbrev pub trouble_status : Trouble → ℕ
trouble_status (Unread place) = 3
trouble_status (Unwritten place) = 4
trouble_status Memory = 5
trouble_status (Missing place) = 7

-- the status
abbrev pub status_of : Stop → ℕ
status_of (Input place fault) = 1
status_of (Limit count) = 1
status_of (Operation ticket why) = 6
status_of (Device trouble) = trouble_status trouble

-- what happened to a device or to the memory, if that is the reason
abbrev pub trouble_in : Stop → Option Trouble
trouble_in (Device trouble) = Some trouble
trouble_in stop = None

-- the file that it happened to, if it happened to one
abbrev pub place_in : Trouble → Option Place
place_in (Missing place) = Some place
place_in (Unread place) = Some place
place_in (Unwritten place) = Some place
place_in Memory = None

-- what is said where memory ran out
abbrev pub memory_text : List ℕ
memory_text = codes "parfum: out of memory\n"

-- what is said of what happened, behind the name of the file
abbrev pub trouble_words : Trouble → List ℕ
trouble_words (Missing place) = codes ": missing\n"
trouble_words (Unread place) = codes ": read failed\n"
trouble_words (Unwritten place) = codes ": write failed\n"
trouble_words Memory = memory_text

-- the name of a file, if there is one
abbrev pub name_if : Stems → Option Place → List ℕ
name_if stems (Some place) = name_of stems place
name_if stems None = []

-- the line of what happened to a device
abbrev pub trouble_line : Stems → Trouble → List ℕ
trouble_line stems trouble = name_if stems (place_in trouble) ++ trouble_words trouble

-- the line where nodes and operations are too many together
abbrev pub limit_text : ℕ → List ℕ
limit_text count = codes "limit: nodes plus operations " ++ decimal count ++ codes " above 1048576\n"

-- the text of why an operation is refused
abbrev pub refusal_text : Refusal → List ℕ
refusal_text (Gone node) = codes "gone " ++ decimal node
refusal_text (Failing cond) = condition_text cond

-- the line where the operation of this ticket is refused
abbrev pub operation_text : ℕ → Refusal → List ℕ
operation_text ticket why = codes "operation " ++ decimal ticket ++ codes " refused: " ++ refusal_text why ++ codes "\n"

-- the line
abbrev pub line_of : Stems → Stop → List ℕ
line_of stems (Input place fault) = name_of stems place ++ fault_text fault
line_of stems (Limit count) = limit_text count
line_of stems (Operation ticket why) = operation_text ticket why
line_of stems (Device trouble) = trouble_line stems trouble
