-- The trace: the limits and the events that a text of it says.
use Rattle.std.specs.Prelude.{ℕ, ◌≤◌, ◌+◌, ◌*◌, Bool, ◌&&◌, nat_le, if◌then◌else◌, List, [], ◌∷◌, Option, Some, None, Result, Ok, Err, codes}
use Rattle.std.specs.Str.{bytes_eq}
use Rattle.pf_lex.specs.Text.{Word, TextLine, text_lines}
use Rattle.row_text.specs.Rows.{◌>>=◌}
use Rattle.pf_core_model.specs.declared.event.Event.{Event}
use Rattle.trace_text.specs.declared.read.Limits.{Limits}
use Rattle.trace_text.specs.declared.read.Trace.{Trace}
use Rattle.trace_text.specs.declared.fault.TraceErr.{TraceErr}
use Rattle.trace_text.specs.declared.fault.TraceErr.TheVariants as fault
use Rattle.trace_text.specs.Parts.{most_number, number_of}
use Rattle.trace_text.specs.Events.{event_of}

-- what a text says
pub record Told : Type 0 where
  pub budget : ℕ
  pub workers : ℕ
  pub events : List Event

abbrev pub told : Trace → Told
told t = record { budget = t.budget; workers = t.workers; events = t.events.items }

-- the names and the copies are within their limits, and there are from 1 to 64 workers
abbrev pub are_kept : Limits → ℕ → ℕ → Bool
are_kept l first_new chunks = nat_le (first_new + l.budget) 1048576 && (nat_le (chunks * (first_new + l.budget)) 4194304 && (nat_le 1 l.workers && nat_le l.workers 64))

-- so many operations and workers are within the limits
pub record AreWithin (first_new chunks budget workers : ℕ) : Type 0 where
  pub names : first_new + budget ≤ 1048576
  pub copies : chunks * (first_new + budget) ≤ 4194304
  pub some_worker : 1 ≤ workers
  pub few_workers : workers ≤ 64

-- the limits, where both numbers are there and the limits are kept
abbrev pub kept_limits : ℕ → ℕ → Option ℕ → Option ℕ → Option Limits
kept_limits first_new chunks (Some budget) (Some workers) = if are_kept record { budget = budget; workers = workers } first_new chunks then Some record { budget = budget; workers = workers } else None
kept_limits first_new chunks (Some budget) None = None
kept_limits first_new chunks None workers = None

abbrev pub limits_of : ℕ → ℕ → Word → Word → Option Limits
limits_of first_new chunks budget workers = kept_limits first_new chunks (number_of most_number budget) (number_of most_number workers)

-- the first line
abbrev pub head_of : ℕ → ℕ → List Word → Option Limits
head_of first_new chunks (name ∷ budget ∷ other ∷ workers ∷ []) =
    if bytes_eq name.text (codes "budget") && bytes_eq other.text (codes "workers") then limits_of first_new chunks budget workers else None
head_of first_new chunks words = None

-- what a line says, or that it is the fault
abbrev pub said_on : {A : Type 0} → ℕ → Option A → Result A TraceErr
said_on line None = Err (fault.Line line)
said_on line (Some x) = Ok x

-- the events of the lines below the first
unfoldable pub events_on : List TextLine → Result (List Event) TraceErr
events_on [] = Ok []
events_on (line ∷ lines) = said_on line.line (event_of line.words) >>= (λ event. events_on lines >>= (λ events. Ok (event ∷ events)))

abbrev pub told_by : Limits → List Event → Told
told_by l events = record { budget = l.budget; workers = l.workers; events = events }

abbrev pub told_below : Limits → List TextLine → Result Told TraceErr
told_below l lines = events_on lines >>= (λ events. Ok (told_by l events))

unfoldable pub trace_on : ℕ → ℕ → List TextLine → Result Told TraceErr
trace_on first_new chunks [] = Err (fault.Line 1)
trace_on first_new chunks (head ∷ lines) = said_on head.line (head_of first_new chunks head.words) >>= (λ l. told_below l lines)

-- what a text says, or the text's first fault
abbrev pub trace_of : ℕ → ℕ → List ℕ → Result Told TraceErr
trace_of first_new chunks bytes = trace_on first_new chunks (text_lines bytes)
