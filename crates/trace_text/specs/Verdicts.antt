-- The text that a trace is answered by: what became of each event, and how things stand after the last.
use Rattle.std.specs.Prelude.{◌≡◌, ℕ, suc, List, [], ◌∷◌, ◌++◌, Option, Some, None, Ok, ◌==◌, nat_lt, length, codes, decimal}
use Rattle.pf_model.specs.Mesh.{Undivided}
use Rattle.pf_model.specs.Texts.{lines_text}
use Rattle.pf_core_model.specs.declared.event.Event.{Event}
use Rattle.pf_core_model.specs.declared.event.Event.TheVariants.{Lost}
use Rattle.pf_core_model.specs.declared.event.Verdict.{Verdict}
use Rattle.pf_core_model.specs.declared.event.Verdict.TheVariants.{Taken, Ignored}
use Rattle.pf_core_model.specs.Core.{Opening}
use Rattle.pf_core_model.specs.State.{CoreState, opening_state, state_after, verdicts_of, tickets_in, counted, free_part_of}
use Rattle.trace_text.specs.declared.write.Closing.{Closing}
use Rattle.trace_text.specs.Trace.{Told, trace_of}

-- what the number is called that an event gives: the holder of a node, where a try for it is lost, else a ticket
abbrev pub value_name : Event → List ℕ
value_name (Lost a n) = codes "holder"
value_name event = codes "ticket"

-- the words of an event's line: its number, what became of it, and the number that it gave, if it gave one
abbrev pub value_words : Event → Option ℕ → List (List ℕ)
value_words event None = []
value_words event (Some value) = value_name event ∷ decimal value ∷ []

abbrev pub verdict_words : ℕ → Event → Verdict → List (List ℕ)
verdict_words number event (Taken value) = decimal number ∷ codes "taken" ∷ value_words event value
verdict_words number event Ignored = decimal number ∷ codes "ignored" ∷ []

-- the lines of events with their verdicts, numbered one after another from the number given
abbrev pub verdict_lines : ℕ → List Event → List Verdict → List (List (List ℕ))
verdict_lines number [] verdicts = []
verdict_lines number (event ∷ events) [] = []
verdict_lines number (event ∷ events) (verdict ∷ verdicts) = verdict_words number event verdict ∷ verdict_lines (suc number) events verdicts

-- how things stand in a state: the ticket count, how many nodes are free, held, dead, and never live or unborn, and how many
-- triangles have free corners alone
abbrev pub closing_of : Opening → CoreState → Closing
closing_of o s =
    record {
      tickets = tickets_in o s;
      free = counted o s (λ w. w == 0);
      held = counted o s (λ w. nat_lt 2 w);
      dead = counted o s (λ w. w == 1);
      never = counted o s (λ w. w == 2);
      triangles = length (free_part_of o s);
    }

-- the line that counts the names by their words
abbrev pub node_words : Closing → List (List ℕ)
node_words c = codes "free" ∷ decimal c.free ∷ codes "held" ∷ decimal c.held ∷ codes "dead" ∷ decimal c.dead ∷ codes "never" ∷ decimal c.never ∷ []

-- the three lines that say how things stand
abbrev pub closing_lines : Closing → List (List (List ℕ))
closing_lines c = (codes "tickets" ∷ decimal c.tickets ∷ []) ∷ node_words c ∷ (codes "triangles" ∷ decimal c.triangles ∷ []) ∷ []

-- the text of these events, one after another from the state at the start
abbrev pub trace_text : Opening → List Event → List ℕ
trace_text o events =
    lines_text (verdict_lines 1 events (verdicts_of o (opening_state o) events) ++ closing_lines (closing_of o (state_after o (opening_state o) events)))

-- the text that what a trace says is answered by, over this mesh
abbrev pub answer_text : Undivided → Told → List ℕ
answer_text m said = trace_text (record { mesh = m; budget = said.budget; workers = said.workers }) said.events

-- the text of a trace over this mesh is answered by this one
pub record HasAnswerText (m : Undivided) (bytes text : List ℕ) : Type 0 where
  pub said : Told
  pub says : trace_of m.first_new m.chunks bytes ≡ Ok said
  pub answer : text ≡ answer_text m said
