-- A trace that was read as far as some line: what the whole text says, by what was read and what is left.
use Rattle.std.proofs.Common.{◌≡◌, ℕ, ◌+◌, ◌*◌, Bool, true, List, [], ◌∷◌, ◌++◌, refl, ap, sym, subst, ◌∙◌, append-nil}
use Rattle.std.specs.Prelude.{Option, Some, None, Result, Ok, Err, IfOk, leb, ◌&&◌}
use Rattle.std.proofs.lemmas.Bool.{and_parts, leb-true}
use Rattle.pf_lex.specs.Text.{TextLine, text_lines}
use Rattle.pf_core_model.specs.declared.event.Event.{Event}
use Rattle.row_text.specs.Rows.{◌>>=◌}
use Rattle.row_text.proofs.Reading.{IsReadTo, read_to-none, read_to-more, read_to-fault, read_to-end}
use Rattle.trace_text.specs.declared.read.Limits.{Limits}
use Rattle.trace_text.specs.declared.read.Trace.{Trace}
use Rattle.trace_text.specs.declared.fault.TraceErr.{TraceErr}
use Rattle.trace_text.specs.declared.fault.TraceErr.TheVariants as fault
use Rattle.trace_text.specs.Events.{event_of}
use Rattle.trace_text.specs.Trace.{are_kept, AreWithin, head_of, said_on, events_on, told_below, trace_on, trace_of}

-- nothing more is said of the events that were read
abbrev pub Any : List Event → Type 0
Any events = Unit {0}

-- where the reading stands: the lines that are left, and the events that were read
pub record EventsStand (all left : List TextLine) (fits : Bool) (events : List Event) : Type 0 where
  pub count : ℕ
  pub read : IsReadTo Any (events_on all) (events_on left) count fits events

pub first_stands : (all : List TextLine) (events : List Event) → events ≡ [] → EventsStand all all true events
first_stands all events none = record { count = 0; read = read_to-none Any (events_on all) events tt none }

event-line : (line : TextLine) (left : List TextLine) → events_on (line ∷ left) ≡ (said_on line.line (event_of line.words) >>= (λ event. events_on left >>= (λ events. Ok (event ∷ events))))
unfolding events_on
event-line line left = refl

last-line : events_on [] ≡ Ok []
unfolding events_on
last-line = refl

module _ (all left : List TextLine) (fits : Bool) (events : List Event) (s : EventsStand all left fits events) where
  module _ (line : TextLine) (rest : List TextLine) (there : left ≡ line ∷ rest) where
    -- an event was read
    pub goes_on : (event : Event) (fits' : Bool) (events' : List Event) → Some event ≡ event_of line.words → (fits' ≡ true → (fits ≡ true) × (events' ≡ events ++ event ∷ [])) → EventsStand all rest fits' events'
    goes_on event fits' events' is kept =
        record {
          count = s.count + 1;
          read =
              read_to-more Any Any _ _ _ _ _ _ _ _ _ event s.read
              (ap events_on there ∙ event-line line rest ∙ ap (λ (x : Option Event). said_on line.line x >>= (λ event. events_on rest >>= (λ events. Ok (event ∷ events)))) (sym is))
              (λ front counted h. tt) kept refl;
        }

    -- a line is in no form
    pub is_bad : None ≡ event_of line.words → events_on all ≡ Err (fault.Line line.line)
    is_bad is = read_to-fault Any _ _ _ _ _ (fault.Line line.line) s.read
        (ap events_on there ∙ event-line line rest ∙ ap (λ (x : Option Event). said_on line.line x >>= (λ event. events_on rest >>= (λ events. Ok (event ∷ events)))) (sym is))

  -- no line is left
  pub is_done : left ≡ [] → events_on all ≡ Ok s.read.front
  is_done none = read_to-end Any _ _ _ _ _ [] s.read (ap events_on none ∙ last-line) ∙ rw append-nil refl

-- a text without a line
pub trace-none : (first_new chunks : ℕ) (bytes : List ℕ) → text_lines bytes ≡ [] → trace_of first_new chunks bytes ≡ Err (fault.Line 1)
unfolding trace_on
trace-none first_new chunks bytes none = ap (trace_on first_new chunks) none

-- a first line in no form
pub trace-bad : (first_new chunks : ℕ) (bytes : List ℕ) (head : TextLine) (lines : List TextLine) → text_lines bytes ≡ head ∷ lines → None ≡ head_of first_new chunks head.words → trace_of first_new chunks bytes ≡ Err (fault.Line head.line)
unfolding trace_on
trace-bad first_new chunks bytes head lines first is = ap (trace_on first_new chunks) first ∙ ap (λ (x : Option Limits). said_on head.line x >>= (λ l. told_below l lines)) (sym is)

-- the events stand below the first line
pub trace-below : (first_new chunks : ℕ) (bytes : List ℕ) (head : TextLine) (lines : List TextLine) (l : Limits) → text_lines bytes ≡ head ∷ lines → Some l ≡ head_of first_new chunks head.words → trace_of first_new chunks bytes ≡ told_below l lines
unfolding trace_on
trace-below first_new chunks bytes head lines l first is = ap (trace_on first_new chunks) first ∙ ap (λ (x : Option Limits). said_on head.line x >>= (λ l. told_below l lines)) (sym is)

-- limits that are kept
pub kept-within : (l : Limits) (first_new chunks : ℕ) → are_kept l first_new chunks ≡ true → AreWithin first_new chunks l.budget l.workers
kept-within l first_new chunks kept =
    let a = and_parts (leb (first_new + l.budget) 1048576) (leb (chunks * (first_new + l.budget)) 4194304 && (leb 1 l.workers && leb l.workers 64)) kept in
    let b = and_parts (leb (chunks * (first_new + l.budget)) 4194304) (leb 1 l.workers && leb l.workers 64) a.1 in
    let d = and_parts (leb 1 l.workers) (leb l.workers 64) b.1 in
    record { names = leb-true _ _ a.0; copies = leb-true _ _ b.0; some_worker = leb-true _ _ d.0; few_workers = leb-true _ _ d.1 }

-- a trace with these limits is within them
pub trace-within : (first_new chunks : ℕ) (l : Limits) (read : Result Trace TraceErr) → IfOk read (λ t. (t.budget ≡ l.budget) × (t.workers ≡ l.workers)) → AreWithin first_new chunks l.budget l.workers → IfOk read (λ t. AreWithin first_new chunks t.budget t.workers)
trace-within first_new chunks l (Ok t) same within = subst (λ b. AreWithin first_new chunks b t.workers) (sym same.0) (subst (λ w. AreWithin first_new chunks l.budget w) (sym same.1) within)
trace-within first_new chunks l (Err fault) same within = tt
