-- Events that take place one after another, as far as they did.
use Prim.Native.Nat.{suc}
use Rattle.std.proofs.Common.{◌≡◌, ℕ, ◌+◌, ◌<◌, ◌≤◌, List, [], ◌∷◌, ◌++◌, length, drop, get_or, refl, sym, ap, subst, ◌∙◌, append_assoc, append-nil, add-one, arith}
use Rattle.std.specs.Prelude.{◌==◌, nat_lt}
use Rattle.std.proofs.Math.Seq.{drop-cons}
use Rattle.std.proofs.lemmas.List.{drop_all}
use Rattle.std.proofs.lemmas.List.Concat.{flat_map-append}
use Rattle.pf_model.specs.Texts.{line_text, lines_text}
use Rattle.pf_core_model.specs.declared.event.Event.{Event}
use Rattle.pf_core_model.specs.declared.event.Verdict.{Verdict}
use Rattle.pf_core_model.specs.Core.{Opening}
use Rattle.pf_core_model.specs.State.{CoreState, stepped, opening_state, state_after, verdicts_of, tickets_in, counted, free_part_of}
use Rattle.pf_core.specs.declared.state.State.{State}
use Rattle.pf_core.specs.Shown.{ShowsState, IsShownState, IsStep}
use Rattle.trace_text.specs.declared.write.Closing.{Closing}
use Rattle.trace_text.specs.Verdicts.{verdict_words, verdict_lines, closing_lines, closing_of, trace_text}

-- the lines of events from a state on, numbered from the number given
unfoldable pub lines_of : Opening → CoreState → ℕ → List Event → List ℕ
lines_of o c number events = lines_text (verdict_lines number events (verdicts_of o c events))

-- the state after them
unfoldable pub after : Opening → CoreState → List Event → CoreState
after o c events = state_after o c events

pub lines-is : (o : Opening) (c : CoreState) (events : List Event) → lines_of o c 1 events ≡ lines_text (verdict_lines 1 events (verdicts_of o c events))
unfolding lines_of
lines-is o c events = refl

pub after-is : (o : Opening) (c : CoreState) (events : List Event) → after o c events ≡ state_after o c events
unfolding after
after-is o c events = refl

lines-nil : (o : Opening) (c : CoreState) (number : ℕ) → lines_of o c number [] ≡ []
unfolding lines_of
lines-nil o c number = refl

lines-cons : (o : Opening) (c : CoreState) (number : ℕ) (e : Event) (es : List Event) → lines_of o c number (e ∷ es) ≡ line_text (verdict_words number e (stepped o c e).verdict) ++ lines_of o (stepped o c e).state (suc number) es
unfolding lines_of
lines-cons o c number e es = refl

lines-more : (o : Opening) (c : CoreState) (number : ℕ) (e : Event) (es : List Event) → lines_of o c number (e ∷ es) ≡ line_text (verdict_words number e (stepped o c e).verdict) ++ lines_of o (stepped o c e).state (number + 1) es
lines-more o c number e es =
    let next : suc number ≡ number + 1 = omega arith in
    lines-cons o c number e es ∙ ap (λ n. line_text (verdict_words number e (stepped o c e).verdict) ++ lines_of o (stepped o c e).state n es) next

after-nil : (o : Opening) (c : CoreState) → after o c [] ≡ c
unfolding after
after-nil o c = refl

after-cons : (o : Opening) (c : CoreState) (e : Event) (es : List Event) → after o c (e ∷ es) ≡ after o (stepped o c e).state es
unfolding after
after-cons o c e es = refl

-- where the run stands: the state that was reached, and what is left gives the state and the text of all
pub record StandsAt (o : Opening) (c : CoreState) (events : List Event) (start : List ℕ) (i : ℕ) (s : State) (text : List ℕ) : Type 0 where
  pub now : CoreState
  pub shows : ShowsState o now s
  pub ends : after o now (drop i events) ≡ after o c events
  pub written : text ++ lines_of o now (i + 1) (drop i events) ≡ start ++ lines_of o c 1 events

pub first_stands : (o : Opening) (c : CoreState) (events : List Event) (start : List ℕ) (s : State) → ShowsState o c s → StandsAt o c events start 0 s start
first_stands o c events start s shows = record { now = c; shows = shows; ends = refl; written = refl }

module _ (o : Opening) (c : CoreState) (events : List Event) (start : List ℕ) (i : ℕ) (s : State) (text : List ℕ) (at : StandsAt o c events start i s text) where
  -- one more event took place
  pub goes_on : (d : Event) (number : ℕ) (v : Verdict) (s' : State) (text' : List ℕ) → i < length events → number ≡ i + 1 → IsStep (get_or events i d) s v s' → text' ≡ text ++ line_text (verdict_words number (get_or events i d) v) → StandsAt o c events start (i + 1) s' text'
  goes_on d number v s' text' in_range same step put =
      let e = get_or events i d in
      let next = step o at.now at.shows in
      let here : drop i events ≡ get_or events i d ∷ drop (i + 1) events = rw add-one (drop-cons events i d in_range) in
      record {
        now = (stepped o at.now e).state;
        shows = next.0;
        ends = sym (ap (after o at.now) here ∙ after-cons o at.now e (drop (i + 1) events)) ∙ at.ends;
        written =
            rw (put, same, next.1)
            (append_assoc text (line_text (verdict_words (i + 1) e (stepped o at.now e).verdict)) _
            ∙ (ap (λ t. text ++ t) (sym (ap (lines_of o at.now (i + 1)) here ∙ lines-more o at.now (i + 1) e (drop (i + 1) events)))
            ∙ at.written));
      }

  -- all took place
  pub is_done : length events ≤ i → ShowsState o (after o c events) s × (text ≡ start ++ lines_of o c 1 events)
  is_done past =
      let e = drop_all i events past in (
        subst (λ k. ShowsState o k s) (sym (ap (after o at.now) e ∙ after-nil o at.now) ∙ at.ends) at.shows,
        sym (append-nil text) ∙ (ap (λ t. text ++ t) (sym (ap (lines_of o at.now (i + 1)) e ∙ lines-nil o at.now (i + 1))) ∙ at.written),
      )

-- the loop over events: how many took place, that the state shows one of the model, and where the run stands
pub record IsRun (before : State) (events : List Event) (start : List ℕ) (i number : ℕ) (s : State) (text : List ℕ) : Type 0 where
  pub counted : number ≡ i
  pub sound : IsShownState s
  pub stands : (o : Opening) (c : CoreState) → ShowsState o c before → StandsAt o c events start i s text

-- an event leaves a state that shows one of the model
pub still-shown : (old new : State) (next : Opening → CoreState → CoreState) (P : Opening → CoreState → Type 0) → IsShownState old → ((o : Opening) (c : CoreState) → ShowsState o c old → ShowsState o (next o c) new × P o c) → IsShownState new
still-shown old new next P h step = record { opening = h.opening; state = next h.opening h.state; shown = (step h.opening h.state h.shown).0 }

-- the lines of all events and those that close the text are the whole
pub whole-text : (o : Opening) (events : List Event) (empty below text : List ℕ) → empty ≡ [] → below ≡ empty ++ lines_text (verdict_lines 1 events (verdicts_of o (opening_state o) events)) → text ≡ below ++ lines_text (closing_lines (closing_of o (state_after o (opening_state o) events))) → text ≡ trace_text o events
whole-text o events empty below text none lines closed =
    closed
    ∙ (ap (λ t. t ++ lines_text (closing_lines (closing_of o (state_after o (opening_state o) events)))) (lines ∙ ap (λ t. t ++ lines_text (verdict_lines 1 events (verdicts_of o (opening_state o) events))) none)
    ∙ sym (flat_map-append line_text (verdict_lines 1 events (verdicts_of o (opening_state o) events)) (closing_lines (closing_of o (state_after o (opening_state o) events)))))

-- how things stand, number by number
pub closing-is : (o : Opening) (c : CoreState) (x : Closing) → x.tickets ≡ tickets_in o c → x.free ≡ counted o c (λ w. w == 0) → x.held ≡ counted o c (λ w. nat_lt 2 w) → x.dead ≡ counted o c (λ w. w == 1) → x.never ≡ counted o c (λ w. w == 2) → x.triangles ≡ length (free_part_of o c) → x ≡ closing_of o c
closing-is o c x a b d e f g = λ i. record { tickets = a i; free = b i; held = d i; dead = e i; never = f i; triangles = g i }
