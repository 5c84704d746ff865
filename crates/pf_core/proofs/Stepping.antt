-- From the events of an actor to all events.
use Rattle.std.proofs.Common.{◌≡◌, ◌≢◌, ℕ, ◌<◌, Bool, true, false, ◌&&◌, ◌==◌, nat_lt, List, length, refl, sym, ap, ◌∙◌, subst}
use Rattle.std.specs.Prelude.{Option, Some, None, Result, Ok, Err, IfOk}
use Rattle.pf_core_model.specs.declared.event.Event.{Event}
use Rattle.pf_core_model.specs.declared.event.Verdict.{Verdict}
use Rattle.pf_core_model.specs.declared.event.Verdict.TheVariants.{Ignored}
use Rattle.pf_core_model.specs.Core.{Opening}
use Rattle.pf_core_model.specs.State.{CoreState, Found, Stepped, found_from, acted, actor_of, by_actor, stepped}
use Rattle.pf_core_model.proofs.Replays.{and_right}
use Rattle.pf_core.specs.declared.state.State.{State}
use Rattle.pf_core.specs.Tables.{seat_at, is_lead}
use Rattle.pf_core.specs.Shown.{ShowsState, IsAct, IsStep}
use Rattle.pf_core.proofs.Kept.{none_found, some_found, lead_near, eq_is}

pub stepped_none : (s : State) (e : Event) → is_lead s.seats.items (actor_of e) ≡ false → IsStep e s Ignored s
stepped_none s e no_lead o c sh =
    let none = none_found o c s sh (actor_of e) no_lead in
    let is : stepped o c e ≡ by_actor c None (acted o c e) = ap (λ (x : Option Found). by_actor c x (acted o c e)) none in
    (subst (λ (x : Stepped). ShowsState o x.state s) (sym is) sh, ap (λ (x : Stepped). x.verdict) (sym is))

pub stepped_some : (s t : State) (e : Event) (v : Verdict) → is_lead s.seats.items (actor_of e) ≡ true → IsAct e s v t → IsStep e s v t
stepped_some s t e v lead act o c sh = go (found_from (actor_of e) 0 c.actors) refl
  where
    go : (x : Option Found) → found_from (actor_of e) 0 c.actors ≡ x → ShowsState o (stepped o c e).state t × (v ≡ (stepped o c e).verdict)
    go None none = absurd (some_found o c s sh (actor_of e) (lead_near s.seats.items (actor_of e) lead)
        (eq_is (seat_at s.seats.items (actor_of e)).lead (actor_of e) (and_right (nat_lt (actor_of e) (length s.seats.items)) ((seat_at s.seats.items (actor_of e)).lead == actor_of e) lead)) none)
    go (Some f) found =
        let is : stepped o c e ≡ acted o c e f = ap (λ (x : Option Found). by_actor c x (acted o c e)) found in
        let r = act o c f sh found in
        (subst (λ (x : Stepped). ShowsState o x.state t) (sym is) r.0, r.1 ∙ ap (λ (x : Stepped). x.verdict) (sym is))

pub all_some : (s t : State) (e : Event) {E : Type 0} (r : Result Verdict E) → is_lead s.seats.items (actor_of e) ≡ true → IfOk r (λ v. IsAct e s v t) → IfOk r (λ v. IsStep e s v t)
all_some s t e (Ok v) lead act = stepped_some s t e v lead act
all_some s t e (Err x) lead act = act
