use Rattle.pf_core.specs.Shown.{ShowsState}
use Rattle.std.proofs.Common.{◌≡◌, ◌≤◌, ◌+◌, ◌++◌, length, refl, subst, ap, ◌∙◌, arith}
use Rattle.pf_trace.proofs.Lines.{lines-is, after-is, first_stands, goes_on, is_done, still-shown}
use Rattle.pf_trace.proofs.events.push_events.Goals as goal

pub loop-event-init : goal.loop-event-init
loop-event-init c = record { counted = refl; sound = c.requires; stands = λ o k shows. first_stands o k _ _ _ shows }

pub step-requires : goal.step-requires
step-requires c = record { sound = c.loop-event.invariant.sound }

pub loop-event-preserved : goal.loop-event-preserved
loop-event-preserved c = record {
  counted = let n = c.loop-event.invariant.counted in omega arith;
  sound = still-shown _ _ _ _ c.loop-event.invariant.sound c.in_ok-verdict.ensures.took;
  stands = λ o k shows. goes_on o k _ _ _ _ _ (c.loop-event.invariant.stands o k shows) _ _ _ _ _ c.loop-event-test.true (let n = c.loop-event.invariant.counted in omega arith) c.in_ok-verdict.ensures.took c.in_ok-put_verdict.ensures;
}

pub returns-clause-state : goal.returns-clause-state
returns-clause-state c = λ o k shows.
    let past : length c.args.events.now ≤ c.loop-event.event-index = omega arith in
    subst (λ s. ShowsState o s c.loop-event.state) (after-is o k c.args.events.now) (is_done o k _ _ _ _ _ (c.loop-event.invariant.stands o k shows) past).0

pub returns-clause-text : goal.returns-clause-text
returns-clause-text c = λ o k shows.
    let past : length c.args.events.now ≤ c.loop-event.event-index = omega arith in
    (is_done o k _ _ _ _ _ (c.loop-event.invariant.stands o k shows) past).1 ∙ ap (λ t. c.args.text.now.items ++ t) (lines-is o k c.args.events.now)
