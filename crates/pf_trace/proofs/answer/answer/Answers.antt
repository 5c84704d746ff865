use Rattle.std.proofs.Common.{◌≡◌, arith, subst}
use Rattle.pf_core_model.specs.Core.{Opening}
use Rattle.pf_core_model.specs.State.{opening_state, state_after}
use Rattle.pf_core.specs.Shown.{IsShownState, opening_of}
use Rattle.trace_text.specs.Verdicts.{trace_text}
use Rattle.pf_trace.proofs.Lines.{whole-text}
use Rattle.pf_trace.proofs.answer.answer.Goals as goal

pub new-requires : goal.new-requires
new-requires c = record {
  some_worker = c.requires.within.some_worker;
  few_workers = c.requires.within.few_workers;
  fresh = λ n live. let h = c.requires.fresh n live in omega (arith, h);
  small = c.requires.within.names;
}

pub push_events-requires : goal.push_events-requires
push_events-requires c = record { opening = _; state = _; shown = c.in_ok-state.ensures }

pub push_end-requires : goal.push_end-requires
push_end-requires c = record { opening = _; state = _; shown = c.in_ok-push_events.ensures.state _ _ c.in_ok-state.ensures }

pub returns : goal.returns
returns c =
    let o : Opening = opening_of c.args.m.now.mesh c.args.trace.now.budget c.args.trace.now.workers in
    let shows = c.in_ok-state.ensures in
    subst (λ es. c.push_end.new.text.items ≡ trace_text o es) c.deref.ensures.value
    (whole-text o c.deref.result.now _ _ _ c.new-text.ensures.items (c.in_ok-push_events.ensures.text o (opening_state o) shows) (c.in_ok-push_end.ensures o (state_after o (opening_state o) c.deref.result.now) (c.in_ok-push_events.ensures.state o (opening_state o) shows)))
