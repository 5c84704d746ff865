use Rattle.pf_trace.proofs.Lines.{IsRun}
use Rattle.pf_trace.proofs.events.push_events.Given as goal

abbrev pub invariant-loop-event : goal.invariant-loop-event
invariant-loop-event l = IsRun l.fn.state l.events l.fn.text.items l.event-index l.number l.state l.text.items
