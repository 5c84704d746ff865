use Rattle.std.proofs.Common.{◌∙◌, sym, refl}
use Rattle.row_text.specs.Rows.{Reads}
use Rattle.row_text.proofs.Reading.{reads-value, reads-first_fault, reads-refused}
use Rattle.trace_text.specs.declared.fault.TraceErr.TheVariants as fault
use Rattle.trace_text.specs.Trace.{trace_of, told}
use Rattle.trace_text.proofs.ReadLemmas.{trace-none, trace-bad, trace-below, trace-within}
use Rattle.trace_text.proofs.read.read_trace.Goals as goal

pub returns-in_default-clause-first_fault : goal.returns-in_default-clause-first_fault
returns-in_default-clause-first_fault c = λ _. trace-none c.args.first_new c.args.chunks c.args.bytes.now (sym c.new-lines.ensures.left ∙ c.in_default.ensures.first)

pub returns-in_default-clause-refused : goal.returns-in_default-clause-refused
returns-in_default-clause-refused c = rw (trace-none c.args.first_new c.args.chunks c.args.bytes.now (sym c.new-lines.ensures.left ∙ c.in_default.ensures.first)) refl

pub returns-in_default-head-clause-first_fault : goal.returns-in_default-head-clause-first_fault
returns-in_default-head-clause-first_fault c =
    rw c.line-line.ensures
    (λ _. trace-bad c.args.first_new c.args.chunks c.args.bytes.now c.in-Some.words c.next_line.new.self.left (sym c.new-lines.ensures.left ∙ c.in-Some.ensures.first) (sym c.in_default-head.is ∙ c.head.ensures.value))

pub returns-in_default-head-clause-refused : goal.returns-in_default-head-clause-refused
returns-in_default-head-clause-refused c =
    rw (c.line-line.ensures, trace-bad c.args.first_new c.args.chunks c.args.bytes.now c.in-Some.words c.next_line.new.self.left (sym c.new-lines.ensures.left ∙ c.in-Some.ensures.first) (sym c.in_default-head.is ∙ c.head.ensures.value)) refl

-- below the first line the trace is what the events' lines say
below : (c : goal.After-below) → Reads fault.Memory told c.below.result (trace_of c.args.first_new c.args.chunks c.args.bytes.now)
below c = rw (trace-below c.args.first_new c.args.chunks c.args.bytes.now c.in-Some.words c.next_line.new.self.left c.in-Some-head.limits (sym c.new-lines.ensures.left ∙ c.in-Some.ensures.first) (sym c.in-Some-head.is ∙ c.head.ensures.value)) c.below.ensures.reads

pub returns-clause-value : goal.returns-clause-value
returns-clause-value c = reads-value fault.Memory told c.below.result _ (below c)

pub returns-clause-first_fault : goal.returns-clause-first_fault
returns-clause-first_fault c = reads-first_fault fault.Memory told c.below.result _ (below c)

pub returns-clause-refused : goal.returns-clause-refused
returns-clause-refused c = reads-refused fault.Memory told c.below.result _ (below c)

pub returns-clause-within : goal.returns-clause-within
returns-clause-within c = trace-within c.args.first_new c.args.chunks c.in-Some-head.limits c.below.result c.below.ensures.same c.in-Some-head.ensures.within
