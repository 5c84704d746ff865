use Rattle.std.proofs.Common.{◌≡◌, Ok, ap, ◌∙◌, sym}
use Rattle.trace_text.specs.Trace.{trace_of, told}
use Rattle.pf_trace.proofs.answer.run_trace.Goals as goal

pub returns-in-Ok-answer-clause-answer : goal.returns-in-Ok-answer-clause-answer
returns-in-Ok-answer-clause-answer c = record { said = told c.in-Ok.trace; says = rw (sym c.first_new.ensures.value, sym c.chunks.ensures.value) c.in-Ok.ensures.value; answer = c.in-Ok-answer.ensures }
