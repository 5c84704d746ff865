use Rattle.std.proofs.Common.{◌∙◌, sym, ap, Ok}
use Rattle.row_text.proofs.Reading.{refuses-fault, refuses-memory}
use Rattle.trace_text.specs.declared.fault.TraceErr.TheVariants as fault
use Rattle.trace_text.specs.Trace.{events_on}
use Rattle.trace_text.proofs.ReadLemmas.{goes_on, is_bad, is_done}
use Rattle.trace_text.proofs.read.events.Goals as goal

pub returns-in_default-event : goal.returns-in_default-event
returns-in_default-event c =
    rw c.line-line.ensures
    (refuses-fault fault.Memory (events_on c.args.lines.left) (fault.Line c.in-Some.words.line)
    (is_bad c.args.lines.left c.loop-words.lines.left c.loop-words.fits c.loop-words.events.items c.loop-words.invariant c.in-Some.words c.next_line.new.self.left c.in-Some.ensures.first (sym c.in_default-event.is ∙ c.event.ensures)))

pub loop-words-preserved : goal.loop-words-preserved
loop-words-preserved c =
    goes_on c.args.lines.left c.loop-words.lines.left c.loop-words.fits c.loop-words.events.items c.loop-words.invariant c.in-Some.words c.next_line.new.self.left c.in-Some.ensures.first
    c.in-Some-event.event c.keep-fits.result c.keep-fits.new.values.items (sym c.in-Some-event.is ∙ c.event.ensures) c.keep-fits.ensures

pub returns-then-not-fits : goal.returns-then-not-fits
returns-then-not-fits c =
    refuses-memory fault.Memory (events_on c.args.lines.left) _
    (is_done c.args.lines.left c.loop-words.lines.left c.loop-words.fits c.loop-words.events.items c.loop-words.invariant c.in_default.ensures.first)

pub returns : goal.returns
returns c =
    is_done c.args.lines.left c.loop-words.lines.left c.loop-words.fits c.loop-words.events.items c.loop-words.invariant c.in_default.ensures.first
    ∙ ap (λ events. Ok events) (sym (c.loop-words.invariant.read.stands c.if-not-fits.false))
