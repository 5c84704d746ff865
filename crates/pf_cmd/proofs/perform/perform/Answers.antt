use Rattle.std.proofs.Common.{sym, subst, IfErr, IfOk}
use Rattle.pf_say.specs.Shown.{stems_of}
use Rattle.pf_cmd.specs.Commands.{IsUnnamed}
use Rattle.pf_cmd.specs.Ends.{Finishes, Stops}
use Rattle.pf_cmd.proofs.perform.perform.Goals as goal

pub returns-in-Adapt-clause-done : goal.returns-in-Adapt-clause-done
returns-in-Adapt-clause-done g c = subst (λ t. IfOk c.perform_adapt.result (λ report. Finishes (record { task = t; stems = stems_of c.args.command.stems; scale = c.args.command.scale }) (g.S.Shelf.seen c.args.shelf.now) (g.S.Shelf.seen c.perform_adapt.new.shelf) report.items)) (sym c.in-Adapt.is) c.perform_adapt.ensures.done

pub returns-in-Adapt-clause-stops : goal.returns-in-Adapt-clause-stops
returns-in-Adapt-clause-stops g c = subst (λ t. IfErr c.perform_adapt.result (Stops (record { task = t; stems = stems_of c.args.command.stems; scale = c.args.command.scale }) (g.S.Shelf.seen c.args.shelf.now) (g.S.Shelf.seen c.perform_adapt.new.shelf))) (sym c.in-Adapt.is) c.perform_adapt.ensures.stops

pub returns-in-Adapt-clause-others : goal.returns-in-Adapt-clause-others
returns-in-Adapt-clause-others g c = λ name h. c.perform_adapt.ensures.others name (subst (λ t. IsUnnamed (record { task = t; stems = stems_of c.args.command.stems; scale = c.args.command.scale }) name) c.in-Adapt.is h)

pub returns-in-Replay-clause-done : goal.returns-in-Replay-clause-done
returns-in-Replay-clause-done g c = subst (λ t. IfOk c.perform_replay.result (λ report. Finishes (record { task = t; stems = stems_of c.args.command.stems; scale = c.args.command.scale }) (g.S.Shelf.seen c.args.shelf.now) (g.S.Shelf.seen c.perform_replay.new.shelf) report.items)) (sym c.in-Replay.is) c.perform_replay.ensures.done

pub returns-in-Replay-clause-stops : goal.returns-in-Replay-clause-stops
returns-in-Replay-clause-stops g c = subst (λ t. IfErr c.perform_replay.result (Stops (record { task = t; stems = stems_of c.args.command.stems; scale = c.args.command.scale }) (g.S.Shelf.seen c.args.shelf.now) (g.S.Shelf.seen c.perform_replay.new.shelf))) (sym c.in-Replay.is) c.perform_replay.ensures.stops

pub returns-in-Replay-clause-others : goal.returns-in-Replay-clause-others
returns-in-Replay-clause-others g c = λ name h. c.perform_replay.ensures.others name (subst (λ t. IsUnnamed (record { task = t; stems = stems_of c.args.command.stems; scale = c.args.command.scale }) name) c.in-Replay.is h)

pub returns-in-Check-clause-done : goal.returns-in-Check-clause-done
returns-in-Check-clause-done g c = subst (λ t. IfOk c.perform_check.result (λ report. Finishes (record { task = t; stems = stems_of c.args.command.stems; scale = c.args.command.scale }) (g.S.Shelf.seen c.args.shelf.now) (g.S.Shelf.seen c.perform_check.new.shelf) report.items)) (sym c.in-Check.is) c.perform_check.ensures.done

pub returns-in-Check-clause-stops : goal.returns-in-Check-clause-stops
returns-in-Check-clause-stops g c = subst (λ t. IfErr c.perform_check.result (Stops (record { task = t; stems = stems_of c.args.command.stems; scale = c.args.command.scale }) (g.S.Shelf.seen c.args.shelf.now) (g.S.Shelf.seen c.perform_check.new.shelf))) (sym c.in-Check.is) c.perform_check.ensures.stops

pub returns-in-Check-clause-others : goal.returns-in-Check-clause-others
returns-in-Check-clause-others g c = λ name h. c.perform_check.ensures.others name

pub returns-in-Chunks-clause-done : goal.returns-in-Chunks-clause-done
returns-in-Chunks-clause-done g c = subst (λ t. IfOk c.perform_chunks.result (λ report. Finishes (record { task = t; stems = stems_of c.args.command.stems; scale = c.args.command.scale }) (g.S.Shelf.seen c.args.shelf.now) (g.S.Shelf.seen c.perform_chunks.new.shelf) report.items)) (sym c.in-Chunks.is) c.perform_chunks.ensures.done

pub returns-in-Chunks-clause-stops : goal.returns-in-Chunks-clause-stops
returns-in-Chunks-clause-stops g c = subst (λ t. IfErr c.perform_chunks.result (Stops (record { task = t; stems = stems_of c.args.command.stems; scale = c.args.command.scale }) (g.S.Shelf.seen c.args.shelf.now) (g.S.Shelf.seen c.perform_chunks.new.shelf))) (sym c.in-Chunks.is) c.perform_chunks.ensures.stops

pub returns-in-Chunks-clause-others : goal.returns-in-Chunks-clause-others
returns-in-Chunks-clause-others g c = λ name h. c.perform_chunks.ensures.others name

pub returns-in-Trace-clause-done : goal.returns-in-Trace-clause-done
returns-in-Trace-clause-done g c = subst (λ t. IfOk c.perform_trace.result (λ report. Finishes (record { task = t; stems = stems_of c.args.command.stems; scale = c.args.command.scale }) (g.S.Shelf.seen c.args.shelf.now) (g.S.Shelf.seen c.perform_trace.new.shelf) report.items)) (sym c.in-Trace.is) c.perform_trace.ensures.done

pub returns-in-Trace-clause-stops : goal.returns-in-Trace-clause-stops
returns-in-Trace-clause-stops g c = subst (λ t. IfErr c.perform_trace.result (Stops (record { task = t; stems = stems_of c.args.command.stems; scale = c.args.command.scale }) (g.S.Shelf.seen c.args.shelf.now) (g.S.Shelf.seen c.perform_trace.new.shelf))) (sym c.in-Trace.is) c.perform_trace.ensures.stops

pub returns-in-Trace-clause-others : goal.returns-in-Trace-clause-others
returns-in-Trace-clause-others g c = λ name h. c.perform_trace.ensures.others name
