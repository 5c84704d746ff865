use Rattle.std.proofs.Common.{◌∙◌}
use Rattle.pf_journal.proofs.ReplayLemmas.{other-fault, stopped-first, replayed-before}
use Rattle.pf_journal.proofs.run.replay.Goals as goal

pub returns-in-Err-clause-refused : goal.returns-in-Err-clause-refused
returns-in-Err-clause-refused c = λ other.
    let unlike = other-fault c.in-Err.stop.ticket c.in-Err.stop.fault (λ e. other (c.from.ensures ∙ e)) in
    stopped-first _ c.in-Err.stop c.from.result c.from.ensures (c.in-Err.ensures.refused unlike)

pub returns-in-Err-clause-before : goal.returns-in-Err-clause-before
returns-in-Err-clause-before c = replayed-before c.args.mesh.now.mesh c.args.entries.now c.in-Err.stop.ticket c.in-Err.stop.fault c.requires.tickets c.in-Err.ensures.stopped c.apply_all.new.self.mesh c.from.result c.from.ensures c.in-Err.ensures.before
