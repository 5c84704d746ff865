use Rattle.std.proofs.Common.{◌∙◌}
use Rattle.std.specs.FinMap as fin
use Rattle.std.proofs.Common.{ap}
use Rattle.pf_locks.proofs.Owning.{values_are_history}
use Rattle.pf_locks.proofs.closing.history_of.Goals as goal

pub returns : goal.returns
returns c =
    let v = c.args.s.now.seat.me.0 in
    c.in_ok-list.ensures.entries ∙ ap (λ m. fin.values m) c.requires.entries ∙ values_are_history v.seen v.entries c.requires.seen
