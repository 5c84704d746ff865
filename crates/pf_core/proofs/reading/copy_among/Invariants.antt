use Rattle.std.proofs.Common.{◌≡◌, drop}
use Rattle.pf_core_model.specs.Sharers.{copy_in}
use Rattle.pf_core.proofs.reading.copy_among.Given as goal

abbrev pub invariant-loop-s : goal.invariant-loop-s
invariant-loop-s l = copy_in (drop l.s-index l.list) l.chunk ≡ copy_in l.list l.chunk
