use Rattle.std.proofs.Common.{◌≡◌}
use Rattle.pf_workers.specs.Parts.{chunks_for}
use Rattle.pf_workers.proofs.parts.chunks_of.Given as goal

abbrev pub invariant-chunks : goal.invariant-chunks
invariant-chunks l = l.list.items ≡ chunks_for l.workers l.worker l.chunk
