use Rattle.std.proofs.Common.{length, sym, subst}
use Rattle.pf_workers.specs.declared.parts.Part.{Part}
use Rattle.pf_workers.specs.Jobs.{IsPartFor}
use Rattle.pf_adapt.proofs.crew.job_of.Goals as goal

pub returns-clause-part : goal.returns-clause-part
returns-clause-part c = subst (λ (x : Part). IsPartFor c.args.board.now.table.shared.key.mesh (length c.args.parts.now) c.args.seat.number x) (sym c.index-parts-worker.is) (c.requires.parts c.args.seat.number c.index-parts-worker.result c.requires.number)
