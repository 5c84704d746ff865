use Rattle.std.proofs.Common.{◌-◌, length, sym, subst}
use Rattle.pf_workers.specs.declared.jobs.Job.{Job}
use Rattle.pf_workers.specs.Jobs.{IsIdle, IsPartOf}
use Rattle.pf_workers.proofs.Fitting.{part_of}
use Rattle.pf_workers.proofs.jobs.drive_all.Goals as goal

pub for_each_mut-requires-clause-accepts : goal.for_each_mut-requires-clause-accepts
for_each_mut-requires-clause-accepts g c κs within = λ i p low read. (
  subst (λ (x : Job g.row.H.Denot). IsIdle (g.H.Holder.pairs x.hand) (g.H.Holder.unborn x.hand) (g.H.Holder.owed x.hand) (g.H.Rings.lent x.hand)) (sym read) (c.requires.idle i p.now low),
  subst (λ (x : Job g.row.H.Denot). IsPartOf (g.H.Holder.opening x.hand).mesh x.part.now) (sym read) (part_of _ (length c.args.jobs.now) (length c.args.jobs.now - 1 - i) _ (c.requires.part i p.now low)),
)
