use Rattle.std.proofs.Common.{◌∙◌}
use Rattle.pf_patch.proofs.Planned.{patch-by}
use Rattle.pf_patch.proofs.build.patch.Goals as goal

pub returns : goal.returns
returns g c m chunk ticket can shown few =
    c.in_ok-pairs.ensures ∙ patch-by m (g.R.Rings.lent c.args.r.now) chunk ticket c.args.op can shown few c.in_ok-plan.plan c.in_ok-plan.ensures c.deref.result.now (c.deref.ensures.value ∙ c.in_ok-names.ensures)
