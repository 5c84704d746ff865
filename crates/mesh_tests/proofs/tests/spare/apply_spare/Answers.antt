use Rattle.std.proofs.Common.{◌+◌, ◌≤◌, sym, subst, arith}
use Rattle.pf_model.specs.Mesh.{Undivided}
use Rattle.pf_model.specs.Applied.{IsFresh}
use Rattle.pf_model.proofs.ReplayKeeps.{applied_fresh}
use Rattle.mesh_tests.proofs.Tickets.{first-after}
use Rattle.mesh_tests.proofs.tests.spare.apply_spare.Goals as goal

pub returns-clause-fresh : goal.returns-clause-fresh
returns-clause-fresh c =
    let P : Undivided → Type 0 = λ m. IsFresh m (c.args.ticket + 1) in
    subst P (sym c.apply_spare.ensures.applied) (λ n l. let h = applied_fresh c.args.mesh.now.mesh c.args.ticket c.args.op c.requires.fresh n l in omega (arith, h))

pub returns-clause-few : goal.returns-clause-few
returns-clause-few c =
    let P : Undivided → Type 0 = λ m. m.first_new ≤ 1000 in
    let same = first-after c.args.mesh.now.mesh c.args.ticket c.args.op in
    let few = c.requires.few in
    subst P (sym c.apply_spare.ensures.applied) (omega (arith, same, few))
