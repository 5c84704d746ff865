use Rattle.std.proofs.Common.{◌≤◌, sym, subst, arith}
use Rattle.pf_model.specs.Mesh.{Undivided}
use Rattle.pf_model.specs.Applied.{IsFresh}
use Rattle.mesh_tests.proofs.tests.flip.Goals as goal

abbrev Fresh : Undivided → Type 0
Fresh m = IsFresh m 0

abbrev Few : Undivided → Type 0
Few m = m.first_new ≤ 1000

pub returns-in-Ok-clause-fresh : goal.returns-in-Ok-clause-fresh
returns-in-Ok-clause-fresh c = subst Fresh (sym c.in-Ok.ensures.applied) c.requires.fresh

pub returns-in-Ok-clause-few : goal.returns-in-Ok-clause-few
returns-in-Ok-clause-few c = subst Few (sym c.in-Ok.ensures.applied) c.requires.few

pub returns-in-Err-clause-fresh : goal.returns-in-Err-clause-fresh
returns-in-Err-clause-fresh c = subst Fresh (sym c.in-Err.ensures.err) c.requires.fresh

pub returns-in-Err-clause-few : goal.returns-in-Err-clause-few
returns-in-Err-clause-few c = subst Few (sym c.in-Err.ensures.err) c.requires.few
