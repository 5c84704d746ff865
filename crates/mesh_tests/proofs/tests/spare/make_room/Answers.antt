use Rattle.std.proofs.Common.{◌≤◌, sym, subst}
use Rattle.pf_model.specs.Mesh.{Undivided}
use Rattle.pf_model.specs.Applied.{IsFresh}
use Rattle.mesh_tests.proofs.tests.spare.make_room.Goals as goal

abbrev Fresh : Undivided → Type 0
Fresh m = IsFresh m 0

abbrev Few : Undivided → Type 0
Few m = m.first_new ≤ 1000

pub returns-clause-fresh : goal.returns-clause-fresh
returns-clause-fresh g c = subst Fresh (sym c.reserve.ensures.same) c.requires.fresh

pub returns-clause-few : goal.returns-clause-few
returns-clause-few g c = subst Few (sym c.reserve.ensures.same) c.requires.few
