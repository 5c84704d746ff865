use Rattle.std.proofs.Common.{arith}
use Rattle.pf_model.proofs.BuiltFresh.{built-fresh}
use Rattle.small_meshes.proofs.opened.Goals as goal

pub returns-clause-fresh : goal.returns-clause-fresh
returns-clause-fresh c = λ n l. let h = built-fresh c.args.points.now c.args.tris.now c.in_ok-mesh.mesh.mesh c.in_ok-mesh.ensures.ok n l in omega (arith, h)

pub returns-clause-named : goal.returns-clause-named
returns-clause-named c = λ n l. let h = built-fresh c.args.points.now c.args.tris.now c.in_ok-mesh.mesh.mesh c.in_ok-mesh.ensures.ok n l in omega (arith, h)
