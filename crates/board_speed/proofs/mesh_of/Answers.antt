use Rattle.pf_model.proofs.BuiltFresh.{built-fresh}
use Rattle.board_speed.proofs.mesh_of.Goals as goal

pub returns-in-Ok : goal.returns-in-Ok
returns-in-Ok c = built-fresh c.args.points.now c.args.tris.now c.in-Ok.mesh.mesh c.in-Ok.ensures.ok
