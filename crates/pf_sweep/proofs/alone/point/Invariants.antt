use Rattle.std.proofs.Common.{◌≡◌, drop}
use Rattle.pf_model.specs.Mesh.{point_of}
use Rattle.pf_sweep.proofs.alone.point.Given as goal

abbrev pub invariant-loop-site : goal.invariant-loop-site
invariant-loop-site l = point_of (drop l.site-index l.sites) l.n ≡ point_of l.sites l.n
