use Rattle.std.proofs.Common.{◌≡◌, drop}
use Rattle.std.specs.Prelude.{flat_map}
use Rattle.pf_model.specs.Mesh.{point_of}
use Rattle.pf_star_model.specs.Lent.{spoke_sites}
use Rattle.pf_sight.proofs.places.spot_among.Given as goal

abbrev pub invariant-loop-s : goal.invariant-loop-s
invariant-loop-s l = point_of (flat_map spoke_sites (drop l.s-index l.spokes)) l.n ≡ point_of (flat_map spoke_sites l.spokes) l.n
