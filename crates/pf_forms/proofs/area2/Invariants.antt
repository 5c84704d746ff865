use Rattle.std.proofs.Common.{◌≡◌, ◌*◌, drop}
use Rattle.std.specs.Prelude.{◌+ℤ◌}
use Rattle.pf_geom.specs.Plane.{IsWithin}
use Rattle.pf_model.specs.Mesh.{turn_at}
use Rattle.pf_model.specs.Sums.{total, area2_of}
use Rattle.pf_forms.proofs.area2.Given as goal

abbrev pub invariant-loop-t : goal.invariant-loop-t
invariant-loop-t l = record {
  summed : l.sum +ℤ total (λ t. turn_at l.m.mesh t.a t.b t.c) (drop l.t-index l.t-items) ≡ area2_of l.m.mesh;
  within : IsWithin (576460752303423488 * l.t-index) l.sum;
}
