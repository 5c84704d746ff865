-- The mesh of a value.
use Rattle.std.proofs.Common.{◌≡◌}
use Rattle.pf_mesh.specs.Mesh.{MeshValue}

-- equal values have equal meshes
pub same-mesh : {v w : MeshValue} → v ≡ w → v.mesh ≡ w.mesh
same-mesh e = λ i. (e i).mesh
