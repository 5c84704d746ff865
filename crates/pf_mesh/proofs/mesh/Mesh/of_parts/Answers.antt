use Rattle.std.proofs.Common.{sym}
use Rattle.pf_edges.specs.Kept.{mesh_of}
use Rattle.pf_mesh.proofs.mesh.Mesh.of_parts.Goals as goal

pub of_kept-requires : goal.of_kept-requires
of_kept-requires c = c.in_ok-table.ensures (mesh_of c.args.first_new c.args.sites.items c.args.tris.items c.args.bands.items c.args.chunks) c.requires (sym c.deref.ensures.value) (sym c.deref-2.ensures.value)
