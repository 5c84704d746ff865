use Rattle.std.proofs.Common.{List, sym, subst}
use Rattle.pf_model.specs.declared.Tri.{Tri}
use Rattle.pf_edges.specs.Kept.{mesh_of}
use Rattle.pf_edge_list.specs.Edges.{AreSided}
use Rattle.pf_edge_list.proofs.EdgesLocated.{are-sided}
use Rattle.pf_mesh.proofs.mesh.Mesh.rest.Goals as goal

pub rest-requires-clause-sided : goal.rest-requires-clause-sided
rest-requires-clause-sided c =
    let i = c.self.inside in
    let m = mesh_of i.first_new i.sites.items i.tris.items i.bands.items i.chunks in
    let P : List Tri → Type 0 = λ ts. AreSided i.table.sides ts in
    subst P (sym c.deref.ensures.value) (are-sided m i.table.sides i.table.nodes.items c.self.invariant.conforming c.self.invariant.shows)
