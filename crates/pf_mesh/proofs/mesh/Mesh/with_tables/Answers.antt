use Rattle.std.proofs.Common.{◌≡◌, ℕ, List, sym, subst, ◌∙◌, ap}
use Rattle.std.specs.Option.{option_map}
use Rattle.pf_model.specs.Mesh.{Undivided}
use Rattle.pf_model.specs.Tables.{AreListed, with_tables_of}
use Rattle.pf_edges.specs.Kept.{mesh_of, IsKept}
use Rattle.pf_edges.specs.Table.{side_at}
use Rattle.pf_apply.specs.Tables.{owned_side}
use Rattle.pf_apply.proofs.OwnersKept.{kept-owned, owned-by_table}
use Rattle.pf_mesh.proofs.MeshLemmas.{same-mesh}
use Rattle.pf_mesh.proofs.mesh.Mesh.with_tables.Goals as goal

pub of_kept-requires : goal.of_kept-requires
of_kept-requires c =
    let i = c.self.inside in
    let m = mesh_of i.first_new i.sites.items i.tris.items i.bands.items i.chunks in
    let old = i.table.sides in
    let new = c.own_listed.new.sides in
    let nodes = i.table.nodes.items in
    let listed = c.args.listed.now in
    let owners = c.args.owners.items in
    let P : List ℕ → Type 0 = λ os. (p q : ℕ) → side_at new p q ≡ option_map (owned_side listed os p q) (side_at old p q) in
    let sides = subst P c.deref.ensures.value c.own_listed.ensures.sides in
    let Q : Undivided → Type 0 = λ x. AreListed listed x.tris in
    let k = kept-owned old new nodes listed owners c.args.chunks c.args.bands.items m c.self.invariant sides c.own_listed.ensures.len (subst Q (sym (same-mesh c.self.view_is)) c.requires.listed) c.requires.as_many c.requires.owned c.requires.default in
    let e = c.own_tris.ensures ∙ owned-by_table listed owners old new nodes i.tris.items c.self.invariant.shows.triangles c.self.invariant.conforming.edges_once sides in
    let same = ap (λ ts. mesh_of i.first_new i.sites.items ts c.args.bands.items c.args.chunks) e in
    let R : Undivided → Type 0 = λ x. IsKept new nodes x in
    subst R (sym same) k

pub returns-clause-value : goal.returns-clause-value
returns-clause-value c =
    let i = c.self.inside in
    let old = i.table.sides in
    let new = c.own_listed.new.sides in
    let listed = c.args.listed.now in
    let owners = c.args.owners.items in
    let P : List ℕ → Type 0 = λ os. (p q : ℕ) → side_at new p q ≡ option_map (owned_side listed os p q) (side_at old p q) in
    let sides = subst P c.deref.ensures.value c.own_listed.ensures.sides in
    let e = c.own_tris.ensures ∙ owned-by_table listed owners old new i.table.nodes.items i.tris.items c.self.invariant.shows.triangles c.self.invariant.conforming.edges_once sides in
    let same = ap (λ ts. mesh_of i.first_new i.sites.items ts c.args.bands.items c.args.chunks) e in
    c.of_kept.ensures ∙ (same ∙ ap (with_tables_of listed owners c.args.chunks c.args.bands.items) (same-mesh c.self.view_is))
