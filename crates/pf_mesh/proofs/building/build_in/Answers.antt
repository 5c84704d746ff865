use Rattle.std.proofs.Common.{List, sym, ◌∙◌, ap, subst, Ok}
use Rattle.pf_model.specs.declared.Tri.{Tri}
use Rattle.pf_model.specs.Rising.{sorted_by}
use Rattle.pf_model.specs.Mesh.{Undivided, tri_lt}
use Rattle.pf_model.specs.Exchange.{AreSound}
use Rattle.pf_edges.specs.Kept.{IsKept}
use Rattle.pf_apply.specs.BuildSteps.{live_sites}
use Rattle.pf_apply.proofs.BuildKept.{part-listed, built-kept, built-ok, parts-built}
use Rattle.pf_apply.proofs.BuiltListed.{built-listed}
use Rattle.pf_mesh.proofs.building.build_in.Goals as goal

pub sort_listed-requires : goal.sort_listed-requires
sort_listed-requires c =
    let P : List Tri → Type 0 = λ l. AreSound l in
    subst P (sym c.in-Ok.ensures.entered.listed) (part-listed c.args.points.now c.args.tris.now c.in-Ok.ensures.part).sound

pub of_kept-requires : goal.of_kept-requires
of_kept-requires c =
    let points = c.args.points.now in
    let tris = c.args.tris.now in
    let sides = c.enter_triangles.new.table.sides in
    let nodes = c.enter_triangles.new.table.nodes.items in
    let e = c.in-Ok.ensures in
    let k = built-kept sides nodes points tris c.requires.in_range e.part e.entered.shows (λ n. e.places.places n ∙ c.requires.room.empty.places n) in
    let same = parts-built sides nodes points tris c.in-Ok-list_sites.sites.items c.sort_listed.new.listed.items c.in-Ok-default_bands.bands.items k
    (c.in-Ok-list_sites.ensures ∙ ap (live_sites 0) c.deref.ensures.value) (c.sort_listed.ensures ∙ ap (sorted_by tri_lt) e.entered.listed) c.in-Ok-default_bands.ensures in
    let P : Undivided → Type 0 = λ m. IsKept sides nodes m in
    subst P (sym same) k

pub returns-clause-ok : goal.returns-clause-ok
returns-clause-ok c =
    let points = c.args.points.now in
    let tris = c.args.tris.now in
    let sides = c.enter_triangles.new.table.sides in
    let nodes = c.enter_triangles.new.table.nodes.items in
    let e = c.in-Ok.ensures in
    let k = built-kept sides nodes points tris c.requires.in_range e.part e.entered.shows (λ n. e.places.places n ∙ c.requires.room.empty.places n) in
    let same = parts-built sides nodes points tris c.in-Ok-list_sites.sites.items c.sort_listed.new.listed.items c.in-Ok-default_bands.bands.items k
    (c.in-Ok-list_sites.ensures ∙ ap (live_sites 0) c.deref.ensures.value) (c.sort_listed.ensures ∙ ap (sorted_by tri_lt) e.entered.listed) c.in-Ok-default_bands.ensures in
    built-ok points tris e.ok ∙ ap (λ m. Ok m) (sym same ∙ sym c.of_kept.ensures)

pub returns-clause-listed : goal.returns-clause-listed
returns-clause-listed c = built-listed c.args.points.now c.args.tris.now c.of_kept.result.mesh (returns-clause-ok c)
