use Rattle.std.proofs.Common.{◌≡◌, ◌∙◌, List, sym, ap, subst}
use Rattle.std.specs.Prelude.{All, Contains}
use Rattle.pf_model.specs.declared.Tri.{Tri}
use Rattle.pf_model.specs.Mesh.{tri_lt}
use Rattle.pf_model.specs.Applied.{op_applied}
use Rattle.pf_model.proofs.Members.{insert_all_by-new}
use Rattle.pf_model.specs.Exchange.{CanExchange, exchanged, without_all}
use Rattle.pf_edges.specs.Table.{HasNamedCorners, ShowsTriangles}
use Rattle.pf_apply.proofs.MeshLemmas.{live-within, all-within}
use Rattle.pf_apply.proofs.OperationLemmas.{kept-applied, can-conforms}
use Rattle.pf_apply.proofs.perform.perform_on_table.Goals as goal

pub exchange-requires-clause-removed_within : goal.exchange-requires-clause-removed_within
exchange-requires-clause-removed_within c =
    let m = c.requires.can.mesh in
    let kept = c.make_node.ensures.keeps m c.requires.can.kept c.requires.can.can in
    let h = c.requires.can.change in
    let nodes = c.make_node.new.table.nodes.items in
    let all = all-within nodes m kept.conforming (live-within c.make_node.new.table.sides nodes m kept.shows) c.args.change.now.removed.items (h.fits c.requires.can.can).take.stand in
    let Q : List Tri → Type 0 = λ ts. All (HasNamedCorners nodes) ts in
    subst Q (sym c.deref.ensures.0) all

pub exchange-requires-clause-new_within : goal.exchange-requires-clause-new_within
exchange-requires-clause-new_within c =
    let m = c.requires.can.mesh in
    let can = c.requires.can.can in
    let places = c.make_node.ensures.places m c.requires.can.kept can in
    let h = c.requires.can.change in
    let nodes = c.make_node.new.table.nodes.items in
    let after = op_applied m can.ticket c.args.op in
    let new = c.args.change.now.new.items in
    let stand : (t : Tri) → Contains new t → Contains after.tris t = λ t i. (let P : List Tri → Type 0 = λ ts. Contains ts t in subst P (h.makes can) (insert_all_by-new tri_lt t new (without_all c.args.change.now.removed.items m.tris) i)) in
    let all = all-within nodes after (can-conforms m c.args.n c.args.op c.requires.can.kept.conforming can) places.within new stand in
    let Q : List Tri → Type 0 = λ ts. All (HasNamedCorners nodes) ts in
    subst Q (sym c.deref-2.ensures.0) all

pub returns-clause-applied : goal.returns-clause-applied
returns-clause-applied c = λ m k can h.
    let kept = c.make_node.ensures.keeps m k can in
    let places = c.make_node.ensures.places m k can in
    let removed = c.args.change.now.removed.items in
    let new = c.args.change.now.new.items in
    let between = c.make_node.new.table in
    let last = c.exchange.new.self in
    let after = op_applied m can.ticket c.args.op in
    let P : List Tri → Type 0 = λ g. CanExchange g new m.tris in
    let Q : List Tri → Type 0 = λ n. CanExchange c.deref.result.now n m.tris in
    let can' = subst Q (sym c.deref-2.ensures.0) (subst P (sym c.deref.ensures.0) (h.fits can)) in
    let shown = c.exchange.ensures.shows m.tris kept.shows.triangles can' in
    let same : exchanged c.deref.result.now c.deref-2.result.now m.tris ≡ after.tris = ap (λ (g : List Tri). exchanged g c.deref-2.result.now m.tris) c.deref.ensures.0 ∙ (ap (λ (n : List Tri). exchanged removed n m.tris) c.deref-2.ensures.0 ∙ h.makes can) in
    let R : List Tri → Type 0 = λ ts. ShowsTriangles last.sides last.nodes.items ts in
    kept-applied last.sides between.nodes.items last.nodes.items after (can-conforms m c.args.n c.args.op k.conforming can) (subst R same shown) places c.exchange.ensures.places kept.in_range
