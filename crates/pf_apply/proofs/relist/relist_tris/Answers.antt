use Rattle.std.proofs.Common.{List, sym, ◌∙◌, ap, subst, arith}
use Rattle.pf_model.specs.declared.Tri.{Tri}
use Rattle.pf_model.specs.Rising.{sorted_by}
use Rattle.pf_model.specs.Mesh.{tri_lt}
use Rattle.pf_model.specs.Exchange.{AreSound}
use Rattle.pf_apply.proofs.Relisted.{gathered-sound, gathered-sorted, gathered-length}
use Rattle.pf_apply.proofs.relist.relist_tris.Goals as goal

pub gather_tris-requires-clause-room : goal.gather_tris-requires-clause-room
gather_tris-requires-clause-room c =
    let same = gathered-length c.args.table.now.sides c.args.table.now.nodes.items c.requires.mesh c.len.ensures.unique c.requires.kept in
    let few = c.requires.few in
    let cap = c.clear.ensures.capacity in
    omega (arith, same, few, cap)

pub sort_listed-requires : goal.sort_listed-requires
sort_listed-requires c =
    let P : List Tri → Type 0 = λ ts. AreSound ts in
    subst P (sym c.gather_tris.ensures) (gathered-sound c.args.table.now.sides c.args.table.now.nodes.items c.requires.mesh c.len.ensures.unique c.requires.kept)

pub returns : goal.returns
returns c = λ m kept. c.sort_listed.ensures ∙ (ap (λ (ts : List Tri). sorted_by tri_lt ts) c.gather_tris.ensures ∙ gathered-sorted c.args.table.now.sides c.args.table.now.nodes.items m c.len.ensures.unique kept)
