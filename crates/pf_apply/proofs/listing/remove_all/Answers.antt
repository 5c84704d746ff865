use Rattle.std.proofs.Common.{◌+◌, ◌<◌, List, length, drop, get_or, not, sym, ◌∙◌, ap, subst, arith}
use Rattle.std.proofs.lemmas.List.{drop_more}
use Rattle.pf_model.specs.declared.Tri.{Tri}
use Rattle.pf_model.specs.Rising.{IsRising}
use Rattle.pf_model.specs.Mesh.{tri_lt, has_edge}
use Rattle.pf_model.proofs.Members.{here}
use Rattle.pf_model.proofs.RisingLemmas.{rising-filter}
use Rattle.pf_model.specs.Exchange.{CanTake, without_all}
use Rattle.pf_edges.proofs.TableSteps.{can_take-rest}
use Rattle.pf_apply.proofs.listing.remove_all.Goals as goal

pub remove_listed-requires-clause-there : goal.remove_listed-requires-clause-there
remove_listed-requires-clause-there c =
    let removed = c.args.removed.now in
    let i = c.loop-t.t-index in
    let none : Tri = record { a = 0; b = 0; c = 0; owner = 0 } in
    let within : i < length removed = omega arith in
    let P : List Tri → Type 0 = λ rest. CanTake rest c.loop-t.tris.items in
    (subst P (drop_more removed i none within) c.loop-t.invariant.1).stand (get_or removed i none) (here (get_or removed i none) (drop (i + 1) removed))

pub loop-t-preserved : goal.loop-t-preserved
loop-t-preserved c =
    let removed = c.args.removed.now in
    let i = c.loop-t.t-index in
    let none : Tri = record { a = 0; b = 0; c = 0; owner = 0 } in
    let g = get_or removed i none in
    let within : i < length removed = omega arith in
    let P : List Tri → Type 0 = λ rest. CanTake rest c.loop-t.tris.items in
    let can = subst P (drop_more removed i none within) c.loop-t.invariant.1 in
    let e = c.remove_listed.ensures.removed in
    let Q : List Tri → Type 0 = λ l. IsRising tri_lt l in
    let R : List Tri → Type 0 = λ l. CanTake (drop (i + 1) removed) l in
    let len = c.remove_listed.ensures.len in
    let before = c.loop-t.invariant.4 in (
      subst Q (sym e) (rising-filter tri_lt (λ t. not (has_edge g.a g.b t)) c.loop-t.tris.items c.loop-t.invariant.0),
      subst R (sym e) (can_take-rest g (drop (i + 1) removed) c.loop-t.tris.items can),
      ap (without_all (drop (i + 1) removed)) e ∙ (ap (λ l. without_all l c.loop-t.tris.items) (sym (drop_more removed i none within)) ∙ c.loop-t.invariant.2),
      c.remove_listed.ensures.capacity ∙ c.loop-t.invariant.3,
      omega (arith, len, before),
    )
