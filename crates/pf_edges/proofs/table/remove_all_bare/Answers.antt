use Rattle.std.proofs.Common.{◌∙◌, ◌+◌, ◌<◌, sym, ap, arith, length, drop, get_or}
use Rattle.std.specs.List.{list_any}
use Rattle.std.proofs.lemmas.List.{drop_more}
use Rattle.pf_model.specs.declared.Tri.{Tri}
use Rattle.pf_model.specs.Mesh.{has_edge}
use Rattle.pf_edges.specs.Table.{side_at}
use Rattle.pf_edges.specs.TableSteps.{side_bare, is_bare}
use Rattle.pf_edges.proofs.TableSteps.{bare-cons}
use Rattle.pf_edges.proofs.table.remove_all_bare.Goals as goal

pub loop-t-preserved : goal.loop-t-preserved
loop-t-preserved c =
    let removed = c.args.removed.now in
    let i = c.loop-t.t-index in
    let none : Tri = record { a = 0; b = 0; c = 0; owner = 0 } in
    let within : i < length removed = omega arith in (
      (let a = c.loop-t.invariant.0 in let b = c.remove_bare_edges.ensures.spare in omega (arith, a, b)),
      λ p q.
          let bare = is_bare c.args.u c.args.v c.args.all p q in
          let old = side_at c.loop-t.sides p q in
          ap (side_bare (list_any (has_edge p q) (drop (i + 1) removed)) bare) (c.remove_bare_edges.ensures.sides p q)
          ∙ (bare-cons (has_edge p q (get_or removed i none)) (list_any (has_edge p q) (drop (i + 1) removed)) bare old
          ∙ (sym (ap (λ xs. side_bare (list_any (has_edge p q) xs) bare old) (drop_more removed i none within)) ∙ c.loop-t.invariant.1 p q)),
    )
