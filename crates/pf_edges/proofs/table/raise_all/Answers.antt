use Rattle.std.proofs.Common.{◌<◌, ◌^◌, ℕ, ap, length, arith}
use Rattle.std.proofs.lemmas.List.{drop_more}
use Rattle.pf_model.specs.declared.Tri.{Tri}
use Rattle.pf_edges.specs.Table.{triangles_at}
use Rattle.pf_model.specs.Exchange.{number_at}
use Rattle.pf_edges.proofs.TableSteps.{same_places, tally-le}
use Rattle.pf_edges.proofs.table.raise_all.Goals as goal

pub loop-t-preserved : goal.loop-t-preserved
loop-t-preserved c =
    let new = c.args.new.now in
    let i = c.loop-t.t-index in
    let none : Tri = record { a = 0; b = 0; c = 0; owner = 0 } in
    let within : i < length new = omega arith in (
      same_places _ _ _ c.loop-t.invariant.0 c.raise_corners.ensures.places,
      (let before = c.loop-t.invariant.1 in let more = c.raise_corners.ensures.room in omega (arith, before, more)),
      λ turned few n.
          let few' : (k : ℕ) → triangles_at c.loop-t.nodes.items k < 2 ^ 62 = λ k. (let before = c.loop-t.invariant.2 turned few k in let most = tally-le k new in let f = few k in omega (arith, before, most, f)) in
          let before = c.loop-t.invariant.2 turned few n in
          let raised = c.raise_corners.ensures.counts (turned i none within) few' n in
          let more = ap (number_at n) (drop_more new i none within) in
          omega (arith, before, raised, more),
    )
