use Rattle.std.proofs.Common.{◌<◌, ◌≤◌, sym, ◌∙◌, ap, length, set, get_or, arith}
use Rattle.std.proofs.lemmas.List.{get_or_default}
use Rattle.std.proofs.lemmas.List.Edits.{map_over_more}
use Rattle.pf_model.specs.declared.Tri.{Tri}
use Rattle.pf_apply.specs.Tables.{owned_by_table}
use Rattle.pf_apply.proofs.OwnersKept.{written}
use Rattle.pf_apply.proofs.tables.own_tris.Goals as goal

pub loop-t-preserved : goal.loop-t-preserved
loop-t-preserved c =
    let none : Tri = record { a = 0; b = 0; c = 0; owner = 0 } in
    let items = c.loop-t.t-items in
    let i = c.loop-t.t-index in
    let long = c.loop-t.auto.t-items in
    let all = ap length c.deref_mut-t-items.ensures.value in
    let test = c.loop-t-test.true in
    let within : i < length c.args.tris.now.items = omega (arith, all, test) in
    let within' : i < length items = omega (arith, long, test) in
    let x = get_or items i none in
    ap (set items i) c.owned.ensures
    ∙ map_over_more (owned_by_table c.args.sides.now) c.args.tris.now.items items i x within c.loop-t.invariant (get_or_default items i none x within')

pub returns : goal.returns
returns c =
    let all = ap length c.deref_mut-t-items.ensures.value in
    let end = c.loop-t-test.false in
    let past : length c.args.tris.now.items ≤ c.loop-t.t-index = omega (arith, all, end) in
    written (owned_by_table c.args.sides.now) c.args.tris.now.items c.loop-t.t-items c.args.tris.now.len c.loop-t.t-index (c.loop-t.auto.t-items ∙ all) (sym all ∙ c.deref_mut-t-items.ensures.len) past c.loop-t.invariant
