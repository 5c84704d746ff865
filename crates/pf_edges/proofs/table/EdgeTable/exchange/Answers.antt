use Rattle.std.proofs.Common.{◌∙◌, ◌≡◌, ◌+◌, ◌*◌, ◌<◌, ◌^◌, ℕ, ap, arith, length}
use Rattle.pf_model.specs.Exchange.{exchanged, number_at}
use Rattle.pf_edges.specs.Table.{triangles_at}
use Rattle.pf_edges.specs.TableSteps.{side_with_all}
use Rattle.pf_edges.proofs.TableSteps.{tally-le}
use Rattle.pf_edges.proofs.Exchanged.{removed-turned, new-turned, length-exchanged, sides-removed, shows_exchange}
use Rattle.pf_edges.proofs.table.EdgeTable.exchange.Goals as goal

pub returns-clause-shows : goal.returns-clause-shows
returns-clause-shows c = λ ts s can.
    let removed = c.args.removed.now in
    let new = c.args.new.now in
    let old = c.args.self.now in
    let small = c.len.ensures.small in
    let len = c.len.ensures.len in
    let all = s.all in
    let lowered = c.lower_all.ensures.counts (removed-turned removed ts can.take) in
    let few : (n : ℕ) → triangles_at c.lower_all.new.nodes.items n + length new < 2 ^ 62 = λ n. (let at = lowered n in let most = tally-le n ts in let before = s.counts n in omega (arith, at, most, before, small, len, all)) in
    let raised = c.raise_all.ensures.counts (new-turned new _ can.fit) few in
    let number = length-exchanged removed new ts can.take in
    let right : c.saturating_sub-left.result ≡ 3 * length (exchanged removed new ts) = omega (arith, number, all, len) in
    let shown = sides-removed c.enter_all.new.sides c.remove_replaced.new.sides removed new ts c.saturating_sub-left.result
    (λ p q. c.enter_all.ensures.sides p q ∙ ap (side_with_all new p q) (s.sides p q))
    c.remove_replaced.ensures.kept c.remove_replaced.ensures.removed right c.len-2.ensures.unique can in
    shows_exchange old.sides c.remove_replaced.new.sides old.nodes.items c.raise_all.new.nodes.items removed new ts shown
    (λ n. raised n ∙ ap (λ x. number_at n new + x) (lowered n))
    c.len-2.ensures.unique s can
