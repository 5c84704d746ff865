use Rattle.std.proofs.Common.{◌<◌, length, arith}
use Rattle.pf_model.specs.Wishes.{long_lines}
use Rattle.pf_edge_list.proofs.EdgesLocated.{sided-at}
use Rattle.pf_rest.proofs.WalksLocated.{lines-on}
use Rattle.pf_rest.proofs.lines.push_long.Goals as goal

pub loop-place-preserved : goal.loop-place-preserved
loop-place-preserved c = λ m ok s b.
    let list = c.args.edges.now.list.items in
    let place = c.loop-place.place in
    let before = c.loop-place.invariant m ok s b in
    let within : place < length list = omega (arith, c.loop-place-test.true, c.loop-place.auto, c.len-place-end.ensures, c.args.edges.now.list.ok) in
    let at = sided-at list place within in (
      c.in_ok-push_long_at.ensures.noted m ok s b before.0,
      lines-on (long_lines m) list place at.0 _ _ _ within at.1 (c.in_ok-push_long_at.ensures.line m at.0 ok s b before.0 at.2) before.1,
    )
