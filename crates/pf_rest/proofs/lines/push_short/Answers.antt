use Rattle.std.proofs.Common.{◌<◌, length, refl, arith}
use Rattle.pf_model.specs.Wishes.{short_lines}
use Rattle.pf_edge_list.proofs.EdgesLocated.{sided-at}
use Rattle.pf_rest.proofs.WalksLocated.{lines-on}
use Rattle.pf_rest.proofs.lines.push_short.Goals as goal

pub loop-place-init : goal.loop-place-init
loop-place-init c = λ m ok s b es. (c.new-notes.ensures m c.args.edges.now.list.items b, refl)

pub loop-place-preserved : goal.loop-place-preserved
loop-place-preserved c = λ m ok s b es.
    let list = c.args.edges.now.list.items in
    let place = c.loop-place.place in
    let before = c.loop-place.invariant m ok s b es in
    let within : place < length list = omega (arith, c.loop-place-test.true, c.loop-place.auto, c.len-place-end.ensures, c.args.edges.now.list.ok) in
    let at = sided-at list place within in (
      c.in_ok-push_short_at.ensures.notes m ok s b es before.0,
      lines-on (short_lines m) list place at.0 _ _ _ within at.1 (c.in_ok-push_short_at.ensures.line m at.0 ok s b es before.0 at.2) before.1,
    )
