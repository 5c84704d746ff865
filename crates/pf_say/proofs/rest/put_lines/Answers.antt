use Rattle.std.proofs.Common.{◌≡◌, ◌≤◌, length, arith, append-nil}
use Rattle.std.proofs.lemmas.List.{drop_all}
use Rattle.pf_say.proofs.RestLemmas.{list_text-nil, list_text-more, below_heading, rest_text-end}
use Rattle.pf_say.proofs.rest.put_lines.Goals as goal

pub loop-line-preserved : goal.loop-line-preserved
loop-line-preserved c = rw c.in_ok-put_rest_line.ensures (list_text-more _ _ _ _ _ c.loop-line-test.true c.loop-line.invariant)

pub returns : goal.returns
returns c =
    let past : length c.args.lines.now ≤ c.loop-line.line-index = omega arith in
    let e = drop_all c.loop-line.line-index c.args.lines.now past in
    let written : c.loop-line.text.items ≡ below_heading c.args.lines.now = rw (e, list_text-nil, append-nil) at c.loop-line.invariant in
    rw c.in_ok-put_line.ensures (rest_text-end c.loop-line.text.items c.args.lines.now written)
