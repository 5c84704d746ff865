-- Each turn goes over one line.
use Rattle.std.proofs.Common.{◌≡◌, ◌<◌, length, sym, ◌∙◌, arith}
use Rattle.pf_lex.proofs.LineLemmas.{lines_past_from-nil, lines_past_from-cons}
use Rattle.pf_lex.proofs.RunLemmas.{empty_list}
use Rattle.pf_lex.proofs.text.Lines.past.Goals as goal

pub loop-rest-preserved : goal.loop-rest-preserved
loop-rest-preserved c =
    let some : 0 < length c.loop-rest.rest.now = grind arith in (
      rw c.split_line.ensures.rest (sym (lines_past_from-cons c.loop-rest.line c.loop-rest.rest.now some) ∙ c.loop-rest.invariant.0),
      omega (arith, c.split_line.ensures.rest_len some, c.loop-rest.invariant.1),
    )

pub returns : goal.returns
returns c =
    let none : length c.loop-rest.rest.now ≡ 0 = grind arith in
    let h = rw (empty_list c.loop-rest.rest.now none, lines_past_from-nil) at c.loop-rest.invariant.0 in h
