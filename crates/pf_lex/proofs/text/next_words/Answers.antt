-- Each turn goes over one line, and the loop ends at the first line that has a word.
use Rattle.std.proofs.Common.{◌≡◌, ◌+◌, ◌<◌, ◌∷◌, length, sym, ◌∙◌, arith}
use Rattle.std.specs.Prelude.{MatchOption}
use Rattle.pf_lex.specs.Text.{TextLine, text_lines_from}
use Rattle.pf_lex.proofs.LineLemmas.{text_lines_from-nil, lines_past_from-cons, found_after, where_some, where_none}
use Rattle.pf_lex.proofs.RunLemmas.{empty_list}
use Rattle.pf_lex.proofs.text.next_words.Goals as goal

-- what was found when the line was gone over
found : (c : goal.Then-is_some) → MatchOption c.of_line-words.result (text_lines_from c.args.number c.args.bytes.now ≡ text_lines_from (c.loop-rest.line + 1) c.split_line.result.1.now) (λ (words : TextLine). text_lines_from c.args.number c.args.bytes.now ≡ words ∷ text_lines_from (c.loop-rest.line + 1) c.split_line.result.1.now)
found c = found_after _ c.loop-rest.line c.loop-rest.rest.now c.split_line.result.0.now _ c.of_line-words.result (grind arith) c.split_line.ensures.line c.split_line.ensures.rest c.loop-rest.invariant.left c.of_line-words.ensures.none c.of_line-words.ensures.some c.of_line-words.ensures.has_word

pub returns-then-is_some-clause-first : goal.returns-then-is_some-clause-first
returns-then-is_some-clause-first c = where_some c.of_line-words.result _ _ _ (sym c.is_some.ensures ∙ c.if-is_some.true) (found c)

pub returns-then-is_some-clause-past : goal.returns-then-is_some-clause-past
returns-then-is_some-clause-past c =
    let some : 0 < length c.loop-rest.rest.now = grind arith in
    rw c.split_line.ensures.rest (sym (lines_past_from-cons c.loop-rest.line c.loop-rest.rest.now some) ∙ c.loop-rest.invariant.past)

pub loop-rest-preserved : goal.loop-rest-preserved
loop-rest-preserved c =
    let some : 0 < length c.loop-rest.rest.now = grind arith in
    record {
      left = where_none c.of_line-words.result _ _ (sym c.is_some.ensures ∙ c.if-is_some.false) (found_after _ c.loop-rest.line c.loop-rest.rest.now c.split_line.result.0.now _ c.of_line-words.result some c.split_line.ensures.line c.split_line.ensures.rest c.loop-rest.invariant.left c.of_line-words.ensures.none c.of_line-words.ensures.some c.of_line-words.ensures.has_word);
      past = rw c.split_line.ensures.rest (sym (lines_past_from-cons c.loop-rest.line c.loop-rest.rest.now some) ∙ c.loop-rest.invariant.past);
      numbered = omega arith;
      in_range = omega (arith, c.split_line.ensures.rest_len some, c.loop-rest.invariant.in_range);
    }

pub returns-clause-first : goal.returns-clause-first
returns-clause-first c =
    let none : length c.loop-rest.rest.now ≡ 0 = grind arith in
    let h = rw (empty_list c.loop-rest.rest.now none, text_lines_from-nil) at c.loop-rest.invariant.left in h

pub returns-clause-none_left : goal.returns-clause-none_left
returns-clause-none_left c =
    let none : length c.loop-rest.rest.now ≡ 0 = grind arith in
    rw (empty_list c.loop-rest.rest.now none) (text_lines_from-nil c.loop-rest.line)
