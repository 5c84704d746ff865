-- The words begin after the gaps in front, if a word byte stands there.
use Rattle.std.proofs.Common.{◌≡◌, ◌+◌, ◌-◌, List, length, take, drop, sym, ap, arith}
use Rattle.std.specs.List.{prefix_len}
use Rattle.pf_lex.specs.Text.{Word, is_word_byte, words_from, words_of}
use Rattle.pf_lex.proofs.RunLemmas.{rest_from}
use Rattle.pf_lex.proofs.WordLemmas.{words_from-gaps, words_from-end, words_from-some}
use Rattle.pf_lex.proofs.text.Words.of_line.Goals as goal

pub returns-then-not-starts_word-clause-none : goal.returns-then-not-starts_word-clause-none
returns-then-not-starts_word-clause-none c =
    let none : prefix_len is_word_byte (take (length c.args.text.now - c.gap_len-gaps.result) (drop c.gap_len-gaps.result c.args.text.now)) ≡ 0 = grind arith in
    words_from-end 1 c.args.text.now _ c.gap_len-gaps.result c.gap_len-gaps.ensures.run (rest_from c.gap_len-gaps.result c.args.text.now) none

pub returns-clause-some : goal.returns-clause-some
returns-clause-some c =
    let same : words_of c.args.text.now ≡ words_from (1 + c.gap_len-gaps.result) (drop c.gap_len-gaps.result c.args.text.now) = rw c.gap_len-gaps.ensures.run (words_from-gaps c.args.text.now 1) in
    rw (rest_from c.gap_len-gaps.result c.args.text.now)
    (ap (λ (words : List Word). record { line = c.args.line; words = words }) (sym same))

pub returns-clause-has_word : goal.returns-clause-has_word
returns-clause-has_word c =
    words_from-some (1 + c.gap_len-gaps.result) (take (length c.args.text.now - c.gap_len-gaps.result) (drop c.gap_len-gaps.result c.args.text.now)) (grind arith)
