-- The run ends at the first byte that does not pass, or at the end.
use Rattle.std.proofs.Common.{sym, ◌∙◌}
use Rattle.std.proofs.lemmas.List.Sums.{prefix_len_is}
use Rattle.pf_lex.specs.Text.{is_word_byte}
use Rattle.pf_lex.proofs.RunLemmas.{whole_run}
use Rattle.pf_lex.proofs.scan.word_len.Goals as goal

pub returns-clause-run : goal.returns-clause-run
returns-clause-run c = whole_run is_word_byte c.args.bytes.now c.loop-n.n c.loop-n-test.false c.loop-n.invariant

pub returns-then-not-is_word_byte-clause-run : goal.returns-then-not-is_word_byte-clause-run
returns-then-not-is_word_byte-clause-run c =
    sym (prefix_len_is is_word_byte c.args.bytes.now c.loop-n.n 0 c.loop-n.auto.n-end c.loop-n.invariant (λ _. sym c.is_word_byte.ensures ∙ c.if-not-is_word_byte.true))
