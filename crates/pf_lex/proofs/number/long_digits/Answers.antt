-- Each digit is put behind the number so far, which is kept as long as it is small enough.
use Rattle.std.proofs.Common.{◌≡◌, true, get_or, sym, ◌∙◌, arith, below_more}
use Rattle.std.specs.Char.{is_ascii_digit}
use Rattle.std.proofs.lemmas.List.Sums.{prefix_len_is}
use Rattle.pf_lex.proofs.NumberLemmas.{natural_value-more, past_room}
use Rattle.pf_lex.proofs.RunLemmas.{whole_run}
use Rattle.pf_lex.proofs.number.long_digits.Goals as goal
use Rattle.pf_lex.proofs.number.long_digits.Goals.{then-value-lt-ROOM, else-value-lt-ROOM}

pub loop-n-preserved : goal.loop-n-preserved
loop-n-preserved c =
    let digit : is_ascii_digit (get_or c.args.word.now c.loop-n.n 0) ≡ true = sym c.is_ascii_digit.ensures.value ∙ c.if-not-is_ascii_digit.false in
    let more = natural_value-more c.args.word.now c.loop-n.n c.loop-n-test.true digit in
    record {
      run = below_more _ c.loop-n.n c.loop-n.invariant.run digit;
      value = λ h. elim c.if-value-lt-ROOM.branch [
        | then-value-lt-ROOM w ↦ omega (arith, more.2, w.from.ensures, c.loop-n.invariant.value)
        | else-value-lt-ROOM w ↦ omega (arith, w.value-is)
      ];
      above = λ h. elim c.if-value-lt-ROOM.branch [
        | then-value-lt-ROOM w ↦ omega (arith, more.2, w.from.ensures, c.loop-n.invariant.value)
        | else-value-lt-ROOM w ↦ rw more.2 (past_room c.loop-n.value _ _ (omega (arith, w.if-value-lt-ROOM.false)) c.loop-n.invariant.value c.loop-n.invariant.above)
      ];
    }

pub returns-then-not-is_ascii_digit-clause-run : goal.returns-then-not-is_ascii_digit-clause-run
returns-then-not-is_ascii_digit-clause-run c =
    sym (prefix_len_is is_ascii_digit c.args.word.now c.loop-n.n 0 c.loop-n.auto.n-end c.loop-n.invariant.run (λ _. sym c.is_ascii_digit.ensures.value ∙ c.if-not-is_ascii_digit.true))

pub returns-clause-run : goal.returns-clause-run
returns-clause-run c = whole_run is_ascii_digit c.args.word.now c.loop-n.n c.loop-n-test.false c.loop-n.invariant.run
