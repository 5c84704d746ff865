-- The word is in the form where the run of digits in front is all of it.
use Rattle.std.proofs.Common.{◌≡◌, true, ◌<◌, length, take, sym, ◌∙◌, ap, arith, Ok}
use Rattle.std.proofs.Math.Seq.{take-length}
use Rattle.std.proofs.lemmas.Bool.Decides.{nat_tests}
use Rattle.pf_lex.specs.Number.{is_natural, natural_value, number_limit}
use Rattle.pf_lex.proofs.NumberLemmas.{is_natural-run, natural_of-not, natural_of-large, natural_of-ok}
use Rattle.pf_lex.proofs.number.natural.Goals as goal
use Rattle.pf_lex.proofs.number.natural.Goals.{then-digits-eq0-via-then-digits-eq0, then-digits-eq0-via-else-digits-eq0+then-digits-t}

pub returns-then-digits-eq0 : goal.returns-then-digits-eq0
returns-then-digits-eq0 c =
    let run = is_natural-run c.args.t.text.now c.leading_digits-digits.result.0 c.leading_digits-digits.ensures.in_range c.leading_digits-digits.ensures.run in
    elim c.then-digits-eq0.branch [
      | then-digits-eq0-via-then-digits-eq0 w ↦ sym (natural_of-not c.args.t.text.now (run ∙ grind (arith, nat_tests, w.if-digits-eq0.true)))
      | then-digits-eq0-via-else-digits-eq0+then-digits-t w ↦ sym (natural_of-not c.args.t.text.now (run ∙ grind (arith, nat_tests, w.if-digits-t.true)))
    ]

pub returns-then-value-gt-LIMIT : goal.returns-then-value-gt-LIMIT
returns-then-value-gt-LIMIT c =
    let run = is_natural-run c.args.t.text.now c.leading_digits-digits.result.0 c.leading_digits-digits.ensures.in_range c.leading_digits-digits.ensures.run in
    let form : is_natural c.args.t.text.now ≡ true = run ∙ grind (arith, nat_tests) in
    let all : c.leading_digits-digits.result.0 ≡ length c.args.t.text.now = omega arith in
    let above : number_limit < natural_value (take c.leading_digits-digits.result.0 c.args.t.text.now) = c.leading_digits-digits.ensures.above c.if-value-gt-LIMIT.true in
    sym (natural_of-large c.args.t.text.now form (rw (all, take-length c.args.t.text.now) at above))

pub returns : goal.returns
returns c =
    let run = is_natural-run c.args.t.text.now c.leading_digits-digits.result.0 c.leading_digits-digits.ensures.in_range c.leading_digits-digits.ensures.run in
    let form : is_natural c.args.t.text.now ≡ true = run ∙ grind (arith, nat_tests) in
    let all : c.leading_digits-digits.result.0 ≡ length c.args.t.text.now = omega arith in
    let value : natural_value (take c.leading_digits-digits.result.0 c.args.t.text.now) ≡ c.leading_digits-digits.result.1 = c.leading_digits-digits.ensures.value c.if-value-gt-LIMIT.false in
    let worth : natural_value c.args.t.text.now ≡ c.leading_digits-digits.result.1 = rw (all, take-length c.args.t.text.now) at value in
    sym (natural_of-ok c.args.t.text.now form (omega (arith, worth, c.if-value-gt-LIMIT.false)) ∙ ap Ok worth)
