-- The word is in the form where a run of digits follows its sign, and nothing else or a point and zeros follow the run.
use Rattle.std.proofs.Common.{◌≡◌, true, false, drop, sym, ◌∙◌, ap, arith, refl, rules, Ok, w64}
use Rattle.std.specs.Prelude.{nat_lt}
use Rattle.std.proofs.lemmas.Bool.Decides.{nat_tests}
use Rattle.std.proofs.lemmas.Int.{to_z-of_z}
use Rattle.std.proofs.Math.Bool.{and-false}
use Rattle.pf_lex.specs.Number.{is_whole, whole_magnitude, whole_value, ends_whole}
use Rattle.pf_lex.proofs.RunLemmas.{rest_from}
use Rattle.pf_lex.proofs.NumberLemmas.{is_whole-run, whole_magnitude-run, whole_of-not, whole_of-large, whole_of-ok}
use Rattle.pf_lex.proofs.number.whole.Goals as goal
use Rattle.pf_lex.proofs.number.whole.Goals.{then-digits-eq0-via-then-digits-eq0, then-digits-eq0-via-else-digits-eq0+then-not-ends_whole}

pub returns-then-digits-eq0 : goal.returns-then-digits-eq0
returns-then-digits-eq0 c =
    let run = is_whole-run c.args.t.text.now c.split_sign-negative.result.1.now c.leading_digits-digits.result.0 c.split_sign-negative.ensures.body c.leading_digits-digits.ensures.run in
    elim c.then-digits-eq0.branch [
      | then-digits-eq0-via-then-digits-eq0 w ↦ sym (whole_of-not c.args.t.text.now (run ∙ rw w.if-digits-eq0.true refl))
      | then-digits-eq0-via-else-digits-eq0+then-not-ends_whole w ↦
          let rest = rest_from c.leading_digits-digits.result.0 c.split_sign-negative.result.1.now in
          let not_so : ends_whole (drop c.leading_digits-digits.result.0 c.split_sign-negative.result.1.now) ≡ false = sym (rw rest at w.ends_whole.ensures) ∙ w.if-not-ends_whole.true in
          sym (whole_of-not c.args.t.text.now (run ∙ rw (not_so, and-false) refl))
    ]

pub returns-then-value-gt-LIMIT : goal.returns-then-value-gt-LIMIT
returns-then-value-gt-LIMIT c =
    let rest = rest_from c.leading_digits-digits.result.0 c.split_sign-negative.result.1.now in
    let ends : ends_whole (drop c.leading_digits-digits.result.0 c.split_sign-negative.result.1.now) ≡ true = sym (rw rest at c.ends_whole.ensures) ∙ c.if-not-ends_whole.false in
    let some : nat_lt 0 c.leading_digits-digits.result.0 ≡ true = grind (arith, nat_tests) in
    let form : is_whole c.args.t.text.now ≡ true = is_whole-run c.args.t.text.now c.split_sign-negative.result.1.now c.leading_digits-digits.result.0 c.split_sign-negative.ensures.body c.leading_digits-digits.ensures.run ∙ rw (some, ends) refl in
    let worth = whole_magnitude-run c.args.t.text.now c.split_sign-negative.result.1.now c.leading_digits-digits.result.0 c.split_sign-negative.ensures.body c.leading_digits-digits.ensures.run ends in
    sym (whole_of-large c.args.t.text.now form (rw worth (c.leading_digits-digits.ensures.above c.if-value-gt-LIMIT.true)))

pub returns : goal.returns
returns c =
    let rest = rest_from c.leading_digits-digits.result.0 c.split_sign-negative.result.1.now in
    let ends : ends_whole (drop c.leading_digits-digits.result.0 c.split_sign-negative.result.1.now) ≡ true = sym (rw rest at c.ends_whole.ensures) ∙ c.if-not-ends_whole.false in
    let some : nat_lt 0 c.leading_digits-digits.result.0 ≡ true = grind (arith, nat_tests) in
    let form : is_whole c.args.t.text.now ≡ true = is_whole-run c.args.t.text.now c.split_sign-negative.result.1.now c.leading_digits-digits.result.0 c.split_sign-negative.ensures.body c.leading_digits-digits.ensures.run ∙ rw (some, ends) refl in
    let worth : whole_magnitude c.args.t.text.now ≡ c.leading_digits-digits.result.1 =
    whole_magnitude-run c.args.t.text.now c.split_sign-negative.result.1.now c.leading_digits-digits.result.0 c.split_sign-negative.ensures.body c.leading_digits-digits.ensures.run ends
    ∙ c.leading_digits-digits.ensures.value c.if-value-gt-LIMIT.false in
    let same : c.signed.result ≡ whole_value c.args.t.text.now = c.signed.ensures ∙ rw (worth, ← c.split_sign-negative.ensures.sign) refl in
    sym (whole_of-ok c.args.t.text.now form (omega (arith, worth, c.if-value-gt-LIMIT.false)) ∙ ap Ok (sym same ∙ sym (to_z-of_z w64 c.signed.result (search (rules, c.signed.type_inv)))))
