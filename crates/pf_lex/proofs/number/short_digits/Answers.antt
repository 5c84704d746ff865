-- Each digit is put behind the number so far, which is below a power of ten that leaves room.
use Rattle.std.proofs.Common.{◌≡◌, ℕ, ◌+◌, ◌*◌, ◌^◌, ◌<◌, ◌≤◌, suc, true, get_or, sym, ◌∙◌, arith, below_more}
use Rattle.std.specs.Char.{is_ascii_digit}
use Rattle.std.proofs.Math.Nat.{pow-suc, pow-le-pow_right}
use Rattle.std.proofs.lemmas.List.Sums.{prefix_len_is}
use Rattle.pf_lex.proofs.NumberLemmas.{natural_value-more}
use Rattle.pf_lex.proofs.RunLemmas.{whole_run}
use Rattle.pf_lex.proofs.number.short_digits.Goals as goal

-- a number of fewer than 18 digits
bound : (value n : ℕ) → value < 10 ^ n → n < 18 → value < 10 ^ 17
bound value n below short =
    let most : n ≤ 17 = omega arith in
    let power : 10 ^ n ≤ 10 ^ 17 = pow-le-pow_right (omega arith) most in omega (arith, below, power)

-- a number of one digit more
more : (value digit n : ℕ) → value < 10 ^ n → digit ≤ 9 → value * 10 + digit < 10 ^ (n + 1)
more value digit n below small =
    let next : n + 1 ≡ suc n = omega arith in rw (next, pow-suc 10 n) (omega (arith, below, small))

pub overflow_mul-value : goal.overflow_mul-value
overflow_mul-value c =
    let small = bound c.loop-n.value c.loop-n.n c.loop-n.invariant.small (omega (arith, c.loop-n-test.true, c.requires)) in omega (arith, small)

pub overflow_add-value : goal.overflow_add-value
overflow_add-value c =
    let digit : is_ascii_digit (get_or c.args.word.now c.loop-n.n 0) ≡ true = sym c.is_ascii_digit.ensures.value ∙ c.if-not-is_ascii_digit.false in
    let worth = natural_value-more c.args.word.now c.loop-n.n c.loop-n-test.true digit in
    let small = bound c.loop-n.value c.loop-n.n c.loop-n.invariant.small (omega (arith, c.loop-n-test.true, c.requires)) in
    omega (arith, small, worth.1, c.from.ensures)

pub loop-n-preserved : goal.loop-n-preserved
loop-n-preserved c =
    let digit : is_ascii_digit (get_or c.args.word.now c.loop-n.n 0) ≡ true = sym c.is_ascii_digit.ensures.value ∙ c.if-not-is_ascii_digit.false in
    let worth = natural_value-more c.args.word.now c.loop-n.n c.loop-n-test.true digit in
    record {
      run = below_more _ c.loop-n.n c.loop-n.invariant.run digit;
      value = omega (arith, worth.2, c.from.ensures, c.loop-n.invariant.value);
      small = more c.loop-n.value c.from.result c.loop-n.n c.loop-n.invariant.small (omega (arith, worth.1, c.from.ensures));
    }

pub returns-then-not-is_ascii_digit-clause-run : goal.returns-then-not-is_ascii_digit-clause-run
returns-then-not-is_ascii_digit-clause-run c =
    sym (prefix_len_is is_ascii_digit c.args.word.now c.loop-n.n 0 c.loop-n.auto.n-end c.loop-n.invariant.run (λ _. sym c.is_ascii_digit.ensures.value ∙ c.if-not-is_ascii_digit.true))

pub returns-clause-run : goal.returns-clause-run
returns-clause-run c = whole_run is_ascii_digit c.args.word.now c.loop-n.n c.loop-n-test.false c.loop-n.invariant.run
