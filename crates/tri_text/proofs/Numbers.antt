-- Numbers that were written are read again.
use Rattle.std.proofs.Common.{◌≡◌, ℕ, ◌<◌, ◌≤◌, true, Ok, refl, subst, sym, arith}
use Rattle.std.specs.Prelude.{ℤ, pos, ◌*ℤ◌, decimal, ◌==◌}
use Rattle.std.specs.Fmt.{signed_decimal}
use Rattle.std.specs.Int.Signed.{mag}
use Rattle.std.proofs.lemmas.Bool.{le-leb}
use Rattle.std.proofs.lemmas.Bool.Decides.{nat_tests}
use Rattle.std.proofs.lemmas.Int.{ints}
use Rattle.pf_geom.specs.Plane.{IsWithin}
use Rattle.pf_lex.specs.Number.{number_limit}
use Rattle.pf_lex.proofs.NumberLaws.{natural_of-decimal, whole_of-signed_decimal}
use Rattle.tri_text.specs.Reading.{natural_in, count_in, due_in}
use Rattle.tri_text.specs.Node.{is_in_range, coordinate_in}

pub natural_in-decimal : (line column n : ℕ) → n ≤ number_limit → natural_in line (record { text = decimal n; column = column }) ≡ Ok n
unfolding natural_in
natural_in-decimal line column n h = rw (natural_of-decimal n h) refl

pub count_in-decimal : (most line column n : ℕ) → n ≤ number_limit → n ≤ most → count_in most line (record { text = decimal n; column = column }) ≡ Ok n
unfolding count_in
count_in-decimal most line column n h few = rw (natural_in-decimal line column n h, le-leb n most few) refl

same_number : (n : ℕ) → (n == n) ≡ true
same_number n = grind (arith, nat_tests)

pub due_in-decimal : (line column n : ℕ) → n ≤ number_limit → due_in n line (record { text = decimal n; column = column }) ≡ Ok n
unfolding due_in
due_in-decimal line column n h = rw (natural_in-decimal line column n h, same_number n) refl

in_range : (z : ℤ) → IsWithin 268435456 z → is_in_range z ≡ true
in_range z h = grind (arith, ints, h.low, h.high)

times_one : (z : ℤ) → z *ℤ pos 1 ≡ z
times_one z = omega (arith, ints)

-- a coordinate is far below the greatest number
pub small : (z : ℤ) → IsWithin 268435456 z → mag z < number_limit
small z h = grind (arith, ints, h.low, h.high)

pub coordinate_in-signed : (line column : ℕ) (z : ℤ) → IsWithin 268435456 z → coordinate_in 1 line (record { text = signed_decimal z; column = column }) ≡ Ok z
unfolding coordinate_in
coordinate_in-signed line column z h =
    let whole = in_range (z *ℤ pos 1) (subst (IsWithin 268435456) (sym (times_one z)) h) in
    rw (whole_of-signed_decimal z (small z h), whole, times_one z) refl
