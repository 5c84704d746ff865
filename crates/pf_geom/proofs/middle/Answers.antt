use Rattle.std.proofs.Common.{◌≡◌, ◌∙◌}
use Rattle.std.specs.Prelude.{ℤ, pos, ◌+ℤ◌, Option, Some, None, int_div, int_rem, if◌then◌else◌}
use Rattle.std.specs.Ordering.{int_eq}
use Rattle.pf_geom.proofs.Middles.{passed, both_whole, second_odd}
use Rattle.pf_geom.proofs.middle.Goals as goal

-- half the sum of two coordinates
abbrev half_of : ℤ → ℤ → Option ℤ
half_of p q = if int_eq (int_rem (p +ℤ q) (pos 2)) (pos 0) then Some (int_div (p +ℤ q) (pos 2)) else None

pub returns-in_err-y-clause-value : goal.returns-in_err-y-clause-value
returns-in_err-y-clause-value c =
    let a = passed c.args.a.y c.requires.a_in_range.y in
    let b = passed c.args.b.y c.requires.b_in_range.y in
    let e : None ≡ half_of c.args.a.y c.args.b.y = rw (a, b) at c.in_err-y.ensures.value in
    c.from_residual-in_err-y.ensures ∙ second_odd _ _ _ _ e

pub returns-clause-value : goal.returns-clause-value
returns-clause-value c =
    let ax = passed c.args.a.x c.requires.a_in_range.x in
    let bx = passed c.args.b.x c.requires.b_in_range.x in
    let ay = passed c.args.a.y c.requires.a_in_range.y in
    let by = passed c.args.b.y c.requires.b_in_range.y in
    let e : Some c.in_ok-x.x ≡ half_of c.args.a.x c.args.b.x = rw (ax, bx) at c.in_ok-x.ensures.value in
    let f : Some c.in_ok-y.y ≡ half_of c.args.a.y c.args.b.y = rw (ay, by) at c.in_ok-y.ensures.value in
    rw (passed c.in_ok-x.x c.in_ok-x.ensures.within, passed c.in_ok-y.y c.in_ok-y.ensures.within) (both_whole _ _ _ _ c.in_ok-x.x c.in_ok-y.y e f)
