use Rattle.std.proofs.Common.{rules, ◌≡◌, ◌∙◌, refl, sym, ap, subst, pos, ◌-ℤ◌, ◌*ℤ◌, int_lt, ℤ, FitsSigned, w64, arith}
use Rattle.std.proofs.lemmas.Int.{ints, to_z-of_z}
use Rattle.pf_geom.specs.Plane.{IsWithin}
use Rattle.pf_geom.proofs.Middles.{passed}
use Rattle.pf_sums.proofs.inside.is_left.Goals as goal

widen : (z : ℤ) → IsWithin 1152921504606846976 z → IsWithin 2305843009213693952 z
widen z w = let l = w.low in let h = w.high in record { low = omega (arith, ints); high = omega (arith, ints) }

pub difference-requires-clause-p_within : goal.difference-requires-clause-p_within
difference-requires-clause-p_within c = subst (λ (z : ℤ). IsWithin 2305843009213693952 z) (sym (to_z-of_z w64 c.times-bx.result (search rules))) (widen c.times-bx.result c.times-bx.ensures.within)

pub difference-requires-3-clause-p_within : goal.difference-requires-3-clause-p_within
difference-requires-3-clause-p_within c = subst (λ (z : ℤ). IsWithin 2305843009213693952 z) (sym (to_z-of_z w64 c.times-by.result (search rules))) (widen c.times-by.result c.times-by.ensures.within)

pub returns : goal.returns
returns c =
    let f1 : FitsSigned w64 c.times-ax.result = search rules in
    let f2 : FitsSigned w64 c.times-ay.result = search rules in
    let f3 : FitsSigned w64 c.times-bx.result = search rules in
    let f4 : FitsSigned w64 c.times-by.result = search rules in
    let g1 : FitsSigned w64 c.difference.result = search rules in
    let g2 : FitsSigned w64 c.difference-2.result = search rules in
    let g3 : FitsSigned w64 c.difference-3.result = search rules in
    let g4 : FitsSigned w64 c.difference-4.result = search rules in
    let t1 : c.times-ax.result ≡ pos c.args.q *ℤ c.args.a.x = c.times-ax.ensures.value ∙ ap (λ z. pos c.args.q *ℤ z) (passed c.args.a.x c.requires.a_in_range.x) in
    let t2 : c.times-ay.result ≡ pos c.args.q *ℤ c.args.a.y = c.times-ay.ensures.value ∙ ap (λ z. pos c.args.q *ℤ z) (passed c.args.a.y c.requires.a_in_range.y) in
    let t3 : c.times-bx.result ≡ pos c.args.q *ℤ c.args.b.x = c.times-bx.ensures.value ∙ ap (λ z. pos c.args.q *ℤ z) (passed c.args.b.x c.requires.b_in_range.x) in
    let t4 : c.times-by.result ≡ pos c.args.q *ℤ c.args.b.y = c.times-by.ensures.value ∙ ap (λ z. pos c.args.q *ℤ z) (passed c.args.b.y c.requires.b_in_range.y) in
    let d1 : c.difference.result ≡ c.times-bx.result -ℤ c.times-ax.result = c.difference.ensures.value ∙ (λ i. to_z-of_z w64 c.times-bx.result f3 i -ℤ to_z-of_z w64 c.times-ax.result f1 i) in
    let d2 : c.difference-2.result ≡ c.args.y -ℤ c.times-ay.result = c.difference-2.ensures.value ∙ (λ i. to_z-of_z w64 c.args.y c.ranges.y i -ℤ to_z-of_z w64 c.times-ay.result f2 i) in
    let d3 : c.difference-3.result ≡ c.times-by.result -ℤ c.times-ay.result = c.difference-3.ensures.value ∙ (λ i. to_z-of_z w64 c.times-by.result f4 i -ℤ to_z-of_z w64 c.times-ay.result f2 i) in
    let d4 : c.difference-4.result ≡ c.args.x -ℤ c.times-ax.result = c.difference-4.ensures.value ∙ (λ i. to_z-of_z w64 c.args.x c.ranges.x i -ℤ to_z-of_z w64 c.times-ax.result f1 i) in
    let m : c.is_more.result ≡ int_lt (pos 0) (c.difference.result *ℤ c.difference-2.result -ℤ c.difference-3.result *ℤ c.difference-4.result) = c.is_more.ensures ∙ (λ i. int_lt (pos 0) (to_z-of_z w64 c.difference.result g1 i *ℤ to_z-of_z w64 c.difference-2.result g2 i -ℤ to_z-of_z w64 c.difference-3.result g3 i *ℤ to_z-of_z w64 c.difference-4.result g4 i)) in
    rw (m, d1, d2, d3, d4, t1, t2, t3, t4) refl
