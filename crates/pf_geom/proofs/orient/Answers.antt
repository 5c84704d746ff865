use Rattle.std.proofs.Common.{◌≡◌, ◌∙◌, sym, subst, arith, rules}
use Rattle.std.specs.Prelude.{ℤ, pos, ◌+ℤ◌, ◌-ℤ◌, ◌*ℤ◌}
use Rattle.std.specs.Int.RustNames.{FitsSigned}
use Rattle.std.proofs.lemmas.Int.{ints, to_z-of_z}
use mir.Syntax.{w64, w128}
use mir.Val.{to_z, of_z}
use Rattle.pf_geom.specs.Plane.{IsWithin, orient_of}
use Rattle.pf_geom.proofs.Orientations.{orient_of-turned, orient_of-swapped}
use Rattle.pf_geom.proofs.orient.Goals as goal

pub overflow_sub-plus : goal.overflow_sub-plus
overflow_sub-plus c =
    let p = c.product-plus.ensures.within in let q = c.product-minus.ensures.within in
    let pl = p.low in let ph = p.high in let ql = q.low in let qh = q.high in
    omega (arith, ints)

-- the difference of the products, by the four differences
difference_is : (c : goal.After-from) → c.product-plus.result -ℤ c.product-minus.result ≡ orient_of c.args.a c.args.b c.args.c
difference_is c =
    let f1 : FitsSigned w64 c.difference.result = search rules in
    let f2 : FitsSigned w64 c.difference-2.result = search rules in
    let f3 : FitsSigned w64 c.difference-3.result = search rules in
    let f4 : FitsSigned w64 c.difference-4.result = search rules in
    let x1 : c.difference.result ≡ c.args.b.x -ℤ c.args.a.x = search (arith, ints, to_z-of_z, c.difference.ensures.value) in
    let x2 : c.difference-2.result ≡ c.args.c.y -ℤ c.args.a.y = search (arith, ints, to_z-of_z, c.difference-2.ensures.value) in
    let x3 : c.difference-3.result ≡ c.args.b.y -ℤ c.args.a.y = search (arith, ints, to_z-of_z, c.difference-3.ensures.value) in
    let x4 : c.difference-4.result ≡ c.args.c.x -ℤ c.args.a.x = search (arith, ints, to_z-of_z, c.difference-4.ensures.value) in
    let p : c.product-plus.result ≡ c.difference.result *ℤ c.difference-2.result = simp to_z-of_z at c.product-plus.ensures.value in
    let q : c.product-minus.result ≡ c.difference-3.result *ℤ c.difference-4.result = simp to_z-of_z at c.product-minus.ensures.value in
    cc

passed : (p q r : ℤ) → FitsSigned w64 p → FitsSigned w64 q → IsWithin 288230376151711744 p → IsWithin 288230376151711744 q → r ≡ to_z w64 (of_z w64 (to_z w64 (of_z w64 p) -ℤ to_z w64 (of_z w64 q))) → r ≡ p -ℤ q
passed p q r f g v w e = let pl = v.low in let ph = v.high in let ql = w.low in let qh = w.high in omega (arith, ints, e)

subtracted-within : (p q : ℤ) → IsWithin 288230376151711744 p → IsWithin 288230376151711744 q → IsWithin 576460752303423488 (p -ℤ q)
subtracted-within p q v w = let pl = v.low in let ph = v.high in let ql = w.low in let qh = w.high in record { low = omega (arith, ints); high = omega (arith, ints) }

-- what is returned, as a call passes it
subtracted : (c : goal.After-from) → to_z w128 (of_z w128 c.from.result) ≡ c.product-plus.result -ℤ c.product-minus.result
subtracted c =
    to_z-of_z w128 _ (search rules)
    ∙ passed c.product-plus.result c.product-minus.result c.from.result (search rules) (search rules) c.product-plus.ensures.within c.product-minus.ensures.within c.from.ensures

returned : (c : goal.After-from) → to_z w128 (of_z w128 c.from.result) ≡ orient_of c.args.a c.args.b c.args.c
returned c = subtracted c ∙ difference_is c

pub returns-clause-formula : goal.returns-clause-formula
returns-clause-formula c = returned c

pub returns-clause-cyclic : goal.returns-clause-cyclic
returns-clause-cyclic c = returned c ∙ orient_of-turned c.args.a c.args.b c.args.c

pub returns-clause-swapped : goal.returns-clause-swapped
returns-clause-swapped c = subst (λ (z : ℤ). z +ℤ orient_of c.args.b c.args.a c.args.c ≡ pos 0) (sym (returned c)) (orient_of-swapped c.args.a c.args.b c.args.c)

pub returns-clause-bounded : goal.returns-clause-bounded
returns-clause-bounded c = subst (λ (z : ℤ). IsWithin 576460752303423488 z) (sym (subtracted c)) (subtracted-within c.product-plus.result c.product-minus.result c.product-plus.ensures.within c.product-minus.ensures.within)
