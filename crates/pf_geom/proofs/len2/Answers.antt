use Rattle.std.proofs.Common.{◌≡◌, ◌∙◌, sym, subst, arith, rules}
use Rattle.std.specs.Prelude.{ℤ, pos, ◌+ℤ◌, ◌-ℤ◌, ◌*ℤ◌, ◌≤ℤ◌}
use Rattle.std.specs.Int.RustNames.{FitsSigned}
use Rattle.std.proofs.lemmas.Int.{ints, to_z-of_z}
use mir.Syntax.{w64}
use mir.Val.{to_z, of_z}
use Rattle.pf_geom.specs.Plane.{len2_of}
use Rattle.pf_geom.proofs.Orientations.{len2_of-swapped}
use Rattle.pf_geom.proofs.Products.{len2_of-not_negative}
use Rattle.pf_geom.proofs.len2.Goals as goal

pub overflow_add-result : goal.overflow_add-result
overflow_add-result c =
    let p = c.product.ensures.within in let q = c.product-2.ensures.within in
    let pl = p.low in let ph = p.high in let ql = q.low in let qh = q.high in
    omega (arith, ints)

-- the sum, by the two differences
sum_is : (c : goal.After-product-2) → c.product.result +ℤ c.product-2.result ≡ len2_of c.args.a c.args.b
sum_is c =
    let fx : FitsSigned w64 c.difference-across.result = search rules in
    let fy : FitsSigned w64 c.difference-up.result = search rules in
    let x : c.difference-across.result ≡ c.args.b.x -ℤ c.args.a.x = search (arith, ints, to_z-of_z, c.difference-across.ensures.value) in
    let y : c.difference-up.result ≡ c.args.b.y -ℤ c.args.a.y = search (arith, ints, to_z-of_z, c.difference-up.ensures.value) in
    let p : c.product.result ≡ c.difference-across.result *ℤ c.difference-across.result = simp to_z-of_z at c.product.ensures.value in
    let q : c.product-2.result ≡ c.difference-up.result *ℤ c.difference-up.result = simp to_z-of_z at c.product-2.ensures.value in
    cc

passed : (c : goal.After-product-2) → FitsSigned w64 c.product.result → FitsSigned w64 c.product-2.result → to_z w64 (of_z w64 c.product.result) +ℤ to_z w64 (of_z w64 c.product-2.result) ≡ len2_of c.args.a c.args.b
passed c p q = simp to_z-of_z (sum_is c)

-- what is returned, as a call passes it
returned : (c : goal.After-product-2) → to_z w64 (of_z w64 (to_z w64 (of_z w64 c.product.result) +ℤ to_z w64 (of_z w64 c.product-2.result))) ≡ len2_of c.args.a c.args.b
returned c = to_z-of_z w64 _ (overflow_add-result c) ∙ passed c (search rules) (search rules)

pub returns-clause-formula : goal.returns-clause-formula
returns-clause-formula c = returned c

pub returns-clause-symmetric : goal.returns-clause-symmetric
returns-clause-symmetric c = returned c ∙ len2_of-swapped c.args.a c.args.b

pub returns-clause-not_negative : goal.returns-clause-not_negative
returns-clause-not_negative c = subst (λ (z : ℤ). pos 0 ≤ℤ z) (sym (returned c)) (len2_of-not_negative c.args.a c.args.b)

pub returns-clause-bounded : goal.returns-clause-bounded
returns-clause-bounded c =
    let p = c.product.ensures.within in let q = c.product-2.ensures.within in
    let pl = p.low in let ph = p.high in let ql = q.low in let qh = q.high in
    record { low = omega (arith, ints); high = omega (arith, ints) }
