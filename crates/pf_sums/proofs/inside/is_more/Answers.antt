use Rattle.std.proofs.Common.{rules, ◌≡◌, ◌∙◌, refl, sym, Bool, true, false, pos, ◌-ℤ◌, ◌*ℤ◌, int_lt, ℤ, FitsSigned, w64, arith}
use Rattle.std.proofs.lemmas.Int.{ints, to_z-of_z}
use mir.Syntax.{w128}
use Rattle.pf_sums.proofs.inside.is_more.Goals as goal

holds : (x y : ℤ) → int_lt x y ≡ true → int_lt (pos 0) (y -ℤ x) ≡ true
holds x y h = grind (arith, ints)

fails : (x y : ℤ) → int_lt x y ≡ false → int_lt (pos 0) (y -ℤ x) ≡ false
fails x y h = grind (arith, ints)

less : (x y : ℤ) → int_lt x y ≡ int_lt (pos 0) (y -ℤ x)
less x y = go (int_lt x y) refl
  where
    go : (b : Bool) → int_lt x y ≡ b → b ≡ int_lt (pos 0) (y -ℤ x)
    go true e = sym (holds x y e)
    go false e = sym (fails x y e)

pub returns : goal.returns
returns c =
    let f1 : FitsSigned w128 c.wide.result = search rules in
    let f2 : FitsSigned w128 c.wide-2.result = search rules in
    let p : c.wide.result ≡ c.args.z *ℤ c.args.w = c.wide.ensures ∙ (λ i. to_z-of_z w64 c.args.z c.ranges.z i *ℤ to_z-of_z w64 c.args.w c.ranges.w i) in
    let q : c.wide-2.result ≡ c.args.x *ℤ c.args.y = c.wide-2.ensures ∙ (λ i. to_z-of_z w64 c.args.x c.ranges.x i *ℤ to_z-of_z w64 c.args.y c.ranges.y i) in
    rw (to_z-of_z w128 c.wide.result f1, to_z-of_z w128 c.wide-2.result f2, p, q) (less (c.args.z *ℤ c.args.w) (c.args.x *ℤ c.args.y))
