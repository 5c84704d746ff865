use Rattle.std.proofs.Common.{◌≡◌, ◌<◌, ℕ, true, inl, inr, arith, refl, ◌∙◌, sym, ap, length}
use Rattle.std.specs.Prelude.{nat_lt, pos}
use Rattle.std.proofs.lemmas.Bool.Decides.{nat_tests}
use Rattle.std.proofs.lemmas.List.{get_or_default}
use Rattle.pf_model.specs.declared.Spoke.{Spoke}
use Rattle.pf_patch.proofs.Insertion.{insert-place}
use Rattle.pf_patch.proofs.put.place_of_spoke.Goals as goal

test : (a b : ℕ) → a < b → nat_lt a b ≡ true
test a b l = grind (arith, nat_tests)

pub returns-then-spoke-s-clause-place : goal.returns-then-spoke-s-clause-place
returns-then-spoke-s-clause-place c =
    let blank : Spoke = record { right = 0; right_at = record { x = pos 0; y = pos 0 }; left = 0; left_at = record { x = pos 0; y = pos 0 }; owner = 0 } in
    let within : c.loop-i.i < length c.args.spokes.now = c.loop-i-test.true in
    insert-place c.args.spoke c.args.spokes.now c.loop-i.i (omega arith) c.loop-i.invariant
    (inr (λ d. ap (λ s. nat_lt c.args.spoke.right s.right) (sym (get_or_default c.args.spokes.now c.loop-i.i blank d within)) ∙ test c.args.spoke.right _ c.if-spoke-s.true))

pub returns-clause-place : goal.returns-clause-place
returns-clause-place c = insert-place c.args.spoke c.args.spokes.now (length c.args.spokes.now) (omega arith) (λ k d l. c.loop-i.invariant k d (omega arith)) (inl refl)
