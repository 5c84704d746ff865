use Rattle.std.proofs.Common.{◌<◌, ◌∙◌, ℕ, inl, inr, arith, refl, subst, length}
use Rattle.std.proofs.lemmas.List.{get_or_default}
use Rattle.pf_patch.proofs.PutNames.{put-place, put-there}
use Rattle.pf_patch.proofs.names.place_of_name.Goals as goal

pub returns-then-n-k-clause-there : goal.returns-then-n-k-clause-there
returns-then-n-k-clause-there c e =
    let within : c.loop-i.i < length c.args.names.now = c.loop-i-test.true in
    put-there c.args.n c.args.names.now c.loop-i.i within c.loop-i.invariant (λ d. c.if-n-k.true ∙ get_or_default c.args.names.now c.loop-i.i 0 d within)

pub returns-then-n-k-2-clause-place : goal.returns-then-n-k-2-clause-place
returns-then-n-k-2-clause-place c =
    let within : c.loop-i.i < length c.args.names.now = c.loop-i-test.true in
    let P : ℕ → Type 0 = λ k. c.args.n < k in (
      omega (arith, within),
      put-place c.args.n c.args.names.now c.loop-i.i (omega (arith, within)) c.loop-i.invariant (inr (λ d. subst P (get_or_default c.args.names.now c.loop-i.i 0 d within) c.if-n-k-2.true)),
    )

pub returns-clause-place : goal.returns-clause-place
returns-clause-place c = (
  omega arith,
  put-place c.args.n c.args.names.now (length c.args.names.now) (omega arith) (λ k d l. c.loop-i.invariant k d (let t = c.loop-i-test.false in omega (arith, t, l))) (inl refl),
)
