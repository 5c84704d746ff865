use Rattle.std.proofs.Common.{◌≡◌, ◌≢◌, ◌==◌, ℕ, false, sym, ◌∙◌, arith}
use Rattle.std.proofs.lemmas.Bool.Decides.{nat_tests}
use Rattle.pf_model.specs.Stars.{spokes_of}
use Rattle.pf_judge.proofs.NewEdges.{apex-old, other-new}
use Rattle.pf_judge.proofs.contract.is_new_long.Goals as goal

pub returns-then-is_an_apex : goal.returns-then-is_an_apex
returns-then-is_an_apex c = λ m u ok s b f bare. apex-old m ok u c.args.v c.args.x (sym (c.is_an_apex.ensures m.tris u c.args.v f) ∙ c.if-is_an_apex.true)

pub returns : goal.returns
returns c = λ m u ok s b f bare.
    c.is_long.ensures m s b ∙ other-new m u c.args.v c.args.x (spokes_of m c.args.v) (apart c.args.x c.args.v c.if-x-v.false) (sym (c.is_an_apex.ensures m.tris u c.args.v f) ∙ c.if-is_an_apex.false) bare
  where
    apart : (a b : ℕ) → a ≢ b → (a == b) ≡ false
    apart a b n = grind (arith, nat_tests)
