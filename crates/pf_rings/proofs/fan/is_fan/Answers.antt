use Rattle.std.proofs.Common.{◌≡◌, ◌+◌, ℕ, arith, length, subst}
use Rattle.std.specs.Prelude.{◌==◌}
use Rattle.std.proofs.lemmas.Bool.Decides.{nat_tests}
use Rattle.pf_model.specs.Stars.{run_leaves}
use Rattle.pf_rings.proofs.fan.is_fan.Goals as goal

counts : (a b n : ℕ) → a + b ≡ n → (b == n) ≡ (a == 0)
counts a b n h = grind (arith, nat_tests)

pub returns : goal.returns
returns c m n ok e =
    let run = c.passed_from.ensures m n ok e in
    counts _ c.passed_from.result (length c.args.spokes.now) (subst (λ r. length (run_leaves (length c.args.spokes.now) c.args.spokes.now r) + c.passed_from.result ≡ length c.args.spokes.now) c.start_of.ensures run.leaves)
