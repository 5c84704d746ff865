use Rattle.std.proofs.Common.{◌≡◌, ℕ, zero, suc, ◌<◌, ◌∷◌, [], refl, arith}
use Rattle.std.specs.Prelude.{slice_index_or}
use Rattle.driver_tests.proofs.circle.names_below_four.Goals as goal

none : (n : ℕ) → suc (suc (suc (suc n))) < 4 → ⊥
none n l = omega (arith, l)

stands : (n : ℕ) → n < 4 → slice_index_or {A = ℕ} (0 ∷ 1 ∷ 2 ∷ 3 ∷ []) n n ≡ n
stands zero l = refl
stands (suc zero) l = refl
stands (suc (suc zero)) l = refl
stands (suc (suc (suc zero))) l = refl
stands (suc (suc (suc (suc n)))) l = absurd (none n l)

pub returns : goal.returns
returns c = λ n within. (n, within, stands n within)
