-- What one who is alone knows of what was done.
use Rattle.std.proofs.Common.{◌≡◌, ℕ, ◌≤◌, List, length, arith}
use Rattle.std.proofs.Props.{props}
use Rattle.std.proofs.Math.Logic.{∥∥₁_elim}
use Rattle.pf_model.specs.declared.Entry.{Entry}
use Rattle.pf_star_model.specs.Lent.{Held}
use Rattle.pf_core_model.specs.Core.{Opening}
use Rattle.pf_holder.specs.Facts.{KnowsAll, history_in}

-- no more was done than may be
pub done-within : (o : Opening) (pairs : List Held) (left : ℕ) (entries : List Entry) → ∥ KnowsAll o pairs left entries ∥₁ → length (history_in entries) ≤ o.budget
done-within o pairs left entries a = ∥∥₁_elim a (hlevel props) (λ (x : KnowsAll o pairs left entries). let b = x.budget in omega (arith, b))

-- where nothing is left, as much was done as may be
pub done-all : (o : Opening) (pairs : List Held) (left : ℕ) (entries : List Entry) → ∥ KnowsAll o pairs left entries ∥₁ → left ≡ 0 → length (history_in entries) ≡ o.budget
done-all o pairs left entries a none = ∥∥₁_elim a (hlevel props) (λ (x : KnowsAll o pairs left entries). let b = x.budget in omega (arith, b, none))
