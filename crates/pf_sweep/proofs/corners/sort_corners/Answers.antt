use Rattle.std.proofs.Common.{◌≡◌, ◌≤◌, ◌<◌, ◌⊎◌, inl, inr, ℕ, false, rules, arith}
use Rattle.std.specs.Ordering.{is_lt, nat_cmp, ordering_then}
use Rattle.std.proofs.lemmas.Bool.Decides.{nat_tests}
use Rattle.std.proofs.lemmas.List.Sorted.{answers_always}
use Rattle.pf_sweep.specs.declared.corners.Corner.{Corner}
use Rattle.pf_sweep.proofs.corners.sort_corners.Goals as goal

not_after : (a x b y : ℕ) → is_lt (ordering_then (nat_cmp b a) (nat_cmp y x)) ≡ false → (a < b) ⊎ ((a ≡ b) × (x ≤ y))
not_after a x b y h = go (three a b)
  where
    three : (a b : ℕ) → (a < b) ⊎ ((a ≡ b) ⊎ (b < a))
    three a b = grind arith

    past : b < a → ⊥
    past l = grind (arith, nat_tests)

    rest : a ≡ b → x ≤ y
    rest e = grind (arith, nat_tests)

    go : (a < b) ⊎ ((a ≡ b) ⊎ (b < a)) → (a < b) ⊎ ((a ≡ b) × (x ≤ y))
    go (inl l) = inl l
    go (inr (inl e)) = inr (e, rest e)
    go (inr (inr l)) = absurd (past l)

pub returns-clause-order : goal.returns-clause-order
returns-clause-order c k d l =
    let key : Corner → ℕ × ℕ = λ c. (c.node, c.right) in
    not_after _ _ _ _ (c.sort_unstable_by_key.ensures.sorted key (answers_always _ _ _ (λ f a r g h. search rules)) k d (omega arith) l)
