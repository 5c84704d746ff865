use Rattle.std.proofs.Common.{◌≡◌, ◌≤◌, ◌<◌, ◌⊎◌, inl, inr, ℕ, false, rules, arith}
use Rattle.std.specs.Ordering.{is_lt, nat_cmp, ordering_then}
use Rattle.std.proofs.lemmas.Bool.Decides.{nat_tests}
use Rattle.std.proofs.lemmas.List.Sorted.{answers_always}
use Rattle.pf_star.specs.declared.copies.ChunkCopy.{ChunkCopy}
use Rattle.pf_locks.proofs.closing.sort_copies.Goals as goal

not_after : (a x b y : ℕ) → is_lt (ordering_then (nat_cmp b a) (nat_cmp y x)) ≡ false → (a < b) ⊎ ((a ≡ b) × (x ≤ y))
not_after a x b y h = go (three a b)
  where
    three : (a b : ℕ) → (a < b) ⊎ ((a ≡ b) ⊎ (b < a))
    three a b = grind arith

    past : b < a → ⊥
    past l = grind (arith, nat_tests)

    rest : a ≡ b → x ≤ y
    rest e = grind (arith, nat_tests)

    go : (a < b) ⊎ ((a ≡ b) ⊎ (b < a)) → (a < b) ⊎ ((a ≡ b) × (x ≤ y))
    go (inl l) = inl l
    go (inr (inl e)) = inr (e, rest e)
    go (inr (inr l)) = absurd (past l)

pub returns-clause-order : goal.returns-clause-order
returns-clause-order c k d l =
    let key : ChunkCopy → ℕ × ℕ = λ c. (c.chunk, c.star.node) in
    not_after _ _ _ _ (c.sort_unstable_by_key.ensures.sorted key (answers_always _ _ _ (λ f a r g h. search rules)) k d (omega arith) l)
