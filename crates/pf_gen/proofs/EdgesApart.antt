-- The edges of different triangles of a grid are different.
use Rattle.std.proofs.Common.{◌≡◌, ℕ, ◌+◌, ◌<◌, ◌⊎◌, inl, inr, arith}
use Rattle.pf_model.proofs.Triangles.{IsEdge}

-- two triangles that have an edge in common have it at some pair of corners
meet : (x y a b c d e f : ℕ) → IsEdge x y a b c → IsEdge x y d e f
    → (((a ≡ d) × (b ≡ e)) ⊎ (((a ≡ e) × (b ≡ f)) ⊎ ((a ≡ f) × (b ≡ d))))
    ⊎ ((((b ≡ d) × (c ≡ e)) ⊎ (((b ≡ e) × (c ≡ f)) ⊎ ((b ≡ f) × (c ≡ d)))) ⊎ (((c ≡ d) × (a ≡ e)) ⊎ (((c ≡ e) × (a ≡ f)) ⊎ ((c ≡ f) × (a ≡ d)))))
meet x y a b c d e f h k =
    elim h.is [
      | inl p ↦ inl (elim k.is [ inl q ↦ inl (omega arith, omega arith) | inr r ↦ elim r [ inl q ↦ inr (inl (omega arith, omega arith)) | inr q ↦ inr (inr (omega arith, omega arith)) ] ])
      | inr s ↦ elim s [
        | inl p ↦ inr (inl (elim k.is [ inl q ↦ inl (omega arith, omega arith) | inr r ↦ elim r [ inl q ↦ inr (inl (omega arith, omega arith)) | inr q ↦ inr (inr (omega arith, omega arith)) ] ]))
        | inr p ↦ inr (inr (elim k.is [ inl q ↦ inl (omega arith, omega arith) | inr r ↦ elim r [ inl q ↦ inr (inl (omega arith, omega arith)) | inr q ↦ inr (inr (omega arith, omega arith)) ] ]))
      ]
    ]

pub lowers : (n p q x y : ℕ) → 0 < n → q < p → IsEdge x y p (p + 1) (p + (n + 2)) → IsEdge x y q (q + 1) (q + (n + 2)) → ⊥
lowers n p q x y some less h k = let m = meet x y p (p + 1) (p + (n + 2)) q (q + 1) (q + (n + 2)) h k in omega (arith, m)

pub uppers : (n p q x y : ℕ) → 0 < n → q < p → IsEdge x y p (p + (n + 2)) (p + (n + 1)) → IsEdge x y q (q + (n + 2)) (q + (n + 1)) → ⊥
uppers n p q x y some less h k = let m = meet x y p (p + (n + 2)) (p + (n + 1)) q (q + (n + 2)) (q + (n + 1)) h k in omega (arith, m)

pub lower_upper : (n p q x y : ℕ) → 0 < n → IsEdge x y p (p + 1) (p + (n + 2)) → IsEdge x y q (q + (n + 2)) (q + (n + 1)) → ⊥
lower_upper n p q x y some h k = let m = meet x y p (p + 1) (p + (n + 2)) q (q + (n + 2)) (q + (n + 1)) h k in omega (arith, m)
