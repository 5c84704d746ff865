-- The number past all corners.
use Rattle.std.proofs.Common.{◌≡◌, ℕ, zero, suc, ◌+◌, ◌<◌, ◌≤◌, List, [], ◌∷◌, length, get_or, refl, arith, Bool, true, false, cond}
use Rattle.std.specs.Prelude.{nat_lt}
use Rattle.std.proofs.lemmas.Bool.Decides.{nat_tests}
use Rattle.pf_model.specs.declared.Tri.{Tri}
use Rattle.pf_assemble.specs.Names.{past, past_corners}
use Rattle.pf_assemble.specs.Placed.{AreCornersBelow}

past-both : (m n : ℕ) → (m ≤ past m n) × (n < past m n)
past-both m n = go (nat_lt n m) refl
  where
    low : (a b : ℕ) → nat_lt a b ≡ true → a < b
    low a b h = grind (arith, nat_tests)

    high : (a b : ℕ) → nat_lt a b ≡ false → b ≤ a
    high a b h = grind (arith, nat_tests)

    go : (b : Bool) → nat_lt n m ≡ b → (m ≤ cond b m (n + 1)) × (n < cond b m (n + 1))
    go true e = (omega arith, low n m e)
    go false e = let h = high n m e in (omega (arith, h), omega arith)

corners-grow : (m : ℕ) (ts : List Tri) → m ≤ past_corners m ts
corners-grow m [] = omega arith
corners-grow m (t ∷ ts) =
    let a = (past-both m t.a).0 in
    let b = (past-both (past m t.a) t.b).0 in
    let c = (past-both (past (past m t.a) t.b) t.c).0 in
    let rest = corners-grow (past (past (past m t.a) t.b) t.c) ts in
    steps m (past m t.a) (past (past m t.a) t.b) (past (past (past m t.a) t.b) t.c) (past_corners m (t ∷ ts)) a b c rest
  where
    steps : (i j k l n : ℕ) → i ≤ j → j ≤ k → k ≤ l → l ≤ n → i ≤ n
    steps i j k l n p q r s = omega arith

two : (i j k l n : ℕ) → i < j → j ≤ k → k ≤ l → l ≤ n → i < n
two i j k l n p q r s = omega arith

-- all corners are below it
pub corners-below : (m : ℕ) (ts : List Tri) → AreCornersBelow (past_corners m ts) ts
corners-below m [] = λ k d l. absurd (omega (arith, l))
corners-below m (t ∷ ts) = each (corners-below (past (past (past m t.a) t.b) t.c) ts)
  where
    each : AreCornersBelow (past_corners m (t ∷ ts)) ts → (k : ℕ) (d : Tri) → k < length (t ∷ ts) → ((get_or (t ∷ ts) k d).a < past_corners m (t ∷ ts)) × (((get_or (t ∷ ts) k d).b < past_corners m (t ∷ ts)) × ((get_or (t ∷ ts) k d).c < past_corners m (t ∷ ts)))
    each ih zero d l =
        let a = past-both m t.a in
        let b = past-both (past m t.a) t.b in
        let c = past-both (past (past m t.a) t.b) t.c in
        let rest = corners-grow (past (past (past m t.a) t.b) t.c) ts in
        let n = past_corners m (t ∷ ts) in (
          two t.a (past m t.a) (past (past m t.a) t.b) (past (past (past m t.a) t.b) t.c) n a.1 b.0 c.0 rest,
          (
            two t.b (past (past m t.a) t.b) (past (past m t.a) t.b) (past (past (past m t.a) t.b) t.c) n b.1 (omega arith) c.0 rest,
            two t.c (past (past (past m t.a) t.b) t.c) (past (past (past m t.a) t.b) t.c) (past (past (past m t.a) t.b) t.c) n c.1 (omega arith) (omega arith) rest,
          ),
        )
    each ih (suc k) d l = ih k d (let w : suc k < suc (length ts) = l in omega (arith, w))
