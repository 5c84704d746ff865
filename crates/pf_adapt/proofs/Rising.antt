-- Names that rise.
use Rattle.std.proofs.Common.{◌≡◌, ◌∙◌, ℕ, zero, suc, ◌+◌, List, [], ◌∷◌, ◌++◌, ap, sym, arith}
use Rattle.std.specs.List.{range_with_len}

-- one number more
range_more : (a n : ℕ) → range_with_len a n ++ (a + n) ∷ [] ≡ range_with_len a (suc n)
range_more a zero = let e : a + 0 ≡ a = omega arith in ap (λ (k : ℕ). k ∷ []) e
range_more a (suc n) = let e : a + suc n ≡ a + 1 + n = omega arith in ap (λ (l : List ℕ). a ∷ l) (ap (λ (k : ℕ). range_with_len (a + 1) n ++ k ∷ []) e ∙ range_more (a + 1) n)

-- one name more
pub name_more : (n : ℕ) (old new : List ℕ) → new ≡ old ++ n ∷ [] → old ≡ range_with_len 0 n → new ≡ range_with_len 0 (n + 1)
name_more n old new put is =
    let e : 0 + n ≡ n = omega arith in
    let s : suc n ≡ n + 1 = omega arith in
    put ∙ (λ i. is i ++ n ∷ []) ∙ (λ i. range_with_len 0 n ++ (sym e) i ∷ []) ∙ range_more 0 n ∙ ap (λ (k : ℕ). range_with_len 0 k) s
