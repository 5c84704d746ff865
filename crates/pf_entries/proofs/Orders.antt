-- Lists joined in another order.
use Rattle.std.proofs.Common.{List, [], ◌∷◌, ◌++◌, subst, append_assoc}
use Rattle.std.specs.List.Sorted.{IsPermutation}
use Rattle.std.proofs.lemmas.List.Sorted.{IsPermutation-sym, IsPermutation-trans, IsPermutation-middle, IsPermutation-append_comm, IsPermutation-append_left, IsPermutation-append_right, IsPermutation-append}

module _ {X : Type 0} where
  -- the first of three lists goes behind the second
  pub turned : (xs ys zs : List X) → IsPermutation ((xs ++ ys) ++ zs) (ys ++ (xs ++ zs))
  turned xs ys zs = subst (IsPermutation ((xs ++ ys) ++ zs)) (append_assoc ys xs zs) (IsPermutation-append_left zs (xs ++ ys) (ys ++ xs) (IsPermutation-append_comm xs ys))

  -- an element in front goes to the end of the first of three lists
  pub added_behind : (x : X) (xs ys zs : List X) → IsPermutation (x ∷ ((xs ++ ys) ++ zs)) (((xs ++ x ∷ []) ++ ys) ++ zs)
  added_behind x xs ys zs =
      rw (append_assoc (xs ++ x ∷ []) ys zs, append_assoc xs (x ∷ []) (ys ++ zs), append_assoc xs ys zs)
      (IsPermutation-sym _ _ (IsPermutation-middle xs x (ys ++ zs)))

  -- and then this list goes behind the second
  pub added_and_turned : (x : X) (xs ys zs : List X) → IsPermutation (x ∷ ((xs ++ ys) ++ zs)) (ys ++ ((xs ++ x ∷ []) ++ zs))
  added_and_turned x xs ys zs = IsPermutation-trans _ _ _ (added_behind x xs ys zs) (turned (xs ++ x ∷ []) ys zs)

  -- two pairs of lists, each in another order
  pub both_joined : (ks bs cs ds rs fs : List X) → IsPermutation (ks ++ bs) rs → IsPermutation (cs ++ ds) fs → IsPermutation ((bs ++ ds) ++ (ks ++ cs)) (rs ++ fs)
  both_joined ks bs cs ds rs fs p q =
      let front : IsPermutation ((cs ++ bs) ++ ds) (bs ++ (cs ++ ds)) = turned cs bs ds in
      let inner : IsPermutation (cs ++ (bs ++ ds)) (bs ++ (cs ++ ds)) = subst (λ l. IsPermutation l (bs ++ (cs ++ ds))) (append_assoc cs bs ds) front in
      let middle : IsPermutation ((ks ++ cs) ++ (bs ++ ds)) ((ks ++ bs) ++ (cs ++ ds)) = rw (append_assoc ks cs (bs ++ ds), append_assoc ks bs (cs ++ ds)) (IsPermutation-append_right ks (cs ++ (bs ++ ds)) (bs ++ (cs ++ ds)) inner) in
      IsPermutation-trans _ _ _ (IsPermutation-append_comm (bs ++ ds) (ks ++ cs)) (IsPermutation-trans _ _ _ middle (IsPermutation-append (ks ++ bs) rs (cs ++ ds) fs p q))
