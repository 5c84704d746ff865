-- Lists that are filtered from the first numbers.
use Rattle.std.proofs.Common.{◌≡◌, ℕ, zero, suc, ◌+◌, ◌%◌, ◌<◌, Bool, true, false, cond, ◌==◌, List, [], ◌∷◌, ◌++◌, length, take, drop, refl, sym, ap, ◌∙◌, arith, add-one, append-nil, take_all}
use Rattle.std.specs.Prelude.{filter, Option, Some, None}
use Rattle.std.proofs.lemmas.Bool.Decides.{nat_tests}
use Rattle.std.proofs.lemmas.List.{drop_all}
use Rattle.pf_model.specs.declared.Tri.{Tri}
use Rattle.pf_model.specs.Mesh.{Undivided}
use Rattle.pf_model.specs.Stars.{keeper_of}
use Rattle.pf_workers.specs.Keepers.{kept_at, gathered}
use Rattle.pf_workers.proofs.Keeping.{gathered_keeper}
use Rattle.std.specs.List.{range_with_len}
use Rattle.pf_workers.specs.Parts.{is_kept_by, starts_for}

range_more : (a n : ℕ) → range_with_len a (suc n) ≡ range_with_len a n ++ (a + n) ∷ []
range_more a zero = let e : a ≡ a + 0 = omega arith in ap (λ k. k ∷ []) e
range_more a (suc n) = let e : a + 1 + n ≡ a + suc n = omega arith in ap (λ l. a ∷ l) (range_more (a + 1) n ∙ ap (λ k. range_with_len (a + 1) n ++ k ∷ []) e)

filter_last : (p : ℕ → Bool) (xs : List ℕ) (x : ℕ) → filter p (xs ++ x ∷ []) ≡ filter p xs ++ cond (p x) (x ∷ []) []
filter_last p [] x = refl
filter_last p (y ∷ ys) x = go (p y) (filter_last p ys x)
  where
    go : (b : Bool) → filter p (ys ++ x ∷ []) ≡ filter p ys ++ cond (p x) (x ∷ []) [] → cond b (y ∷ filter p (ys ++ x ∷ [])) (filter p (ys ++ x ∷ [])) ≡ cond b (y ∷ filter p ys) (filter p ys) ++ cond (p x) (x ∷ []) []
    go true e = ap (λ (l : List ℕ). y ∷ l) e
    go false e = e

-- one number more
pub filtered_more : (p : ℕ → Bool) (n : ℕ) → filter p (range_with_len 0 (n + 1)) ≡ filter p (range_with_len 0 n) ++ cond (p n) (n ∷ []) []
filtered_more p n =
    let e : range_with_len 0 (n + 1) ≡ range_with_len 0 n ++ n ∷ [] = rw add-one (let z : 0 + n ≡ n = omega arith in range_more 0 n ∙ ap (λ k. range_with_len 0 n ++ k ∷ []) z) in
    ap (filter p) e ∙ filter_last p (range_with_len 0 n) n

-- two tests that agree on numbers below n
same_filter : (p q : ℕ → Bool) (n : ℕ) → ((k : ℕ) → k < n → p k ≡ q k) → filter p (range_with_len 0 n) ≡ filter q (range_with_len 0 n)
same_filter p q n h = from 0 n (λ k l. h k (omega (arith, l)))
  where
    from : (a m : ℕ) → ((k : ℕ) → k < a + m → p k ≡ q k) → filter p (range_with_len a m) ≡ filter q (range_with_len a m)
    from a zero g = refl
    from a (suc m) g = (λ i. cond (g a (omega arith) i) (a ∷ from (a + 1) m (λ k l. g k (omega (arith, l))) i) (from (a + 1) m (λ k l. g k (omega (arith, l))) i))

-- where both tell the keeper of each name below n, they tell the same start list
pub same_starts : (workers w n : ℕ) (f g : ℕ → Option ℕ) → ((k : ℕ) → k < n → f k ≡ g k) → filter (λ k. is_kept_by workers w (f k)) (range_with_len 0 n) ≡ filter (λ k. is_kept_by workers w (g k)) (range_with_len 0 n)
same_starts workers w n f g h = same_filter (λ k. is_kept_by workers w (f k)) (λ k. is_kept_by workers w (g k)) n (λ k l. ap (λ (x : Option ℕ). is_kept_by workers w x) (h k l))

-- one number more that is taken, or left
pub number_taken : (p : ℕ → Bool) (n : ℕ) (xs : List ℕ) → xs ≡ filter p (range_with_len 0 n) → p n ≡ true → xs ++ n ∷ [] ≡ filter p (range_with_len 0 (n + 1))
number_taken p n xs e t = ap (λ (l : List ℕ). l ++ n ∷ []) e ∙ ap (λ (b : Bool). filter p (range_with_len 0 n) ++ cond b (n ∷ []) []) (sym t) ∙ sym (filtered_more p n)

pub number_left : (p : ℕ → Bool) (n : ℕ) (xs : List ℕ) → xs ≡ filter p (range_with_len 0 n) → p n ≡ false → xs ≡ filter p (range_with_len 0 (n + 1))
number_left p n xs e t = e ∙ sym (append-nil (filter p (range_with_len 0 n))) ∙ ap (λ (b : Bool). filter p (range_with_len 0 n) ++ cond b (n ∷ []) []) (sym t) ∙ sym (filtered_more p n)

pub is_same : (a b : ℕ) → a ≡ b → (a == b) ≡ true
is_same a b e = grind (arith, nat_tests)

pub is_other : (a b : ℕ) → (a ≡ b → ⊥) → (a == b) ≡ false
is_other a b e = grind (arith, nat_tests)

-- a name with this keeper
pub start_kept : (workers w keeper n : ℕ) (f : ℕ → Option ℕ) (xs : List ℕ) → xs ≡ filter (λ k. is_kept_by workers w (f k)) (range_with_len 0 n) → f n ≡ Some keeper → cond (keeper % workers == w) (xs ++ n ∷ []) xs ≡ filter (λ k. is_kept_by workers w (f k)) (range_with_len 0 (n + 1))
start_kept workers w keeper n f xs e is = go (keeper % workers == w) refl
  where
    go : (b : Bool) → (keeper % workers == w) ≡ b → cond b (xs ++ n ∷ []) xs ≡ filter (λ k. is_kept_by workers w (f k)) (range_with_len 0 (n + 1))
    go true t = number_taken (λ k. is_kept_by workers w (f k)) n xs e (ap (λ (x : Option ℕ). is_kept_by workers w x) is ∙ t)
    go false t = number_left (λ k. is_kept_by workers w (f k)) n xs e (ap (λ (x : Option ℕ). is_kept_by workers w x) is ∙ t)

-- a name without a keeper
pub start_none : (workers w n : ℕ) (f : ℕ → Option ℕ) (xs : List ℕ) → xs ≡ filter (λ k. is_kept_by workers w (f k)) (range_with_len 0 n) → f n ≡ None → xs ≡ filter (λ k. is_kept_by workers w (f k)) (range_with_len 0 (n + 1))
start_none workers w n f xs e is = number_left (λ k. is_kept_by workers w (f k)) n xs e (ap (λ (x : Option ℕ). is_kept_by workers w x) is)

-- what was written back over the whole of a list
pub written : {X : Type 0} (p xs : List X) (len : ℕ) → length p ≡ len → length xs ≡ len → take len (p ++ drop (length p) xs) ≡ p
written {X} p xs len e f =
    ap (λ (l : List X). take len (p ++ l)) (drop_all (length p) xs (omega (arith, e, f)))
    ∙ ap (take len) (append-nil p)
    ∙ ap (λ (k : ℕ). take k p) (sym e)
    ∙ take_all (length p) p (omega arith)

-- the start list of a worker, by the keepers that were gathered
pub start_is : (m : Undivided) (workers w many names : ℕ) (keepers ks : List (Option ℕ)) (tris : List Tri) → many ≡ workers → keepers ≡ ks → length ks ≡ names → names ≡ m.first_new → tris ≡ m.tris → ((n : ℕ) → n < names → kept_at ks n ≡ gathered n None tris)
    → filter (λ n. is_kept_by many w (kept_at keepers n)) (range_with_len 0 (length keepers)) ≡ starts_for m workers w
start_is m workers w many names keepers ks tris e1 e2 e3 e4 e5 kept =
    (λ i. filter (λ n. is_kept_by (e1 i) w (kept_at (e2 i) n)) (range_with_len 0 (length (e2 i))))
    ∙ ap (λ (k : ℕ). filter (λ n. is_kept_by workers w (kept_at ks n)) (range_with_len 0 k)) (e3 ∙ e4)
    ∙ same_starts workers w m.first_new (kept_at ks) (keeper_of m) (λ k l. kept k (omega (arith, l, e4)) ∙ ap (λ (ts : List Tri). gathered k None ts) e5 ∙ gathered_keeper m k)
