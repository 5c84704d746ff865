-- Names, each once, rising (`risen`): its members, its order, and that a list of different names is no longer than one that has them all.
use Rattle.std.proofs.Common.{◌≡◌, ◌≢◌, ℕ, suc, ◌≤◌, List, [], ◌∷◌, length, refl, sym, subst, Bool, true, false, cond, ◌⊎◌, inl, inr, arith}
use Rattle.std.specs.Prelude.{Contains, nat_lt, not, filter, ◌==◌}
use Rattle.std.proofs.lemmas.Bool.Decides.{nat_tests}
use Rattle.std.proofs.lemmas.Bool.{eqb-true}
use Rattle.pf_model.specs.Rising.{IsRising, AreDifferent}
use Rattle.pf_model.proofs.Members.{nowhere, here, there, cases, filter-in}
use Rattle.pf_model.proofs.RisingLemmas.{IsStrictOrder, rising-nil, rising-head, rising-tail, rising-cons}
use Rattle.pf_star_model.specs.Patched.{put_name, risen}

pub nat_lt-order : IsStrictOrder nat_lt
nat_lt-order = record { irreflexive = λ x. grind (arith, nat_tests); transitive = λ x y z h k. grind (arith, nat_tests) }

pub put_name-cases : (n z : ℕ) (ks : List ℕ) → Contains (put_name n ks) z → (z ≡ n) ⊎ Contains ks z
put_name-cases n z [] h = cases z n [] h
put_name-cases n z (k ∷ ks) h = go (nat_lt n k) (n == k) h (λ i. put_name-cases n z ks i)
  where
    go : (b c : Bool) → Contains (cond b (n ∷ k ∷ ks) (cond c (k ∷ ks) (k ∷ put_name n ks))) z → (Contains (put_name n ks) z → (z ≡ n) ⊎ Contains ks z) → (z ≡ n) ⊎ Contains (k ∷ ks) z
    go true c i ih = cases z n (k ∷ ks) i
    go false true i ih = inr i
    go false false i ih = elim (cases z k (put_name n ks) i) [ inl e ↦ inr (subst (λ w. Contains (w ∷ ks) z) e (here z ks)) | inr j ↦ elim (ih j) [ inl e ↦ inl e | inr x ↦ inr (there z k ks x) ] ]

pub put_name-old : (n z : ℕ) (ks : List ℕ) → Contains ks z → Contains (put_name n ks) z
put_name-old n z [] h = absurd (nowhere z h)
put_name-old n z (k ∷ ks) h = go (nat_lt n k) (n == k) (cases z k ks h) (λ i. put_name-old n z ks i)
  where
    go : (b c : Bool) → (z ≡ k) ⊎ Contains ks z → (Contains ks z → Contains (put_name n ks) z) → Contains (cond b (n ∷ k ∷ ks) (cond c (k ∷ ks) (k ∷ put_name n ks))) z
    go true c x ih = there z n (k ∷ ks) h
    go false true x ih = h
    go false false (inl e) ih = subst (λ w. Contains (w ∷ put_name n ks) z) e (here z (put_name n ks))
    go false false (inr i) ih = there z k (put_name n ks) (ih i)

pub put_name-new : (n : ℕ) (ks : List ℕ) → Contains (put_name n ks) n
put_name-new n [] = here n []
put_name-new n (k ∷ ks) = go (nat_lt n k) (n == k) refl (put_name-new n ks)
  where
    go : (b c : Bool) → (n == k) ≡ c → Contains (put_name n ks) n → Contains (cond b (n ∷ k ∷ ks) (cond c (k ∷ ks) (k ∷ put_name n ks))) n
    go true c e ih = here n (k ∷ ks)
    go false true e ih = subst (λ w. Contains (w ∷ ks) n) (eqb-true n k e) (here n ks)
    go false false e ih = there n k (put_name n ks) ih

put_name-rise : (n : ℕ) (ks : List ℕ) → IsRising nat_lt ks → IsRising nat_lt (put_name n ks)
put_name-rise n [] up = rising-cons nat_lt n [] (λ z h. absurd (nowhere z h)) up
put_name-rise n (k ∷ ks) up = go (nat_lt n k) (n == k) refl refl (put_name-rise n ks (rising-tail nat_lt k ks up))
  where
    above : (a b : ℕ) → nat_lt a b ≡ false → (a == b) ≡ false → nat_lt b a ≡ true
    above a b e f = grind (arith, nat_tests)

    go : (b c : Bool) → nat_lt n k ≡ b → (n == k) ≡ c → IsRising nat_lt (put_name n ks) → IsRising nat_lt (cond b (n ∷ k ∷ ks) (cond c (k ∷ ks) (k ∷ put_name n ks)))
    go true c e f ih = rising-cons nat_lt n (k ∷ ks) (λ z h. elim (cases z k ks h) [ inl x ↦ subst (λ w. nat_lt n w ≡ true) (sym x) e | inr i ↦ nat_lt-order.transitive n k z e (rising-head nat_lt k z ks up i) ]) up
    go false true e f ih = up
    go false false e f ih = rising-cons nat_lt k (put_name n ks) (λ z h. elim (put_name-cases n z ks h) [ inl x ↦ subst (λ w. nat_lt k w ≡ true) (sym x) (above n k e f) | inr i ↦ rising-head nat_lt k z ks up i ]) ih

pub risen-rise : (ns : List ℕ) → IsRising nat_lt (risen ns)
risen-rise [] = rising-nil nat_lt
risen-rise (n ∷ ns) = put_name-rise n (risen ns) (risen-rise ns)

pub risen-means : (ns : List ℕ) (z : ℕ) → Contains (risen ns) z → Contains ns z
risen-means [] z h = h
risen-means (n ∷ ns) z h = elim (put_name-cases n z (risen ns) h) [ inl e ↦ subst (λ w. Contains (w ∷ ns) z) e (here z ns) | inr i ↦ there z n ns (risen-means ns z i) ]

pub risen-has : (ns : List ℕ) (z : ℕ) → Contains ns z → Contains (risen ns) z
risen-has [] z h = h
risen-has (n ∷ ns) z h = elim (cases z n ns h) [ inl e ↦ subst (λ w. Contains (put_name w (risen ns)) z) e (put_name-new z (risen ns)) | inr i ↦ put_name-old n z (risen ns) (risen-has ns z i) ]

pub rising_names-different : (ns : List ℕ) → IsRising nat_lt ns → AreDifferent ns
rising_names-different [] up = tt
rising_names-different (n ∷ ns) up = ((λ z h e. no z (rising-head nat_lt n z ns up h) e), rising_names-different ns (rising-tail nat_lt n ns up))
  where
    no : (z : ℕ) → nat_lt n z ≡ true → n ≡ z → ⊥
    no z h e = grind (arith, nat_tests)

-- a name less
shorter : (x : ℕ) (ys : List ℕ) → Contains ys x → suc (length (filter (λ y. not (y == x)) ys)) ≤ length ys
shorter x [] h = absurd (nowhere x h)
shorter x (y ∷ ys) h = go (y == x) refl (cases x y ys h) (λ i. shorter x ys i)
  where
    at_most : (zs : List ℕ) → length (filter (λ z. not (z == x)) zs) ≤ length zs
    at_most [] = omega arith
    at_most (z ∷ zs) = step (z == x) (at_most zs)
      where
        step : (b : Bool) → length (filter (λ w. not (w == x)) zs) ≤ length zs → length (cond (not b) (z ∷ filter (λ w. not (w == x)) zs) (filter (λ w. not (w == x)) zs)) ≤ suc (length zs)
        step true ih = omega arith
        step false ih = omega arith

    differs : (a : ℕ) → (a == x) ≡ false → x ≡ a → ⊥
    differs a e f = grind (arith, nat_tests)

    go : (b : Bool) → (y == x) ≡ b → (x ≡ y) ⊎ Contains ys x → (Contains ys x → suc (length (filter (λ z. not (z == x)) ys)) ≤ length ys) → suc (length (cond (not b) (y ∷ filter (λ z. not (z == x)) ys) (filter (λ z. not (z == x)) ys))) ≤ suc (length ys)
    go true e c ih = let l = at_most ys in omega arith
    go false e (inl f) ih = absurd (differs y e f)
    go false e (inr i) ih = let l = ih i in omega arith

pub different-no_longer : (xs ys : List ℕ) → AreDifferent xs → ((x : ℕ) → Contains xs x → Contains ys x) → length xs ≤ length ys
different-no_longer [] ys d sub = omega arith
different-no_longer (x ∷ xs) ys d sub =
    let l = different-no_longer xs (filter (λ y. not (y == x)) ys) d.1 (λ z h. filter-in (λ y. not (y == x)) z ys (sub z (there z x xs h)) (apart z x (λ e. d.0 z h (sym e)))) in
    let k = shorter x ys (sub x (here x xs)) in
    omega (arith, l, k)
  where
    apart : (a b : ℕ) → a ≢ b → not (a == b) ≡ true
    apart a b h = grind (arith, nat_tests)
