-- Lists of spokes: where one belongs by right, members by right, and how much of a rising list another one has.
use Rattle.std.proofs.Common.{◌≡◌, ◌≢◌, ℕ, zero, suc, ◌<◌, ◌≤◌, List, [], ◌∷◌, length, get_or, refl, sym, ◌∙◌, ap, subst, Bool, true, false, cond, ◌⊎◌, inl, inr, arith, ◌==◌}
use Rattle.std.specs.Prelude.{Contains, insert, nat_lt}
use Rattle.std.proofs.lemmas.Bool.Decides.{nat_tests}
use Rattle.pf_model.specs.declared.Spoke.{Spoke}
use Rattle.pf_model.specs.Rising.{IsRising, insert_by}
use Rattle.pf_model.specs.Stars.{spoke_lt}
use Rattle.pf_model.proofs.Members.{nowhere, here, there, cases, insert_by-old, insert_by-cases}
use Rattle.pf_model.proofs.RisingLemmas.{IsStrictOrder, rising-head, rising-tail, rising-insert_by}
use Rattle.pf_model.proofs.Kept.{any-from, any-means}
use Rattle.pf_rules.specs.Star.{AreSomeOf}
use Rattle.pf_spokes.specs.Spokes.{has_right}

-- a spoke is put before the first that it is below
pub insert-place : (s : Spoke) (ss : List Spoke) (r : ℕ) → r ≤ length ss → ((k : ℕ) (d : Spoke) → k < r → spoke_lt s (get_or ss k d) ≡ false) → (r ≡ length ss) ⊎ ((d : Spoke) → spoke_lt s (get_or ss r d) ≡ true) → insert ss r s ≡ insert_by spoke_lt s ss
insert-place s [] r within before at = let e : r ≡ 0 = omega arith in rw e refl
insert-place s (x ∷ xs) zero within before (inl e) = absurd (let k : 0 ≡ suc (length xs) = e in omega arith)
insert-place s (x ∷ xs) zero within before (inr e) = sym (ap (λ b. cond b (s ∷ x ∷ xs) (x ∷ insert_by spoke_lt s xs)) (e x))
insert-place s (x ∷ xs) (suc r) within before at =
    ap (λ l. x ∷ l) (insert-place s xs r (let w : suc r ≤ suc (length xs) = within in omega arith) (λ k d l. before (suc k) d (omega arith)) (next at))
    ∙ sym (ap (λ b. cond b (s ∷ x ∷ xs) (x ∷ insert_by spoke_lt s xs)) (before 0 x (omega arith)))
  where
    next : (suc r ≡ suc (length xs)) ⊎ ((d : Spoke) → spoke_lt s (get_or xs r d) ≡ true) → (r ≡ length xs) ⊎ ((d : Spoke) → spoke_lt s (get_or xs r d) ≡ true)
    next (inl e) = inl (omega arith)
    next (inr e) = inr e

pub eq_holds : (a b : ℕ) → (a == b) ≡ true → a ≡ b
eq_holds a b h = grind (arith, nat_tests)

pub eq_test : (a b : ℕ) → a ≡ b → (a == b) ≡ true
eq_test a b h = grind (arith, nat_tests)

pub apart : (b : Bool) → b ≡ true → b ≡ false → ⊥
apart b e f = let k : true ≡ false = sym e ∙ f in absurd (cc)

pub bool_cases : (b : Bool) → (b ≡ true) ⊎ (b ≡ false)
bool_cases true = inl refl
bool_cases false = inr refl

-- members by right
pub right-in : (n : ℕ) (ss : List Spoke) (s : Spoke) → Contains ss s → s.right ≡ n → has_right n ss ≡ true
right-in n ss s h e = any-from (λ r. r.right == n) s ss h (eq_test s.right n e)

pub right-means : (n : ℕ) (ss : List Spoke) → has_right n ss ≡ true → (s : Spoke) × Contains ss s × (s.right ≡ n)
right-means n ss h = let r = any-means (λ r. r.right == n) ss h in (r.0, r.1, eq_holds r.0.right n r.2)

-- after one more
pub right-more : (n : ℕ) (s : Spoke) (ss : List Spoke) → has_right n ss ≡ true → has_right n (insert_by spoke_lt s ss) ≡ true
right-more n s ss h = let r = right-means n ss h in right-in n (insert_by spoke_lt s ss) r.0 (insert_by-old spoke_lt s r.0 ss r.1) r.2

pub spoke_order : IsStrictOrder spoke_lt
spoke_order = record { irreflexive = λ x. not_below x.right; transitive = λ x y z h k. below x.right y.right z.right h k }
  where
    not_below : (a : ℕ) → nat_lt a a ≡ false
    not_below a = grind (arith, nat_tests)

    below : (a b c : ℕ) → nat_lt a b ≡ true → nat_lt b c ≡ true → nat_lt a c ≡ true
    below a b c h k = grind (arith, nat_tests)

pub rising-new : (s : Spoke) (ss : List Spoke) → IsRising spoke_lt ss → has_right s.right ss ≡ false → IsRising spoke_lt (insert_by spoke_lt s ss)
rising-new s ss up bare = rising-insert_by spoke_lt spoke_order s ss (λ z h. compare s.right z.right (λ e. apart _ (right-in s.right ss z h (sym e)) bare)) up
  where
    compare : (a b : ℕ) → a ≢ b → (nat_lt a b ≡ true) ⊎ (nat_lt b a ≡ true)
    compare a b n = grind (arith, nat_tests)

pub part-more : (spokes found : List Spoke) (s : Spoke) → AreSomeOf spokes found → Contains spokes s → has_right s.right found ≡ false → AreSomeOf spokes (insert_by spoke_lt s found)
part-more spokes found s p h bare =
    record {
      rise = rising-new s found p.rise bare;
      within = λ r k. elim (insert_by-cases spoke_lt s r found k) [ inl e ↦ subst (λ w. Contains spokes w) (sym e) h | inr i ↦ p.within r i ];
    }

-- a rising list whose members are all in another one is that list, or is shorter
pub part-length : (found spokes : List Spoke) → IsRising spoke_lt found → IsRising spoke_lt spokes → ((s : Spoke) → Contains found s → Contains spokes s) → (found ≡ spokes) ⊎ (length found < length spokes)
part-length [] [] upx upy within = inl refl
part-length (x ∷ xs) [] upx upy within = absurd (nowhere x (within x (here x xs)))
part-length [] (y ∷ ys) upx upy within = inr (omega arith)
part-length (x ∷ xs) (y ∷ ys) upx upy within = go (cases x y ys (within x (here x xs))) (λ w. part-length xs ys (rising-tail spoke_lt x xs upx) (rising-tail spoke_lt y ys upy) w) (λ w. part-length (x ∷ xs) ys upx (rising-tail spoke_lt y ys upy) w)
  where
    not_itself : (a : Spoke) → spoke_lt a a ≡ true → ⊥
    not_itself a e = apart _ e (spoke_order.irreflexive a)

    go : (x ≡ y) ⊎ Contains ys x → (((s : Spoke) → Contains xs s → Contains ys s) → (xs ≡ ys) ⊎ (length xs < length ys)) → (((s : Spoke) → Contains (x ∷ xs) s → Contains ys s) → (x ∷ xs ≡ ys) ⊎ (length (x ∷ xs) < length ys)) → (x ∷ xs ≡ y ∷ ys) ⊎ (length (x ∷ xs) < length (y ∷ ys))
    go (inl e) same less = elim (same rest) [ inl q ↦ inl (cons e q) | inr l ↦ inr (omega arith) ]
      where
        cons : x ≡ y → xs ≡ ys → x ∷ xs ≡ y ∷ ys
        cons a b = λ i. a i ∷ b i

        rest : (s : Spoke) → Contains xs s → Contains ys s
        rest s h = elim (cases s y ys (within s (there s x xs h))) [ inl q ↦ absurd (not_itself y (subst (λ w. spoke_lt y w ≡ true) q (subst (λ w. spoke_lt w s ≡ true) e (rising-head spoke_lt x s xs upx h)))) | inr r ↦ r ]
    go (inr i) same less = elim (less all) [ inl q ↦ inr (let k : length (x ∷ xs) ≡ length ys = ap length q in omega arith) | inr l ↦ inr (omega arith) ]
      where
        all : (s : Spoke) → Contains (x ∷ xs) s → Contains ys s
        all s h = elim (cases s x xs h) [
          | inl q ↦ subst (λ w. Contains ys w) (sym q) i
          | inr r ↦ elim (cases s y ys (within s h)) [
            | inl q ↦ absurd (not_itself x (spoke_order.transitive x s x (rising-head spoke_lt x s xs upx r) (subst (λ w. spoke_lt w x ≡ true) (sym q) (rising-head spoke_lt y x ys upy i))))
            | inr k ↦ k
          ]
        ]

-- two spokes of a rising list with the same right are one
pub rising-one : (ss : List Spoke) → IsRising spoke_lt ss → (a b : Spoke) → Contains ss a → Contains ss b → a.right ≡ b.right → a ≡ b
rising-one [] up a b h k e = absurd (nowhere a h)
rising-one (x ∷ xs) up a b h k e = go (cases a x xs h) (cases b x xs k) (λ i j. rising-one xs (rising-tail spoke_lt x xs up) a b i j e)
  where
    clash : (m n : ℕ) → nat_lt m n ≡ true → m ≡ n → ⊥
    clash m n l q = grind (arith, nat_tests)

    go : (a ≡ x) ⊎ Contains xs a → (b ≡ x) ⊎ Contains xs b → (Contains xs a → Contains xs b → a ≡ b) → a ≡ b
    go (inl p) (inl q) ih = p ∙ sym q
    go (inl p) (inr j) ih = absurd (clash x.right b.right (rising-head spoke_lt x b xs up j) (ap (λ w. w.right) (sym p) ∙ e))
    go (inr i) (inl q) ih = absurd (clash x.right a.right (rising-head spoke_lt x a xs up i) (ap (λ w. w.right) (sym q) ∙ sym e))
    go (inr i) (inr j) ih = ih i j
