-- What is kept of nodes.
use Rattle.std.proofs.Common.{◌≡◌, ◌≢◌, ℕ, zero, suc, ◌+◌, ◌<◌, Bool, true, false, cond, ◌==◌, List, [], ◌∷◌, ◌++◌, length, set, map, refl, sym, ap, ◌∙◌, subst, inl, inr, arith}
use Rattle.std.specs.Prelude.{slice_index_or, remove}
use Rattle.std.proofs.lemmas.Bool.{eqb-true, eqb-false}
use Rattle.pf_core_model.specs.declared.sharer.Sharer.{Sharer}
use Rattle.pf_core_model.specs.Lists.{In, times}
use Rattle.pf_locks.specs.declared.kept.Kept.{Kept}
use Rattle.pf_locks.specs.Lists.{names_in, first_place, look_in, slot_of, slots_of}

pub by_test : (b : Bool) (P : Type 0) → (b ≡ true → P) → (b ≡ false → P) → P
by_test true P hit miss = hit refl
by_test false P hit miss = miss refl

abbrev pub unit : Bool → ℕ
unit b = cond b 1 0

later : (n : ℕ) (k : Kept) (ks : List Kept) → k.node == n ≡ false → In n (names_in (k ∷ ks)) → In n (names_in ks)
later n k ks e (inl x) = absurd (eqb-false k.node n e (sym x))
later n k ks e (inr y) = y

swap : {A : Type 0} (a b : Bool) (x y z : A) → (a ≡ true → b ≡ true → ⊥) → cond a x (cond b y z) ≡ cond b y (cond a x z)
swap true true x y z no_both = absurd (no_both refl refl)
swap true false x y z no_both = refl
swap false true x y z no_both = refl
swap false false x y z no_both = refl

hides : {A : Type 0} (b : Bool) (x y z : A) → cond b x z ≡ cond b x (cond b y z)
hides true x y z = refl
hides false x y z = refl

-- the first place of a node that is kept
pub place_near : (n : ℕ) (ks : List Kept) → In n (names_in ks) → first_place ks n < length ks
place_near n [] h = absurd h
place_near n (k ∷ ks) h = by_test (k.node == n) (first_place (k ∷ ks) n < suc (length ks))
    (λ e. subst (λ (b : Bool). cond b zero (suc (first_place ks n)) < suc (length ks)) (sym e) (omega arith))
    (λ e. subst (λ (b : Bool). cond b zero (suc (first_place ks n)) < suc (length ks)) (sym e) (let r = place_near n ks (later n k ks e h) in omega arith))

module _ {A : Type 0} (f : Kept → A) (d : A) where
  -- the node that is kept stands there
  pub stands : (n : ℕ) (ks : List Kept) (x : Kept) → In n (names_in ks) → f (slice_index_or ks (first_place ks n) x) ≡ look_in f d ks n
  stands n [] x h = absurd h
  stands n (k ∷ ks) x h = by_test (k.node == n) (f (slice_index_or (k ∷ ks) (first_place (k ∷ ks) n) x) ≡ look_in f d (k ∷ ks) n)
      (λ e. subst (λ (b : Bool). f (slice_index_or (k ∷ ks) (cond b zero (suc (first_place ks n))) x) ≡ cond b (f k) (look_in f d ks n)) (sym e) refl)
      (λ e. subst (λ (b : Bool). f (slice_index_or (k ∷ ks) (cond b zero (suc (first_place ks n))) x) ≡ cond b (f k) (look_in f d ks n)) (sym e) (stands n ks x (later n k ks e h)))

  -- another in its place
  pub look_set : (n : ℕ) (ks : List Kept) (x : Kept) → x.node ≡ n → In n (names_in ks) → (q : ℕ) → look_in f d (set ks (first_place ks n) x) q ≡ cond (n == q) (f x) (look_in f d ks q)
  look_set n [] x is h q = absurd h
  look_set n (k ∷ ks) x is h q = by_test (k.node == n) (look_in f d (set (k ∷ ks) (first_place (k ∷ ks) n) x) q ≡ cond (n == q) (f x) (look_in f d (k ∷ ks) q))
      (λ e.
      subst (λ (b : Bool). look_in f d (set (k ∷ ks) (cond b zero (suc (first_place ks n))) x) q ≡ cond (n == q) (f x) (look_in f d (k ∷ ks) q)) (sym e)
      (ap (λ (y : ℕ). cond (y == q) (f x) (look_in f d ks q)) is ∙ hides (n == q) (f x) (f k) (look_in f d ks q)
      ∙ ap (λ (y : ℕ). cond (n == q) (f x) (cond (y == q) (f k) (look_in f d ks q))) (sym (eqb-true k.node n e))))
      (λ e.
      subst (λ (b : Bool). look_in f d (set (k ∷ ks) (cond b zero (suc (first_place ks n))) x) q ≡ cond (n == q) (f x) (look_in f d (k ∷ ks) q)) (sym e)
      (ap (λ (y : A). cond (k.node == q) (f k) y) (look_set n ks x is (later n k ks e h) q)
      ∙ swap (k.node == q) (n == q) (f k) (f x) (look_in f d ks q) (λ a b. eqb-false k.node n e (eqb-true k.node q a ∙ sym (eqb-true n q b)))))

  -- one more behind the others
  pub look_snoc : (ks : List Kept) (x : Kept) → (In x.node (names_in ks) → ⊥) → (q : ℕ) → look_in f d (ks ++ x ∷ []) q ≡ cond (x.node == q) (f x) (look_in f d ks q)
  look_snoc [] x away q = refl
  look_snoc (k ∷ ks) x away q =
      ap (λ (y : A). cond (k.node == q) (f k) y) (look_snoc ks x (λ h. away (inr h)) q)
      ∙ swap (k.node == q) (x.node == q) (f k) (f x) (look_in f d ks q) (λ a b. away (inl (eqb-true x.node q b ∙ sym (eqb-true k.node q a))))

  -- one less
  pub look_less : (n : ℕ) (ks : List Kept) → In n (names_in ks) → (q : ℕ) → q ≢ n → look_in f d (remove ks (first_place ks n)) q ≡ look_in f d ks q
  look_less n [] h q ne = absurd h
  look_less n (k ∷ ks) h q ne = by_test (k.node == n) (look_in f d (remove (k ∷ ks) (first_place (k ∷ ks) n)) q ≡ look_in f d (k ∷ ks) q)
      (λ e.
      subst (λ (b : Bool). look_in f d (remove (k ∷ ks) (cond b zero (suc (first_place ks n)))) q ≡ look_in f d (k ∷ ks) q) (sym e)
      (by_test (k.node == q) (look_in f d ks q ≡ look_in f d (k ∷ ks) q)
      (λ y. absurd (ne (sym (eqb-true k.node q y) ∙ eqb-true k.node n e)))
      (λ y. subst (λ (b : Bool). look_in f d ks q ≡ cond b (f k) (look_in f d ks q)) (sym y) refl)))
      (λ e.
      subst (λ (b : Bool). look_in f d (remove (k ∷ ks) (cond b zero (suc (first_place ks n)))) q ≡ look_in f d (k ∷ ks) q) (sym e)
      (ap (λ (y : A). cond (k.node == q) (f k) y) (look_less n ks (later n k ks e h) q ne)))

pub names_set : (n : ℕ) (ks : List Kept) (x : Kept) → x.node ≡ n → names_in (set ks (first_place ks n) x) ≡ names_in ks
names_set n [] x is = refl
names_set n (k ∷ ks) x is = by_test (k.node == n) (names_in (set (k ∷ ks) (first_place (k ∷ ks) n) x) ≡ names_in (k ∷ ks))
    (λ e. subst (λ (b : Bool). names_in (set (k ∷ ks) (cond b zero (suc (first_place ks n))) x) ≡ names_in (k ∷ ks)) (sym e) (ap (λ (y : ℕ). y ∷ names_in ks) (is ∙ sym (eqb-true k.node n e))))
    (λ e. subst (λ (b : Bool). names_in (set (k ∷ ks) (cond b zero (suc (first_place ks n))) x) ≡ names_in (k ∷ ks)) (sym e) (ap (λ (l : List ℕ). k.node ∷ l) (names_set n ks x is)))

abbrev slot_for : ℕ → ℕ × List Sharer
slot_for n = (n, [])

pub slots_by_names : (ks js : List Kept) → names_in ks ≡ names_in js → slots_of ks ≡ slots_of js
slots_by_names ks js e = by_names ks ∙ ap (λ (l : List ℕ). map slot_for l) e ∙ sym (by_names js)
  where
    by_names : (is : List Kept) → slots_of is ≡ map slot_for (names_in is)
    by_names [] = refl
    by_names (k ∷ ks) = ap (λ (l : List (ℕ × List Sharer)). slot_of k ∷ l) (by_names ks)

pub names_snoc : (ks : List Kept) (x : Kept) (q : ℕ) → times q (names_in (ks ++ x ∷ [])) ≡ times q (names_in ks) + unit (x.node == q)
names_snoc [] x q = omega arith
names_snoc (k ∷ ks) x q = let r = names_snoc ks x q in omega arith

pub slots_snoc : (ks : List Kept) (x : Kept) → slots_of (ks ++ x ∷ []) ≡ slots_of ks ++ (x.node, []) ∷ []
slots_snoc [] x = refl
slots_snoc (k ∷ ks) x = ap (λ (l : List (ℕ × List Sharer)). slot_of k ∷ l) (slots_snoc ks x)

pub names_less : (n : ℕ) (ks : List Kept) → In n (names_in ks) → (q : ℕ) → times q (names_in (remove ks (first_place ks n))) + unit (n == q) ≡ times q (names_in ks)
names_less n [] h q = absurd h
names_less n (k ∷ ks) h q = by_test (k.node == n) (times q (names_in (remove (k ∷ ks) (first_place (k ∷ ks) n))) + unit (n == q) ≡ times q (names_in (k ∷ ks)))
    (λ e.
    let z : unit (n == q) ≡ unit (k.node == q) = ap (λ (y : ℕ). unit (y == q)) (sym (eqb-true k.node n e)) in
    let w : times q (names_in ks) + unit (n == q) ≡ unit (k.node == q) + times q (names_in ks) = omega arith in
    subst (λ (b : Bool). times q (names_in (remove (k ∷ ks) (cond b zero (suc (first_place ks n))))) + unit (n == q) ≡ times q (names_in (k ∷ ks))) (sym e) w)
    (λ e.
    let r = names_less n ks (later n k ks e h) q in
    let w : unit (k.node == q) + times q (names_in (remove ks (first_place ks n))) + unit (n == q) ≡ unit (k.node == q) + times q (names_in ks) = omega arith in
    subst (λ (b : Bool). times q (names_in (remove (k ∷ ks) (cond b zero (suc (first_place ks n))))) + unit (n == q) ≡ times q (names_in (k ∷ ks))) (sym e) w)

pub shorter : (ks : List Kept) (i : ℕ) → i < length ks → length (remove ks i) + 1 ≡ length ks
shorter [] i h = absurd (omega arith)
shorter (k ∷ ks) zero h = omega arith
shorter (k ∷ ks) (suc i) h = let r = shorter ks i (omega arith) in omega arith

pub slots_less : (ks : List Kept) (i : ℕ) → slots_of (remove ks i) ≡ remove (slots_of ks) i
slots_less [] zero = refl
slots_less [] (suc i) = refl
slots_less (k ∷ ks) zero = refl
slots_less (k ∷ ks) (suc i) = ap (λ (l : List (ℕ × List Sharer)). slot_of k ∷ l) (slots_less ks i)

pub slot_at : (ks : List Kept) (i : ℕ) (x : Kept) → slice_index_or (slots_of ks) i (slot_of x) ≡ slot_of (slice_index_or ks i x)
slot_at [] i x = refl
slot_at (k ∷ ks) zero x = refl
slot_at (k ∷ ks) (suc i) x = slot_at ks i x
