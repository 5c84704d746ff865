-- A run round spokes: where it leaves none, the lefts are the rights but the first, and one last left. What starts and ends a path.
-- Assumes that no right and no left stands twice (`IsSimple`). The sum of rights less lefts telescopes (`sum`).
use Rattle.std.proofs.Common.{◌≡◌, ◌≢◌, ℕ, zero, suc, List, [], ◌∷◌, length, refl, sym, ◌∙◌, ap, subst, Bool, true, false, cond, ◌⊎◌, inl, inr, arith}
use Rattle.std.specs.Prelude.{Contains, not, Option, Some, None, ◌==◌, map, ℤ, pos, ◌+ℤ◌, ◌-ℤ◌}
use Rattle.std.specs.List.{list_any}
use Rattle.std.proofs.lemmas.Bool.Decides.{nat_tests}
use Rattle.pf_model.specs.Rising.{AreDifferent}
use Rattle.pf_model.specs.declared.Spoke.{Spoke}
use Rattle.pf_model.specs.Stars.{left_after, without_right, run_leaves, run_start, is_one_fan, path_start, path_end}
use Rattle.pf_model.proofs.Members.{nowhere, here, there, cases, filter-in, filter-out}
use Rattle.std.proofs.lemmas.Int.{ints}
use Rattle.std.proofs.lemmas.Bool.{cases_eq, eqb-false, eqb-true}
use Rattle.pf_model.specs.Sums.{total}
use Rattle.pf_model.proofs.Shares.{share, one_less, different-without}
use Rattle.pf_model.proofs.Kept.{any-from, any-means}

abbrev pub IsRight : List Spoke → ℕ → Type 0
IsRight ss w = (s : Spoke) × Contains ss s × (s.right ≡ w)

abbrev pub IsLeft : List Spoke → ℕ → Type 0
IsLeft ss w = (s : Spoke) × Contains ss s × (s.left ≡ w)

eq_itself : (a : ℕ) → (a == a) ≡ true
eq_itself a = grind (arith, nat_tests)

not_eq : (a b : ℕ) → a ≢ b → not (a == b) ≡ true
not_eq a b h = grind (arith, nat_tests)

not_eq_means : (a b : ℕ) → not (a == b) ≡ true → a ≢ b
not_eq_means a b h = grind (arith, nat_tests)

pub left_after-some : (ss : List Spoke) (r l : ℕ) → left_after ss r ≡ Some l → (s : Spoke) × Contains ss s × (s.right ≡ r) × (s.left ≡ l)
left_after-some [] r l h = absurd (let e : None ≡ Some l = h in cc)
left_after-some (s ∷ ss) r l h = go (s.right == r) refl h (λ e. left_after-some ss r l e)
  where
    some_same : Some s.left ≡ Some l → s.left ≡ l
    some_same e = cc

    go : (b : Bool) → (s.right == r) ≡ b → cond b (Some s.left) (left_after ss r) ≡ Some l → (left_after ss r ≡ Some l → (x : Spoke) × Contains ss x × (x.right ≡ r) × (x.left ≡ l)) → (x : Spoke) × Contains (s ∷ ss) x × (x.right ≡ r) × (x.left ≡ l)
    go true e f ih = (s, here s ss, eqb-true s.right r e, some_same f)
    go false e f ih = let x = ih f in (x.0, there x.0 s ss x.1, x.2, x.3)

pub left_after-none : (ss : List Spoke) (r : ℕ) → left_after ss r ≡ None → IsRight ss r → ⊥
left_after-none [] r h i = nowhere i.0 i.1
left_after-none (s ∷ ss) r h i = go (s.right == r) refl h (cases i.0 s ss i.1) (λ e k. left_after-none ss r e k)
  where
    go : (b : Bool) → (s.right == r) ≡ b → cond b (Some s.left) (left_after ss r) ≡ None → (i.0 ≡ s) ⊎ Contains ss i.0 → (left_after ss r ≡ None → IsRight ss r → ⊥) → ⊥
    go true e f c ih = let k : Some s.left ≡ None = f in absurd (cc)
    go false e f (inl x) ih = eqb-false s.right r e (ap (λ w. w.right) (sym x) ∙ i.2)
    go false e f (inr x) ih = ih f (i.0, x, i.2)

-- the lefts are the rights but r, and e
pub record IsRun (ss : List Spoke) (r : ℕ) : Type 0 where
  pub last : ℕ
  pub last_left : IsLeft ss last
  pub lefts : (w : ℕ) → IsLeft ss w → (IsRight ss w × (w ≢ r)) ⊎ (w ≡ last)
  pub rights : (w : ℕ) → IsRight ss w → w ≢ r → IsLeft ss w
  pub ends : IsRight ss last → last ≡ r
  pub sum : (h : ℕ → ℤ) → total (share h) ss ≡ h r -ℤ h last

is_more : (r : ℕ) (ss : List Spoke) (w : ℕ) → IsLeft (without_right r ss) w → IsLeft ss w
is_more r ss w h = (h.0, (filter-out (λ s. not (s.right == r)) h.0 ss h.1).0, h.2)

right_more : (r : ℕ) (ss : List Spoke) (w : ℕ) → IsRight (without_right r ss) w → IsRight ss w × (w ≢ r)
right_more r ss w h = let o = filter-out (λ s. not (s.right == r)) h.0 ss h.1 in ((h.0, o.0, h.2), λ e. not_eq_means h.0.right r o.1 (h.2 ∙ e))

right_less : (r : ℕ) (ss : List Spoke) (w : ℕ) → IsRight ss w → w ≢ r → IsRight (without_right r ss) w
right_less r ss w h n = (h.0, filter-in (λ s. not (s.right == r)) h.0 ss h.1 (not_eq h.0.right r (λ e. n (sym h.2 ∙ e))), h.2)

-- no right stands twice, and no left
pub record IsSimple (ss : List Spoke) : Type 0 where
  pub one_left : (s t : Spoke) → Contains ss s → Contains ss t → s.right ≡ t.right → s.left ≡ t.left
  pub one_right : (s t : Spoke) → Contains ss s → Contains ss t → s.left ≡ t.left → s.right ≡ t.right
  pub different : AreDifferent (map (λ s. s.right) ss)

pub simple_less : (r : ℕ) (ss : List Spoke) → IsSimple ss → IsSimple (without_right r ss)
simple_less r ss o =
    record {
      one_left = λ s t hs ht e. o.one_left s t (filter-out (λ s. not (s.right == r)) s ss hs).0 (filter-out (λ s. not (s.right == r)) t ss ht).0 e;
      one_right = λ s t hs ht e. o.one_right s t (filter-out (λ s. not (s.right == r)) s ss hs).0 (filter-out (λ s. not (s.right == r)) t ss ht).0 e;
      different = different-without r ss o.different;
    }

list_cases : (ss : List Spoke) → (ss ≡ []) ⊎ ((s : Spoke) × Contains ss s)
list_cases [] = inl refl
list_cases (s ∷ ss) = inr (s, here s ss)

pub run_is : (most : ℕ) (ss : List Spoke) (r : ℕ) → IsSimple ss → ((s : Spoke) × Contains ss s) → run_leaves most ss r ≡ [] → IsRun ss r
run_is zero ss r o some h = absurd (nowhere some.0 (subst (λ l. Contains l some.0) h some.1))
run_is (suc most) ss r o some h = go (left_after ss r) refl h (λ l more f. run_is most (without_right r ss) l (simple_less r ss o) more f)
  where
    rest : List Spoke
    rest = without_right r ss

    step : (l : ℕ) → (first : (s : Spoke) × Contains ss s × (s.right ≡ r) × (s.left ≡ l)) → (more : (s : Spoke) × Contains (without_right r ss) s) → left_after ss r ≡ Some l → run_leaves most (without_right r ss) l ≡ [] → IsRun (without_right r ss) l → IsRun ss r
    step l first more at' f ih =
        record {
          last = ih.last;
          last_left = is_more r ss ih.last ih.last_left;
          lefts = λ w h'. elim (split h'.0 h'.1) [ inl x ↦ inl (let e2 : l ≡ w = sym first.3 ∙ (sym x ∙ h'.2) in subst (λ k. IsRight ss k × (k ≢ r)) e2 (right_more r ss l (found (left_after (without_right r ss) l) refl))) | inr y ↦ left_of_rest w (ih.lefts w (h'.0, y, h'.2)) ];
          rights = λ w h' n. right_of_rest w (right_less r ss w h' n) (cases_eq w l);
          ends = λ i. elim (cases_eq ih.last r) [ inl e ↦ e | inr n ↦ absurd (no_ring (ih.ends (right_less r ss ih.last i n))) ];
          sum = λ h'. (let a = one_less h' ss r l o.different at' in let b = ih.sum h' in sums (total (share h') ss) (h' r) (h' l) (total (share h') (without_right r ss)) (h' ih.last) a b);
        }
      where
        split : (s : Spoke) → Contains ss s → (s.left ≡ first.0.left) ⊎ Contains (without_right r ss) s
        split s hs = elim (cases_eq s.right r) [ inl x ↦ inl (o.one_left s first.0 hs first.1 (x ∙ sym first.2)) | inr x ↦ inr (filter-in (λ t. not (t.right == r)) s ss hs (not_eq s.right r x)) ]

        no_ring : ih.last ≡ l → ⊥
        no_ring e =
            let s = ih.last_left in
            let out = filter-out (λ t. not (t.right == r)) s.0 ss s.1 in
            not_eq_means s.0.right r out.1 (o.one_right s.0 first.0 out.0 first.1 (s.2 ∙ (e ∙ sym first.3)) ∙ first.2)

        sums : (x y z w v : ℤ) → x ≡ (y -ℤ z) +ℤ w → w ≡ z -ℤ v → x ≡ y -ℤ v
        sums x y z w v a b = omega (arith, ints, a, b)

        stuck : (k : ℕ) → left_after (without_right r ss) l ≡ None → run_leaves k (without_right r ss) l ≡ [] → ⊥
        stuck zero e' g = nowhere more.0 (subst (λ x. Contains x more.0) g more.1)
        stuck (suc k) e' g =
            let next : Option ℕ → List Spoke = λ a. elim a [ None ↦ without_right r ss | Some n ↦ run_leaves k (without_right l (without_right r ss)) n ] in
            let here' : next (left_after (without_right r ss) l) ≡ next None = ap next e' in
            nowhere more.0 (subst (λ x. Contains x more.0) (sym here' ∙ g) more.1)

        found : (a : Option ℕ) → left_after (without_right r ss) l ≡ a → IsRight (without_right r ss) l
        found (Some k) e' = let x = left_after-some (without_right r ss) l k e' in (x.0, x.1, x.2)
        found None e' = absurd (stuck most e' f)

        left_of_rest : (w : ℕ) → (IsRight (without_right r ss) w × (w ≢ l)) ⊎ (w ≡ ih.last) → (IsRight ss w × (w ≢ r)) ⊎ (w ≡ ih.last)
        left_of_rest w (inl x) = inl (right_more r ss w x.0)
        left_of_rest w (inr x) = inr x

        right_of_rest : (w : ℕ) → IsRight (without_right r ss) w → (w ≡ l) ⊎ (w ≢ l) → IsLeft ss w
        right_of_rest w h' (inl x) = (first.0, first.1, first.3 ∙ sym x)
        right_of_rest w h' (inr x) = is_more r ss w (ih.rights w h' x)

    alone : (l : ℕ) → (s : Spoke) × Contains ss s × (s.right ≡ r) × (s.left ≡ l) → left_after ss r ≡ Some l → without_right r ss ≡ [] → IsRun ss r
    alone l first at' none =
        record {
          last = l;
          last_left = (first.0, first.1, first.3);
          lefts = λ w h'. elim (split h'.0 h'.1) [ inl x ↦ inr (sym h'.2 ∙ (x ∙ first.3)) | inr y ↦ absurd (nowhere h'.0 (subst (λ k. Contains k h'.0) none y)) ];
          rights = λ w h' n. absurd (let y = right_less r ss w h' n in nowhere y.0 (subst (λ k. Contains k y.0) none y.1));
          ends = λ i. elim (cases_eq l r) [ inl e ↦ e | inr n ↦ absurd (let y = right_less r ss l i n in nowhere y.0 (subst (λ k. Contains k y.0) none y.1)) ];
          sum = λ h'. (let a = one_less h' ss r l o.different at' in let b : total (share h') (without_right r ss) ≡ pos 0 = ap (total (share h')) none in sums (total (share h') ss) (h' r) (h' l) (total (share h') (without_right r ss)) a b);
        }
      where
        sums : (x y z w : ℤ) → x ≡ (y -ℤ z) +ℤ w → w ≡ pos 0 → x ≡ y -ℤ z
        sums x y z w a b = omega (arith, ints, a, b)

        split : (s : Spoke) → Contains ss s → (s.left ≡ first.0.left) ⊎ Contains (without_right r ss) s
        split s hs = elim (cases_eq s.right r) [ inl x ↦ inl (o.one_left s first.0 hs first.1 (x ∙ sym first.2)) | inr x ↦ inr (filter-in (λ t. not (t.right == r)) s ss hs (not_eq s.right r x)) ]

    go : (a : Option ℕ) → left_after ss r ≡ a → (let left : List Spoke = elim a [ None ↦ ss | Some next ↦ run_leaves most (without_right r ss) next ] in left ≡ []) → ((l : ℕ) → (s : Spoke) × Contains (without_right r ss) s → run_leaves most (without_right r ss) l ≡ [] → IsRun (without_right r ss) l) → IsRun ss r
    go None e f ih = absurd (nowhere some.0 (subst (λ l. Contains l some.0) f some.1))
    go (Some l) e f ih = elim (list_cases (without_right r ss)) [ inl none ↦ alone l (left_after-some ss r l e) e none | inr more ↦ step l (left_after-some ss r l e) more e f (ih l more f) ]

pub empty_by_length : (ss : List Spoke) → (length ss == 0) ≡ true → ss ≡ []
empty_by_length [] h = refl
empty_by_length (s ∷ ss) h = absurd (let e : suc (length ss) ≡ 0 = eqb-true (suc (length ss)) 0 h in omega arith)

pub one_fan-run : (ss : List Spoke) → IsSimple ss → ((s : Spoke) × Contains ss s) → is_one_fan ss ≡ true → IsRun ss (run_start ss)
one_fan-run ss o some h = run_is (length ss) ss (run_start ss) o some (empty_by_length (run_leaves (length ss) ss (run_start ss)) h)

-- a path's start and end
pub path_start-some : (ss all : List Spoke) (p : ℕ) → path_start ss all ≡ Some p → IsRight ss p × (IsLeft all p → ⊥)
path_start-some [] all p h = absurd (let e : None ≡ Some p = h in cc)
path_start-some (s ∷ ss) all p h = go (list_any (λ r. r.left == s.right) all) refl h (λ e. path_start-some ss all p e)
  where
    some_same : Some s.right ≡ Some p → s.right ≡ p
    some_same e = cc

    go : (b : Bool) → list_any (λ r. r.left == s.right) all ≡ b → cond b (path_start ss all) (Some s.right) ≡ Some p → (path_start ss all ≡ Some p → IsRight ss p × (IsLeft all p → ⊥)) → IsRight (s ∷ ss) p × (IsLeft all p → ⊥)
    go true e f ih = let x = ih f in ((x.0.0, there x.0.0 s ss x.0.1, x.0.2), x.1)
    go false e f ih = ((s, here s ss, some_same f), λ l. let k = any-from (λ r. r.left == s.right) l.0 all l.1 (subst (λ w. (w == s.right) ≡ true) (some_same f ∙ sym l.2) (eq_itself s.right)) in let z : true ≡ false = sym k ∙ e in absurd (cc))

pub path_start-none : (ss all : List Spoke) → path_start ss all ≡ None → (w : ℕ) → IsRight ss w → IsLeft all w
path_start-none [] all h w i = absurd (nowhere i.0 i.1)
path_start-none (s ∷ ss) all h w i = go (list_any (λ r. r.left == s.right) all) refl h (cases i.0 s ss i.1) (λ e k. path_start-none ss all e w k)
  where
    go : (b : Bool) → list_any (λ r. r.left == s.right) all ≡ b → cond b (path_start ss all) (Some s.right) ≡ None → (i.0 ≡ s) ⊎ Contains ss i.0 → (path_start ss all ≡ None → IsRight ss w → IsLeft all w) → IsLeft all w
    go true e f (inl x) ih = let k = any-means (λ r. r.left == s.right) all e in (k.0, k.1, eqb-true k.0.left s.right k.2 ∙ (ap (λ t. t.right) (sym x) ∙ i.2))
    go true e f (inr x) ih = ih f (i.0, x, i.2)
    go false e f c ih = absurd (let z : Some s.right ≡ None = f in cc)

pub path_end-some : (ss all : List Spoke) (q : ℕ) → path_end ss all ≡ Some q → IsLeft ss q × (IsRight all q → ⊥)
path_end-some [] all q h = absurd (let e : None ≡ Some q = h in cc)
path_end-some (s ∷ ss) all q h = go (list_any (λ r. r.right == s.left) all) refl h (λ e. path_end-some ss all q e)
  where
    some_same : Some s.left ≡ Some q → s.left ≡ q
    some_same e = cc

    go : (b : Bool) → list_any (λ r. r.right == s.left) all ≡ b → cond b (path_end ss all) (Some s.left) ≡ Some q → (path_end ss all ≡ Some q → IsLeft ss q × (IsRight all q → ⊥)) → IsLeft (s ∷ ss) q × (IsRight all q → ⊥)
    go true e f ih = let x = ih f in ((x.0.0, there x.0.0 s ss x.0.1, x.0.2), x.1)
    go false e f ih = ((s, here s ss, some_same f), λ l. let k = any-from (λ r. r.right == s.left) l.0 all l.1 (subst (λ w. (w == s.left) ≡ true) (some_same f ∙ sym l.2) (eq_itself s.left)) in let z : true ≡ false = sym k ∙ e in absurd (cc))

pub path_end-none : (ss all : List Spoke) → path_end ss all ≡ None → (w : ℕ) → IsLeft ss w → IsRight all w
path_end-none [] all h w i = absurd (nowhere i.0 i.1)
path_end-none (s ∷ ss) all h w i = go (list_any (λ r. r.right == s.left) all) refl h (cases i.0 s ss i.1) (λ e k. path_end-none ss all e w k)
  where
    go : (b : Bool) → list_any (λ r. r.right == s.left) all ≡ b → cond b (path_end ss all) (Some s.left) ≡ None → (i.0 ≡ s) ⊎ Contains ss i.0 → (path_end ss all ≡ None → IsLeft ss w → IsRight all w) → IsRight all w
    go true e f (inl x) ih = let k = any-means (λ r. r.right == s.left) all e in (k.0, k.1, eqb-true k.0.right s.left k.2 ∙ (ap (λ t. t.left) (sym x) ∙ i.2))
    go true e f (inr x) ih = ih f (i.0, x, i.2)
    go false e f c ih = absurd (let z : Some s.left ≡ None = f in cc)
