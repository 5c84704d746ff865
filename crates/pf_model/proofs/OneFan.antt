-- A run round the spokes leaves none exactly where they are one fan: one cycle or one path.
-- Assumes that no right and no left stands twice (`IsSimple`).
use Rattle.std.proofs.Common.{◌≡◌, ◌≢◌, ℕ, zero, suc, ◌≤◌, List, [], ◌∷◌, ◌++◌, length, refl, sym, ◌∙◌, ap, subst, true, false, ◌⊎◌, inl, inr, arith}
use Rattle.std.specs.Prelude.{Contains, not, Option, Some, None, ◌==◌, map}
use Rattle.std.proofs.lemmas.Bool.Decides.{nat_tests}
use Rattle.std.proofs.lemmas.List.Elements.{Contains-append_cases, Contains-append_left, Contains-append_right}
use Rattle.std.proofs.lemmas.Bool.{cases_eq}
use Rattle.pf_model.specs.declared.Spoke.{Spoke}
use Rattle.pf_model.specs.Rising.{AreDifferent}
use Rattle.pf_model.specs.Stars.{left_after, without_right, run_leaves, run_start, is_one_fan, path_start}
use Rattle.pf_model.specs.Fans.{AreBeside, IsOrderOf, IsOneFan}
use Rattle.pf_model.proofs.Members.{nowhere, here, there, cases, filter-in, filter-out}
use Rattle.pf_model.proofs.Counts.{count_fewer}
use Rattle.pf_model.proofs.Totals.{map-in, different-append}
use Rattle.pf_model.proofs.Fans.{IsRight, IsLeft, IsSimple, simple_less, empty_by_length, left_after-some, left_after-none, path_start-some, path_start-none}

not_eq : (a b : ℕ) → a ≢ b → not (a == b) ≡ true
not_eq a b h = grind (arith, nat_tests)

eq_not : (a b : ℕ) → a ≡ b → not (a == b) ≡ false
eq_not a b h = grind (arith, nat_tests)

not_eq_means : (a b : ℕ) → not (a == b) ≡ true → a ≢ b
not_eq_means a b h = grind (arith, nat_tests)

-- a spoke is known by its right
pub same_spoke : (ss : List Spoke) (s t : Spoke) → AreDifferent (map (λ r. r.right) ss) → Contains ss s → Contains ss t → s.right ≡ t.right → s ≡ t
same_spoke [] s t d hs ht e = absurd (nowhere s hs)
same_spoke (x ∷ xs) s t d hs ht e = go (cases s x xs hs) (cases t x xs ht) (λ a b. same_spoke xs s t d.1 a b e)
  where
    rights : List ℕ
    rights = map (λ r. r.right) xs

    go : (s ≡ x) ⊎ Contains xs s → (t ≡ x) ⊎ Contains xs t → (Contains xs s → Contains xs t → s ≡ t) → s ≡ t
    go (inl a) (inl b) ih = a ∙ sym b
    go (inl a) (inr b) ih = absurd (d.0 t.right (map-in (λ r. r.right) xs t b) (ap (λ w. w.right) (sym a) ∙ e))
    go (inr a) (inl b) ih = absurd (d.0 s.right (map-in (λ r. r.right) xs s a) (ap (λ w. w.right) (sym b) ∙ sym e))
    go (inr a) (inr b) ih = ih a b

left_after-found : (ss : List Spoke) → IsSimple ss → (s : Spoke) (r : ℕ) → Contains ss s → s.right ≡ r → left_after ss r ≡ Some s.left
left_after-found ss o s r h e = go (left_after ss r) refl
  where
    go : (a : Option ℕ) → left_after ss r ≡ a → left_after ss r ≡ Some s.left
    go None f = absurd (left_after-none ss r f (s, h, e))
    go (Some l) f = let x = left_after-some ss r l f in f ∙ ap (λ w. Some w) (sym x.3 ∙ o.one_left x.0 s x.1 h (x.2 ∙ sym e))

-- no spoke is in an order of no spokes
order_of_none : (order : List Spoke) → IsOrderOf order [] → order ≡ []
order_of_none [] h = refl
order_of_none (s ∷ ss) h = absurd (nowhere s (h.only s (here s ss)))

none_ordered : (ss : List Spoke) → IsOrderOf [] ss → ss ≡ []
none_ordered [] h = refl
none_ordered (s ∷ ss) h = absurd (nowhere s (h.all s (here s ss)))

-- the order of the others, once the first is taken out
order_less : (s : Spoke) (order ss : List Spoke) → IsSimple ss → IsOrderOf (s ∷ order) ss → IsOrderOf order (without_right s.right ss)
order_less s order ss o h =
    record {
      all = λ t c. (let x = filter-out (λ r. not (r.right == s.right)) t ss c in elim (cases t s order (h.all t x.0)) [ inl e ↦ absurd (not_eq_means t.right s.right x.1 (ap (λ w. w.right) e)) | inr k ↦ k ]);
      only = λ t c. (let x = h.only t (there t s order c) in filter-in (λ r. not (r.right == s.right)) t ss x (not_eq t.right s.right (λ e. h.once.0 t c (same_spoke ss s t o.different (h.only s (here s order)) x (sym e)))));
      once = h.once.1;
    }

-- spokes that lie beside each other are all passed by a run
run_passes : (most : ℕ) (order ss : List Spoke) (r last : ℕ) → length ss ≤ most → IsSimple ss → IsOrderOf order ss → AreBeside r order last → run_leaves most ss r ≡ []
run_passes zero order ss r last few o h b = empty_by_length ss (no_length (length ss) few)
  where
    no_length : (n : ℕ) → n ≤ 0 → (n == 0) ≡ true
    no_length n k = grind (arith, nat_tests)
run_passes (suc most) [] ss r last few o h b = subst (λ w. run_leaves (suc most) w r ≡ []) (sym (none_ordered ss h)) refl
run_passes (suc most) (s ∷ order) ss r last few o h b =
    let found = left_after-found ss o s r (h.only s (here s order)) b.0 in
    let less : IsOrderOf order (without_right r ss) = subst (λ w. IsOrderOf order (without_right w ss)) b.0 (order_less s order ss o h) in
    let taken : not (s.right == r) ≡ false = eq_not s.right r b.0 in
    let fewer : length (without_right r ss) ≤ most = (let k = count_fewer (λ w. not (w.right == r)) ss s (h.only s (here s order)) taken in omega (arith, k, few)) in
    next (left_after ss r) found (run_passes most order (without_right r ss) s.left last fewer (simple_less r ss o) less b.1)
  where
    next : (a : Option ℕ) → a ≡ Some s.left → run_leaves most (without_right r ss) s.left ≡ [] → (let left : List Spoke = elim a [ None ↦ ss | Some l ↦ run_leaves most (without_right r ss) l ] in left ≡ [])
    next None e k = absurd (let z : None ≡ Some s.left = e in cc)
    next (Some l) e k = let same : l ≡ s.left = cc in subst (λ w. run_leaves most (without_right r ss) w ≡ []) (sym same) k

-- what a run passes that leaves none
record IsPassed (ss : List Spoke) (r : ℕ) : Type 0 where
  order : List Spoke
  orders : IsOrderOf order ss
  last : ℕ
  beside : AreBeside r order last

passed_none : (ss : List Spoke) (r : ℕ) → ss ≡ [] → IsPassed ss r
passed_none ss r e = subst (λ w. IsPassed w r) (sym e) record { order = []; orders = record { all = λ s h. h; only = λ s h. h; once = tt }; last = r; beside = refl }

passed_more : (ss : List Spoke) (r l : ℕ) → IsSimple ss → (s : Spoke) → Contains ss s → s.right ≡ r → s.left ≡ l → IsPassed (without_right r ss) l → IsPassed ss r
passed_more ss r l o s h er el p =
    record {
      order = s ∷ p.order;
      orders = record { all = all; only = only; once = ((λ t c e. not_eq_means t.right r (filter-out (λ w. not (w.right == r)) t ss (p.orders.only t c)).1 (ap (λ w. w.right) (sym e) ∙ er)), p.orders.once) };
      last = p.last;
      beside = (er, subst (λ w. AreBeside w p.order p.last) (sym el) p.beside);
    }
  where
    all : (t : Spoke) → Contains ss t → Contains (s ∷ p.order) t
    all t c = elim (cases_eq t.right r) [ inl e ↦ subst (λ w. Contains (w ∷ p.order) t) (same_spoke ss t s o.different c h (e ∙ sym er)) (here t p.order) | inr n ↦ there t s p.order (p.orders.all t (filter-in (λ w. not (w.right == r)) t ss c (not_eq t.right r n))) ]

    only : (t : Spoke) → Contains (s ∷ p.order) t → Contains ss t
    only t c = elim (cases t s p.order c) [ inl e ↦ subst (λ w. Contains ss w) (sym e) h | inr k ↦ (filter-out (λ w. not (w.right == r)) t ss (p.orders.only t k)).0 ]

run_passed : (most : ℕ) (ss : List Spoke) (r : ℕ) → IsSimple ss → run_leaves most ss r ≡ [] → IsPassed ss r
run_passed zero ss r o h = passed_none ss r h
run_passed (suc most) ss r o h = go (left_after ss r) refl h (λ l k. run_passed most (without_right r ss) l (simple_less r ss o) k)
  where
    go : (a : Option ℕ) → left_after ss r ≡ a → (let left : List Spoke = elim a [ None ↦ ss | Some next ↦ run_leaves most (without_right r ss) next ] in left ≡ []) → ((l : ℕ) → run_leaves most (without_right r ss) l ≡ [] → IsPassed (without_right r ss) l) → IsPassed ss r
    go None e k ih = passed_none ss r k
    go (Some l) e k ih = let x = left_after-some ss r l e in passed_more ss r l o x.0 x.1 x.2 x.3 (ih l k)

-- the left of each is the right of a later one, or the last left
pub beside_next : (order : List Spoke) (r last : ℕ) (s : Spoke) → AreBeside r (s ∷ order) last → (t : Spoke) → Contains (s ∷ order) t → (t.left ≡ last) ⊎ ((u : Spoke) × Contains order u × (u.right ≡ t.left))
beside_next [] r last s b t c = elim (cases t s [] c) [ inl e ↦ inl (ap (λ w. w.left) e ∙ b.1) | inr k ↦ absurd (nowhere t k) ]
beside_next (x ∷ order) r last s b t c = go (cases t s (x ∷ order) c) (λ k. beside_next order s.left last x b.1 t k)
  where
    go : (t ≡ s) ⊎ Contains (x ∷ order) t → (Contains (x ∷ order) t → (t.left ≡ last) ⊎ ((u : Spoke) × Contains order u × (u.right ≡ t.left))) → (t.left ≡ last) ⊎ ((u : Spoke) × Contains (x ∷ order) u × (u.right ≡ t.left))
    go (inl e) ih = inr (x, here x order, b.1.0 ∙ ap (λ w. w.left) (sym e))
    go (inr k) ih = elim (ih k) [ inl a ↦ inl a | inr u ↦ inr (u.0, there u.0 x order u.1, u.2) ]

-- where the first right is a left, it is the last left
pub cycle_closes : (order ss : List Spoke) (r last : ℕ) → IsSimple ss → IsOrderOf order ss → AreBeside r order last → (t : Spoke) → Contains ss t → t.left ≡ r → last ≡ r
cycle_closes [] ss r last o h b t c e = absurd (nowhere t (h.all t c))
cycle_closes (s ∷ order) ss r last o h b t c e =
    elim (beside_next order r last s b t (h.all t c)) [
      | inl a ↦ sym a ∙ e
      | inr u ↦ absurd (h.once.0 u.0 u.1 (same_spoke ss s u.0 o.different (h.only s (here s order)) (h.only u.0 (there u.0 s order u.1)) (b.0 ∙ sym (u.2 ∙ e))))
    ]

-- the last left is the left of one of them
pub beside_last : (order : List Spoke) (r last : ℕ) (s : Spoke) → AreBeside r (s ∷ order) last → IsLeft (s ∷ order) last
beside_last [] r last s b = (s, here s [], b.1)
beside_last (x ∷ order) r last s b = let l = beside_last order s.left last x b.1 in (l.0, there l.0 s (x ∷ order) l.1, l.2)

-- where the last left is a right, it is the first right
pub cycle_ends : (order ss : List Spoke) (r last : ℕ) → IsSimple ss → IsOrderOf order ss → AreBeside r order last → (t : Spoke) → Contains order t → t.right ≡ last → last ≡ r
cycle_ends [] ss r last o h b t c e = absurd (nowhere t c)
cycle_ends (s ∷ order) ss r last o h b t c e =
    elim (cases t s order c) [
      | inl q ↦ sym e ∙ (ap (λ w. w.right) q ∙ b.0)
      | inr k ↦ absurd (within order h b.1 k (cycle_ends order (without_right s.right ss) s.left last (simple_less s.right ss o) (order_less s order ss o h) b.1 t k e))
    ]
  where
    within : (more : List Spoke) → IsOrderOf (s ∷ more) ss → AreBeside s.left more last → Contains more t → last ≡ s.left → ⊥
    within [] h b k q = nowhere t k
    within (x ∷ more) h b k q =
        let l = beside_last more s.left last x b in
        h.once.0 l.0 l.1 (same_spoke ss s l.0 o.different (h.only s (here s (x ∷ more))) (h.only l.0 (there l.0 s (x ∷ more) l.1)) (o.one_right s l.0 (h.only s (here s (x ∷ more))) (h.only l.0 (there l.0 s (x ∷ more) l.1)) (sym (l.2 ∙ q))))

fan_shape : (ss : List Spoke) → IsSimple ss → (p : IsPassed ss (run_start ss)) → (p.last ≡ run_start ss) ⊎ ((s : Spoke) → Contains ss s → s.left ≢ run_start ss)
fan_shape [] o p = inr (λ s h. absurd (nowhere s h))
fan_shape (s ∷ ss) o p = go (path_start (s ∷ ss) (s ∷ ss)) refl p
  where
    go : (a : Option ℕ) → path_start (s ∷ ss) (s ∷ ss) ≡ a → (q : IsPassed (s ∷ ss) (elim a [ None ↦ s.right | Some n ↦ n ])) → (q.last ≡ elim a [ None ↦ s.right | Some n ↦ n ]) ⊎ ((t : Spoke) → Contains (s ∷ ss) t → t.left ≢ elim a [ None ↦ s.right | Some n ↦ n ])
    go (Some n) e q = inr (λ t h k. (path_start-some (s ∷ ss) (s ∷ ss) n e).1 (t, h, k))
    go None e q = let l = path_start-none (s ∷ ss) (s ∷ ss) e s.right (s, here s ss, refl) in inl (cycle_closes q.order (s ∷ ss) s.right q.last o q.orders q.beside l.0 l.1 l.2)

-- what a run leaves none of is one fan
pub one_fan-means : (ss : List Spoke) → IsSimple ss → is_one_fan ss ≡ true → IsOneFan ss
one_fan-means ss o h =
    let p = run_passed (length ss) ss (run_start ss) o (empty_by_length (run_leaves (length ss) ss (run_start ss)) h) in
    record { order = p.order; orders = p.orders; first = run_start ss; last = p.last; beside = p.beside; shape = fan_shape ss o p }

-- each right is the first one, or a left
pub beside_rights : (order : List Spoke) (r last : ℕ) → AreBeside r order last → (t : Spoke) → Contains order t → (t.right ≡ r) ⊎ IsLeft order t.right
beside_rights [] r last b t c = absurd (nowhere t c)
beside_rights (s ∷ order) r last b t c = go (cases t s order c) (λ k. beside_rights order s.left last b.1 t k)
  where
    go : (t ≡ s) ⊎ Contains order t → (Contains order t → (t.right ≡ s.left) ⊎ IsLeft order t.right) → (t.right ≡ r) ⊎ IsLeft (s ∷ order) t.right
    go (inl e) ih = inl (ap (λ w. w.right) e ∙ b.0)
    go (inr k) ih = elim (ih k) [ inl a ↦ inr (s, here s order, sym a) | inr l ↦ inr (l.0, there l.0 s order l.1, l.2) ]

split_at : {X : Type 0} (xs : List X) (x : X) → Contains xs x → (before after : List X) × (xs ≡ before ++ x ∷ after)
split_at [] x c = absurd (nowhere x c)
split_at {X} (y ∷ ys) x c = go (cases x y ys c) (λ k. split_at ys x k)
  where
    go : (x ≡ y) ⊎ Contains ys x → (Contains ys x → (before after : List X) × (ys ≡ before ++ x ∷ after)) → (before after : List X) × (y ∷ ys ≡ before ++ x ∷ after)
    go (inl e) ih = ([], ys, ap (λ w. w ∷ ys) (sym e))
    go (inr k) ih = let r = ih k in (y ∷ r.0, r.1, ap (λ w. y ∷ w) r.2)

beside_split : (before after : List Spoke) (r last : ℕ) → AreBeside r (before ++ after) last → (x : ℕ) × AreBeside r before x × AreBeside x after last
beside_split [] after r last b = (r, refl, b)
beside_split (s ∷ before) after r last b = let h = beside_split before after s.left last b.1 in (h.0, (b.0, h.1), h.2)

pub beside_join : (before after : List Spoke) (r x last : ℕ) → AreBeside r before x → AreBeside x after last → AreBeside r (before ++ after) last
beside_join [] after r x last e b = subst (λ w. AreBeside w after last) (sym e) b
beside_join (s ∷ before) after r x last e b = (e.0, beside_join before after s.left x last e.1 b)

record AreApartWhole {X : Type 0} (before after : List X) : Type 0 where
  front : AreDifferent before
  back : AreDifferent after
  apart : (z : X) → Contains before z → Contains after z → ⊥

different_split : {X : Type 0} (before after : List X) → AreDifferent (before ++ after) → AreApartWhole before after
different_split [] after d = record { front = tt; back = d; apart = λ z h k. nowhere z h }
different_split (x ∷ before) after d =
    let h = different_split before after d.1 in
    record {
      front = ((λ z c. d.0 z (Contains-append_left before after z c)), h.front);
      back = h.back;
      apart = λ z c k. elim (cases z x before c) [ inl e ↦ d.0 z (Contains-append_right before after z k) (sym e) | inr r ↦ h.apart z r k ];
    }

-- a cycle begins at any of its spokes
turned_to : (order ss : List Spoke) (r : ℕ) (s : Spoke) → IsOrderOf order ss → AreBeside r order r → Contains ss s → IsPassed ss s.right
turned_to order ss r s h b c = go (split_at order s (h.all s c))
  where
    go : (before after : List Spoke) × (order ≡ before ++ s ∷ after) → IsPassed ss s.right
    go x =
        let parts = beside_split x.0 (s ∷ x.1) r r (subst (λ w. AreBeside r w r) x.2 b) in
        let whole = different_split x.0 (s ∷ x.1) (subst (λ w. AreDifferent w) x.2 h.once) in
        record {
          order = (s ∷ x.1) ++ x.0;
          orders =
              record {
                all = λ t k. elim (Contains-append_cases x.0 (s ∷ x.1) t (subst (λ w. Contains w t) x.2 (h.all t k))) [ inl a ↦ Contains-append_right (s ∷ x.1) x.0 t a | inr a ↦ Contains-append_left (s ∷ x.1) x.0 t a ];
                only = λ t k. h.only t (subst (λ w. Contains w t) (sym x.2) (elim (Contains-append_cases (s ∷ x.1) x.0 t k) [ inl a ↦ Contains-append_right x.0 (s ∷ x.1) t a | inr a ↦ Contains-append_left x.0 (s ∷ x.1) t a ]));
                once = different-append (s ∷ x.1) x.0 whole.back whole.front (λ z k l. whole.apart z l k);
              };
          last = parts.0;
          beside = subst (λ w. AreBeside w ((s ∷ x.1) ++ x.0) parts.0) (sym parts.2.0) (beside_join (s ∷ x.1) x.0 parts.0 r parts.0 parts.2 parts.1);
        }

-- one fan is passed by a run
pub one_fan-from : (ss : List Spoke) → IsSimple ss → IsOneFan ss → is_one_fan ss ≡ true
one_fan-from [] o f = refl
one_fan-from (s ∷ ss) o f = ap (λ l. length l == 0) (go (path_start all all) refl)
  where
    all : List Spoke
    all = s ∷ ss

    passes : (r : ℕ) → IsPassed all r → run_leaves (length all) all r ≡ []
    passes r p = run_passes (length all) p.order all r p.last (omega arith) o p.orders p.beside

    first_right : (order : List Spoke) → IsOrderOf order all → AreBeside f.first order f.last → IsRight all f.first
    first_right [] h b = absurd (nowhere s (h.all s (here s ss)))
    first_right (c ∷ order) h b = (c, h.only c (here c order), b.0)

    go : (a : Option ℕ) → path_start all all ≡ a → run_leaves (length all) all (elim a [ None ↦ s.right | Some n ↦ n ]) ≡ []
    go (Some p) e =
        let x = path_start-some all all p e in
        elim (beside_rights f.order f.first f.last f.beside x.0.0 (f.orders.all x.0.0 x.0.1)) [
          | inl k ↦ subst (λ w. run_leaves (length all) all w ≡ []) (sym k ∙ x.0.2) (passes f.first record { order = f.order; orders = f.orders; last = f.last; beside = f.beside })
          | inr l ↦ absurd (x.1 (l.0, f.orders.only l.0 l.1, l.2 ∙ x.0.2))
        ]
    go None e =
        elim f.shape [
          | inl k ↦ passes s.right (turned_to f.order all f.first s f.orders (subst (λ w. AreBeside f.first f.order w) k f.beside) (here s ss))
          | inr n ↦ absurd (let l = path_start-none all all e f.first (first_right f.order f.orders f.beside) in n l.0 l.1 l.2)
        ]

-- spokes that lie beside each other are one fan
pub beside_fan : (order ss : List Spoke) (r last : ℕ) → IsSimple ss → IsOrderOf order ss → AreBeside r order last → is_one_fan ss ≡ true
beside_fan order ss r last o h b =
    one_fan-from ss o record { order = order; orders = h; first = r; last = last; beside = b; shape = elim (left_or_not ss r) [ inl l ↦ inl (cycle_closes order ss r last o h b l.0 l.1 l.2) | inr n ↦ inr n ] }
  where
    left_or_not : (xs : List Spoke) (n : ℕ) → IsLeft xs n ⊎ ((s : Spoke) → Contains xs s → s.left ≢ n)
    left_or_not [] n = inr (λ s c e. nowhere s c)
    left_or_not (x ∷ xs) n = elim (cases_eq x.left n) [
      | inl e ↦ inl (x, here x xs, e)
      | inr d ↦ elim (left_or_not xs n) [ inl l ↦ inl (l.0, there l.0 x xs l.1, l.2) | inr f ↦ inr (λ s c. elim (cases s x xs c) [ inl q ↦ (λ e. d (ap (λ w. w.left) (sym q) ∙ e)) | inr k ↦ f s k ]) ]
    ]
