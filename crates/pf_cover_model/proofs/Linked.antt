-- A node has one fan exactly where its neighbours are linked: a test that says the same of both other corners of each triangle at
-- the node says the same of all its neighbours.
-- Assumes that no right and no left stands twice (`IsSimple`).
use Rattle.std.proofs.Common.{◌≡◌, ◌≢◌, ℕ, zero, suc, ◌≤◌, ◌<◌, List, [], ◌∷◌, ◌++◌, length, refl, sym, ◌∙◌, ap, subst, Bool, true, false, not, ◌⊎◌, inl, inr, ◌||◌, arith}
use Rattle.std.specs.Prelude.{Contains, filter, ◌==◌}
use Rattle.std.specs.List.{list_any}
use Rattle.std.proofs.lemmas.Bool.Decides.{nat_tests}
use Rattle.std.proofs.lemmas.List.Elements.{Contains-append_cases, Contains-append_left, Contains-append_right}
use Rattle.pf_model.specs.declared.Spoke.{Spoke}
use Rattle.pf_model.specs.Rising.{AreDifferent}
use Rattle.pf_model.specs.Stars.{is_one_fan}
use Rattle.pf_model.specs.Fans.{AreBeside}
use Rattle.pf_model.proofs.Members.{nowhere, here, there, cases, filter-in, filter-out}
use Rattle.pf_model.proofs.Counts.{count_fewer}
use Rattle.pf_model.proofs.Kept.{any-from, any-means}
use Rattle.pf_model.proofs.Totals.{different-append}
use Rattle.pf_model.proofs.Fans.{IsSimple}
use Rattle.pf_model.proofs.OneFan.{same_spoke, one_fan-means, beside_fan, beside_join}
use Rattle.std.proofs.lemmas.Bool.{cases_eq}
use Rattle.std.proofs.lemmas.Bool.{or_cases}

-- the test says the same of both names of each spoke
abbrev pub IsEven : (ℕ → Bool) → List Spoke → Type 0
IsEven test ss = (s : Spoke) → Contains ss s → test s.right ≡ test s.left

abbrev pub AreLinked : List Spoke → Type 0
AreLinked ss = (test : ℕ → Bool) → IsEven test ss → (s t : Spoke) → Contains ss s → Contains ss t → test s.right ≡ test t.right

beside_even : (test : ℕ → Bool) (order : List Spoke) (r last : ℕ) → IsEven test order → AreBeside r order last → (s : Spoke) → Contains order s → test s.right ≡ test r
beside_even test [] r last e b s h = absurd (nowhere s h)
beside_even test (x ∷ xs) r last e b s h = elim (cases s x xs h) [
  | inl k ↦ ap (λ w. test w.right) k ∙ ap test b.0
  | inr k ↦ beside_even test xs x.left last (λ t i. e t (there t x xs i)) b.1 s k ∙ (sym (e x (here x xs)) ∙ ap test b.0)
]

pub linked-from : (ss : List Spoke) → IsSimple ss → is_one_fan ss ≡ true → AreLinked ss
linked-from ss o h test e s t hs ht =
    let f = one_fan-means ss o h in
    let go : (x : Spoke) → Contains ss x → test x.right ≡ test f.first = λ x hx. beside_even test f.order f.first f.last (λ y i. e y (f.orders.only y i)) f.beside x (f.orders.all x hx) in
    go s hs ∙ sym (go t ht)

eq_holds : (a b : ℕ) → (a == b) ≡ true → a ≡ b
eq_holds a b h = grind (arith, nat_tests)

eq_from : (a b : ℕ) → a ≡ b → (a == b) ≡ true
eq_from a b h = grind (arith, nat_tests)

eq_not : (a b : ℕ) → a ≡ b → not (a == b) ≡ false
eq_not a b h = grind (arith, nat_tests)

not_eq : (a b : ℕ) → a ≢ b → not (a == b) ≡ true
not_eq a b h = grind (arith, nat_tests)

not_eq_means : (a b : ℕ) → not (a == b) ≡ true → a ≢ b
not_eq_means a b h = grind (arith, nat_tests)

-- some spokes lie beside each other, and the others are the rest
record IsBlock (ss order rest : List Spoke) (r last : ℕ) : Type 0 where
  beside : AreBeside r order last
  once : AreDifferent order
  from_order : (s : Spoke) → Contains order s → Contains ss s
  from_rest : (s : Spoke) → Contains rest s → Contains ss s
  all : (s : Spoke) → Contains ss s → Contains order s ⊎ Contains rest s
  apart : (s : Spoke) → Contains order s → Contains rest s → ⊥

-- a block that can't grow at either end
record IsFull (ss : List Spoke) (start : Spoke) : Type 0 where
  order : List Spoke
  rest : List Spoke
  r : ℕ
  last : ℕ
  block : IsBlock ss order rest r last
  no_right : (s : Spoke) → Contains rest s → s.right ≢ last
  no_left : (s : Spoke) → Contains rest s → s.left ≢ r
  has : Contains order start

module _ (ss : List Spoke) (o : IsSimple ss) where
  by_right : (s t : Spoke) → Contains ss s → Contains ss t → s.right ≡ t.right → s ≡ t
  by_right s t hs ht e = same_spoke ss s t o.different hs ht e

  by_left : (s t : Spoke) → Contains ss s → Contains ss t → s.left ≡ t.left → s ≡ t
  by_left s t hs ht e = by_right s t hs ht (o.one_right s t hs ht e)

  forward : (order rest : List Spoke) (r last : ℕ) → IsBlock ss order rest r last → (t : Spoke) → Contains rest t → t.right ≡ last → IsBlock ss (order ++ t ∷ []) (filter (λ s. not (s.right == last)) rest) r t.left
  forward order rest r last b t h e =
      record {
        beside = beside_join order (t ∷ []) r last t.left b.beside (e, refl);
        once = different-append order (t ∷ []) b.once ((λ z k. absurd (nowhere z k)), tt) (λ z k i. elim (cases z t [] i) [ inl q ↦ b.apart t (subst (λ w. Contains order w) q k) h | inr n ↦ nowhere z n ]);
        from_order = λ s k. elim (Contains-append_cases order (t ∷ []) s k) [ inl i ↦ b.from_order s i | inr i ↦ elim (cases s t [] i) [ inl q ↦ subst (λ w. Contains ss w) (sym q) (b.from_rest t h) | inr n ↦ absurd (nowhere s n) ] ];
        from_rest = λ s k. b.from_rest s (filter-out (λ s. not (s.right == last)) s rest k).0;
        all = λ s k. elim (b.all s k) [
          | inl i ↦ inl (Contains-append_left order (t ∷ []) s i)
          | inr i ↦ elim (cases_eq s.right last) [
            | inl q ↦ inl (Contains-append_right order (t ∷ []) s (subst (λ w. Contains (t ∷ []) w) (sym (by_right s t k (b.from_rest t h) (q ∙ sym e))) (here t [])))
            | inr n ↦ inr (filter-in (λ s. not (s.right == last)) s rest i (not_eq s.right last n))
          ]
        ];
        apart = λ s k i. (let f = filter-out (λ s. not (s.right == last)) s rest i in elim (Contains-append_cases order (t ∷ []) s k) [ inl j ↦ b.apart s j f.0 | inr j ↦ elim (cases s t [] j) [ inl q ↦ not_eq_means s.right last f.1 (ap (λ w. w.right) q ∙ e) | inr n ↦ nowhere s n ] ]);
      }

  backward : (order rest : List Spoke) (r last : ℕ) → IsBlock ss order rest r last → (t : Spoke) → Contains rest t → t.left ≡ r → IsBlock ss (t ∷ order) (filter (λ s. not (s.left == r)) rest) t.right last
  backward order rest r last b t h e =
      record {
        beside = (refl, subst (λ w. AreBeside w order last) (sym e) b.beside);
        once = ((λ z k q. b.apart t (subst (λ w. Contains order w) (sym q) k) h), b.once);
        from_order = λ s k. elim (cases s t order k) [ inl q ↦ subst (λ w. Contains ss w) (sym q) (b.from_rest t h) | inr i ↦ b.from_order s i ];
        from_rest = λ s k. b.from_rest s (filter-out (λ s. not (s.left == r)) s rest k).0;
        all = λ s k. elim (b.all s k) [
          | inl i ↦ inl (there s t order i)
          | inr i ↦ elim (cases_eq s.left r) [
            | inl q ↦ inl (subst (λ w. Contains (t ∷ order) w) (sym (by_left s t k (b.from_rest t h) (q ∙ sym e))) (here t order))
            | inr n ↦ inr (filter-in (λ s. not (s.left == r)) s rest i (not_eq s.left r n))
          ]
        ];
        apart = λ s k i. (let f = filter-out (λ s. not (s.left == r)) s rest i in elim (cases s t order k) [ inl q ↦ not_eq_means s.left r f.1 (ap (λ w. w.left) q ∙ e) | inr j ↦ b.apart s j f.0 ]);
      }

  fewer : (a b most : ℕ) → a < b → b ≤ suc most → a ≤ most
  fewer a b most h k = omega (arith, h, k)

  none_left : (most : ℕ) (rest : List Spoke) → most ≡ 0 → length rest ≤ most → (s : Spoke) → Contains rest s → ⊥
  none_left most [] e h s k = nowhere s k
  none_left most (x ∷ xs) e h s k = absurd (omega (arith, e, h))

  grow : (start : Spoke) (most : ℕ) (order rest : List Spoke) (r last : ℕ) → length rest ≤ most → Contains order start → IsBlock ss order rest r last → IsFull ss start
  grow start zero order rest r last few has b =
      record {
        order = order;
        rest = rest;
        r = r;
        last = last;
        block = b;
        no_right = λ s h e. none_left zero rest refl few s h;
        no_left = λ s h e. none_left zero rest refl few s h;
        has = has;
      }
  grow start (suc most) order rest r last few has b =
      by_end (list_any (λ s. s.right == last) rest) (list_any (λ s. s.left == r) rest) refl refl
      (λ t h e. grow start most (order ++ t ∷ []) (filter (λ s. not (s.right == last)) rest) r t.left (fewer _ (length rest) most (count_fewer (λ s. not (s.right == last)) rest t h (eq_not t.right last e)) few) (Contains-append_left order (t ∷ []) start has) (forward order rest r last b t h e))
      (λ t h e. grow start most (t ∷ order) (filter (λ s. not (s.left == r)) rest) t.right last (fewer _ (length rest) most (count_fewer (λ s. not (s.left == r)) rest t h (eq_not t.left r e)) few) (there start t order has) (backward order rest r last b t h e))
    where
      no_any : (p : Spoke → Bool) (xs : List Spoke) → list_any p xs ≡ false → (s : Spoke) → Contains xs s → p s ≡ true → ⊥
      no_any p xs e s h k = absurd (let z : true ≡ false = sym (any-from p s xs h k) ∙ e in cc)

      by_end : (x y : Bool) → list_any (λ s. s.right == last) rest ≡ x → list_any (λ s. s.left == r) rest ≡ y → ((t : Spoke) → Contains rest t → t.right ≡ last → IsFull ss start) → ((t : Spoke) → Contains rest t → t.left ≡ r → IsFull ss start) → IsFull ss start
      by_end true y ex ey one two = let k = any-means (λ s. s.right == last) rest ex in one k.0 k.1 (eq_holds k.0.right last k.2)
      by_end false true ex ey one two = let k = any-means (λ s. s.left == r) rest ey in two k.0 k.1 (eq_holds k.0.left r k.2)
      by_end false false ex ey one two =
          record {
            order = order;
            rest = rest;
            r = r;
            last = last;
            block = b;
            no_right = λ s h e. no_any (λ s. s.right == last) rest ex s h (eq_from s.right last e);
            no_left = λ s h e. no_any (λ s. s.left == r) rest ey s h (eq_from s.left r e);
            has = has;
          }

  -- each name of a block is its end or a right in it, and its beginning or a left in it
  right_places : (order : List Spoke) (r last : ℕ) → AreBeside r order last → (s : Spoke) → Contains order s → ((s.right ≡ r) ⊎ ((t : Spoke) × Contains order t × (t.left ≡ s.right))) × ((s.left ≡ last) ⊎ ((t : Spoke) × Contains order t × (t.right ≡ s.left)))
  right_places [] r last b s h = absurd (nowhere s h)
  right_places (x ∷ xs) r last b s h = elim (cases s x xs h) [
    | inl e ↦ subst (λ w. ((w.right ≡ r) ⊎ ((t : Spoke) × Contains (x ∷ xs) t × (t.left ≡ w.right))) × ((w.left ≡ last) ⊎ ((t : Spoke) × Contains (x ∷ xs) t × (t.right ≡ w.left)))) (sym e) (inl b.0, after xs b.1)
    | inr k ↦ (let i = right_places xs x.left last b.1 s k in
        (elim i.0 [ inl q ↦ inr (x, here x xs, sym q) | inr q ↦ inr (q.0, there q.0 x xs q.1, q.2) ], elim i.1 [ inl q ↦ inl q | inr q ↦ inr (q.0, there q.0 x xs q.1, q.2) ]))
  ]
    where
      after : (ys : List Spoke) → AreBeside x.left ys last → (x.left ≡ last) ⊎ ((t : Spoke) × Contains (x ∷ ys) t × (t.right ≡ x.left))
      after [] c = inl c
      after (y ∷ ys) c = inr (y, there y x (y ∷ ys) (here y ys), c.0)

  -- linked spokes are one fan
  full_fan : (start : Spoke) → Contains ss start → AreLinked ss → IsFull ss start → is_one_fan ss ≡ true
  full_fan start hs linked f = beside_fan f.order ss f.r f.last o record { all = all; only = f.block.from_order; once = f.block.once } f.block.beside
    where
      touched : ℕ → Bool
      touched x = list_any (λ s. s.right == x || s.left == x) f.rest

      or-first : (a b : Bool) → a ≡ true → (a || b) ≡ true
      or-first a b e = ap (λ x. x || b) e

      or-second : (a b : Bool) → b ≡ true → (a || b) ≡ true
      or-second true b e = refl
      or-second false b e = e

      right_touched : (s : Spoke) → Contains f.rest s → touched s.right ≡ true
      right_touched s h = any-from (λ t. t.right == s.right || t.left == s.right) s f.rest h (or-first (s.right == s.right) (s.left == s.right) (eq_from s.right s.right refl))

      left_touched : (s : Spoke) → Contains f.rest s → touched s.left ≡ true
      left_touched s h = any-from (λ t. t.right == s.left || t.left == s.left) s f.rest h (or-second (s.right == s.left) (s.left == s.left) (eq_from s.left s.left refl))

      untouched : (x : ℕ) → ((t : Spoke) → Contains f.rest t → t.right ≢ x) → ((t : Spoke) → Contains f.rest t → t.left ≢ x) → touched x ≡ false
      untouched x a b = go (touched x) refl
        where
          go : (c : Bool) → touched x ≡ c → c ≡ false
          go false e = refl
          go true e = absurd (let k = any-means (λ t. t.right == x || t.left == x) f.rest e in elim (or_cases (k.0.right == x) (k.0.left == x) k.2) [ inl q ↦ a k.0 k.1 (eq_holds k.0.right x q) | inr q ↦ b k.0 k.1 (eq_holds k.0.left x q) ])

      clash_right : (s t : Spoke) → Contains f.order s → Contains f.rest t → t.right ≢ s.right
      clash_right s t hs ht e = f.block.apart s hs (subst (λ w. Contains f.rest w) (by_right t s (f.block.from_rest t ht) (f.block.from_order s hs) e) ht)

      clash_left : (s t : Spoke) → Contains f.order s → Contains f.rest t → t.left ≢ s.left
      clash_left s t hs ht e = f.block.apart s hs (subst (λ w. Contains f.rest w) (by_left t s (f.block.from_rest t ht) (f.block.from_order s hs) e) ht)

      right_free : (s : Spoke) → Contains f.order s → touched s.right ≡ false
      right_free s h = untouched s.right (λ t k. clash_right s t h k) (λ t k e. elim (right_places f.order f.r f.last f.block.beside s h).0 [ inl q ↦ f.no_left t k (e ∙ q) | inr q ↦ clash_left q.0 t q.1 k (e ∙ sym q.2) ])

      left_free : (s : Spoke) → Contains f.order s → touched s.left ≡ false
      left_free s h = untouched s.left (λ t k e. elim (right_places f.order f.r f.last f.block.beside s h).1 [ inl q ↦ f.no_right t k (e ∙ q) | inr q ↦ clash_right q.0 t q.1 k (e ∙ sym q.2) ]) (λ t k. clash_left s t h k)

      even : IsEven touched ss
      even s h = elim (f.block.all s h) [ inl i ↦ right_free s i ∙ sym (left_free s i) | inr i ↦ right_touched s i ∙ sym (left_touched s i) ]

      all : (s : Spoke) → Contains ss s → Contains f.order s
      all s h = elim (f.block.all s h) [ inl i ↦ i | inr i ↦ absurd (let a = linked touched even s start h hs in let z : true ≡ false = sym (right_touched s i) ∙ (a ∙ right_free start f.has) in cc) ]

  pub linked-fan : (start : Spoke) → Contains ss start → AreLinked ss → is_one_fan ss ≡ true
  linked-fan start hs linked = full_fan start hs linked (grow start (length ss) (start ∷ []) (filter (λ s. not (s.right == start.right)) ss) start.right start.left few (here start []) first)
    where
      few : length (filter (λ s. not (s.right == start.right)) ss) ≤ length ss
      few = let k = count_fewer (λ s. not (s.right == start.right)) ss start hs (eq_not start.right start.right refl) in omega (arith, k)

      first : IsBlock ss (start ∷ []) (filter (λ s. not (s.right == start.right)) ss) start.right start.left
      first =
          record {
            beside = (refl, refl);
            once = ((λ z h. absurd (nowhere z h)), tt);
            from_order = λ s h. elim (cases s start [] h) [ inl e ↦ subst (λ w. Contains ss w) (sym e) hs | inr n ↦ absurd (nowhere s n) ];
            from_rest = λ s h. (filter-out (λ s. not (s.right == start.right)) s ss h).0;
            all = λ s h. elim (cases_eq s.right start.right) [ inl e ↦ inl (subst (λ w. Contains (start ∷ []) w) (sym (by_right s start h hs e)) (here start [])) | inr n ↦ inr (filter-in (λ s. not (s.right == start.right)) s ss h (not_eq s.right start.right n)) ];
            apart = λ s h k. elim (cases s start [] h) [ inl e ↦ not_eq_means s.right start.right (filter-out (λ s. not (s.right == start.right)) s ss k).1 (ap (λ w. w.right) e) | inr n ↦ nowhere s n ];
          }
