-- A node's place in a rising list of held pairs, and what the list is with a pair more or less.
use Rattle.std.proofs.Common.{◌≡◌, ◌≢◌, ℕ, zero, suc, ◌+◌, ◌<◌, ◌≤◌, List, [], ◌∷◌, length, get_or, refl, sym, ◌∙◌, ap, subst, Bool, true, false, cond, not, filter, ◌⊎◌, inl, inr, arith}
use Rattle.std.specs.Prelude.{Contains, Some, None, insert, remove, slice_set, nat_lt, ◌==◌}
use Rattle.std.proofs.lemmas.Bool.Decides.{nat_tests}
use Rattle.std.proofs.lemmas.List.{get_or_default}
use Rattle.pf_star_model.specs.Lent.{Held, star_held}
use Rattle.std.proofs.lemmas.List.Elements.{Contains-get_or}
use Rattle.std.proofs.lemmas.List.Kept.{AllPairs-cons, AllPairs-filter}
use Rattle.pf_model.proofs.Members.{nowhere, here, there, cases}
use Rattle.pf_star.specs.Sets.{IsIndexOfPair, IsNotAt, AreRising, put_held, held_at, without_held}

-- a search goes on below the middle
pub from-middle : (ss : List Held) (n m : ℕ) → AreRising ss → (d : Held) → m < length ss → n ≤ (get_or ss m d).node → (k : ℕ) (e : Held) → m ≤ k → k < length ss → n ≤ (get_or ss k e).node
from-middle ss n m up d l h k e le k' = go (cases_of m k le)
  where
    cases_of : (a b : ℕ) → a ≤ b → (a ≡ b) ⊎ (a < b)
    cases_of a b h' = grind arith

    h' : n ≤ (get_or ss m e).node
    h' = subst (λ x. n ≤ x.node) (get_or_default ss m d e l) h

    go : (m ≡ k) ⊎ (m < k) → n ≤ (get_or ss k e).node
    go (inl q) = subst (λ x. n ≤ (get_or ss x e).node) q h'
    go (inr q) = let x : (get_or ss m e).node < (get_or ss k e).node = up m k e q k' in omega (arith, h', x)

-- or above it
pub before-middle : (ss : List Held) (n m : ℕ) → AreRising ss → (d : Held) → m < length ss → (get_or ss m d).node < n → (k : ℕ) (e : Held) → k < m + 1 → (get_or ss k e).node < n
before-middle ss n m up d l h k e le = go (cases_of k m le)
  where
    cases_of : (a b : ℕ) → a < b + 1 → (a ≡ b) ⊎ (a < b)
    cases_of a b h' = grind arith

    h' : (get_or ss m e).node < n
    h' = subst (λ x. x.node < n) (get_or_default ss m d e l) h

    go : (k ≡ m) ⊎ (k < m) → (get_or ss k e).node < n
    go (inl q) = subst (λ x. (get_or ss x e).node < n) (sym q) h'
    go (inr q) = let x : (get_or ss k e).node < (get_or ss m e).node = up k m e q l in omega (arith, h', x)

not_same : (a b : ℕ) → a ≢ b → (a == b) ≡ false
not_same a b n = grind (arith, nat_tests)

same : (a b : ℕ) → a ≡ b → (a == b) ≡ true
same a b e = grind (arith, nat_tests)

-- the list has nothing to lose
pub without-none : (n : ℕ) (ss : List Held) → ((s : Held) → Contains ss s → s.node ≢ n) → filter (λ s. not (s.node == n)) ss ≡ ss
without-none n [] h = refl
without-none n (s ∷ ss) h =
    ap (λ b. cond (not b) (s ∷ filter (λ r. not (r.node == n)) ss) (filter (λ r. not (r.node == n)) ss)) (not_same s.node n (h s (here s ss)))
    ∙ ap (λ l. s ∷ l) (without-none n ss (λ r k. h r (there r s ss k)))

-- past the last pair
pub without-past : (n : ℕ) (ss : List Held) (r : ℕ) → IsIndexOfPair n ss r → length ss ≤ r → ss ≡ filter (λ s. not (s.node == n)) ss
without-past n ss r p past = sym (without-none n ss (λ s h. apart s h))
  where
    apart : (s : Held) → Contains ss s → s.node ≢ n
    apart s h = let l : h.0 < r = (let x = h.1 in omega (arith, past, x)) in let b = p.before h.0 s l in let e : (get_or ss h.0 s).node ≡ s.node = ap (λ x. x.node) h.2 in omega (arith, b, e)

-- another node stands there
pub without-other : (n : ℕ) (ss : List Held) (r : ℕ) (d : Held) → AreRising ss → IsIndexOfPair n ss r → r < length ss → (get_or ss r d).node ≢ n → ss ≡ filter (λ s. not (s.node == n)) ss
without-other n ss r d up p l other = sym (without-none n ss (λ s h. go s h (three h.0 r)))
  where
    three : (a b : ℕ) → (a < b) ⊎ ((a ≡ b) ⊎ (b < a))
    three a b = grind arith

    go : (s : Held) → (h : Contains ss s) → (h.0 < r) ⊎ ((h.0 ≡ r) ⊎ (r < h.0)) → s.node ≢ n
    go s h (inl q) = let b = p.before h.0 s q in let e : (get_or ss h.0 s).node ≡ s.node = ap (λ x. x.node) h.2 in omega (arith, b, e)
    go s h (inr (inl q)) = let e : (get_or ss r d).node ≡ s.node = ap (λ x. x.node) (get_or_default ss r d s l ∙ (ap (λ i. get_or ss i s) (sym q) ∙ h.2)) in subst (λ x. x ≢ n) e other
    go s h (inr (inr q)) =
        let a : (get_or ss r s).node < (get_or ss h.0 s).node = up r h.0 s q h.1 in
        let b : n ≤ (get_or ss r s).node = p.from r s (omega arith) l in
        let e : (get_or ss h.0 s).node ≡ s.node = ap (λ x. x.node) h.2 in
        omega (arith, a, b, e)

named-rest : (s : Held) (ss : List Held) → AreRising (s ∷ ss) → AreRising ss
named-rest s ss up i j d l k = up (suc i) (suc j) d (omega arith) (omega arith)

-- the pair of this node is taken out
pub without-found : (n : ℕ) (ss : List Held) (r : ℕ) (d : Held) → AreRising ss → r < length ss → (get_or ss r d).node ≡ n → remove ss r ≡ filter (λ s. not (s.node == n)) ss
without-found n [] r d up l e = absurd (omega arith)
without-found n (s ∷ ss) zero d up l e =
    sym (without-none n ss (λ t h. later t h))
    ∙ sym (ap (λ b. cond (not b) (s ∷ filter (λ t. not (t.node == n)) ss) (filter (λ t. not (t.node == n)) ss)) (same s.node n e))
  where
    later : (t : Held) → Contains ss t → t.node ≢ n
    later t h = let a : s.node < (get_or ss h.0 t).node = up 0 (suc h.0) t (omega arith) (let x = h.1 in omega (arith, x)) in let q : (get_or ss h.0 t).node ≡ t.node = ap (λ x. x.node) h.2 in omega (arith, a, q, e)
without-found n (s ∷ ss) (suc r) d up l e =
    let l' : r < length ss = (let x : suc r < suc (length ss) = l in omega arith) in
    let a : s.node < (get_or ss r d).node = up 0 (suc r) d (omega arith) l in
    let other : s.node ≢ n = omega (arith, a, e) in
    ap (λ k. s ∷ k) (without-found n ss r d (named-rest s ss up) l' e)
    ∙ sym (ap (λ b. cond (not b) (s ∷ filter (λ t. not (t.node == n)) ss) (filter (λ t. not (t.node == n)) ss)) (not_same s.node n other))

-- no pair is of this node
held-none : (n : ℕ) (hs : List Held) → ((h : Held) → Contains hs h → h.node ≢ n) → (star_held hs n ≡ None) × (held_at n hs ≡ None)
held-none n [] h = (refl, refl)
held-none n (x ∷ xs) h =
    let e = not_same x.node n (h x (here x xs)) in
    let r = held-none n xs (λ k c. h k (there k x xs c)) in (
      ap (λ b. cond b x.star (star_held xs n)) e ∙ r.0,
      ap (λ b. cond b (Some x) (held_at n xs)) e ∙ r.1,
    )

apart-past : (n : ℕ) (hs : List Held) (r : ℕ) → IsIndexOfPair n hs r → length hs ≤ r → (s : Held) → Contains hs s → s.node ≢ n
apart-past n hs r p past s h = let l : h.0 < r = (let x = h.1 in omega (arith, past, x)) in let b = p.before h.0 s l in let e : (get_or hs h.0 s).node ≡ s.node = ap (λ x. x.node) h.2 in omega (arith, b, e)

apart-other : (n : ℕ) (hs : List Held) (r : ℕ) (d : Held) → AreRising hs → IsIndexOfPair n hs r → r < length hs → (get_or hs r d).node ≢ n → (s : Held) → Contains hs s → s.node ≢ n
apart-other n hs r d up p l other s h = go (three h.0 r)
  where
    three : (a b : ℕ) → (a < b) ⊎ ((a ≡ b) ⊎ (b < a))
    three a b = grind arith

    e : (get_or hs h.0 s).node ≡ s.node
    e = ap (λ x. x.node) h.2

    go : (h.0 < r) ⊎ ((h.0 ≡ r) ⊎ (r < h.0)) → s.node ≢ n
    go (inl q) = let b = p.before h.0 s q in omega (arith, b, e)
    go (inr (inl q)) = let f : (get_or hs r d).node ≡ s.node = ap (λ x. x.node) (get_or_default hs r d s l ∙ (ap (λ i. get_or hs i s) (sym q) ∙ h.2)) in subst (λ x. x ≢ n) f other
    go (inr (inr q)) =
        let a : (get_or hs r s).node < (get_or hs h.0 s).node = up r h.0 s q h.1 in
        let b : n ≤ (get_or hs r s).node = p.from r s (omega arith) l in
        omega (arith, a, b, e)

pub held-past : (n : ℕ) (hs : List Held) (r : ℕ) → IsIndexOfPair n hs r → length hs ≤ r → (star_held hs n ≡ None) × (held_at n hs ≡ None)
held-past n hs r p past = held-none n hs (apart-past n hs r p past)

pub held-other : (n : ℕ) (hs : List Held) (r : ℕ) (d : Held) → AreRising hs → IsIndexOfPair n hs r → r < length hs → (get_or hs r d).node ≢ n → (star_held hs n ≡ None) × (held_at n hs ≡ None)
held-other n hs r d up p l other = held-none n hs (apart-other n hs r d up p l other)

pub held-found : (n : ℕ) (hs : List Held) (r : ℕ) (d : Held) → AreRising hs → r < length hs → (get_or hs r d).node ≡ n → (star_held hs n ≡ (get_or hs r d).star) × (held_at n hs ≡ Some (get_or hs r d))
held-found n [] r d up l e = absurd (omega (arith, l))
held-found n (x ∷ xs) zero d up l e = (ap (λ b. cond b x.star (star_held xs n)) (same x.node n e), ap (λ b. cond b (Some x) (held_at n xs)) (same x.node n e))
held-found n (x ∷ xs) (suc r) d up l e =
    let l' : r < length xs = (let z : suc r < suc (length xs) = l in omega arith) in
    let a : x.node < (get_or xs r d).node = up 0 (suc r) d (omega arith) l in
    let other : x.node ≢ n = omega (arith, a, e) in
    let k = held-found n xs r d (named-rest x xs up) l' e in (
      ap (λ b. cond b x.star (star_held xs n)) (not_same x.node n other) ∙ k.0,
      ap (λ b. cond b (Some x) (held_at n xs)) (not_same x.node n other) ∙ k.1,
    )

lt_holds : (a b : ℕ) → a < b → nat_lt a b ≡ true
lt_holds a b h = grind (arith, nat_tests)

lt_fails : (a b : ℕ) → b ≤ a → nat_lt a b ≡ false
lt_fails a b h = grind (arith, nat_tests)

lt_means : (a b : ℕ) → nat_lt a b ≡ true → a < b
lt_means a b h = grind (arith, nat_tests)

lt_means_not : (a b : ℕ) → nat_lt a b ≡ false → b ≤ a
lt_means_not a b h = grind (arith, nat_tests)

eq_means : (a b : ℕ) → (a == b) ≡ true → a ≡ b
eq_means a b h = grind (arith, nat_tests)

eq_means_not : (a b : ℕ) → (a == b) ≡ false → a ≢ b
eq_means_not a b h = grind (arith, nat_tests)

place-rest : (n : ℕ) (h : Held) (hs : List Held) (r : ℕ) → IsIndexOfPair n (h ∷ hs) (suc r) → IsIndexOfPair n hs r
place-rest n h hs r p =
    record {
      within = (let w : suc r ≤ suc (length hs) = p.within in omega (arith, w));
      before = λ k d l. p.before (suc k) d (omega (arith, l));
      from = λ k d l m. p.from (suc k) d (omega (arith, l)) (let w : suc k < suc (length hs) = omega (arith, m) in w);
    }

-- a pair is put in the place of that of its node
pub put-found : (x : Held) (hs : List Held) (r : ℕ) (d : Held) → IsIndexOfPair x.node hs r → r < length hs → (get_or hs r d).node ≡ x.node → slice_set hs r x ≡ put_held x hs
put-found x [] r d p l e = absurd (omega (arith, l))
put-found x (h ∷ hs) zero d p l e =
    sym (ap (λ b. cond b (x ∷ h ∷ hs) (cond (h.node == x.node) (x ∷ hs) (h ∷ put_held x hs))) (lt_fails x.node h.node (omega (arith, e)))
    ∙ ap (λ b. cond b (x ∷ hs) (h ∷ put_held x hs)) (same h.node x.node e))
put-found x (h ∷ hs) (suc r) d p l e =
    let b = p.before 0 d (omega arith) in
    ap (λ l'. h ∷ l') (put-found x hs r d (place-rest x.node h hs r p) (let z : suc r < suc (length hs) = l in omega (arith, z)) e)
    ∙ sym (ap (λ c. cond c (x ∷ h ∷ hs) (cond (h.node == x.node) (x ∷ hs) (h ∷ put_held x hs))) (lt_fails x.node h.node (omega (arith, b)))
    ∙ ap (λ c. cond c (x ∷ hs) (h ∷ put_held x hs)) (not_same h.node x.node (omega (arith, b))))

-- or between the others
pub put-new : (x : Held) (hs : List Held) (r : ℕ) → IsIndexOfPair x.node hs r → (r ≡ length hs) ⊎ ((d : Held) → x.node < (get_or hs r d).node) → insert hs r x ≡ put_held x hs
put-new x [] r p q = let e : r ≡ 0 = (let w : r ≤ 0 = p.within in omega (arith, w)) in rw e refl
put-new x (h ∷ hs) zero p (inl e) = absurd (let k : 0 ≡ suc (length hs) = e in omega (arith, k))
put-new x (h ∷ hs) zero p (inr f) = sym (ap (λ b. cond b (x ∷ h ∷ hs) (cond (h.node == x.node) (x ∷ hs) (h ∷ put_held x hs))) (lt_holds x.node h.node (f x)))
put-new x (h ∷ hs) (suc r) p q =
    let b = p.before 0 x (omega arith) in
    ap (λ l. h ∷ l) (put-new x hs r (place-rest x.node h hs r p) (next q))
    ∙ sym (ap (λ c. cond c (x ∷ h ∷ hs) (cond (h.node == x.node) (x ∷ hs) (h ∷ put_held x hs))) (lt_fails x.node h.node (omega (arith, b)))
    ∙ ap (λ c. cond c (x ∷ hs) (h ∷ put_held x hs)) (not_same h.node x.node (omega (arith, b))))
  where
    next : (suc r ≡ suc (length hs)) ⊎ ((d : Held) → x.node < (get_or hs r d).node) → (r ≡ length hs) ⊎ ((d : Held) → x.node < (get_or hs r d).node)
    next (inl e) = inl (omega (arith, e))
    next (inr f) = inr f

put-member : (x h : Held) (hs : List Held) → Contains (put_held x hs) h → (h ≡ x) ⊎ Contains hs h
put-member x h [] c = elim (cases h x [] c) [ inl e ↦ inl e | inr n ↦ absurd (nowhere h n) ]
put-member x h (y ∷ ys) c = go (nat_lt x.node y.node) (y.node == x.node) c (λ k. put-member x h ys k)
  where
    go : (a b : Bool) → Contains (cond a (x ∷ y ∷ ys) (cond b (x ∷ ys) (y ∷ put_held x ys))) h → (Contains (put_held x ys) h → (h ≡ x) ⊎ Contains ys h) → (h ≡ x) ⊎ Contains (y ∷ ys) h
    go true b k ih = cases h x (y ∷ ys) k
    go false true k ih = elim (cases h x ys k) [ inl e ↦ inl e | inr n ↦ inr (there h y ys n) ]
    go false false k ih = elim (cases h y (put_held x ys) k) [ inl e ↦ inr (subst (λ w. Contains (w ∷ ys) h) e (here h ys)) | inr n ↦ elim (ih n) [ inl e ↦ inl e | inr m ↦ inr (there h y ys m) ] ]

above : (y : Held) (ys : List Held) → AreRising (y ∷ ys) → (h : Held) → Contains ys h → y.node < h.node
above y ys up h c = let a : y.node < (get_or ys c.0 h).node = up 0 (suc c.0) h (omega arith) (let l = c.1 in omega (arith, l)) in let e : (get_or ys c.0 h).node ≡ h.node = ap (λ w. w.node) c.2 in omega (arith, a, e)

rising-cons : (y : Held) (ys : List Held) → ((h : Held) → Contains ys h → y.node < h.node) → AreRising ys → AreRising (y ∷ ys)
rising-cons y ys all up = AllPairs-cons (λ h k. h.node < k.node) y ys (λ k d l. all (get_or ys k d) (Contains-get_or ys k d l)) up

-- the pairs still rise
pub put-rises : (x : Held) (hs : List Held) → AreRising hs → AreRising (put_held x hs)
put-rises x [] up = rising-cons x [] (λ h c. absurd (nowhere h c)) up
put-rises x (y ∷ ys) up = go (nat_lt x.node y.node) (y.node == x.node) refl refl (put-rises x ys (named-rest y ys up))
  where
    go : (a b : Bool) → nat_lt x.node y.node ≡ a → (y.node == x.node) ≡ b → AreRising (put_held x ys) → AreRising (cond a (x ∷ y ∷ ys) (cond b (x ∷ ys) (y ∷ put_held x ys)))
    go true b ea eb ih = rising-cons x (y ∷ ys) (λ h c. elim (cases h y ys c) [ inl e ↦ subst (λ w. x.node < w.node) (sym e) (lt_means x.node y.node ea) | inr k ↦ (let l = lt_means x.node y.node ea in let m = above y ys up h k in omega (arith, l, m)) ]) up
    go false true ea eb ih = rising-cons x ys (λ h k. let e = eq_means y.node x.node eb in let m = above y ys up h k in omega (arith, e, m)) (named-rest y ys up)
    go false false ea eb ih = rising-cons y (put_held x ys) (λ h c. elim (put-member x h ys c) [ inl e ↦ subst (λ w. y.node < w.node) (sym e) (let l = lt_means_not x.node y.node ea in let n = eq_means_not y.node x.node eb in omega (arith, l, n)) | inr k ↦ above y ys up h k ]) ih

pub without-rises : (n : ℕ) (hs : List Held) → AreRising hs → AreRising (without_held n hs)
without-rises n hs up = AllPairs-filter (λ h k. h.node < k.node) (λ h. not (h.node == n)) hs up

-- what is known where the node's pair is looked for at its place
pub absent-held : (n : ℕ) (hs : List Held) (r : ℕ) → AreRising hs → IsIndexOfPair n hs r → IsNotAt n hs r → (s : Held) → Contains hs s → s.node ≢ n
absent-held n hs r up p absent s c = go (below r (length hs))
  where
    below : (a b : ℕ) → (a < b) ⊎ (b ≤ a)
    below a b = grind arith

    go : (r < length hs) ⊎ (length hs ≤ r) → s.node ≢ n
    go (inl l) = apart-other n hs r s up p l (absent s l) s c
    go (inr l) = apart-past n hs r p l s c

pub none-held : (n : ℕ) (hs : List Held) (r : ℕ) → AreRising hs → IsIndexOfPair n hs r → IsNotAt n hs r → (star_held hs n ≡ None) × (held_at n hs ≡ None)
none-held n hs r up p absent = held-none n hs (absent-held n hs r up p absent)

pub all-stay : (n : ℕ) (hs : List Held) (r : ℕ) → AreRising hs → IsIndexOfPair n hs r → IsNotAt n hs r → hs ≡ without_held n hs
all-stay n hs r up p absent = sym (without-none n hs (absent-held n hs r up p absent))

pub put-between : (x : Held) (hs : List Held) (r : ℕ) → IsIndexOfPair x.node hs r → IsNotAt x.node hs r → insert hs r x ≡ put_held x hs
put-between x hs r p absent = put-new x hs r p (go (below r (length hs)))
  where
    below : (a b : ℕ) → (a < b) ⊎ (b ≤ a)
    below a b = grind arith

    go : (r < length hs) ⊎ (length hs ≤ r) → (r ≡ length hs) ⊎ ((d : Held) → x.node < (get_or hs r d).node)
    go (inl l) = inr (λ d. let a = p.from r d (omega arith) l in let b = absent d l in omega (arith, a, b))
    go (inr l) = inl (let w = p.within in omega (arith, w, l))
