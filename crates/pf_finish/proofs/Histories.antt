-- The history of one who is alone grows by the entry that is added.
use Rattle.std.proofs.Common.{◌≡◌, ◌≢◌, ℕ, zero, suc, ◌+◌, ◌-◌, ◌<◌, ◌≤◌, List, [], ◌∷◌, ◌++◌, append_assoc, length, refl, sym, ◌∙◌, ap, subst, Bool, true, false, ◌⊎◌, inl, inr, arith}
use Rattle.std.specs.Prelude.{cond, ◌==◌, ◌||◌, map}
use Rattle.std.specs.List.{list_any}
use Rattle.std.proofs.lemmas.Bool.Decides.{nat_tests}
use Rattle.std.proofs.lemmas.List.{length-map, append-nil}
use Rattle.std.proofs.lemmas.Map.Steps.{le-length_from_below}
use Rattle.pf_model.specs.declared.Entry.{Entry}
use Rattle.pf_model.specs.Mesh.{Undivided}
use Rattle.pf_model.specs.Replay.{HasTicketsFrom, IsLegal}
use Rattle.pf_model.proofs.Replays.{legal-tickets}
use Rattle.pf_core_model.specs.History.{with_ticket, history_from}
use Rattle.pf_holder.specs.Facts.{history_in}

-- one entry with the ticket, or none
few : (t : ℕ) (es : List Entry) → (with_ticket t es ≡ []) ⊎ ((x : Entry) × (with_ticket t es ≡ x ∷ []) × (x.ticket ≡ t))
few t [] = inl refl
few t (e ∷ es) = go (e.ticket == t) refl (few t es)
  where
    go : (b : Bool) → (e.ticket == t) ≡ b → (with_ticket t es ≡ []) ⊎ ((x : Entry) × (with_ticket t es ≡ x ∷ []) × (x.ticket ≡ t)) → (cond b (e ∷ []) (with_ticket t es) ≡ []) ⊎ ((x : Entry) × (cond b (e ∷ []) (with_ticket t es) ≡ x ∷ []) × (x.ticket ≡ t))
    go true h r = inr (e, refl, let k : e.ticket ≡ t = grind (arith, nat_tests) in k)
    go false h r = r

-- a ticket that has an entry is one of the tickets
ticket_there : (t : ℕ) (es : List Entry) → (with_ticket t es ≡ [] → ⊥) → list_any (λ k. t == k) (map (λ (e : Entry). e.ticket) es) ≡ true
ticket_there t [] h = absurd (h refl)
ticket_there t (e ∷ es) h = go (e.ticket == t) refl h (ticket_there t es)
  where
    here : (a b : ℕ) (c : Bool) → (a == b) ≡ true → ((b == a) || c) ≡ true
    here a b c e = let k : (b == a) ≡ true = grind (arith, nat_tests) in ap (λ w. w || c) k

    later : (a c : Bool) → c ≡ true → (a || c) ≡ true
    later true c e = refl
    later false c e = e

    go : (b : Bool) → (e.ticket == t) ≡ b → (cond b (e ∷ []) (with_ticket t es) ≡ [] → ⊥) → ((with_ticket t es ≡ [] → ⊥) → list_any (λ k. t == k) (map (λ (e : Entry). e.ticket) es) ≡ true) → ((t == e.ticket) || list_any (λ k. t == k) (map (λ (e : Entry). e.ticket) es)) ≡ true
    go true q k ih = here e.ticket t _ q
    go false q k ih = later (t == e.ticket) _ (ih k)

-- a history from a ticket on has no earlier one
late : (n t : ℕ) (es : List Entry) (y : Entry) (ys : List Entry) → history_from t n es ≡ y ∷ ys → t ≤ y.ticket
late zero t es y ys h = absurd (let k : [] ≡ y ∷ ys = h in cc)
late (suc n) t es y ys h = elim (few t es) [
  | inl none ↦ (let k = late n (suc t) es y ys (sym (ap (λ (l : List Entry). l ++ history_from (suc t) n es) none) ∙ h) in omega (arith, k))
  | inr some ↦ (let q : some.0 ∷ history_from (suc t) n es ≡ y ∷ ys = sym (ap (λ (l : List Entry). l ++ history_from (suc t) n es) some.1) ∙ h in
      let same : some.0 ≡ y = cc in
      let k : y.ticket ≡ t = ap (λ (e : Entry). e.ticket) (sym same) ∙ some.2 in omega (arith, k))
]

-- an empty history has no entry
all_empty : (n t : ℕ) (es : List Entry) → history_from t n es ≡ [] → (k : ℕ) → t ≤ k → k < t + n → with_ticket k es ≡ []
all_empty zero t es h k l u = absurd (omega (arith, l, u))
all_empty (suc n) t es h k l u = elim (few t es) [
  | inl none ↦ go none (at k) (all_empty n (suc t) es (sym (ap (λ (l : List Entry). l ++ history_from (suc t) n es) none) ∙ h))
  | inr some ↦ absurd (let q : some.0 ∷ history_from (suc t) n es ≡ [] = sym (ap (λ (l : List Entry). l ++ history_from (suc t) n es) some.1) ∙ h in cc)
]
  where
    at : (k : ℕ) → (k ≡ t) ⊎ (k ≢ t)
    at k = grind arith

    go : with_ticket t es ≡ [] → (k ≡ t) ⊎ (k ≢ t) → ((k : ℕ) → suc t ≤ k → k < suc t + n → with_ticket k es ≡ []) → with_ticket k es ≡ []
    go none (inl e) ih = subst (λ (w : ℕ). with_ticket w es ≡ []) (sym e) none
    go none (inr d) ih = ih k (let z : suc t ≤ k = omega (arith, l, d) in z) (omega (arith, u))

nothing : (n t : ℕ) (es : List Entry) → ((k : ℕ) → t ≤ k → k < t + n → with_ticket k es ≡ []) → history_from t n es ≡ []
nothing zero t es all = refl
nothing (suc n) t es all = ap (λ (l : List Entry). l ++ history_from (suc t) n es) (all t (omega arith) (omega arith)) ∙ nothing n (suc t) es (λ k l u. all k (omega (arith, l)) (omega (arith, u)))

split : (a b t : ℕ) (es : List Entry) → history_from t (a + b) es ≡ history_from t a es ++ history_from (t + a) b es
split zero b t es = ap (λ (k : ℕ). history_from t k es) (let z : 0 + b ≡ b = omega arith in z) ∙ ap (λ (k : ℕ). history_from k b es) (let z : t ≡ t + 0 = omega arith in z)
split (suc a) b t es =
    ap (λ (k : ℕ). history_from t k es) (let z : suc a + b ≡ suc (a + b) = omega arith in z) ∙
    ap (λ (l : List Entry). with_ticket t es ++ l) (split a b (suc t) es ∙ ap (λ (k : ℕ). history_from (suc t) a es ++ history_from k b es) (let z : suc t + a ≡ t + suc a = omega arith in z))
    ∙ sym (append_assoc (with_ticket t es) (history_from (suc t) a es) (history_from (t + suc a) b es))

-- an entry with a later ticket is in no part before it
same_but : (n t : ℕ) (e : Entry) (es : List Entry) → t + n ≤ e.ticket → history_from t n (e ∷ es) ≡ history_from t n es
same_but zero t e es l = refl
same_but (suc n) t e es l =
    let other : (e.ticket == t) ≡ false = differ e.ticket t (omega (arith, l)) in
    ap (λ (b : Bool). cond b (e ∷ []) (with_ticket t es) ++ history_from (suc t) n (e ∷ es)) other ∙ ap (λ (r : List Entry). with_ticket t es ++ r) (same_but n (suc t) e es (omega (arith, l)))
  where
    differ : (a b : ℕ) → b < a → (a == b) ≡ false
    differ a b l = grind (arith, nat_tests)

short : (n t : ℕ) (es : List Entry) → length (history_from t n es) ≤ n
short zero t es = omega arith
short (suc n) t es = elim (few t es) [
  | inl none ↦ (let k = short n (suc t) es in let e = ap length (ap (λ (l : List Entry). l ++ history_from (suc t) n es) none) in omega (arith, k, e))
  | inr some ↦ (let k = short n (suc t) es in let e : length (history_from t (suc n) es) ≡ suc (length (history_from (suc t) n es)) = ap length (ap (λ (l : List Entry). l ++ history_from (suc t) n es) some.1) in omega (arith, k, e))
]

-- which tickets have an entry, where the history's tickets count up
record IsShape (n t : ℕ) (es : List Entry) : Type 0 where
  full : (k : ℕ) → t ≤ k → k < t + length (history_from t n es) → with_ticket k es ≡ [] → ⊥
  free : (k : ℕ) → t + length (history_from t n es) ≤ k → k < t + n → with_ticket k es ≡ []

shape : (n t : ℕ) (es : List Entry) → HasTicketsFrom t (history_from t n es) → IsShape n t es
shape zero t es h = record { full = λ k l u e. omega (arith, l, u); free = λ k l u. absurd (omega (arith, l, u)) }
shape (suc n) t es h = elim (few t es) [
  | inl none ↦ without none
  | inr some ↦ with some (shape n (suc t) es)
]
  where
    at : (k : ℕ) → (k ≡ t) ⊎ (k ≢ t)
    at k = grind arith

    without : with_ticket t es ≡ [] → IsShape (suc n) t es
    without none = record { full = full; free = free }
      where
        same : history_from t (suc n) es ≡ history_from (suc t) n es
        same = ap (λ (l : List Entry). l ++ history_from (suc t) n es) none

        rest_none : (r : List Entry) → history_from (suc t) n es ≡ r → r ≡ []
        rest_none [] e = refl
        rest_none (y ∷ ys) e = absurd (let k = late n (suc t) es y ys e in let q = (subst (λ (l : List Entry). HasTicketsFrom t l) (same ∙ e) h).0 in omega (arith, k, q))

        empty : history_from (suc t) n es ≡ []
        empty = rest_none (history_from (suc t) n es) refl

        none_long : length (history_from t (suc n) es) ≡ 0
        none_long = ap length (same ∙ empty)

        full : (k : ℕ) → t ≤ k → k < t + length (history_from t (suc n) es) → with_ticket k es ≡ [] → ⊥
        full k l u e = omega (arith, l, u, none_long)

        pick : (k : ℕ) → t ≤ k → k < t + suc n → (k ≡ t) ⊎ (k ≢ t) → with_ticket k es ≡ []
        pick k l u (inl e) = subst (λ (w : ℕ). with_ticket w es ≡ []) (sym e) none
        pick k l u (inr d) = all_empty n (suc t) es empty k (let z : suc t ≤ k = omega (arith, l, d) in z) (omega (arith, u))

        free : (k : ℕ) → t + length (history_from t (suc n) es) ≤ k → k < t + suc n → with_ticket k es ≡ []
        free k l u = pick k (omega (arith, l)) u (at k)

    with : ((x : Entry) × (with_ticket t es ≡ x ∷ []) × (x.ticket ≡ t)) → (HasTicketsFrom (suc t) (history_from (suc t) n es) → IsShape n (suc t) es) → IsShape (suc n) t es
    with some ih = record { full = λ k l u e. full k l u e (at k); free = λ k l u. rest.free k (omega (arith, l, long)) (omega (arith, u)) }
      where
        same : history_from t (suc n) es ≡ some.0 ∷ history_from (suc t) n es
        same = ap (λ (l : List Entry). l ++ history_from (suc t) n es) some.1

        long : length (history_from t (suc n) es) ≡ suc (length (history_from (suc t) n es))
        long = ap length same

        rest : IsShape n (suc t) es
        rest = ih (subst (λ (l : List Entry). HasTicketsFrom t l) same h).1

        full : (k : ℕ) → t ≤ k → k < t + length (history_from t (suc n) es) → with_ticket k es ≡ [] → (k ≡ t) ⊎ (k ≢ t) → ⊥
        full k l u e (inl q) = (let z : some.0 ∷ [] ≡ [] = sym some.1 ∙ subst (λ (w : ℕ). with_ticket w es ≡ []) q e in absurd (let y : some.0 ∷ [] ≡ [] = z in cc))
        full k l u e (inr d) = rest.full k (let z : suc t ≤ k = omega (arith, l, d) in z) (omega (arith, u, long)) e

-- the entry that was added has the next ticket, and stands last
pub history_more : (m : Undivided) (e : Entry) (es : List Entry) → IsLegal m (history_in es) → IsLegal m (history_in (e ∷ es)) → length (history_in (e ∷ es)) ≡ suc (length (history_in es))
    → (e.ticket ≡ length (history_in es)) × (history_in (e ∷ es) ≡ history_in es ++ e ∷ [])
history_more m e es legal legal' longer = (ticket, grown)
  where
    n : ℕ
    n = length es

    most : ℕ
    most = length (history_in es)

    old : IsShape n 0 es
    old = shape n 0 es (legal-tickets 0 m (history_in es) legal)

    new : IsShape (suc n) 0 (e ∷ es)
    new = shape (suc n) 0 (e ∷ es) (legal-tickets 0 m (history_in (e ∷ es)) legal')

    within : most ≤ n
    within = short n 0 es

    order : (a b : ℕ) → (a < b) ⊎ (b ≤ a)
    order a b = grind arith

    crowded : n ≤ most → (with_ticket most es ≡ [] → ⊥) → ⊥
    crowded l there =
        let k = le-length_from_below (map (λ (d : Entry). d.ticket) es) (suc n) (λ q u. ticket_there q es (each q u (order q n))) in
        let j = length-map es (λ (d : Entry). d.ticket) in
        omega (arith, k, j)
      where
        each : (q : ℕ) → q < suc n → (q < n) ⊎ (n ≤ q) → with_ticket q es ≡ [] → ⊥
        each q u (inl low) = old.full q (omega arith) (omega (arith, low, l))
        each q u (inr up) = subst (λ (w : ℕ). with_ticket w es ≡ [] → ⊥) (let z : most ≡ q = omega (arith, u, up, l, within) in z) there

    missing : (with_ticket most es ≡ [] → ⊥) → (most < n) ⊎ (n ≤ most) → ⊥
    missing there (inl low) = there (old.free most (omega arith) (omega (arith, low)))
    missing there (inr up) = crowded up there

    next : (b : Bool) → (e.ticket == most) ≡ b → (cond b (e ∷ []) (with_ticket most es) ≡ [] → ⊥) → e.ticket ≡ most
    next true q there = grind (arith, nat_tests)
    next false q there = absurd (missing there (order most n))

    ticket : e.ticket ≡ most
    ticket = next (e.ticket == most) refl (new.full most (omega arith) (omega (arith, longer)))

    beyond : ℕ
    beyond = n - most

    is_named : (a b : ℕ) → a ≡ b → (a == b) ≡ true
    is_named a b q = grind (arith, nat_tests)

    last : with_ticket most (e ∷ es) ≡ e ∷ []
    last = ap (λ (b : Bool). cond b (e ∷ []) (with_ticket most es)) (is_named e.ticket most ticket)

    before : history_in es ≡ history_from 0 most es
    before =
        ap (λ (k : ℕ). history_from 0 k es) (let z : n ≡ most + beyond = omega (arith, within) in z)
        ∙ split most beyond 0 es
        ∙ ap (λ (l : List Entry). history_from 0 most es ++ l) (nothing beyond (0 + most) es (λ k l u. old.free k l (omega (arith, u, within))))
        ∙ append-nil (history_from 0 most es)

    grown : history_in (e ∷ es) ≡ history_in es ++ e ∷ []
    grown =
        ap (λ (k : ℕ). history_from 0 k (e ∷ es)) (let z : suc n ≡ most + suc beyond = omega (arith, within) in z)
        ∙ split most (suc beyond) 0 (e ∷ es)
        ∙ ap (λ (k : ℕ). history_from 0 most (e ∷ es) ++ history_from k (suc beyond) (e ∷ es)) (let z : 0 + most ≡ most = omega arith in z)
        ∙ ap (λ (l : List Entry). l ++ (with_ticket most (e ∷ es) ++ history_from (suc most) beyond (e ∷ es))) (same_but most 0 e es (omega (arith, ticket)))
        ∙ ap (λ (l : List Entry). history_from 0 most es ++ (l ++ history_from (suc most) beyond (e ∷ es))) last
        ∙ ap (λ (l : List Entry). history_from 0 most es ++ (e ∷ l)) (nothing beyond (suc most) (e ∷ es) (λ k l u. new.free k (omega (arith, l, longer)) (omega (arith, u, within))))
        ∙ ap (λ (l : List Entry). l ++ e ∷ []) (sym before)
