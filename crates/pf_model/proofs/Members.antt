-- Membership of lists (`Contains`): at the front, in the rest, after a filter, after `insert_by` and `insert_all_by`.
-- Assumes nothing of the elements.
use Rattle.std.proofs.Common.{◌≡◌, ℕ, zero, suc, ◌<◌, List, [], ◌∷◌, length, refl, sym, ◌∙◌, ap, subst, Bool, true, false, cond, ◌⊎◌, inl, inr, arith}
use Rattle.std.specs.Prelude.{Contains, filter, slice_index_or}
use Rattle.pf_model.specs.Rising.{insert_by, insert_all_by}

pub nowhere : {X : Type 0} (x : X) → Contains [] x → ⊥
nowhere x h = let l : h.0 < 0 = h.1 in absurd (omega arith)

pub here : {X : Type 0} (x : X) (xs : List X) → Contains (x ∷ xs) x
here x xs = (0, omega arith, refl)

pub there : {X : Type 0} (x y : X) (xs : List X) → Contains xs x → Contains (y ∷ xs) x
there x y xs h = (suc h.0, (let l = h.1 in omega arith), h.2)

pub cases : {X : Type 0} (x y : X) (xs : List X) → Contains (y ∷ xs) x → (x ≡ y) ⊎ Contains xs x
cases {X} x y xs h = go h.0 h.1 h.2
  where
    go : (k : ℕ) → k < length (y ∷ xs) → slice_index_or (y ∷ xs) k x ≡ x → (x ≡ y) ⊎ Contains xs x
    go zero l e = inl (sym e)
    go (suc k) l e = inr (k, (let l' : suc k < suc (length xs) = l in omega arith), e)

-- a list whose members are known by cases
pub each : {X : Type 0} (P : X → Type 0) (y : X) (xs : List X) → P y → ((x : X) → Contains xs x → P x) → (x : X) → Contains (y ∷ xs) x → P x
each P y xs p rest x h = elim (cases x y xs h) [ inl e ↦ subst P (sym e) p | inr r ↦ rest x r ]

pub filter-in : {X : Type 0} (p : X → Bool) (x : X) (xs : List X) → Contains xs x → p x ≡ true → Contains (filter p xs) x
filter-in p x [] h e = absurd (nowhere x h)
filter-in {X} p x (y ∷ ys) h e = go (p y) refl (cases x y ys h) (λ r. filter-in p x ys r e)
  where
    go : (b : Bool) → p y ≡ b → (x ≡ y) ⊎ Contains ys x → (Contains ys x → Contains (filter p ys) x) → Contains (cond b (y ∷ filter p ys) (filter p ys)) x
    go true q (inl s) ih = subst (λ z. Contains (z ∷ filter p ys) x) s (here x (filter p ys))
    go true q (inr r) ih = there x y (filter p ys) (ih r)
    go false q (inl s) ih = absurd (let k : true ≡ false = sym e ∙ ap p s ∙ q in cc)
    go false q (inr r) ih = ih r

pub filter-out : {X : Type 0} (p : X → Bool) (x : X) (xs : List X) → Contains (filter p xs) x → Contains xs x × (p x ≡ true)
filter-out p x [] h = absurd (nowhere x h)
filter-out {X} p x (y ∷ ys) h = go (p y) refl h (λ r. filter-out p x ys r)
  where
    go : (b : Bool) → p y ≡ b → Contains (cond b (y ∷ filter p ys) (filter p ys)) x → (Contains (filter p ys) x → Contains ys x × (p x ≡ true)) → Contains (y ∷ ys) x × (p x ≡ true)
    go true q h' ih = elim (cases x y (filter p ys) h') [ inl s ↦ (subst (λ z. Contains (z ∷ ys) x) s (here x ys), ap p s ∙ q) | inr r ↦ (there x y ys (ih r).0, (ih r).1) ]
    go false q h' ih = (there x y ys (ih h').0, (ih h').1)

pub insert_by-new : {X : Type 0} (lt : X → X → Bool) (x : X) (xs : List X) → Contains (insert_by lt x xs) x
insert_by-new lt x [] = here x []
insert_by-new {X} lt x (y ∷ ys) = go (lt x y) (insert_by-new lt x ys)
  where
    go : (b : Bool) → Contains (insert_by lt x ys) x → Contains (cond b (x ∷ y ∷ ys) (y ∷ insert_by lt x ys)) x
    go true ih = here x (y ∷ ys)
    go false ih = there x y (insert_by lt x ys) ih

pub insert_by-old : {X : Type 0} (lt : X → X → Bool) (x z : X) (xs : List X) → Contains xs z → Contains (insert_by lt x xs) z
insert_by-old lt x z [] h = absurd (nowhere z h)
insert_by-old {X} lt x z (y ∷ ys) h = go (lt x y) (cases z y ys h) (λ r. insert_by-old lt x z ys r)
  where
    go : (b : Bool) → (z ≡ y) ⊎ Contains ys z → (Contains ys z → Contains (insert_by lt x ys) z) → Contains (cond b (x ∷ y ∷ ys) (y ∷ insert_by lt x ys)) z
    go true s ih = there z x (y ∷ ys) h
    go false (inl s) ih = subst (λ w. Contains (w ∷ insert_by lt x ys) z) s (here z (insert_by lt x ys))
    go false (inr r) ih = there z y (insert_by lt x ys) (ih r)

pub insert_by-cases : {X : Type 0} (lt : X → X → Bool) (x z : X) (xs : List X) → Contains (insert_by lt x xs) z → (z ≡ x) ⊎ Contains xs z
insert_by-cases lt x z [] h = cases z x [] h
insert_by-cases {X} lt x z (y ∷ ys) h = go (lt x y) h (λ r. insert_by-cases lt x z ys r)
  where
    on : (z ≡ x) ⊎ Contains ys z → (z ≡ x) ⊎ Contains (y ∷ ys) z
    on (inl e) = inl e
    on (inr r) = inr (there z y ys r)

    go : (b : Bool) → Contains (cond b (x ∷ y ∷ ys) (y ∷ insert_by lt x ys)) z → (Contains (insert_by lt x ys) z → (z ≡ x) ⊎ Contains ys z) → (z ≡ x) ⊎ Contains (y ∷ ys) z
    go true h' ih = cases z x (y ∷ ys) h'
    go false h' ih = elim (cases z y (insert_by lt x ys) h') [ inl e ↦ inr (subst (λ w. Contains (w ∷ ys) z) e (here z ys)) | inr r ↦ on (ih r) ]

pub insert_all_by-new : {X : Type 0} (lt : X → X → Bool) (z : X) (xs ys : List X) → Contains xs z → Contains (insert_all_by lt xs ys) z
insert_all_by-new lt z [] ys h = absurd (nowhere z h)
insert_all_by-new {X} lt z (x ∷ xs) ys h = go (cases z x xs h) (λ r. insert_all_by-new lt z xs ys r)
  where
    go : (z ≡ x) ⊎ Contains xs z → (Contains xs z → Contains (insert_all_by lt xs ys) z) → Contains (insert_by lt x (insert_all_by lt xs ys)) z
    go (inl e) ih = subst (λ w. Contains (insert_by lt w (insert_all_by lt xs ys)) z) e (insert_by-new lt z (insert_all_by lt xs ys))
    go (inr r) ih = insert_by-old lt x z (insert_all_by lt xs ys) (ih r)

pub insert_all_by-old : {X : Type 0} (lt : X → X → Bool) (z : X) (xs ys : List X) → Contains ys z → Contains (insert_all_by lt xs ys) z
insert_all_by-old lt z [] ys h = h
insert_all_by-old lt z (x ∷ xs) ys h = insert_by-old lt x z (insert_all_by lt xs ys) (insert_all_by-old lt z xs ys h)

pub insert_all_by-cases : {X : Type 0} (lt : X → X → Bool) (z : X) (xs ys : List X) → Contains (insert_all_by lt xs ys) z → Contains xs z ⊎ Contains ys z
insert_all_by-cases lt z [] ys h = inr h
insert_all_by-cases {X} lt z (x ∷ xs) ys h = go (insert_by-cases lt x z (insert_all_by lt xs ys) h) (λ r. insert_all_by-cases lt z xs ys r)
  where
    on : Contains xs z ⊎ Contains ys z → Contains (x ∷ xs) z ⊎ Contains ys z
    on (inl e) = inl (there z x xs e)
    on (inr r) = inr r

    go : (z ≡ x) ⊎ Contains (insert_all_by lt xs ys) z → (Contains (insert_all_by lt xs ys) z → Contains xs z ⊎ Contains ys z) → Contains (x ∷ xs) z ⊎ Contains ys z
    go (inl e) ih = inl (subst (λ w. Contains (w ∷ xs) z) e (here z xs))
    go (inr r) ih = on (ih r)
