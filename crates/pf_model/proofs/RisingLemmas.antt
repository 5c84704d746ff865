-- Strictly rising lists: their front and rest, a filter, `insert_by`, `insert_all_by`, and that two with the same members are equal.
-- Assumes of the test that it is irreflexive and transitive (`IsStrictOrder`). It need not compare every two elements.
use Rattle.std.proofs.Common.{◌≡◌, ℕ, zero, suc, ◌<◌, List, [], ◌∷◌, length, refl, sym, ◌∙◌, subst, Bool, true, false, cond, ◌⊎◌, inl, inr, arith}
use Rattle.std.specs.Prelude.{Contains, filter, slice_index_or}
use Rattle.std.proofs.lemmas.List.Elements.{Contains-get_or}
use Rattle.pf_model.specs.Rising.{insert_by, insert_all_by, IsRising}
use Rattle.pf_model.proofs.Members.{nowhere, here, there, cases, each, filter-out, insert_by-cases, insert_all_by-cases}

pub record IsStrictOrder {X : Type 0} (lt : X → X → Bool) : Type 0 where
  pub irreflexive : (x : X) → lt x x ≡ false
  pub transitive : (x y z : X) → lt x y ≡ true → lt y z ≡ true → lt x z ≡ true

pub rising-nil : {X : Type 0} (lt : X → X → Bool) → IsRising lt []
rising-nil lt i j d l k = absurd (omega arith)

pub rising-head : {X : Type 0} (lt : X → X → Bool) (x z : X) (xs : List X) → IsRising lt (x ∷ xs) → Contains xs z → lt x z ≡ true
rising-head {X} lt x z xs up h = subst (λ w. lt x w ≡ true) h.2 (up 0 (suc h.0) z (omega arith) (let l = h.1 in omega arith))

pub rising-tail : {X : Type 0} (lt : X → X → Bool) (x : X) (xs : List X) → IsRising lt (x ∷ xs) → IsRising lt xs
rising-tail lt x xs up i j d l k = up (suc i) (suc j) d (omega arith) (omega arith)

pub rising-cons : {X : Type 0} (lt : X → X → Bool) (x : X) (xs : List X) → ((z : X) → Contains xs z → lt x z ≡ true) → IsRising lt xs → IsRising lt (x ∷ xs)
rising-cons {X} lt x xs all up = go
  where
    go : (i j : ℕ) (d : X) → i < j → j < length (x ∷ xs) → lt (slice_index_or (x ∷ xs) i d) (slice_index_or (x ∷ xs) j d) ≡ true
    go zero zero d l k = absurd (omega arith)
    go zero (suc j) d l k = all (slice_index_or xs j d) (Contains-get_or xs j d (let k' : suc j < suc (length xs) = k in omega arith))
    go (suc i) zero d l k = absurd (omega arith)
    go (suc i) (suc j) d l k = up i j d (omega arith) (let k' : suc j < suc (length xs) = k in omega arith)

pub rising-filter : {X : Type 0} (lt : X → X → Bool) (p : X → Bool) (xs : List X) → IsRising lt xs → IsRising lt (filter p xs)
rising-filter lt p [] up = up
rising-filter {X} lt p (x ∷ xs) up = go (p x) (rising-filter lt p xs (rising-tail lt x xs up))
  where
    go : (b : Bool) → IsRising lt (filter p xs) → IsRising lt (cond b (x ∷ filter p xs) (filter p xs))
    go true ih = rising-cons lt x (filter p xs) (λ z h. rising-head lt x z xs up (filter-out p z xs h).0) ih
    go false ih = ih

-- x stands before or after each element
abbrev pub IsApart : {X : Type 0} → (X → X → Bool) → X → List X → Type 0
IsApart {X} lt x xs = (z : X) → Contains xs z → (lt x z ≡ true) ⊎ (lt z x ≡ true)

pub rising-insert_by : {X : Type 0} (lt : X → X → Bool) → IsStrictOrder lt → (x : X) (xs : List X) → IsApart lt x xs → IsRising lt xs → IsRising lt (insert_by lt x xs)
rising-insert_by {X} lt o x [] apart up = rising-cons lt x [] (λ z h. absurd (nowhere z h)) up
rising-insert_by {X} lt o x (y ∷ ys) apart up =
    go (lt x y) refl (rising-insert_by lt o x ys (λ z h. apart z (there z y ys h)) (rising-tail lt y ys up))
  where
    after : lt x y ≡ false → lt y x ≡ true
    after q = elim (apart y (here y ys)) [ inl e ↦ absurd (let k : true ≡ false = sym e ∙ q in cc) | inr e ↦ e ]

    go : (b : Bool) → lt x y ≡ b → IsRising lt (insert_by lt x ys) → IsRising lt (cond b (x ∷ y ∷ ys) (y ∷ insert_by lt x ys))
    go true q ih = rising-cons lt x (y ∷ ys) (each (λ z. lt x z ≡ true) y ys q (λ z h. o.transitive x y z q (rising-head lt y z ys up h))) up
    go false q ih =
        rising-cons lt y (insert_by lt x ys)
        (λ z h. elim (insert_by-cases lt x z ys h) [ inl e ↦ subst (λ w. lt y w ≡ true) (sym e) (after q) | inr r ↦ rising-head lt y z ys up r ])
        ih

-- apart from one another
abbrev pub AreApart : {X : Type 0} → (X → X → Bool) → List X → Type 0
AreApart lt [] = Unit {0}
AreApart lt (x ∷ xs) = IsApart lt x xs × AreApart lt xs

pub rising-insert_all_by : {X : Type 0} (lt : X → X → Bool) → IsStrictOrder lt → (xs ys : List X) → AreApart lt xs → ((x : X) → Contains xs x → IsApart lt x ys) → IsRising lt ys → IsRising lt (insert_all_by lt xs ys)
rising-insert_all_by lt o [] ys apart others up = up
rising-insert_all_by {X} lt o (x ∷ xs) ys apart others up =
    rising-insert_by lt o x (insert_all_by lt xs ys)
    (λ z h. elim (insert_all_by-cases lt z xs ys h) [ inl e ↦ apart.0 z e | inr r ↦ others x (here x xs) z r ])
    (rising-insert_all_by lt o xs ys apart.1 (λ z h. others z (there z x xs h)) up)

-- no element stands before itself
not_itself : {X : Type 0} (lt : X → X → Bool) → IsStrictOrder lt → (x : X) → lt x x ≡ true → ⊥
not_itself lt o x e = let f : lt x x ≡ false = o.irreflexive x in let k : true ≡ false = sym e ∙ f in cc

pub rising-same : {X : Type 0} (lt : X → X → Bool) → IsStrictOrder lt → (xs ys : List X) → IsRising lt xs → IsRising lt ys → ((z : X) → Contains xs z → Contains ys z) → ((z : X) → Contains ys z → Contains xs z) → xs ≡ ys
rising-same lt o [] [] upx upy there' back = refl
rising-same lt o [] (y ∷ ys) upx upy there' back = absurd (nowhere y (back y (here y ys)))
rising-same lt o (x ∷ xs) [] upx upy there' back = absurd (nowhere x (there' x (here x xs)))
rising-same {X} lt o (x ∷ xs) (y ∷ ys) upx upy there' back =
    cons (heads (cases x y ys (there' x (here x xs))) (cases y x xs (back y (here y ys))))
    (rising-same lt o xs ys (rising-tail lt x xs upx) (rising-tail lt y ys upy) forth_rest back_rest)
  where
    heads : (x ≡ y) ⊎ Contains ys x → (y ≡ x) ⊎ Contains xs y → x ≡ y
    heads (inl e) q = e
    heads (inr r) (inl e) = sym e
    heads (inr r) (inr s) = absurd (not_itself lt o x (o.transitive x y x (rising-head lt x y xs upx s) (rising-head lt y x ys upy r)))

    same : x ≡ y
    same = heads (cases x y ys (there' x (here x xs))) (cases y x xs (back y (here y ys)))

    forth_rest : (z : X) → Contains xs z → Contains ys z
    forth_rest z h = elim (cases z y ys (there' z (there z x xs h))) [ inl e ↦ absurd (not_itself lt o x (subst (λ w. lt x w ≡ true) (e ∙ sym same) (rising-head lt x z xs upx h))) | inr r ↦ r ]

    back_rest : (z : X) → Contains ys z → Contains xs z
    back_rest z h = elim (cases z x xs (back z (there z y ys h))) [ inl e ↦ absurd (not_itself lt o y (subst (λ w. lt y w ≡ true) (e ∙ same) (rising-head lt y z ys upy h))) | inr r ↦ r ]

    cons : x ≡ y → xs ≡ ys → x ∷ xs ≡ y ∷ ys
    cons e f = cc
