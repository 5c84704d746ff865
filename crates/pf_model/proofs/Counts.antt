-- How many elements of a list pass a test.
use Rattle.std.proofs.Common.{◌≡◌, suc, ◌<◌, ◌≤◌, List, [], ◌∷◌, refl, sym, ◌∙◌, ap, Bool, true, false, cond, ◌⊎◌, inl, inr, arith}
use Rattle.std.specs.Prelude.{Contains, length, filter}
use Rattle.pf_model.proofs.Members.{nowhere, cases}

pub count_le : {X : Type 0} (p q : X → Bool) → ((x : X) → p x ≡ true → q x ≡ true) → (xs : List X) → length (filter p xs) ≤ length (filter q xs)
count_le p q h [] = omega arith
count_le {X} p q h (x ∷ xs) = go (p x) (q x) refl refl (count_le p q h xs)
  where
    go : (a b : Bool) → p x ≡ a → q x ≡ b → length (filter p xs) ≤ length (filter q xs) → length (cond a (x ∷ filter p xs) (filter p xs)) ≤ length (cond b (x ∷ filter q xs) (filter q xs))
    go true true e f ih = omega (arith, ih)
    go true false e f ih = absurd (let z : true ≡ false = sym (h x e) ∙ f in cc)
    go false true e f ih = omega (arith, ih)
    go false false e f ih = ih

pub count_lt : {X : Type 0} (p q : X → Bool) → ((x : X) → p x ≡ true → q x ≡ true) → (xs : List X) (z : X) → Contains xs z → p z ≡ false → q z ≡ true → length (filter p xs) < length (filter q xs)
count_lt p q h [] z c np yq = absurd (nowhere z c)
count_lt {X} p q h (x ∷ xs) z c np yq = go (p x) (q x) refl refl (cases z x xs c) (λ r. count_lt p q h xs z r np yq)
  where
    go : (a b : Bool) → p x ≡ a → q x ≡ b → (z ≡ x) ⊎ Contains xs z → (Contains xs z → length (filter p xs) < length (filter q xs)) → length (cond a (x ∷ filter p xs) (filter p xs)) < length (cond b (x ∷ filter q xs) (filter q xs))
    go true true e f (inl s) ih = absurd (let k : true ≡ false = sym e ∙ ap p (sym s) ∙ np in cc)
    go true true e f (inr r) ih = let i = ih r in omega (arith, i)
    go true false e f s ih = absurd (let k : true ≡ false = sym (h x e) ∙ f in cc)
    go false true e f s ih = let i = count_le p q h xs in omega (arith, i)
    go false false e f (inl s) ih = absurd (let k : true ≡ false = sym yq ∙ ap q s ∙ f in cc)
    go false false e f (inr r) ih = ih r

pub count_all : {X : Type 0} (p : X → Bool) (xs : List X) → length (filter p xs) ≤ length xs
count_all p [] = omega arith
count_all {X} p (x ∷ xs) = go (p x) (count_all p xs)
  where
    go : (a : Bool) → length (filter p xs) ≤ length xs → length (cond a (x ∷ filter p xs) (filter p xs)) ≤ suc (length xs)
    go true ih = omega (arith, ih)
    go false ih = omega (arith, ih)

-- where one doesn't pass, fewer do than there are
pub count_fewer : {X : Type 0} (p : X → Bool) (xs : List X) (z : X) → Contains xs z → p z ≡ false → length (filter p xs) < length xs
count_fewer p [] z c e = absurd (nowhere z c)
count_fewer {X} p (x ∷ xs) z c e = go (p x) refl (cases z x xs c) (λ r. count_fewer p xs z r e)
  where
    go : (a : Bool) → p x ≡ a → (z ≡ x) ⊎ Contains xs z → (Contains xs z → length (filter p xs) < length xs) → length (cond a (x ∷ filter p xs) (filter p xs)) < suc (length xs)
    go true f (inl s) ih = absurd (let k : true ≡ false = sym f ∙ ap p (sym s) ∙ e in cc)
    go true f (inr r) ih = let i = ih r in omega (arith, i)
    go false f s ih = let i = count_all p xs in omega (arith, i)
