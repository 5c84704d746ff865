-- Lists that a loop makes, as far as it has come.
use Rattle.std.proofs.Common.{◌≡◌, ◌∙◌, ℕ, zero, suc, ◌+◌, ◌<◌, ◌≤◌, List, [], ◌∷◌, ◌++◌, length, drop, get_or, flat_map, ap, refl, sym, arith, append_assoc, append-nil, add-one, Bool, true, false, cond}
use Rattle.std.specs.Prelude.{filter}
use Rattle.std.specs.List.{range_with_len}
use Rattle.std.proofs.Math.Seq.{drop-cons}
use Rattle.std.proofs.lemmas.List.{drop_all}
use Rattle.std.proofs.lemmas.List.Concat.{flat_map-append}

-- what one element more gives
pub made-more : {X Y : Type 0} (f : X → List Y) (made whole : List Y) (xs : List X) (i : ℕ) (d : X) → i < length xs → made ++ flat_map f (drop i xs) ≡ whole → (made ++ f (get_or xs i d)) ++ flat_map f (drop (i + 1) xs) ≡ whole
made-more f made whole xs i d within h =
    let e : drop i xs ≡ get_or xs i d ∷ drop (i + 1) xs = rw add-one (drop-cons xs i d within) in
    append_assoc made (f (get_or xs i d)) (flat_map f (drop (i + 1) xs)) ∙ (ap (λ l. made ++ flat_map f l) (sym e) ∙ h)

-- the same of an element that stands there
pub made-item : {X Y : Type 0} (f : X → List Y) (made whole : List Y) (xs : List X) (i : ℕ) (x : X) → i < length xs → x ≡ get_or xs i x → made ++ flat_map f (drop i xs) ≡ whole → (made ++ f x) ++ flat_map f (drop (i + 1) xs) ≡ whole
made-item f made whole xs i x within is h = ap (λ y. (made ++ f y) ++ flat_map f (drop (i + 1) xs)) is ∙ made-more f made whole xs i x within h

-- all was made
pub made-all : {X Y : Type 0} (f : X → List Y) (made whole : List Y) (xs : List X) (i : ℕ) → length xs ≤ i → made ++ flat_map f (drop i xs) ≡ whole → made ≡ whole
made-all f made whole xs i past h = sym (append-nil made) ∙ (ap (λ l. made ++ flat_map f l) (sym (drop_all i xs past)) ∙ h)

range_more : (a n : ℕ) → range_with_len a (suc n) ≡ range_with_len a n ++ (a + n) ∷ []
range_more a zero = let e : a ≡ a + 0 = omega arith in ap (λ k. k ∷ []) e
range_more a (suc n) = let e : a + 1 + n ≡ a + suc n = omega arith in ap (λ l. a ∷ l) (range_more (a + 1) n ∙ ap (λ k. range_with_len (a + 1) n ++ k ∷ []) e)

-- what the next number gives
pub ranged-more : {X : Type 0} (f : ℕ → List X) (n : ℕ) → flat_map f (range_with_len 0 (n + 1)) ≡ flat_map f (range_with_len 0 n) ++ f n
ranged-more f n =
    let e : range_with_len 0 (n + 1) ≡ range_with_len 0 n ++ n ∷ [] = rw add-one (let z : 0 + n ≡ n = omega arith in range_more 0 n ∙ ap (λ k. range_with_len 0 n ++ k ∷ []) z) in
    ap (flat_map f) e ∙ flat_map-append f (range_with_len 0 n) (n ∷ []) ∙ ap (λ l. flat_map f (range_with_len 0 n) ++ l) (append-nil (f n))

-- one element more or none is a filter
pub picked : {X Y : Type 0} (p : X → Bool) (f : X → List Y) (xs : List X) → flat_map (λ x. cond (p x) (f x) []) xs ≡ flat_map f (filter p xs)
picked p f [] = refl
picked p f (x ∷ xs) = go (p x) (picked p f xs)
  where
    go : (b : Bool) → flat_map (λ x. cond (p x) (f x) []) xs ≡ flat_map f (filter p xs) → cond b (f x) [] ++ flat_map (λ x. cond (p x) (f x) []) xs ≡ flat_map f (cond b (x ∷ filter p xs) (filter p xs))
    go true e = ap (λ l. f x ++ l) e
    go false e = e

-- each element alone makes the list
pub alone : {X : Type 0} (xs : List X) → flat_map (λ x. x ∷ []) xs ≡ xs
alone [] = refl
alone (x ∷ xs) = ap (λ l. x ∷ l) (alone xs)
