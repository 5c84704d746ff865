-- Lists by the places of their elements.
use Rattle.std.proofs.Common.{◌≡◌, ◌∙◌, ℕ, suc, ◌+◌, ◌<◌, List, [], ◌∷◌, ◌++◌, length, get_or, ap, refl, sym, subst, arith, flat_map, map, slice_index_or, Bool, true, false, not, cond, ◌||◌, ◌&&◌, ◌==◌}
use Rattle.std.specs.Prelude.{filter, All}
use Rattle.std.specs.List.{list_any, range_with_len}
use Rattle.std.proofs.lemmas.Bool.{eqb-true}
use Rattle.std.proofs.lemmas.Bool.Decides.{nat_tests}
use Rattle.std.proofs.lemmas.List.{get_or_default}
use Rattle.std.proofs.lemmas.List.Folds.{list_any_at, list_any_none}
use Rattle.std.proofs.lemmas.List.FromFn.{get_or-range_with_len, length-range_with_len}
use Rattle.pf_model.specs.declared.Tri.{Tri}
use Rattle.pf_model.specs.Mesh.{has_corner}
use Rattle.pf_assemble.specs.ChunkList.{owns_at}
use Rattle.pf_assemble.specs.Placed.{tri_at, is_owned_at}
use Rattle.pf_assemble.specs.Rows.{taken}
use Rattle.pf_assemble.proofs.Filling.{three-corners}

-- what a function of places gives, where it reads a list
read-from : {X : Type 0} (f : ℕ → X) (xs : List X) (a : ℕ) → ((i : ℕ) (d : X) → i < length xs → f (a + i) ≡ get_or xs i d) → map f (range_with_len a (length xs)) ≡ xs
read-from f [] a h = refl
read-from {X} f (x ∷ xs) a h = λ i. first i ∷ read-from f xs (a + 1) rest i
  where
    first : f a ≡ x
    first = (let z : a ≡ a + 0 = omega arith in ap f z) ∙ h 0 x (let w : 0 < suc (length xs) = omega arith in w)

    rest : (i : ℕ) (d : X) → i < length xs → f (a + 1 + i) ≡ get_or xs i d
    rest i d l = (let z : a + 1 + i ≡ a + suc i = omega arith in ap f z) ∙ h (suc i) d (let w : suc i < suc (length xs) = omega (arith, l) in w)

-- all places read give the list
pub read-all : {X : Type 0} (xs : List X) (e : X) → map (λ i. slice_index_or xs i e) (range_with_len 0 (length xs)) ≡ xs
read-all xs e = read-from (λ i. slice_index_or xs i e) xs 0 (λ i d l. (let z : 0 + i ≡ i = omega arith in ap (λ k. slice_index_or xs k e) z) ∙ get_or_default xs i e d l)

pub map-filter : {X Y : Type 0} (p : Y → Bool) (f : X → Y) (xs : List X) → map f (filter (λ x. p (f x)) xs) ≡ filter p (map f xs)
map-filter p f [] = refl
map-filter p f (x ∷ xs) = go (p (f x)) (map-filter p f xs)
  where
    go : (b : Bool) → map f (filter (λ x. p (f x)) xs) ≡ filter p (map f xs) → map f (cond b (x ∷ filter (λ x. p (f x)) xs) (filter (λ x. p (f x)) xs)) ≡ cond b (f x ∷ filter p (map f xs)) (filter p (map f xs))
    go true e = ap (λ l. f x ∷ l) e
    go false e = e

-- the elements at the places that are taken
pub read-taken : {X : Type 0} (p : X → Bool) (xs : List X) (e : X) → map (λ i. slice_index_or xs i e) (taken (λ i. p (slice_index_or xs i e)) (length xs)) ≡ filter p xs
read-taken p xs e = map-filter p (λ i. slice_index_or xs i e) (range_with_len 0 (length xs)) ∙ ap (filter p) (read-all xs e)

pub any-filter : {X : Type 0} (p f : X → Bool) (xs : List X) → list_any f (filter p xs) ≡ list_any (λ x. p x && f x) xs
any-filter p f [] = refl
any-filter p f (x ∷ xs) = go (p x) (any-filter p f xs)
  where
    go : (b : Bool) → list_any f (filter p xs) ≡ list_any (λ x. p x && f x) xs → list_any f (cond b (x ∷ filter p xs) (filter p xs)) ≡ (b && f x || list_any (λ x. p x && f x) xs)
    go true e = ap (λ k. f x || k) e
    go false e = e

pub any-map : {X Y : Type 0} (f : Y → Bool) (g : X → Y) (xs : List X) → list_any f (map g xs) ≡ list_any (λ x. f (g x)) xs
any-map f g [] = refl
any-map f g (x ∷ xs) = ap (λ k. f (g x) || k) (any-map f g xs)

pub filter-filter : {X : Type 0} (p q : X → Bool) (xs : List X) → filter p (filter q xs) ≡ filter (λ x. p x && q x) xs
filter-filter p q [] = refl
filter-filter p q (x ∷ xs) = go (q x) (filter-filter p q xs)
  where
    and-true : (b : Bool) → b ≡ (b && true)
    and-true true = refl
    and-true false = refl

    and-false : (b : Bool) → false ≡ (b && false)
    and-false true = refl
    and-false false = refl

    go : (b : Bool) → filter p (filter q xs) ≡ filter (λ x. p x && q x) xs → filter p (cond b (x ∷ filter q xs) (filter q xs)) ≡ cond (p x && b) (x ∷ filter (λ x. p x && q x) xs) (filter (λ x. p x && q x) xs)
    go true e = λ i. cond (and-true (p x) i) (x ∷ e i) (e i)
    go false e = e ∙ ap (λ b. cond b (x ∷ filter (λ x. p x && q x) xs) (filter (λ x. p x && q x) xs)) (and-false (p x))

-- two functions that agree at the elements
pub flat-same : {X Y : Type 0} (f g : X → List Y) (P : X → Type 0) → ((x : X) → P x → f x ≡ g x) → (xs : List X) → All P xs → flat_map f xs ≡ flat_map g xs
flat-same f g P same [] all = refl
flat-same f g P same (x ∷ xs) all =
    λ i. same x (all 0 x (let w : 0 < suc (length xs) = omega arith in w)) i ++ flat-same f g P same xs (λ k d l. all (suc k) d (let w : suc k < suc (length xs) = omega (arith, l) in w)) i

-- a test that can hold at w alone
any-one : (f : ℕ → Bool) (w n : ℕ) → w < n → ((k : ℕ) → (k == w) ≡ false → f k ≡ false) → list_any f (range_with_len 0 n) ≡ f w
any-one f w n l h = go (f w) refl
  where
    none : f w ≡ false → (x : ℕ) (b : Bool) → (x == w) ≡ b → f x ≡ false
    none e x true is = ap f (eqb-true x w is) ∙ e
    none e x false is = h x is

    go : (b : Bool) → f w ≡ b → list_any f (range_with_len 0 n) ≡ b
    go true e = list_any_at f (range_with_len 0 n) w 0 (subst (λ k. w < k) (sym (length-range_with_len 0 n)) l) (ap f (get_or-range_with_len 0 n w 0 l ∙ (let z : 0 + w ≡ w = omega arith in z)) ∙ e)
    go false e = list_any_none f (range_with_len 0 n) (λ i d within. none e (get_or (range_with_len 0 n) i d) (get_or (range_with_len 0 n) i d == w) refl)

same : (w : ℕ) → (w == w) ≡ true
same w = grind (arith, nat_tests)

flipped : (a b : ℕ) → (a == b) ≡ (b == a)
flipped a b = grind (arith, nat_tests)

and-none : (a b : Bool) → b ≡ false → (a && b) ≡ false
and-none true b e = e
and-none false b e = refl

and-all : (a b : Bool) → b ≡ true → (a && b) ≡ a
and-all true b e = e
and-all false b e = refl

and-flip : (a b : Bool) → (a && b) ≡ (b && a)
and-flip true true = refl
and-flip true false = refl
and-flip false true = refl
and-flip false false = refl

-- whether a number is taken
pub taken-any : (p : ℕ → Bool) (n w : ℕ) → w < n → list_any (λ k. k == w) (taken p n) ≡ p w
taken-any p n w l =
    any-filter p (λ k. k == w) (range_with_len 0 n)
    ∙ (any-one (λ k. p k && k == w) w n l (λ k e. and-none (p k) (k == w) e)
    ∙ and-all (p w) (w == w) (same w))

-- whether a number is taken, but the chunk's own
pub taken-other : (p : ℕ → Bool) (n own w : ℕ) → w < n → list_any (λ k. not (k == own) && k == w) (taken p n) ≡ (not (own == w) && p w)
taken-other p n own w l =
    any-filter p (λ k. not (k == own) && k == w) (range_with_len 0 n)
    ∙ (any-one (λ k. p k && (not (k == own) && k == w)) w n l (λ k e. and-none (p k) (not (k == own) && k == w) (and-none (not (k == own)) (k == w) e))
    ∙ (ap (λ b. p w && b) (and-all (not (w == own)) (w == w) (same w) ∙ ap not (flipped w own))
    ∙ and-flip (p w) (not (own == w))))

-- a chunk that owns a triangle at the name
pub owned-corner : (ts : List Tri) (c n : ℕ) → list_any (λ i. has_corner n (tri_at ts i)) (taken (is_owned_at ts c) (length ts)) ≡ owns_at c n ts
owned-corner ts c n =
    any-filter (is_owned_at ts c) (λ i. has_corner n (tri_at ts i)) (range_with_len 0 (length ts))
    ∙ (sym (any-map (λ (t : Tri). t.owner == c && has_corner n t) (tri_at ts) (range_with_len 0 (length ts)))
    ∙ ap (list_any (λ (t : Tri). t.owner == c && has_corner n t)) (read-all ts record { a = 0; b = 0; c = 0; owner = 0 }))

-- three corners of a triangle that isn't the chunk's own
pub near-corners : (other a b c q : Bool) → ((other && a) || ((other && b) || ((other && c) || q))) ≡ ((other && (a || (b || c))) || q)
near-corners true a b c q = three-corners a b c q
near-corners false a b c q = refl
