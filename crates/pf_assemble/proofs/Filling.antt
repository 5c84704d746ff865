-- Rows of numbers as they are filled.
use Rattle.std.proofs.Common.{◌≡◌, ◌∙◌, ℕ, zero, suc, ◌+◌, ◌-◌, ◌<◌, List, [], ◌∷◌, ◌++◌, length, take, get_or, ap, refl, sym, subst, arith, append-nil, add-one, ◌≤◌, slice_index_or, take_all, Bool, true, false, ◌||◌, Vec, Global}
use Rattle.std.specs.Prelude.{nat_eq, filter}
use Rattle.std.specs.List.{list_any, range_with_len}
use Rattle.std.proofs.lemmas.Bool.Decides.{nat_tests}
use Rattle.std.proofs.lemmas.List.{length-append, get_or-map}
use Rattle.std.proofs.lemmas.List.Elements.{All-filter, filter-append}
use Rattle.std.proofs.lemmas.List.Folds.{list_any_more}
use Rattle.std.proofs.lemmas.List.FromFn.{get_or-range_with_len, length-range_with_len}
use Rattle.pf_assemble.specs.Placed.{row_at}
use Rattle.pf_assemble.specs.Rows.{taken, marked, AreTaken, AreMarked, AreBelow}

-- numbers that are taken below n are below n
pub taken-below : (p : ℕ → Bool) (n : ℕ) → AreBelow n (taken p n)
taken-below p n = All-filter p (λ k. k < n) (range_with_len 0 n) (λ i d l. let within : i < n = subst (λ k. i < k) (length-range_with_len 0 n) l in let e = get_or-range_with_len 0 n i d within in omega (arith, e, within))

last-end : (ys : List ℕ) (n d : ℕ) → get_or (ys ++ n ∷ []) (length ys) d ≡ n
last-end [] n d = refl
last-end (y ∷ ys) n d = last-end ys n d

-- a row's last number tells whether n is marked
pub last-is : (p : ℕ → Bool) (n : ℕ) (b : Bool) (xs : List ℕ) → xs ≡ marked p n b → 0 < length xs → nat_eq (get_or xs (length xs - 1) 0) n ≡ b
last-is p n true xs e some =
    let long : length xs - 1 ≡ length (taken p n) = (let l = ap length e ∙ length-append (taken p n) (n ∷ []) in omega (arith, l)) in
    let is : get_or xs (length xs - 1) 0 ≡ n = (λ i. get_or (e i) (long i) 0) ∙ last-end (taken p n) n 0 in
    same (get_or xs (length xs - 1) 0) n is
  where
    same : (a b : ℕ) → a ≡ b → nat_eq a b ≡ true
    same a b h = grind (arith, nat_tests)
last-is p n false xs e some =
    let is : xs ≡ taken p n = e ∙ append-nil (taken p n) in
    let low : get_or (taken p n) (length xs - 1) 0 < n = taken-below p n (length xs - 1) 0 (subst (λ (l : List ℕ). length xs - 1 < length l) is (omega arith)) in
    let lower : get_or xs (length xs - 1) 0 < n = subst (λ (l : List ℕ). get_or l (length xs - 1) 0 < n) (sym is) low in
    other (get_or xs (length xs - 1) 0) n lower
  where
    other : (a b : ℕ) → a < b → nat_eq a b ≡ false
    other a b h = grind (arith, nat_tests)

or-step : (a b c : Bool) → (a || (b || c)) ≡ ((b || a) || c)
or-step true true c = refl
or-step true false c = refl
or-step false true c = refl
or-step false false c = refl

-- one more element of a list marks what it names
pub marked-more : {X : Type 0} (rows : List (Vec ℕ Global)) (p : ℕ → ℕ → Bool) (n : ℕ) (q : ℕ → Bool) (f : ℕ → X → Bool) (xs : List X) (i : ℕ) (d : X) → i < length xs
    → AreMarked rows p n (λ w. f w (get_or xs i d) || (list_any (f w) (take i xs) || q w)) → AreMarked rows p n (λ w. list_any (f w) (take (i + 1) xs) || q w)
marked-more rows p n q f xs i d within h =
    λ w e l. h w e l ∙ ap (marked (p w) n) (or-step (f w (get_or xs i d)) (list_any (f w) (take i xs)) (q w) ∙ ap (λ b. b || q w) (sym (list_any_more (f w) xs i d within)))

-- all elements were gone over
pub marked-all : {X : Type 0} (rows : List (Vec ℕ Global)) (p : ℕ → ℕ → Bool) (n : ℕ) (q : ℕ → Bool) (f : ℕ → X → Bool) (xs : List X) (i : ℕ) → length xs ≤ i
    → AreMarked rows p n (λ w. list_any (f w) (take i xs) || q w) → AreMarked rows p n (λ w. list_any (f w) xs || q w)
marked-all rows p n q f xs i past h =
    λ w e l. h w e l ∙ ap (λ ys. marked (p w) n (list_any (f w) ys || q w)) (take_all i xs past)

-- rows that are empty have what is taken below 0
pub rows-begin : (rows : List (Vec ℕ Global)) (p : ℕ → ℕ → Bool) (count : ℕ) → length rows ≡ count → ((w : ℕ) (d : Vec ℕ Global) → w < count → (slice_index_or rows w d).items ≡ []) → AreTaken rows p 0
rows-begin rows p count long none = λ w d l. none w d (subst (λ (k : ℕ). w < k) long l)

-- nothing is marked yet
pub rows-open : (rows : List (Vec ℕ Global)) (p : ℕ → ℕ → Bool) (n : ℕ) → AreTaken rows p n → AreMarked rows p n (λ w. false)
rows-open rows p n h = λ w d l. h w d l ∙ sym (append-nil (taken (p w) n))

range_more : (a n : ℕ) → range_with_len a (suc n) ≡ range_with_len a n ++ (a + n) ∷ []
range_more a zero = let e : a ≡ a + 0 = omega arith in ap (λ k. k ∷ []) e
range_more a (suc n) = let e : a + 1 + n ≡ a + suc n = omega arith in ap (λ l. a ∷ l) (range_more (a + 1) n ∙ ap (λ k. range_with_len (a + 1) n ++ k ∷ []) e)

-- what is taken below the next number
pub taken-more : (p : ℕ → Bool) (n : ℕ) → marked p n (p n) ≡ taken p (n + 1)
taken-more p n =
    let e : range_with_len 0 n ++ n ∷ [] ≡ range_with_len 0 (n + 1) = rw add-one (let z : n ≡ 0 + n = omega arith in ap (λ k. range_with_len 0 n ++ k ∷ []) z ∙ sym (range_more 0 n)) in
    sym (filter-append p (range_with_len 0 n) (n ∷ [])) ∙ ap (filter p) e

-- where the number is marked in the rows that are to have it, they have what is taken below the next one
pub rows-close : (rows : List (Vec ℕ Global)) (p : ℕ → ℕ → Bool) (n : ℕ) (q : ℕ → Bool) → AreMarked rows p n q → ((w : ℕ) → w < length rows → q w ≡ p w n) → AreTaken rows p (n + 1)
rows-close rows p n q h same = λ w d l. h w d l ∙ (ap (marked (p w) n) (same w l) ∙ taken-more (p w) n)

-- or nothing
pub or-none : (b : Bool) → (b || false) ≡ b
or-none true = refl
or-none false = refl

-- the same in any order
pub three-corners : (a b c q : Bool) → (a || (b || (c || q))) ≡ ((a || (b || c)) || q)
three-corners true b c q = refl
three-corners false true c q = refl
three-corners false false c q = refl

-- a row as it is read at its place
pub row-read : (rows : List (Vec ℕ Global)) (w : ℕ) (d : Vec ℕ Global) → w < length rows → (slice_index_or rows w d).items ≡ row_at rows w
row-read rows w d l = sym (get_or-map (λ (row : Vec ℕ Global). row.items) rows w d [] l)

pub row-taken : (rows : List (Vec ℕ Global)) (p : ℕ → ℕ → Bool) (n w : ℕ) (d : Vec ℕ Global) → AreTaken rows p n → w < length rows → row_at rows w ≡ taken (p w) n
row-taken rows p n w d h l = sym (row-read rows w d l) ∙ h w d l
