-- Sums of integers over lists (`total`): after `insert_by`, `++`, a filter, a replaced patch; lists with the same members.
-- Assumes for the last that no element stands twice (`AreDifferent`) and that two different ones compare.
use Rattle.std.proofs.Common.{◌≡◌, ◌≢◌, List, [], ◌∷◌, ◌++◌, refl, sym, ◌∙◌, ap, subst, Bool, true, false, cond, ◌⊎◌, inl, inr, arith}
use Rattle.std.specs.Prelude.{ℤ, pos, ◌+ℤ◌, Contains, filter, not, map, flat_map}
use Rattle.std.proofs.lemmas.Int.{ints}
use Rattle.std.proofs.lemmas.List.Elements.{Contains-append_cases}
pub use Rattle.pf_model.specs.Rising.{AreDifferent}
use Rattle.pf_model.specs.Rising.{insert_by, insert_all_by, IsRising}
use Rattle.pf_model.specs.Sums.{total}
use Rattle.pf_model.proofs.Members.{nowhere, here, there, cases, filter-in, filter-out, insert_all_by-new, insert_all_by-cases}
use Rattle.pf_model.proofs.RisingLemmas.{IsStrictOrder, AreApart, rising-insert_all_by, rising-same, rising-nil, rising-filter}

pub total-insert_by : {X : Type 0} (f : X → ℤ) (lt : X → X → Bool) (x : X) (xs : List X) → total f (insert_by lt x xs) ≡ f x +ℤ total f xs
total-insert_by f lt x [] = refl
total-insert_by {X} f lt x (y ∷ ys) = go (lt x y) (total-insert_by f lt x ys)
  where
    go : (b : Bool) → total f (insert_by lt x ys) ≡ f x +ℤ total f ys → total f (cond b (x ∷ y ∷ ys) (y ∷ insert_by lt x ys)) ≡ f x +ℤ (f y +ℤ total f ys)
    go true ih = refl
    go false ih = omega (arith, ints, ih)

pub total-insert_all_by : {X : Type 0} (f : X → ℤ) (lt : X → X → Bool) (xs ys : List X) → total f (insert_all_by lt xs ys) ≡ total f xs +ℤ total f ys
total-insert_all_by f lt [] ys = omega (arith, ints)
total-insert_all_by f lt (x ∷ xs) ys = let a = total-insert_by f lt x (insert_all_by lt xs ys) in let b = total-insert_all_by f lt xs ys in omega (arith, ints, a, b)

pub total-append : {X : Type 0} (f : X → ℤ) (xs ys : List X) → total f (xs ++ ys) ≡ total f xs +ℤ total f ys
total-append f [] ys = omega (arith, ints)
total-append f (x ∷ xs) ys = let b = total-append f xs ys in omega (arith, ints, b)

pub total-flat_map : {X Y : Type 0} (f : Y → ℤ) (h : X → List Y) (xs : List X) → total f (flat_map h xs) ≡ total (λ x. total f (h x)) xs
total-flat_map f h [] = refl
total-flat_map f h (x ∷ xs) = let a = total-append f (h x) (flat_map h xs) in let b = total-flat_map f h xs in omega (arith, ints, a, b)

pub total-map : {X Y : Type 0} (f : Y → ℤ) (h : X → Y) (xs : List X) → total f (map h xs) ≡ total (λ x. f (h x)) xs
total-map f h [] = refl
total-map f h (x ∷ xs) = let b = total-map f h xs in omega (arith, ints, b)

pub total-agree : {X : Type 0} (f g : X → ℤ) (xs : List X) → ((x : X) → Contains xs x → f x ≡ g x) → total f xs ≡ total g xs
total-agree f g [] e = refl
total-agree f g (x ∷ xs) e = let a = e x (here x xs) in let b = total-agree f g xs (λ z h. e z (there z x xs h)) in omega (arith, ints, a, b)

-- opposite summands have the opposite sum
pub total-opposite : {X : Type 0} (f g : X → ℤ) (xs : List X) → ((x : X) → f x +ℤ g x ≡ pos 0) → total f xs +ℤ total g xs ≡ pos 0
total-opposite f g [] e = refl
total-opposite f g (x ∷ xs) e = let a = e x in let b = total-opposite f g xs e in omega (arith, ints, a, b)

pub total-filter : {X : Type 0} (f : X → ℤ) (p : X → Bool) (xs : List X) → total f (filter p xs) +ℤ total f (filter (λ x. not (p x)) xs) ≡ total f xs
total-filter f p [] = refl
total-filter {X} f p (x ∷ xs) = go (p x) (total-filter f p xs)
  where
    go : (b : Bool) → total f (filter p xs) +ℤ total f (filter (λ x. not (p x)) xs) ≡ total f xs → total f (cond b (x ∷ filter p xs) (filter p xs)) +ℤ total f (cond (not b) (x ∷ filter (λ x. not (p x)) xs) (filter (λ x. not (p x)) xs)) ≡ f x +ℤ total f xs
    go true ih = omega (arith, ints, ih)
    go false ih = omega (arith, ints, ih)

-- what went and what came
pub total-replaced : {X : Type 0} (f : X → ℤ) (lt : X → X → Bool) (removed : X → Bool) (added xs : List X) → total f (insert_all_by lt added (filter (λ t. not (removed t)) xs)) +ℤ total f (filter removed xs) ≡ total f added +ℤ total f xs
total-replaced f lt removed added xs =
    let a = total-insert_all_by f lt added (filter (λ t. not (removed t)) xs) in
    let b = total-filter f removed xs in
    omega (arith, ints, a, b)

-- two different elements stand one before the other
abbrev pub Compares : {X : Type 0} → (X → X → Bool) → Type 0
Compares {X} lt = (x y : X) → x ≢ y → (lt x y ≡ true) ⊎ (lt y x ≡ true)

pub are_apart : {X : Type 0} (lt : X → X → Bool) → Compares lt → (xs : List X) → AreDifferent xs → AreApart lt xs
are_apart lt c [] d = tt
are_apart lt c (x ∷ xs) d = ((λ z h. c x z (d.0 z h)), are_apart lt c xs d.1)

pub sorted-rises : {X : Type 0} (lt : X → X → Bool) → IsStrictOrder lt → Compares lt → (xs : List X) → AreDifferent xs → IsRising lt (insert_all_by lt xs [])
sorted-rises lt o c xs d = rising-insert_all_by lt o xs [] (are_apart lt c xs d) (λ x h z k. absurd (nowhere z k)) (rising-nil lt)

pub sorted-same : {X : Type 0} (lt : X → X → Bool) → IsStrictOrder lt → Compares lt → (xs ys : List X) → AreDifferent xs → AreDifferent ys → ((z : X) → Contains xs z → Contains ys z) → ((z : X) → Contains ys z → Contains xs z) → insert_all_by lt xs [] ≡ insert_all_by lt ys []
sorted-same {X} lt o c xs ys dx dy forth back =
    rising-same lt o (insert_all_by lt xs []) (insert_all_by lt ys []) (sorted-rises lt o c xs dx) (sorted-rises lt o c ys dy)
    (λ z h. insert_all_by-new lt z ys [] (forth z (from xs z h)))
    (λ z h. insert_all_by-new lt z xs [] (back z (from ys z h)))
  where
    from : (zs : List X) (z : X) → Contains (insert_all_by lt zs []) z → Contains zs z
    from zs z h = elim (insert_all_by-cases lt z zs [] h) [ inl a ↦ a | inr n ↦ absurd (nowhere z n) ]

-- two lists with the same members, none of them twice, have the same sum
pub total-same : {X : Type 0} (f : X → ℤ) (lt : X → X → Bool) → IsStrictOrder lt → Compares lt → (xs ys : List X) → AreDifferent xs → AreDifferent ys → ((z : X) → Contains xs z → Contains ys z) → ((z : X) → Contains ys z → Contains xs z) → total f xs ≡ total f ys
total-same f lt o c xs ys dx dy forth back =
    let e = ap (total f) (sorted-same lt o c xs ys dx dy forth back) in
    let a = total-insert_all_by f lt xs [] in
    let b = total-insert_all_by f lt ys [] in
    omega (arith, ints, e, a, b)

pub different-filter : {X : Type 0} (p : X → Bool) (xs : List X) → AreDifferent xs → AreDifferent (filter p xs)
different-filter p [] d = tt
different-filter {X} p (x ∷ xs) d = go (p x) (different-filter p xs d.1)
  where
    go : (b : Bool) → AreDifferent (filter p xs) → AreDifferent (cond b (x ∷ filter p xs) (filter p xs))
    go true ih = ((λ z h. d.0 z (filter-out p z xs h).0), ih)
    go false ih = ih

pub different-append : {X : Type 0} (xs ys : List X) → AreDifferent xs → AreDifferent ys → ((z : X) → Contains xs z → Contains ys z → ⊥) → AreDifferent (xs ++ ys)
different-append [] ys dx dy apart = dy
different-append {X} (x ∷ xs) ys dx dy apart = (first, different-append xs ys dx.1 dy (λ z h k. apart z (there z x xs h) k))
  where
    first : (z : X) → Contains (xs ++ ys) z → x ≢ z
    first z h e = elim (Contains-append_cases xs ys z h) [ inl a ↦ dx.0 z a e | inr b ↦ apart x (here x xs) (subst (λ w. Contains ys w) (sym e) b) ]

pub map-means : {X Y : Type 0} (h : X → Y) (xs : List X) (y : Y) → Contains (map h xs) y → (x : X) × Contains xs x × (h x ≡ y)
map-means h [] y c = absurd (nowhere y c)
map-means {X} {Y} h (x ∷ xs) y c = elim (cases y (h x) (map h xs) c) [ inl e ↦ (x, here x xs, sym e) | inr r ↦ let k = map-means h xs y r in (k.0, there k.0 x xs k.1, k.2) ]

pub map-in : {X Y : Type 0} (h : X → Y) (xs : List X) (x : X) → Contains xs x → Contains (map h xs) (h x)
map-in h [] x c = absurd (nowhere x c)
map-in {X} {Y} h (y ∷ ys) x c = elim (cases x y ys c) [ inl e ↦ subst (λ w. Contains (h w ∷ map h ys) (h x)) e (here (h x) (map h ys)) | inr r ↦ there (h x) (h y) (map h ys) (map-in h ys x r) ]

pub different-map : {X Y : Type 0} (h : X → Y) → ((x z : X) → h x ≡ h z → x ≡ z) → (xs : List X) → AreDifferent xs → AreDifferent (map h xs)
different-map h one [] d = tt
different-map {X} {Y} h one (x ∷ xs) d = (first, different-map h one xs d.1)
  where
    first : (y : Y) → Contains (map h xs) y → h x ≢ y
    first y c e = let k = map-means h xs y c in d.0 k.0 k.1 (one x k.0 (e ∙ sym k.2))

-- the sum over what goes, where that is known
pub total-removed : {X : Type 0} (f : X → ℤ) (lt : X → X → Bool) → IsStrictOrder lt → (removed : X → Bool) (gone xs : List X) → IsRising lt xs → AreApart lt gone → ((z : X) → Contains gone z → Contains xs z × (removed z ≡ true)) → ((z : X) → Contains xs z → removed z ≡ true → Contains gone z) → total f (filter removed xs) ≡ total f gone
total-removed {X} f lt o removed gone xs up apart forth back =
    let e = ap (total f) (rising-same lt o (filter removed xs) (insert_all_by lt gone []) (rising-filter lt removed xs up) (rising-insert_all_by lt o gone [] apart (λ x h z k. absurd (nowhere z k)) (rising-nil lt))
    (λ z h. let r = filter-out removed z xs h in insert_all_by-new lt z gone [] (back z r.0 r.1))
    (λ z h. let r = forth z (from z h) in filter-in removed z xs r.0 r.1)) in
    let a = total-insert_all_by f lt gone [] in
    omega (arith, ints, e, a)
  where
    from : (z : X) → Contains (insert_all_by lt gone []) z → Contains gone z
    from z h = elim (insert_all_by-cases lt z gone [] h) [ inl a ↦ a | inr n ↦ absurd (nowhere z n) ]
