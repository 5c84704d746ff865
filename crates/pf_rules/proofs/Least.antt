-- The least of some names that passes, where names stand twice.
use Rattle.std.proofs.Common.{◌≡◌, ℕ, List, [], ◌∷◌, ◌++◌, map, filter, refl, sym, ◌∙◌, ap, subst, Bool, true, false, cond, not, ◌⊎◌, inl, inr, arith, Option, Some, None, ◌==◌, ◌||◌}
use Rattle.std.specs.Prelude.{min, fold, Contains}
use Rattle.std.proofs.lemmas.Bool.Decides.{nat_tests}
use Rattle.std.proofs.lemmas.List.Sums.{fold-append}
use Rattle.std.proofs.lemmas.List.Elements.{filter-append}
use Rattle.pf_model.specs.declared.Spoke.{Spoke}
use Rattle.pf_model.specs.Rows.{lesser, least_that, neighbours}
use Rattle.pf_model.proofs.Members.{nowhere, here, there, cases}
use Rattle.pf_spokes.specs.Spokes.{has_right}
use Rattle.pf_rules.specs.Contract.{names_of}

lesser-swap : (o : Option ℕ) (a b : ℕ) → lesser (lesser o a) b ≡ lesser (lesser o b) a
lesser-swap None a b = ap (λ k. Some k) (swap a b)
  where
    swap : (a b : ℕ) → min a b ≡ min b a
    swap a b = grind arith
lesser-swap (Some k) a b = ap (λ n. Some n) (swap k a b)
  where
    swap : (k a b : ℕ) → min (min k a) b ≡ min (min k b) a
    swap k a b = grind arith

lesser-again : (o : Option ℕ) (a : ℕ) → lesser (lesser o a) a ≡ lesser o a
lesser-again None a = ap (λ k. Some k) (same a)
  where
    same : (a : ℕ) → min a a ≡ a
    same a = grind arith
lesser-again (Some k) a = ap (λ n. Some n) (same k a)
  where
    same : (k a : ℕ) → min (min k a) a ≡ min k a
    same k a = grind arith

fold-late : (o : Option ℕ) (ns : List ℕ) (y : ℕ) → lesser (fold lesser o ns) y ≡ fold lesser (lesser o y) ns
fold-late o [] y = refl
fold-late o (x ∷ ns) y = fold-late (lesser o x) ns y ∙ ap (λ k. fold lesser k ns) (lesser-swap o x y)

-- a name that stands among those asked changes nothing
fold-has : (o : Option ℕ) (ns : List ℕ) (y : ℕ) → Contains ns y → lesser (fold lesser o ns) y ≡ fold lesser o ns
fold-has o [] y h = absurd (nowhere y h)
fold-has o (x ∷ ns) y h = elim (cases y x ns h) [
  | inl e ↦ (let q : lesser (fold lesser (lesser o x) ns) x ≡ fold lesser (lesser o x) ns = fold-late (lesser o x) ns x ∙ ap (λ k. fold lesser k ns) (lesser-again o x) in subst (λ w. lesser (fold lesser (lesser o x) ns) w ≡ fold lesser (lesser o x) ns) (sym e) q)
  | inr k ↦ fold-has (lesser o x) ns y k
]

filter-has : (p : ℕ → Bool) (ns : List ℕ) (y : ℕ) → Contains ns y → p y ≡ true → Contains (filter p ns) y
filter-has p [] y h e = absurd (nowhere y h)
filter-has p (x ∷ ns) y h e = go (λ k. filter-has p ns y k e) (p x) refl (cases y x ns h)
  where
    go : (Contains ns y → Contains (filter p ns) y) → (b : Bool) → p x ≡ b → (y ≡ x) ⊎ Contains ns y → Contains (cond b (x ∷ filter p ns) (filter p ns)) y
    go ih true q (inl s) = subst (λ w. Contains (x ∷ filter p ns) w) (sym s) (here x (filter p ns))
    go ih true q (inr k) = there y x (filter p ns) (ih k)
    go ih false q (inl s) = absurd (let z : false ≡ true = sym q ∙ (ap p (sym s) ∙ e) in cc)
    go ih false q (inr k) = ih k

-- lefts that change nothing may be left out
fold-skip : (p q : ℕ → Bool) (o : Option ℕ) (ss : List Spoke) → ((y : ℕ) → q y ≡ true → p y ≡ true → lesser o y ≡ o)
    → fold lesser o (filter p (map (λ s. s.left) (filter (λ s. not (q s.left)) ss))) ≡ fold lesser o (filter p (map (λ s. s.left) ss))
fold-skip p q o [] h = refl
fold-skip p q o (s ∷ ss) h = go (λ k f. fold-skip p q k ss f) (q s.left) refl (p s.left) refl
  where
    rest : List ℕ
    rest = map (λ s. s.left) (filter (λ s. not (q s.left)) ss)

    after : List ℕ
    after = map (λ s. s.left) ss

    kept : (y : ℕ) → q y ≡ true → p y ≡ true → lesser (lesser o s.left) y ≡ lesser o s.left
    kept y e f = lesser-swap o s.left y ∙ ap (λ k. lesser k s.left) (h y e f)

    go : ((k : Option ℕ) → ((y : ℕ) → q y ≡ true → p y ≡ true → lesser k y ≡ k) → fold lesser k (filter p rest) ≡ fold lesser k (filter p after))
        → (b : Bool) → q s.left ≡ b → (c : Bool) → p s.left ≡ c
        → fold lesser o (filter p (map (λ s. s.left) (cond (not b) (s ∷ filter (λ s. not (q s.left)) ss) (filter (λ s. not (q s.left)) ss)))) ≡ fold lesser o (cond c (s.left ∷ filter p after) (filter p after))
    go ih true e true f = ih o h ∙ ap (λ k. fold lesser k (filter p after)) (sym (h s.left e f))
    go ih true e false f = ih o h
    go ih false e true f = ap (λ b. fold lesser o (cond b (s.left ∷ filter p rest) (filter p rest))) f ∙ ih (lesser o s.left) kept
    go ih false e false f = ap (λ b. fold lesser o (cond b (s.left ∷ filter p rest) (filter p rest))) f ∙ ih o h

right-stands : (ss : List Spoke) (n : ℕ) → has_right n ss ≡ true → Contains (map (λ s. s.right) ss) n
right-stands [] n h = absurd (let z : false ≡ true = h in cc)
right-stands (s ∷ ss) n h = go (right-stands ss n) (s.right == n) refl h
  where
    same : (a b : ℕ) → (a == b) ≡ true → b ≡ a
    same a b e = grind (arith, nat_tests)

    go : (has_right n ss ≡ true → Contains (map (λ s. s.right) ss) n) → (b : Bool) → (s.right == n) ≡ b → (b || has_right n ss) ≡ true → Contains (s.right ∷ map (λ s. s.right) ss) n
    go ih true e k = subst (λ w. Contains (s.right ∷ map (λ s. s.right) ss) w) (sym (same s.right n e)) (here s.right (map (λ s. s.right) ss))
    go ih false e k = there n s.right (map (λ s. s.right) ss) (ih k)

-- the least of the rights and of the lefts that are no rights is that of all neighbours
pub least-of_names : (p : ℕ → Bool) (ss : List Spoke) → least_that p (names_of ss) ≡ least_that p (neighbours ss)
least-of_names p ss =
    let rights = map (λ s. s.right) ss in
    let some = map (λ s. s.left) (filter (λ s. not (has_right s.left ss)) ss) in
    let all = map (λ s. s.left) ss in
    let o = fold lesser None (filter p rights) in
    parts some ∙ (fold-skip p (λ n. has_right n ss) o ss (λ y e f. fold-has None (filter p rights) y (filter-has p rights y (right-stands ss y e) f)) ∙ sym (parts all))
  where
    parts : (ns : List ℕ) → least_that p (map (λ s. s.right) ss ++ ns) ≡ fold lesser (fold lesser None (filter p (map (λ s. s.right) ss))) (filter p ns)
    parts ns = ap (fold lesser None) (filter-append p (map (λ s. s.right) ss) ns) ∙ fold-append lesser None (filter p (map (λ s. s.right) ss)) (filter p ns)
