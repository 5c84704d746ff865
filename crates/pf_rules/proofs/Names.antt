-- Names of a star's neighbours: which are among them, and the least that passes.
use Rattle.std.proofs.Common.{◌≡◌, ℕ, List, [], ◌∷◌, ◌++◌, map, filter, refl, sym, ◌∙◌, ap, Bool, true, false, cond, not, ◌&&◌, ◌||◌, ◌==◌, arith, Some, None}
use Rattle.std.specs.Prelude.{fold, min, is_some}
use Rattle.std.specs.List.{list_any}
use Rattle.std.proofs.lemmas.Bool.Decides.{nat_tests}
use Rattle.pf_model.specs.declared.Spoke.{Spoke}
use Rattle.pf_model.specs.Mesh.{Undivided}
use Rattle.pf_model.specs.Lengths.{is_long}
use Rattle.pf_model.specs.Stars.{is_neighbour}
use Rattle.pf_model.specs.Rows.{lesser, least_that, neighbours, is_too_long}
use Rattle.pf_rules.specs.Contract.{AreAround, AreClose}

fold-some : (ns : List ℕ) (k : ℕ) → is_some (fold lesser (Some k) ns) ≡ true
fold-some [] k = refl
fold-some (n ∷ ns) k = fold-some ns (min k n)

-- a name passes where there is a least that does
pub any-least : (p : ℕ → Bool) (ns : List ℕ) → is_some (least_that p ns) ≡ list_any p ns
any-least p [] = refl
any-least p (n ∷ ns) = go (p n) (any-least p ns)
  where
    go : (b : Bool) → is_some (least_that p ns) ≡ list_any p ns → is_some (fold lesser None (cond b (n ∷ filter p ns) (filter p ns))) ≡ (b || list_any p ns)
    go true ih = fold-some (filter p ns) n
    go false ih = ih

any-append : (p : ℕ → Bool) (xs ys : List ℕ) → list_any p (xs ++ ys) ≡ (list_any p xs || list_any p ys)
any-append p [] ys = refl
any-append p (x ∷ xs) ys = go (p x) (any-append p xs ys)
  where
    go : (b : Bool) → list_any p (xs ++ ys) ≡ (list_any p xs || list_any p ys) → (b || list_any p (xs ++ ys)) ≡ ((b || list_any p xs) || list_any p ys)
    go true ih = refl
    go false ih = ih

any-both : (x : ℕ) (us : List Spoke) → (list_any (λ y. y == x) (map (λ s. s.right) us) || list_any (λ y. y == x) (map (λ s. s.left) us)) ≡ is_neighbour x us
any-both x [] = refl
any-both x (s ∷ us) = go (s.right == x) (s.left == x) (list_any (λ y. y == x) (map (λ r. r.right) us)) (list_any (λ y. y == x) (map (λ r. r.left) us)) (is_neighbour x us) (any-both x us)
  where
    go : (a b c d e : Bool) → (c || d) ≡ e → ((a || c) || (b || d)) ≡ ((a || b) || e)
    go true b c d e h = refl
    go false true true d e h = refl
    go false true false d e h = refl
    go false false c d e h = h

-- names around a star are its neighbours
pub names-neighbours : (us : List Spoke) (names : List ℕ) → AreAround us names → (x : ℕ) → list_any (λ y. y == x) names ≡ is_neighbour x us
names-neighbours us names around x =
    let p : ℕ → Bool = λ y. y == x in
    sym (any-least p names) ∙ (ap is_some (around p) ∙ (any-least p (neighbours us) ∙ (any-append p (map (λ s. s.right) us) (map (λ s. s.left) us) ∙ any-both x us)))

pub same_name : (n : ℕ) → (n == n) ≡ true
same_name n = grind (arith, nat_tests)

pub or-later : (a b : Bool) → b ≡ true → (a || b) ≡ true
or-later true b h = refl
or-later false b h = h

-- where none of the names passes, there is no least that does
pub none-least : (p : ℕ → Bool) (names : List ℕ) → ((x : ℕ) → list_any (λ y. y == x) names ≡ true → p x ≡ false) → least_that p names ≡ None
none-least p [] h = refl
none-least p (n ∷ names) h =
    ap (λ b. fold lesser None (cond b (n ∷ filter p names) (filter p names))) (h n (ap (λ b. b || list_any (λ y. y == n) names) (same_name n)))
    ∙ none-least p names (λ x e. h x (or-later (n == x) (list_any (λ y. y == x) names) e))

-- so where the neighbours are close, to none of them a new edge is too long
pub close-least : (m : Undivided) (us vs : List Spoke) (v : ℕ) (names : List ℕ) → AreClose m us → is_neighbour v us ≡ true → AreAround us names → None ≡ least_that (is_too_long m v vs) names
close-least m us vs v names close hv around = sym (none-least (is_too_long m v vs) names (λ x e. out x (close v x hv (sym (names-neighbours us names around x) ∙ e))))
  where
    shut : (a b : Bool) → (a && (b && false)) ≡ false
    shut true true = refl
    shut true false = refl
    shut false b = refl

    out : (x : ℕ) → is_long m v x ≡ false → is_too_long m v vs x ≡ false
    out x h = ap (λ b. not (x == v) && (not (is_neighbour x vs) && b)) h ∙ shut (not (x == v)) (not (is_neighbour x vs))
