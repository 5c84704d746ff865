-- The neighbours in a star, spoke by spoke.
use Rattle.std.proofs.Common.{◌≡◌, ℕ, ◌+◌, ◌<◌, ◌≤◌, List, [], ◌∷◌, refl, sym, ◌∙◌, ap, subst, true, ◌⊎◌, inl, inr, length, get_or, arith}
use Rattle.std.specs.Prelude.{Contains, ◌==◌, ◌||◌, Bool, false, Option, Some, None, cond}
use Rattle.std.proofs.lemmas.Bool.Decides.{nat_tests}
use Rattle.std.proofs.lemmas.List.{get_or_default}
use Rattle.pf_model.specs.declared.Band.{Band}
use Rattle.pf_model.specs.declared.Spoke.{Spoke}
use Rattle.pf_model.specs.Stars.{Star, is_neighbour}
use Rattle.pf_model.proofs.Kept.{any-means}
use Rattle.pf_model.proofs.Members.{here, there}
use Rattle.pf_rings.specs.Points.{first_to}
use Rattle.pf_core_model.proofs.Replays.{or_cases}
use Rattle.pf_finish.specs.Wished.{is_wished, HasWishes}

abbrev pub Kept : List Band → Star → List ℕ → ℕ → Type 0
Kept bands star found x = star.node ≤ x → is_neighbour x star.spokes ≡ true → is_wished bands star x ≡ true → Contains found x

-- the right of a spoke stands in the list, where it isn't below the node and may have a line, and so does the left, unless
-- it is the right of another
abbrev pub KeptAt : List Band → Star → List ℕ → Spoke → Type 0
KeptAt bands star found s = Kept bands star found s.right × (first_to s.left star.spokes ≡ None → Kept bands star found s.left)

-- so it is of the spokes before this place
abbrev pub HasBefore : List Band → Star → List ℕ → ℕ → Type 0
HasBefore bands star found i = (k : ℕ) (d : Spoke) → k < i → KeptAt bands star found (get_or star.spokes k d)

same_name : (a b : ℕ) → (a == b) ≡ true → a ≡ b
same_name a b e = grind (arith, nat_tests)

-- the first spoke with this right is one of them, and has it
found-right : (n : ℕ) (ss : List Spoke) (s : Spoke) → first_to n ss ≡ Some s → Contains ss s × (s.right ≡ n)
found-right n [] s h = absurd (let e : None ≡ Some s = h in cc)
found-right n (x ∷ xs) s h = go (x.right == n) refl h (λ e. found-right n xs s e)
  where
    go : (b : Bool) → (x.right == n) ≡ b → cond b (Some x) (first_to n xs) ≡ Some s → (first_to n xs ≡ Some s → Contains xs s × (s.right ≡ n)) → Contains (x ∷ xs) s × (s.right ≡ n)
    go true e f ih = let q : x ≡ s = cc in (subst (λ w. Contains (w ∷ xs) s) (sym q) (here s xs), ap (λ w. w.right) (sym q) ∙ same_name x.right n e)
    go false e f ih = let r = ih f in (there s x xs r.0, r.1)

pub before-more : (bands : List Band) (star : Star) (old mid new : List ℕ) (i : ℕ) (d0 : Spoke) → i < length star.spokes → Kept bands star mid (get_or star.spokes i d0).right → (first_to (get_or star.spokes i d0).left star.spokes ≡ None → Kept bands star new (get_or star.spokes i d0).left) → ((y : ℕ) → Contains old y → Contains mid y) → ((y : ℕ) → Contains mid y → Contains new y)
    → HasBefore bands star old i → HasBefore bands star new (i + 1)
before-more bands star old mid new i d0 within r l g1 g2 inv k d low = go (order k i low)
  where
    order : (k i : ℕ) → k < i + 1 → (k < i) ⊎ (k ≡ i)
    order k i l = grind arith

    go : (k < i) ⊎ (k ≡ i) → KeptAt bands star new (get_or star.spokes k d)
    go (inl p) = let z = inv k d p in ((λ u n w. g2 _ (g1 _ (z.0 u n w))), (λ f u n w. g2 _ (g1 _ (z.1 f u n w))))
    go (inr q) = subst (λ (s : Spoke). KeptAt bands star new s) (sym (ap (λ (j : ℕ). get_or star.spokes j d) q ∙ get_or_default star.spokes i d d0 within)) ((λ u n w. g2 _ (r u n w)), l)

pub all-before : (bands : List Band) (star : Star) (found : List ℕ) (i : ℕ) → (i < length star.spokes → ⊥) → HasBefore bands star found i → HasWishes bands star found
all-before bands star found i past inv x up near w =
    let f = any-means (λ (s : Spoke). s.right == x || s.left == x) star.spokes near in
    elim (or_cases (f.0.right == x) (f.0.left == x) f.2) [
      | inl e ↦ right f.0 f.1 (same_name f.0.right x e)
      | inr e ↦ left f.0 f.1 (same_name f.0.left x e)
    ]
  where
    low : (a i n : ℕ) → a < n → (i < n → ⊥) → a < i
    low a i n l p = grind arith

    at : (s : Spoke) → Contains star.spokes s → KeptAt bands star found s
    at s c = subst (λ (u : Spoke). KeptAt bands star found u) c.2 (inv c.0 s (low c.0 i (length star.spokes) c.1 past))

    right : (s : Spoke) → Contains star.spokes s → s.right ≡ x → Contains found x
    right s c e = subst (λ (y : ℕ). Kept bands star found y) e (at s c).0 up near w

    left : (s : Spoke) → Contains star.spokes s → s.left ≡ x → Contains found x
    left s c e = go (first_to s.left star.spokes) refl
      where
        go : (o : Option Spoke) → first_to s.left star.spokes ≡ o → Contains found x
        go None h = subst (λ (y : ℕ). Kept bands star found y) e ((at s c).1 h) up near w
        go (Some t) h = let r = found-right s.left star.spokes t h in right t r.0 (r.1 ∙ e)

-- the same, where the spokes are read from a list that is theirs
pub before-read : (bands : List Band) (star : Star) (items : List Spoke) (old mid new : List ℕ) (i : ℕ) (d0 : Spoke) → items ≡ star.spokes → i < length items → Kept bands star mid (get_or items i d0).right → (first_to (get_or items i d0).left star.spokes ≡ None → Kept bands star new (get_or items i d0).left) → ((y : ℕ) → Contains old y → Contains mid y) → ((y : ℕ) → Contains mid y → Contains new y)
    → HasBefore bands star old i → HasBefore bands star new (i + 1)
before-read bands star items old mid new i d0 e within r l g1 g2 inv = before-more bands star old mid new i d0 (subst (λ (s : List Spoke). i < length s) e within) (subst (λ (s : List Spoke). Kept bands star mid (get_or s i d0).right) e r) (subst (λ (s : List Spoke). first_to (get_or s i d0).left star.spokes ≡ None → Kept bands star new (get_or s i d0).left) e l) g1 g2 inv
