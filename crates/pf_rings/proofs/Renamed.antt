-- Spokes renamed one after another, and that their points stay.
use Rattle.std.proofs.Common.{◌≡◌, ℕ, zero, suc, ◌<◌, List, [], ◌∷◌, ◌++◌, length, get_or, take, drop, refl, ap, subst, arith}
use Rattle.std.specs.Prelude.{All, Contains, map, slice_set, slice_index_or}
use Rattle.std.proofs.lemmas.List.Elements.{Contains-get_or}
use Rattle.pf_model.specs.declared.Spoke.{Spoke}
use Rattle.pf_model.proofs.Totals.{map-means}
use Rattle.pf_star_model.specs.Patched.{renamed_spoke}
use Rattle.pf_spokes.specs.Spokes.{HasSpots}

pub all-member : {X : Type 0} (P : X → Type 0) (xs : List X) → All P xs → (x : X) → Contains xs x → P x
all-member P xs a x h = subst P h.2 (a h.0 x h.1)

pub all-from : {X : Type 0} (P : X → Type 0) (xs : List X) → ((x : X) → Contains xs x → P x) → All P xs
all-from P xs f = λ k d within. f (slice_index_or xs k d) (Contains-get_or xs k d within)

-- the next element is as it was
pub next-is : {X : Type 0} (f : X → X) (xs : List X) (k : ℕ) (d : X) → k < length xs → get_or (map f (take k xs) ++ drop k xs) k d ≡ get_or xs k d
next-is f [] k d h = absurd (omega (arith, h))
next-is f (x ∷ xs) zero d h = refl
next-is f (x ∷ xs) (suc k) d h = next-is f xs k d (let z : suc k < suc (length xs) = h in omega (arith, z))

-- one element more is changed
pub next-set : {X : Type 0} (f : X → X) (xs : List X) (k : ℕ) (d : X) → k < length xs → slice_set (map f (take k xs) ++ drop k xs) k (f (get_or xs k d)) ≡ map f (take (suc k) xs) ++ drop (suc k) xs
next-set f [] k d h = absurd (omega (arith, h))
next-set f (x ∷ xs) zero d h = refl
next-set f (x ∷ xs) (suc k) d h = ap (λ l. f x ∷ l) (next-set f xs k d (let z : suc k < suc (length xs) = h in omega (arith, z)))

-- renamed spokes keep their points
pub spots-renamed : (old new : ℕ) (ss : List Spoke) → All HasSpots ss → All HasSpots (map (renamed_spoke old new) ss)
spots-renamed old new ss h = all-from HasSpots (map (renamed_spoke old new) ss) (λ s c. let r = map-means (renamed_spoke old new) ss s c in let p = all-member HasSpots ss h r.0 r.1 in subst HasSpots r.2 record { right = p.right; left = p.left })
