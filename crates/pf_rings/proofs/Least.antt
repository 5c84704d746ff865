-- The least neighbour after a name, and the keeper, as they are gathered.
use Rattle.std.proofs.Common.{◌≡◌, ℕ, ◌<◌, List, [], ◌∷◌, ◌++◌, length, refl, sym, Bool, true, false, cond, arith}
use Rattle.std.specs.Prelude.{Option, Some, None, fold, filter, map, nat_lt}
use Rattle.pf_model.specs.declared.Spoke.{Spoke}
use Rattle.pf_model.specs.Stars.{keeper_in}
use Rattle.pf_model.specs.Conditions.{lesser, least_that}
use Rattle.pf_star_model.specs.Rings.{next_neighbour}
use Rattle.pf_rings.specs.Least.{past}

-- the least of a list in two parts
pub fold-parts : (p : ℕ → Bool) (least : Option ℕ) (xs ys : List ℕ) → fold lesser least (filter p (xs ++ ys)) ≡ fold lesser (fold lesser least (filter p xs)) (filter p ys)
fold-parts p least [] ys = refl
fold-parts p least (x ∷ xs) ys = go (p x) (λ l. fold-parts p l xs ys)
  where
    go : (b : Bool) → ((l : Option ℕ) → fold lesser l (filter p (xs ++ ys)) ≡ fold lesser (fold lesser l (filter p xs)) (filter p ys)) → fold lesser least (cond b (x ∷ filter p (xs ++ ys)) (filter p (xs ++ ys))) ≡ fold lesser (fold lesser least (cond b (x ∷ filter p xs) (filter p xs))) (filter p ys)
    go true ih = ih (lesser least x)
    go false ih = ih least

pub next-parts : (ss : List Spoke) (after : Option ℕ) → fold lesser (least_that (past after) (map (λ s. s.right) ss)) (filter (past after) (map (λ s. s.left) ss)) ≡ next_neighbour ss after
next-parts ss None = sym (fold-parts (past None) None (map (λ s. s.right) ss) (map (λ s. s.left) ss))
next-parts ss (Some k) = sym (fold-parts (past (Some k)) None (map (λ s. s.right) ss) (map (λ s. s.left) ss))

-- spokes have a keeper, where there are any
pub keeper_in-some : (ss : List Spoke) → 0 < length ss → (k : ℕ) × (keeper_in ss ≡ Some k)
keeper_in-some [] h = absurd (let z : 0 < 0 = h in omega (arith, z))
keeper_in-some (s ∷ ss) h = go (keeper_in ss)
  where
    go : (o : Option ℕ) → (k : ℕ) × ((let least : Option ℕ = elim o [ None ↦ Some s.owner | Some j ↦ Some (cond (nat_lt s.owner j) s.owner j) ] in least) ≡ Some k)
    go None = (s.owner, refl)
    go (Some j) = (cond (nat_lt s.owner j) s.owner j, refl)
