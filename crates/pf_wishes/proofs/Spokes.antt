-- The first spokes to a node and from it: the sides that they show, and where they stand in the list.
use Rattle.std.proofs.Common.{◌≡◌, ℕ, List, [], ◌∷◌, refl, subst, Bool, true, false, cond, ◌||◌}
use Rattle.std.specs.Prelude.{Contains, Some, None, is_some, ◌==◌}
use Rattle.std.specs.Option.{option_map}
use Rattle.std.proofs.lemmas.Bool.{eqb-true}
use Rattle.std.proofs.Math.Bool.{or-true}
use Rattle.pf_model.specs.declared.Spoke.{Spoke}
use Rattle.pf_model.specs.Stars.{is_neighbour}
use Rattle.pf_model.proofs.Members.{here, there}
use Rattle.pf_star_model.specs.Lent.{side_to, side_from}
use Rattle.pf_rings.specs.Points.{first_from, first_to, left_side, right_side}

some_same : {X : Type 0} {a b : X} → Some a ≡ Some b → a ≡ b
some_same q = cc

-- the sides that they show
pub left-by : (n : ℕ) (ss : List Spoke) → option_map left_side (first_to n ss) ≡ side_to n ss
left-by n [] = refl
left-by n (s ∷ ss) = go (s.right == n) (left-by n ss)
  where
    go : (b : Bool) → option_map left_side (first_to n ss) ≡ side_to n ss → option_map left_side (cond b (Some s) (first_to n ss)) ≡ cond b (Some (left_side s)) (side_to n ss)
    go true ih = refl
    go false ih = ih

pub right-by : (n : ℕ) (ss : List Spoke) → option_map right_side (first_from n ss) ≡ side_from n ss
right-by n [] = refl
right-by n (s ∷ ss) = go (s.left == n) (right-by n ss)
  where
    go : (b : Bool) → option_map right_side (first_from n ss) ≡ side_from n ss → option_map right_side (cond b (Some s) (first_from n ss)) ≡ cond b (Some (right_side s)) (side_from n ss)
    go true ih = refl
    go false ih = ih

-- there is one or the other where the node is a neighbour
pub near-by : (n : ℕ) (ss : List Spoke) → (is_some (first_to n ss) || is_some (first_from n ss)) ≡ is_neighbour n ss
near-by n [] = refl
near-by n (s ∷ ss) = go (s.right == n) (s.left == n) (near-by n ss)
  where
    go : (x y : Bool) → (is_some (first_to n ss) || is_some (first_from n ss)) ≡ is_neighbour n ss → (is_some (cond x (Some s) (first_to n ss)) || is_some (cond y (Some s) (first_from n ss))) ≡ ((x || y) || is_neighbour n ss)
    go true y ih = refl
    go false true ih = or-true (is_some (first_to n ss))
    go false false ih = ih

-- they stand in the list, and have the node
pub first_to-means : (n : ℕ) (ss : List Spoke) (t : Spoke) → first_to n ss ≡ Some t → Contains ss t × (t.right ≡ n)
first_to-means n [] t h = absurd (let e : None ≡ Some t = h in cc)
first_to-means n (s ∷ ss) t h = go (s.right == n) refl h (λ e. first_to-means n ss t e)
  where
    go : (b : Bool) → (s.right == n) ≡ b → cond b (Some s) (first_to n ss) ≡ Some t → (first_to n ss ≡ Some t → Contains ss t × (t.right ≡ n)) → Contains (s ∷ ss) t × (t.right ≡ n)
    go true e f ih = subst (λ k. Contains (s ∷ ss) k × (k.right ≡ n)) (some_same f) (here s ss, eqb-true s.right n e)
    go false e f ih = let k = ih f in (there t s ss k.0, k.1)

pub first_from-means : (n : ℕ) (ss : List Spoke) (t : Spoke) → first_from n ss ≡ Some t → Contains ss t × (t.left ≡ n)
first_from-means n [] t h = absurd (let e : None ≡ Some t = h in cc)
first_from-means n (s ∷ ss) t h = go (s.left == n) refl h (λ e. first_from-means n ss t e)
  where
    go : (b : Bool) → (s.left == n) ≡ b → cond b (Some s) (first_from n ss) ≡ Some t → (first_from n ss ≡ Some t → Contains ss t × (t.left ≡ n)) → Contains (s ∷ ss) t × (t.left ≡ n)
    go true e f ih = subst (λ k. Contains (s ∷ ss) k × (k.left ≡ n)) (some_same f) (here s ss, eqb-true s.left n e)
    go false e f ih = let k = ih f in (there t s ss k.0, k.1)
