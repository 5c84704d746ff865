-- A table of conditions at an edge, by the star that is lent of one end and the two sides that it shows.
use Rattle.std.proofs.Common.{◌≡◌, ℕ, List, ◌∷◌, ◌++◌, refl, sym, ◌∙◌, ap, Bool, true, false}
use Rattle.std.specs.Prelude.{Option, Some, None, ◌||◌, ◌==◌}
use Rattle.pf_model.specs.declared.Cond.{Cond}
use Rattle.pf_model.specs.declared.Cond.TheVariants.{NoEdge, Foreign}
use Rattle.pf_model.specs.declared.Side.{Side}
use Rattle.pf_model.specs.Clauses.{when, first_of}
use Rattle.pf_model.specs.Rows.{edge_rows}
use Rattle.pf_model.specs.Stars.{Star}
use Rattle.pf_star_model.specs.Lent.{spokes_in, side_to, side_from}
use Rattle.pf_star_model.specs.Judged.{left_seen, right_seen}

-- the star of p is lent
pub seen-by : {X : Type 0} (f : Option Star → Option Side → Option Side → X) (lent : ℕ → Option Star) (p q : ℕ) (s : Star) (l r : Option Side) → lent p ≡ Some s → l ≡ side_to q s.spokes → r ≡ side_from q s.spokes → f (Some s) l r ≡ f (lent p) (left_seen lent p q) (right_seen lent p q)
seen-by f lent p q s l r h el er = λ i. f (sym h i) (left i) (right i)
  where
    left : l ≡ left_seen lent p q
    left = el ∙ ap (λ o. side_to q (spokes_in o)) (sym h)

    right : r ≡ right_seen lent p q
    right = er ∙ ap (λ o. side_from q (spokes_in o)) (sym h)

-- the star of p isn't lent
pub unseen : {X : Type 0} (f : Option Star → Option Side → Option Side → X) (lent : ℕ → Option Star) (p q : ℕ) → lent p ≡ None → f None None None ≡ f (lent p) (left_seen lent p q) (right_seen lent p q)
unseen f lent p q h = λ i. f (sym h i) (side_to q (spokes_in (sym h i))) (side_from q (spokes_in (sym h i)))

-- without sides there is no edge
pub no-edge : (chunk a b : ℕ) (rows : List (Option Cond)) → Some NoEdge ≡ first_of (edge_rows chunk a b None None ++ rows)
no-edge chunk a b rows = go (a == b)
  where
    go : (c : Bool) → Some NoEdge ≡ first_of (when (c || true) NoEdge ∷ when true Foreign ∷ rows)
    go true = refl
    go false = refl
