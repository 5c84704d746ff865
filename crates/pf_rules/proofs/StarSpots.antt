-- The points of spokes: they are in range where the table's places are, and stand where the mesh has them.
use Rattle.std.proofs.Common.{ℕ, Bool, true, false, cond, List, [], ◌∷◌}
use Rattle.std.specs.Prelude.{All}
use Rattle.std.proofs.lemmas.List.Elements.{All-cons, All-head, All-tail, Contains-get_or}
use Rattle.pf_model.specs.Rising.{insert_by}
use Rattle.pf_model.specs.Mesh.{Undivided}
use Rattle.pf_model.specs.Stars.{spokes_of}
use Rattle.pf_rules.specs.Star.{IsSpokePlaced}
use Rattle.pf_rules.proofs.StarSpokes.{spokes-placed}

-- what holds of each element and of one more holds of each with it inserted
pub all-insert : {X : Type 0} (P : X → Type 0) (lt : X → X → Bool) (x : X) (xs : List X) → P x → All P xs → All P (insert_by lt x xs)
all-insert P lt x [] h all = All-cons P x [] h all
all-insert P lt x (y ∷ ys) h all = go (lt x y) (all-insert P lt x ys h (All-tail P y ys all))
  where
    go : (b : Bool) → All P (insert_by lt x ys) → All P (cond b (x ∷ y ∷ ys) (y ∷ insert_by lt x ys))
    go true ih = All-cons P x (y ∷ ys) h all
    go false ih = All-cons P y (insert_by lt x ys) (All-head P y ys all) ih

-- the spokes of a node have their places
pub spokes-all-placed : (m : Undivided) (n : ℕ) → All (IsSpokePlaced m) (spokes_of m n)
spokes-all-placed m n = λ k d within. let p = spokes-placed m n _ (Contains-get_or (spokes_of m n) k d within) in record { right = p.0; left = p.1 }
