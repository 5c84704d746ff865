-- Stars by the names of their nodes.
use Rattle.std.specs.Prelude.{ℕ, List, [], ◌∷◌, cond, ◌==◌, Option, Some, None, slice_index_or}
use Rattle.pf_model.specs.Stars.{Star}
use Rattle.pf_core_model.specs.Sharers.{kept_in}
use Rattle.pf_ghost.specs.declared.ready.Listed.{Listed}
use Rattle.pf_ghost.specs.Spread.{named_node, named_list}

-- the star at the place of a name, and none past the last one
abbrev pub star_by : List (Option Star) → ℕ → Option Star
star_by stars n = slice_index_or stars n None

-- the star of the node n, where these stars were put over those of all nodes
abbrev pub placed : List Star → (ℕ → Option Star) → ℕ → Option Star
placed [] old n = old n
placed (s ∷ ss) old n = cond (n == s.node) (Some s) (placed ss old n)

-- the star of the node n once the first copy of each of these lists was put over the stars of all nodes
abbrev pub spread_by : ℕ → List Listed → (ℕ → Option Star) → ℕ → Option Star
spread_by name [] old n = old n
spread_by name (l ∷ ls) old n = cond (n == named_node name l) (kept_in (named_list name l)) (spread_by name ls old n)
