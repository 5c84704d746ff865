-- What becomes of the copies when lists are spread over them.
use Rattle.std.specs.Prelude.{◌≡◌, ◌≢◌, ℕ, List, [], ◌∷◌, map, cond, ◌==◌, Contains}
use Rattle.std.specs.Option.{option_map}
use Rattle.pf_model.specs.Rising.{AreDifferent}
use Rattle.pf_star_model.specs.Lent.{Held}
use Rattle.pf_star_model.specs.Patched.{renamed, renamed_star}
use Rattle.pf_core_model.specs.declared.sharer.Sharer.{Sharer}
use Rattle.pf_core_model.specs.Sharers.{sharers_in}
use Rattle.pf_ghost.specs.declared.ready.Listed.{Listed}
use Rattle.pf_ghost.specs.Renamed.{renamed_sharer}
use Rattle.pf_ghost.specs.Prepared.{ready_of}

-- the name that stands in the place of the new node's until its ticket is drawn
abbrev pub later_name : ℕ
later_name = 4294967295

-- the node of a list, with the new node's name in its place
abbrev pub named_node : ℕ → Listed → ℕ
named_node name l = renamed later_name name l.node

-- its copies, with that name in them
abbrev pub named_list : ℕ → Listed → List Sharer
named_list name l = map (renamed_sharer later_name name) l.list

-- the copies of the node n once these lists were put over the copies of all nodes
abbrev pub spread_at : ℕ → List Listed → (ℕ → List Sharer) → ℕ → List Sharer
spread_at name [] copies n = copies n
spread_at name (l ∷ ls) copies n = cond (n == named_node name l) (named_list name l) (spread_at name ls copies n)

-- each changed node gets the due copies of its new star, by its true name, and no other node's copies change
pub record ArePut (chunks name : ℕ) (fresh : List Held) (copies : ℕ → List Sharer) : Type 0 where
  pub changed : (h : Held) → Contains fresh h → spread_at name (ready_of chunks fresh) copies (renamed later_name name h.node) ≡ sharers_in chunks (option_map (renamed_star later_name name) h.star)
  pub others : (n : ℕ) → ((h : Held) → Contains fresh h → renamed later_name name h.node ≢ n) → spread_at name (ready_of chunks fresh) copies n ≡ copies n

-- where the name is that of no other changed node, all that was prepared is put, each copy once
abbrev pub SpreadPutsDue : Type 0
SpreadPutsDue = (chunks name : ℕ) (fresh : List Held) (copies : ℕ → List Sharer) → AreDifferent (map (λ (h : Held). renamed later_name name h.node) fresh) → ArePut chunks name fresh copies
