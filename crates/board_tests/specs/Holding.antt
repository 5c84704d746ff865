-- What a seat keeps of the nodes that it holds.
use Rattle.std.specs.Prelude.{◌≡◌, ℕ, List, [], ◌∷◌, Bool, false, cond, ◌==◌, ◌||◌, None}
use Rattle.pf_star_model.specs.Lent.{Held, star_held}
use Rattle.pf_core_model.specs.declared.sharer.Sharer.{Sharer}
use Rattle.pf_core_model.specs.declared.view.View.{View}
use Rattle.pf_core_model.specs.Lists.{In}
use Rattle.pf_core_model.specs.Sharers.{sharers_in}
use Rattle.pf_ghost.specs.declared.ready.Listed.{Listed}
use Rattle.pf_ghost.specs.Spread.{named_node, named_list}
use Rattle.pf_locks.specs.declared.kept.Kept.{Kept}
use Rattle.pf_locks.specs.declared.seat.BoardSeat.{BoardSeat}
use Rattle.pf_locks.specs.Lists.{list_in, lent_in}
use Rattle.pf_locks.specs.Seats.{HoldsLive}

-- the list of each node that is held is the due one, and no node is unborn
pub record PaidBy (v : View) (ks : List Kept) : Type 0 where
  pub clear : v.unborn ≡ None
  pub due : (p : Held) → In p v.held → list_in ks p.node ≡ sharers_in v.chunks p.star

-- and each is live, and its star is lent
pub record LentBy (v : View) (ks : List Kept) : Type 0 where
  pub paid : PaidBy v ks
  pub live : HoldsLive v
  pub lends : (n : ℕ) → lent_in ks n ≡ star_held v.held n

abbrev pub IsPaid : BoardSeat → Type 0
IsPaid s = PaidBy s.seat.me.0 s.kept.items

abbrev pub IsLending : BoardSeat → Type 0
IsLending s = LentBy s.seat.me.0 s.kept.items

-- the copies of the node n once this list was put over the copies of all nodes
abbrev pub put_at : ℕ → Listed → (ℕ → List Sharer) → ℕ → List Sharer
put_at name l copies n = cond (n == named_node name l) (named_list name l) (copies n)

-- the node is among those that are kept
abbrev pub is_kept : List Kept → ℕ → Bool
is_kept [] n = false
is_kept (k ∷ ks) n = k.node == n || is_kept ks n
