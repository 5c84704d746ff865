-- A seat in a hand.
use Rattle.std.specs.Prelude.{◌≡◌, ◌≢◌, ℕ, ◌≤◌, List, [], length, Bool, true, false, cond, Some, None}
use Rattle.pf_model.specs.declared.Op.{Op}
use Rattle.pf_model.specs.Stars.{Star}
use Rattle.pf_star_model.specs.Lent.{Held, star_held}
use Rattle.pf_core_model.specs.declared.view.View.{View}
use Rattle.pf_core_model.specs.Lists.{In}
use Rattle.pf_core_model.specs.Sharers.{sharers_in}
use Rattle.pf_core_model.specs.Moves.{committed}
use Rattle.pf_core_model.specs.Core.{Opening}
use Rattle.pf_board_steps.specs.Plays.{fresh_at}
use Rattle.pf_locks.specs.declared.seat.BoardSeat.{BoardSeat}
use Rattle.pf_locks.specs.declared.kept.Kept.{Kept}
use Rattle.pf_locks.specs.Lists.{list_in, lent_in}
use Rattle.pf_locks.specs.Seats.{IsSeat, entry_of}

-- the pairs whose stars are lent: all that are held, and none once an operation was committed
abbrev pub lent_pairs : Bool → List Held → List Held
lent_pairs changed held = cond changed [] held

-- the list that is kept of each held node is that of the due copies
abbrev pub AreDue : ℕ → List Held → List Kept → Type 0
AreDue chunks held ks = (p : Held) → In p held → list_in ks p.node ≡ sharers_in chunks p.star

-- before a commit: each held node has a star, which is lent, and there are at most 65
pub record IsLending (held : List Held) (ks : List Kept) : Type 0 where
  pub live : (p : Held) → In p held → p.star ≢ None
  pub few : length held ≤ 65
  pub lends : (n : ℕ) → lent_in ks n ≡ star_held held n

-- a star is held of some node
pub record HasSome (held : List Held) : Type 0 where
  pub node : ℕ
  pub star : Star
  pub holds : star_held held node ≡ Some star

-- a seat of a board with this opening, in a hand: nothing is owed, and nothing is unborn
pub record IsHand (o : Opening) (s : BoardSeat) (changed : Bool) : Type 0 where
  pub seat : IsSeat o s
  pub clear : s.seat.me.0.unborn ≡ None
  pub due : AreDue s.seat.me.0.chunks s.seat.me.0.held s.kept.items
  pub before : changed ≡ false → IsLending s.seat.me.0.held s.kept.items
  pub after : changed ≡ true → HasSome s.seat.me.0.held

-- the view once an operation was made, with this ticket, and its new node born
abbrev pub made_view : View → ℕ → Op → ℕ → View
made_view v chunk op t = committed v (entry_of t chunk op) (fresh_at v (entry_of 0 chunk op) t) None
