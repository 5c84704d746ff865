-- The guards of the events, by the tables.
use Rattle.std.specs.Prelude.{◌≡◌, ℕ, ◌-◌, List, Bool, true, false, cond, not, ◌&&◌, ◌||◌, ◌==◌, nat_lt, length, Option, Some, None, is_some, is_none, min, max}
use Rattle.std.specs.List.{list_any}
use Rattle.pf_model.specs.declared.Band.{Band}
use Rattle.pf_model.specs.declared.Op.{Op}
use Rattle.pf_model.specs.declared.Op.TheVariants.{Flip, Bisect, Contract}
use Rattle.pf_model.specs.Mesh.{Undivided}
use Rattle.pf_model.specs.Conforming.{IsConforming}
use Rattle.pf_model.specs.Conditions.{apex_or}
use Rattle.pf_model.specs.Ends.{first_end, second_end}
use Rattle.pf_model.specs.Stars.{Star, star_of}
use Rattle.pf_star_model.specs.Judged.{judged, judged_ends, left_seen}
use Rattle.pf_star_model.specs.Cavity.{needed}
use Rattle.pf_core_model.specs.Core.{held_by}
use Rattle.pf_core_model.specs.State.{is_nil, is_owed, owes_of}
use Rattle.pf_core.specs.declared.tables.Node.{Node}
use Rattle.pf_core.specs.declared.tables.Seat.{Seat}
use Rattle.pf_core.specs.Tables.{node_at, seat_at, code_seen, is_clear_seat, is_lead, is_this, holds, star_seen}

-- a clear actor tries for a node that is free
abbrev pub can_lock : List Node → List Seat → ℕ → ℕ → Bool
can_lock nodes seats a n = is_clear_seat (seat_at seats a) && (code_seen nodes n == 0)

-- the other actor that holds the node
abbrev pub is_others : List Node → ℕ → ℕ → Bool
is_others nodes a n = nat_lt 2 (code_seen nodes n) && not (code_seen nodes n == held_by a)

abbrev pub other_holder : List Node → ℕ → ℕ → Option ℕ
other_holder nodes a n = cond (is_others nodes a n) (Some (code_seen nodes n - 3)) None

-- the actor can put the node back
abbrev pub can_return : List Node → List Seat → ℕ → ℕ → Bool
can_return nodes seats a n = (code_seen nodes n == held_by a) && (not (owes_of n (seat_at seats a).owed) && not (is_some (seat_at seats a).unborn))

-- with a star, or without
abbrev pub can_release : List Node → List Seat → ℕ → ℕ → Bool
can_release nodes seats a n = can_return nodes seats a n && is_some (node_at nodes n).star

abbrev pub can_bury : List Node → List Seat → ℕ → ℕ → Bool
can_bury nodes seats a n = can_return nodes seats a n && not (is_some (node_at nodes n).star)

-- the node is the actor's unborn one, and its copies are put
abbrev pub can_birth : List Seat → ℕ → ℕ → Bool
can_birth seats a n = is_this (seat_at seats a).unborn n && not (owes_of n (seat_at seats a).owed)

-- the actor owes the copy
abbrev pub can_push : List Seat → ℕ → ℕ → ℕ → Bool
can_push seats a chunk n = list_any (is_owed chunk n) (seat_at seats a).owed

-- b is a spare number of a
abbrev pub is_spare : List Seat → ℕ → ℕ → Bool
is_spare seats a b = (nat_lt b (length seats) && ((seat_at seats b).lead == a)) && not (b == a)

-- a clear actor that holds nothing gives a spare number and a share of its allowance
abbrev pub can_split : List Seat → ℕ → ℕ → ℕ → Bool
can_split seats a b share = (is_clear_seat (seat_at seats a) && ((seat_at seats a).held == 0)) && (is_spare seats a b && not (nat_lt (seat_at seats a).allowance share))

-- the actor holds and owes nothing
abbrev pub has_none : Seat → Bool
has_none t = (t.held == 0) && is_nil t.owed

-- two actors, neither of which holds or owes anything
abbrev pub can_join : List Seat → ℕ → ℕ → Bool
can_join seats a b = is_lead seats b && (not (a == b) && (has_none (seat_at seats a) && has_none (seat_at seats b)))

-- the left apex of a flip whose other conditions pass is held
abbrev pub is_apex_by : (ℕ → Bool) → (ℕ → Option Star) → ℕ → Op → Bool
is_apex_by held lent chunk (Flip a b) = is_some (judged_ends lent chunk a b) || held (apex_or (left_seen lent (min a b) (max a b)))
is_apex_by held lent chunk (Bisect a b) = true
is_apex_by held lent chunk (Contract u v) = true

-- the operation can be judged from what is held
abbrev pub can_judge_by : (ℕ → Bool) → (ℕ → Option Star) → ℕ → Op → Bool
can_judge_by held lent chunk op = held (first_end op) && (held (second_end op) && is_apex_by held lent chunk op)

-- what the actor can judge
abbrev pub can_judge_at : List Node → List Seat → ℕ → ℕ → Op → Bool
can_judge_at nodes seats a chunk op = can_judge_by (holds nodes seats a) (star_seen nodes seats a) chunk op

-- the cavity is lent, and the operation passes on the lent stars
abbrev pub can_make_by : (ℕ → Option Star) → List Band → ℕ → Op → Bool
can_make_by lent bands chunk op = is_none (needed lent op) && not (is_some (judged lent bands chunk op))

-- a clear actor with an allowance can make the operation
abbrev pub can_commit : List Node → List Seat → List Band → ℕ → ℕ → Op → Bool
can_commit nodes seats bands a chunk op = is_clear_seat (seat_at seats a) && (nat_lt 0 (seat_at seats a).allowance && can_make_by (star_seen nodes seats a) bands chunk op)

-- the mesh is conforming, and shows the first end of the operation where the actor holds it
pub record IsShownTo (nodes : List Node) (seats : List Seat) (a : ℕ) (op : Op) (m : Undivided) : Type 0 where
  pub conforming : IsConforming m
  pub first : holds nodes seats a (first_end op) ≡ true → star_seen nodes seats a (first_end op) ≡ star_of m (first_end op)
