-- What each event makes of a view. Lists grow at the front.
use Rattle.std.specs.Prelude.{ℕ, ◌+◌, ◌-◌, max, cond, ◌==◌, List, [], ◌∷◌, ◌++◌, Option, Some, None}
use Rattle.pf_model.specs.declared.Op.{Op}
use Rattle.pf_model.specs.declared.Cond.{Cond}
use Rattle.pf_model.specs.declared.Entry.{Entry}
use Rattle.pf_model.specs.Stars.{Star}
use Rattle.pf_core_model.specs.declared.view.View.{View}
use Rattle.pf_star_model.specs.Lent.{Held}
use Rattle.pf_star_model.specs.Patched.{made_by}
use Rattle.pf_core_model.specs.Lists.{without_number}
use Rattle.pf_core_model.specs.Cavity.{makes_node}

-- the node is held, with this star
abbrev pub locked : View → ℕ → Option Star → View
locked v n star = record v { held = record { node = n; star = star } ∷ v.held }

-- a try found the node held by k, dead, or never live
abbrev pub lost_to : View → ℕ → ℕ → View
lost_to v n k = record v { lost = record { node = n; holder = k } ∷ v.lost }

abbrev pub found_dead : View → ℕ → View
found_dead v n = record v { dead = n ∷ v.dead }

abbrev pub found_never : View → ℕ → View
found_never v n = record v { never = n ∷ v.never }

-- the count of tickets was seen, and maybe an operation was judged that fails: what these make of a view in the pure core, which has no
-- marks
abbrev pub seen_at : View → ℕ → View
seen_at v t = record v { seen = t }

abbrev pub failed_at : View → ℕ → ℕ → Op → Cond → View
failed_at v t chunk op cond = record v { seen = t; refusals = record { at = t; chunk = chunk; op = op; cond = cond } ∷ v.refusals }

-- the same on a board, where a mark is made
abbrev pub noted : View → ℕ → View
noted v t = record v { seen = t; marks = record { at = t; pairs = v.held; gone = v.dead } ∷ v.marks }

-- and an operation was judged, which fails
abbrev pub refused : View → ℕ → ℕ → Op → Cond → View
refused v t chunk op cond = record v { seen = t; marks = record { at = t; pairs = v.held; gone = v.dead } ∷ v.marks; refusals = record { at = t; chunk = chunk; op = op; cond = cond } ∷ v.refusals }

-- the entry was made; the held pairs and the unborn node are these from now on
abbrev pub committed : View → Entry → List Held → Option ℕ → View
committed v e held unborn = record v { allowance = v.allowance - 1; seen = e.ticket + 1; held = held; unborn = unborn; entries = e ∷ v.entries }

-- the node that an entry makes, which is unborn
abbrev pub unborn_by : ℕ → Entry → Option ℕ
unborn_by first_new e = cond (makes_node e.op) (Some (first_new + e.ticket)) None

abbrev pub made_list : ℕ → Entry → List ℕ
made_list first_new e = made_by (first_new + e.ticket) e.op

-- the unborn node is held as any other
abbrev pub born : View → View
born v = record v { unborn = None }

-- the pairs but those of the node n
abbrev pub without : ℕ → List Held → List Held
without n [] = []
without n (p ∷ ps) = cond (p.node == n) (without n ps) (p ∷ without n ps)

-- the node is no longer held
abbrev pub released : View → ℕ → View
released v n = record v { held = without n v.held }

-- the spare numbers: all but the first
abbrev pub spares_in : List ℕ → List ℕ
spares_in [] = []
spares_in (k ∷ ks) = ks

-- the numbers but one that is spare
abbrev pub but_spare : ℕ → List ℕ → List ℕ
but_spare b [] = []
but_spare b (k ∷ ks) = k ∷ without_number b ks

-- what is left after a spare number and a share of the allowance are split off, and the actor of that number
abbrev pub left_of : ℕ → ℕ → View → View
left_of b share v = record v { numbers = but_spare b v.numbers; allowance = v.allowance - share }

abbrev pub right_of : ℕ → ℕ → View → View
right_of b share v =
    record {
      workers = v.workers;
      first_new = v.first_new;
      chunks = v.chunks;
      bands = v.bands;
      numbers = b ∷ [];
      allowance = share;
      seen = v.seen;
      held = [];
      unborn = None;
      entries = [];
      refusals = [];
      lost = [];
      dead = [];
      never = [];
      marks = [];
    }

-- what the first knows after the second was joined to it
abbrev pub both_of : View → View → View
both_of v w =
    record v {
      numbers = v.numbers ++ w.numbers;
      allowance = v.allowance + w.allowance;
      seen = max v.seen w.seen;
      entries = v.entries ++ w.entries;
      refusals = v.refusals ++ w.refusals;
      lost = v.lost ++ w.lost;
      dead = v.dead ++ w.dead;
      never = v.never ++ w.never;
      marks = v.marks ++ w.marks;
    }

-- the view of no actor
abbrev pub spent_view : View
spent_view =
    record {
      workers = 0;
      first_new = 0;
      chunks = 0;
      bands = [];
      numbers = [];
      allowance = 0;
      seen = 0;
      held = [];
      unborn = None;
      entries = [];
      refusals = [];
      lost = [];
      dead = [];
      never = [];
      marks = [];
    }
