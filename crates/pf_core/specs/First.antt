-- What is kept of names and numbers at the start.
use Rattle.std.specs.Prelude.{ℕ, List, [], Bool, cond, ◌==◌, nat_lt, Option, Some, None, is_some}
use Rattle.pf_model.specs.Stars.{Star}
use Rattle.pf_core_model.specs.declared.sharer.Sharer.{Sharer}
use Rattle.pf_core_model.specs.Sharers.{sharers_in}
use Rattle.pf_core.specs.declared.word.Word.{Word}
use Rattle.pf_core.specs.declared.word.Word.TheVariants.{Free, Never, Dead}
use Rattle.pf_core.specs.declared.tables.Node.{Node}
use Rattle.pf_core.specs.declared.tables.Seat.{Seat}

-- the word of a name, which is live or not
abbrev pub first_word : ℕ → Bool → ℕ → Word
first_word first_new live n = cond (nat_lt n first_new) (cond live Free Dead) Never

-- the copies of a star, and none without one
abbrev pub list_for : ℕ → Option Star → List Sharer
list_for chunks None = []
list_for chunks (Some s) = sharers_in chunks (Some s)

abbrev pub first_node : (ℕ → Option Star) → ℕ → ℕ → ℕ → Node
first_node lent first_new chunks n = record { word = first_word first_new (is_some (lent n)) n; list = list_for chunks (lent n); star = None }

-- the first actor leads each number, and has the whole budget
abbrev pub start_seat : ℕ → ℕ → Seat
start_seat budget k = record { lead = 0; allowance = cond (k == 0) budget 0; held = 0; absent = None; unborn = None; owed = [] }
