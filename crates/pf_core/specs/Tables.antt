-- The tables of a state: what is kept of each name and of each number, and what is read of them.
use Rattle.std.specs.Prelude.{ℕ, ◌+◌, ◌-◌, List, [], Bool, false, cond, not, ◌&&◌, ◌||◌, ◌==◌, nat_lt, length, map, Option, Some, None, is_some, slice_index_or}
use Rattle.pf_model.specs.Stars.{Star}
use Rattle.pf_core_model.specs.declared.event.Owed.{Owed}
use Rattle.pf_core_model.specs.declared.sharer.Sharer.{Sharer}
use Rattle.pf_core_model.specs.Core.{held_by}
use Rattle.pf_core_model.specs.State.{is_nil}
use Rattle.pf_core.specs.declared.word.Word.{Word}
use Rattle.pf_core.specs.declared.word.Word.TheVariants.{Free, Never, Dead, Held}
use Rattle.pf_core.specs.declared.tables.Node.{Node}
use Rattle.pf_core.specs.declared.tables.Seat.{Seat}

-- the number that a state has for a word
abbrev pub word_code : Word → ℕ
word_code Free = 0
word_code Dead = 1
word_code Never = 2
word_code (Held by) = held_by by

-- what stands at a name or a number past the tables
abbrev pub no_node : Node
no_node = record { word = Free; list = []; star = None }

abbrev pub no_seat : Seat
no_seat = record { lead = 0; allowance = 0; held = 0; absent = None; unborn = None; owed = [] }

abbrev pub node_at : List Node → ℕ → Node
node_at nodes n = slice_index_or nodes n no_node

abbrev pub seat_at : List Seat → ℕ → Seat
seat_at seats k = slice_index_or seats k no_seat

-- the word of a name; one past the table was never live
abbrev pub word_seen : List Node → ℕ → Word
word_seen nodes n = cond (nat_lt n (length nodes)) (node_at nodes n).word Never

abbrev pub code_seen : List Node → ℕ → ℕ
code_seen nodes n = word_code (word_seen nodes n)

-- the words, the lists of copies
abbrev pub code_in : Node → ℕ
code_in x = word_code x.word

abbrev pub list_in : Node → List Sharer
list_in x = x.list

-- nothing is owed, no node is held as absent, and none is unborn
abbrev pub is_clear_seat : Seat → Bool
is_clear_seat t = is_nil t.owed && (not (is_some t.absent) && not (is_some t.unborn))

-- the number is that of an actor
abbrev pub is_lead : List Seat → ℕ → Bool
is_lead seats a = nat_lt a (length seats) && ((seat_at seats a).lead == a)

-- the name is that of the unborn node
abbrev pub is_this : Option ℕ → ℕ → Bool
is_this None n = false
is_this (Some k) n = k == n

-- the actor holds the node: by its word, or as its unborn node
abbrev pub holds : List Node → List Seat → ℕ → ℕ → Bool
holds nodes seats a n = (code_seen nodes n == held_by a) || is_this (seat_at seats a).unborn n

-- the star that the actor holds of the node
abbrev pub star_seen : List Node → List Seat → ℕ → ℕ → Option Star
star_seen nodes seats a n = cond (holds nodes seats a n) (node_at nodes n).star None

-- what changes of a name: the actor holds it with a star, it is held as any other, nobody holds it any more, it has these copies
abbrev pub held_node : ℕ → Option Star → Node → Node
held_node by star x = record { word = Held by; list = x.list; star = star }

abbrev pub born_node : ℕ → Node → Node
born_node by x = record { word = Held by; list = x.list; star = x.star }

abbrev pub put_back_node : Word → Node → Node
put_back_node word x = record { word = word; list = x.list; star = None }

abbrev pub listed_node : List Sharer → Node → Node
listed_node list x = record { word = x.word; list = list; star = x.star }

-- what changes of an actor: it holds a node more, its unborn node is born, it holds a node less, one that was absent
abbrev pub more_held : Seat → Seat
more_held t = record { lead = t.lead; allowance = t.allowance; held = t.held + 1; absent = t.absent; unborn = t.unborn; owed = t.owed }

abbrev pub born_seat : Seat → Seat
born_seat t = record { lead = t.lead; allowance = t.allowance; held = t.held; absent = t.absent; unborn = None; owed = t.owed }

abbrev pub less_held : Option ℕ → Seat → Seat
less_held absent t = record { lead = t.lead; allowance = t.allowance; held = t.held - 1; absent = absent; unborn = t.unborn; owed = t.owed }

abbrev pub paid_seat : List Owed → Seat → Seat
paid_seat owed t = record { lead = t.lead; allowance = t.allowance; held = t.held; absent = t.absent; unborn = t.unborn; owed = owed }

-- an actor's allowance
abbrev pub with_allowance : ℕ → Seat → Seat
with_allowance k t = record { lead = t.lead; allowance = k; held = t.held; absent = t.absent; unborn = t.unborn; owed = t.owed }

-- the actor that begins with this number and this allowance
abbrev pub first_seat : ℕ → ℕ → Seat
first_seat a allowance = record { lead = a; allowance = allowance; held = 0; absent = None; unborn = None; owed = [] }

-- the number is led by another actor, where it was led by this one
abbrev pub led_by : ℕ → ℕ → Seat → Seat
led_by b a t = cond (t.lead == b) (record { lead = a; allowance = t.allowance; held = t.held; absent = t.absent; unborn = t.unborn; owed = t.owed }) t
