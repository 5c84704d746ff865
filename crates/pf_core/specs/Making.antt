-- What an operation makes of the tables.
use Rattle.std.specs.Prelude.{ℕ, ◌+◌, ◌-◌, List, [], ◌∷◌, Option, Some, None, slice_set}
use Rattle.pf_model.specs.declared.Op.{Op}
use Rattle.pf_model.specs.declared.Op.TheVariants.{Flip, Bisect, Contract}
use Rattle.pf_model.specs.Stars.{Star}
use Rattle.pf_star_model.specs.Lent.{Held as Pair}
use Rattle.pf_core_model.specs.declared.event.Owed.{Owed}
use Rattle.pf_core.specs.declared.tables.Node.{Node}
use Rattle.pf_core.specs.declared.tables.Seat.{Seat}
use Rattle.pf_core.specs.Tables.{node_at}

-- a name with this star
abbrev pub starred_node : Option Star → Node → Node
starred_node star x = record { word = x.word; list = x.list; star = star }

-- the table with the stars of these pairs; the first pair of a node counts
abbrev pub starred : List Pair → List Node → List Node
starred [] nodes = nodes
starred (h ∷ hs) nodes = slice_set (starred hs nodes) h.node (starred_node h.star (node_at (starred hs nodes) h.node))

-- the node that an operation leaves without a star, the one that it makes, and how many it makes
abbrev pub absent_by : Op → Option ℕ
absent_by (Flip a b) = None
absent_by (Bisect a b) = None
absent_by (Contract u v) = Some u

abbrev pub born_by : Op → ℕ → Option ℕ
born_by (Flip a b) name = None
born_by (Bisect a b) name = Some name
born_by (Contract u v) name = None

abbrev pub count_by : Op → ℕ
count_by (Flip a b) = 0
count_by (Bisect a b) = 1
count_by (Contract u v) = 0

-- the actor that made the operation
abbrev pub committed_seat : Op → ℕ → List Owed → Seat → Seat
committed_seat op name owed t = record { lead = t.lead; allowance = t.allowance - 1; held = t.held + count_by op; absent = absent_by op; unborn = born_by op name; owed = owed }
