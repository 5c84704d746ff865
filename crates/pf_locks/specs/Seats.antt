-- A seat of a board, and what each call tells.
use Rattle.std.specs.Prelude.{◌≡◌, ◌≢◌, ◌⊎◌, ℕ, ◌+◌, ◌<◌, ◌≤◌, List, [], length, Bool, true, false, cond, ◌==◌, slice_index_or, vec_capacity, Option, Some, None}
use Rattle.pf_model.specs.declared.Op.{Op}
use Rattle.pf_model.specs.declared.Cond.{Cond}
use Rattle.pf_model.specs.declared.Entry.{Entry}
use Rattle.pf_model.specs.Stars.{Star}
use Rattle.pf_model.specs.Conforming.{IsLive}
use Rattle.pf_entries.specs.Maps.{EntryMap, map_of}
use Rattle.pf_star_model.specs.Lent.{Held}
use Rattle.pf_core_model.specs.declared.sharer.Sharer.{Sharer}
use Rattle.pf_core_model.specs.declared.event.Asked.{Asked}
use Rattle.pf_core_model.specs.declared.view.View.{View}
use Rattle.pf_core_model.specs.Lists.{In, times}
use Rattle.pf_core_model.specs.Cavity.{makes_node}
use Rattle.pf_core_model.specs.Sharers.{sharers_in}
use Rattle.pf_core_model.specs.Moves.{locked, lost_to, found_dead, found_never, noted, refused, committed, unborn_by, spares_in, left_of, right_of}
use Rattle.pf_core_model.specs.Core.{Opening, names_of, mesh_after, number_of, nodes_of}
use Rattle.pf_core_model.specs.Guards.{IsAlone, IsViewJudged}
use Rattle.pf_core_model.specs.Seats.{own_log, Knows}
use Rattle.pf_board_steps.specs.Plays.{Mine, IsHeldNeighbour, fresh_at, Makes}
use Rattle.pf_holder.specs.declared.holder.Hold.{Hold}
use Rattle.pf_holder.specs.declared.holder.Hold.TheVariants.{Won, Lost, Dead, Never}
use Rattle.pf_locks.specs.declared.seat.BoardSeat.{BoardSeat}
use Rattle.pf_locks.specs.declared.kept.Kept.{Kept}
use Rattle.pf_locks.specs.Lists.{names_in, list_in, lent_in, slots_of}

abbrev pub flag_at : List Bool → ℕ → Bool
flag_at flags k = slice_index_or flags k false

-- the slots in a seat's hands are empty, and the seat keeps the list of each node that it holds; there is room for 66
pub record IsShaped (hand : List (ℕ × List Sharer)) (held : List ℕ) (ks : List Kept) (cap : ℕ) : Type 0 where
  pub slots : hand ≡ slots_of ks
  pub names : (n : ℕ) → times n (names_in ks) ≡ times n held
  pub once : (n : ℕ) → times n held ≤ 1
  pub long : length ks ≡ length held
  pub room : 66 ≤ cap

-- what a seat has in memory of its numbers and entries is what its view says
pub record IsCounted (v : View) (own many : ℕ) (flags : List Bool) (left t : ℕ) (es : EntryMap) : Type 0 where
  pub acts : v.numbers ≢ []
  pub number : own ≡ number_of v
  pub workers : (many ≡ v.workers) × (many ≤ 64)
  pub below : (k : ℕ) → In k v.numbers → k < many
  pub set : (k : ℕ) → flag_at flags k ≡ true → In k v.numbers
  pub unset : (k : ℕ) → In k v.numbers → flag_at flags k ≡ true
  pub spares : (k : ℕ) → In k (spares_in v.numbers) → k ≢ own
  pub allowance : left ≡ v.allowance
  pub seen : t ≡ v.seen
  pub entries : es.entries ≡ map_of v.entries
  pub tickets : (e : Entry) → In e v.entries → e.ticket < t
  pub room : left ≤ es.spare

-- a seat of a board with this opening
pub record IsSeat (o : Opening) (s : BoardSeat) : Type 0 where
  pub shape : IsShaped s.seat.me.1 (nodes_of s.seat.me.0) s.kept.items (vec_capacity s.kept)
  pub counts : IsCounted s.seat.me.0 s.number s.workers s.numbers s.allowance s.seen s.entries
  pub knows : Knows o s.seat.me.0

-- what is kept is as it was
abbrev pub KeepsLists : BoardSeat → BoardSeat → Type 0
KeepsLists s t = t.kept.items ≡ s.kept.items

-- the node's list is this, and its star is lent or not; what is kept of other nodes is as it was
abbrev pub PutsList : ℕ → List Sharer → Option Star → BoardSeat → BoardSeat → Type 0
PutsList n list star s t = (k : ℕ) → (list_in t.kept.items k ≡ cond (n == k) list (list_in s.kept.items k)) × (lent_in t.kept.items k ≡ cond (n == k) star (lent_in s.kept.items k))

-- nothing is kept of the node any more, and what is kept of other nodes is as it was
abbrev pub DropsList : ℕ → BoardSeat → BoardSeat → Type 0
DropsList n s t = (k : ℕ) → k ≢ n → (list_in t.kept.items k ≡ list_in s.kept.items k) × (lent_in t.kept.items k ≡ lent_in s.kept.items k)

-- a try for the node n that didn't win it, and found this
abbrev pub TellsOther : Opening → ℕ → BoardSeat → BoardSeat → Hold → Type 0
TellsOther o n s t Won = ⊥
TellsOther o n s t (Lost k) = (n < names_of o) × (k ≢ s.number) × (k < s.workers) × (IsAlone s.seat.me.0 → ⊥) × (t.seat.me.0 ≡ lost_to s.seat.me.0 n k)
TellsOther o n s t Dead = (n < names_of o) × (IsHeldNeighbour s.seat.me.0 n → ⊥) × (t.seat.me.0 ≡ found_dead s.seat.me.0 n)
TellsOther o n s t Never = (IsHeldNeighbour s.seat.me.0 n → ⊥) × (((n < names_of o) × (t.seat.me.0 ≡ found_never s.seat.me.0 n)) ⊎ ((names_of o ≤ n) × (t.seat.me.0 ≡ s.seat.me.0)))

-- a try for the node n
abbrev pub TellsTry : Opening → ℕ → BoardSeat → BoardSeat → Hold → Type 0
TellsTry o n s t Won = (n < names_of o) × ((star : Star) × (star.node ≡ n) × (t.seat.me.0 ≡ locked s.seat.me.0 n (Some star)) × PutsList n (sharers_in s.seat.me.0.chunks (Some star)) (Some star) s t)
TellsTry o n s t found = TellsOther o n s t found × KeepsLists s t

-- to a seat that is alone, the node is won exactly where it is live
abbrev pub TellsAlone : Opening → ℕ → View → Hold → Type 0
TellsAlone o n v Won = IsLive (mesh_after o (own_log v)) n
TellsAlone o n v found = IsLive (mesh_after o (own_log v)) n → ⊥

-- what is asked at a note fails, as the view tells
abbrev pub IsAskable : View → Option Asked → Type 0
IsAskable v None = Unit {0}
IsAskable v (Some q) = (why : Cond) × IsViewJudged v q.chunk q.op (Some why)

-- the view after a note at this count
abbrev pub TellsNote : ℕ → View → View → Option Asked → Type 0
TellsNote t v w None = w ≡ noted v t
TellsNote t v w (Some q) = (why : Cond) × IsViewJudged v q.chunk q.op (Some why) × (w ≡ refused v t q.chunk q.op why)

-- the count is what was seen or more, within the budget; and what was seen, where the seat is alone
abbrev pub TellsCount : Opening → View → ℕ → Type 0
TellsCount o v t = (v.seen ≤ t) × (t ≤ o.budget) × (IsAlone v → t ≡ v.seen)

-- what a load of the count tells of the seat after it
abbrev pub NotesCount : Opening → Mine → ℕ → Mine → Option Asked → Type 0
NotesCount o v t w asked = Knows o w.0 × TellsCount o v.0 t × ((u : View) × TellsNote t v.0 u asked × (w ≡ (u, v.1)))

-- the entry of a commit
abbrev pub entry_of : ℕ → ℕ → Op → Entry
entry_of t chunk op = record { ticket = t; chunk = chunk; op = op }

-- the view after a commit, and the list of the node that it makes, which is empty and not lent
pub record TellsCommit (o : Opening) (t : ℕ) (chunk : ℕ) (op : Op) (s w : BoardSeat) : Type 0 where
  pub view : w.seat.me.0 ≡ committed s.seat.me.0 (entry_of t chunk op) (fresh_at s.seat.me.0 (entry_of 0 chunk op) t) (unborn_by s.seat.me.0.first_new (entry_of t chunk op))
  pub makes : Makes o s.seat.me.0 w.seat.me.0 (entry_of t chunk op)
  pub made : makes_node op ≡ true → PutsList (s.seat.me.0.first_new + t) [] None s w
  pub same : makes_node op ≡ false → KeepsLists s w

-- each node that is held has a star
abbrev pub HoldsLive : View → Type 0
HoldsLive v = (p : Held) → In p v.held → p.star ≢ None

-- the node was taken out of what is kept; the others stay
pub record IsTaken (n : ℕ) (s t : BoardSeat) : Type 0 where
  pub names : (k : ℕ) → times k (names_in t.kept.items) + cond (n == k) 1 0 ≡ times k (names_in s.kept.items)
  pub long : length t.kept.items + 1 ≡ length s.kept.items
  pub room : vec_capacity t.kept ≡ vec_capacity s.kept
  pub others : DropsList n s t

-- all but the slots and what is kept is as it was
pub record IsSameBeside (s t : BoardSeat) : Type 0 where
  pub number : t.number ≡ s.number
  pub workers : t.workers ≡ s.workers
  pub numbers : t.numbers ≡ s.numbers
  pub allowance : t.allowance ≡ s.allowance
  pub seen : t.seen ≡ s.seen
  pub entries : t.entries ≡ s.entries

-- the least number that is set, but for the seat's own
pub record IsLeastSpare (flags : List Bool) (own b : ℕ) : Type 0 where
  pub is : flag_at flags b ≡ true
  pub other : b ≢ own
  pub least : (k : ℕ) → k < b → flag_at flags k ≡ true → k ≡ own

-- what a split tells: which number the new seat has, and both views
pub record TellsSplit (share : ℕ) (s t u : BoardSeat) : Type 0 where
  pub number : IsLeastSpare s.numbers s.number u.number
  pub left : t.seat.me.0 ≡ left_of u.number share s.seat.me.0
  pub right : u.seat.me.0 ≡ right_of u.number share s.seat.me.0
