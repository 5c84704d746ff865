-- What each step on a word of the board tells the seat that makes it: of its view before and after, of the lists of copies in its hands,
-- and of the word that it found.
use Rattle.std.specs.Prelude.{◌≡◌, ◌≢◌, ℕ, ◌+◌, ◌-◌, ◌<◌, ◌≤◌, List, [], ◌∷◌, true, cond, Option, Some, None}
use Rattle.std.specs.List.{list_all}
use Rattle.atomic_table.specs.Table.{Step, Me, State, rest}
use Rattle.pf_model.specs.declared.Op.{Op}
use Rattle.pf_model.specs.declared.Cond.{Cond}
use Rattle.pf_model.specs.declared.Entry.{Entry}
use Rattle.pf_model.specs.Mesh.{Undivided}
use Rattle.pf_model.specs.Conforming.{IsLive}
use Rattle.pf_model.specs.Applied.{IsFresh, applied}
use Rattle.pf_model.specs.Stars.{Star}
use Rattle.pf_star_model.specs.Lent.{Held, is_held, star_held}
use Rattle.pf_star_model.specs.Judged.{judged}
use Rattle.pf_star_model.specs.Cavity.{cavity_seen}
use Rattle.pf_core_model.specs.declared.sharer.Sharer.{Sharer}
use Rattle.pf_core_model.specs.declared.view.View.{View}
use Rattle.pf_core_model.specs.Lists.{In}
use Rattle.pf_core_model.specs.Cavity.{makes_node, neighbours_in}
use Rattle.pf_core_model.specs.Sharers.{sharers_in, kept_in}
use Rattle.pf_core_model.specs.Moves.{locked, lost_to, found_dead, found_never, noted, refused, committed, unborn_by, born, released}
use Rattle.pf_core_model.specs.Core.{Opening, names_of, mesh_after, held_by, number_of, IsSound}
use Rattle.pf_core_model.specs.Guards.{IsMeshOf, IsAlone}
use Rattle.pf_core_model.specs.Seats.{own_log, Knows}
use Rattle.pf_core_model.specs.State.{can_judge, fresh_pairs}

-- the table of a board: a word for each name, and one for the count of tickets; a slot for each name, with the list of its copies; and
-- the view of each seat
abbrev pub BoardState : Type 0
BoardState = State (List Sharer) View

-- words, slots and views are sound
abbrev pub Holds : Opening → BoardState → Type 0
Holds o s = IsSound o s.words s.homes s.views

-- a seat's view, and the lists of copies in its hands, each with its node
abbrev pub Mine : Type 0
Mine = Me (List Sharer) View

-- the node is a neighbour in a star that the seat holds
abbrev pub IsHeldNeighbour : View → ℕ → Type 0
IsHeldNeighbour v n = (p : Held) × In p v.held × In n (neighbours_in p.star)

-- what each step tells of the seat after it: what its view knows, with one conforming mesh with which its pairs agree, and, where it is
-- alone, with the whole history; and that there is a slot for each name
abbrev pub After : Opening → Step (List Sharer) → Mine → Type 0
After o st w = Knows o w.0 × (st.slots ≡ names_of o)

-- to a seat that is alone, the node was free exactly where it is live
abbrev pub TriesAlone : Opening → View → ℕ → ℕ → Type 0
TriesAlone o v n found = IsAlone v → (found ≡ 0 → IsLive (mesh_after o (own_log v)) n) × (IsLive (mesh_after o (own_log v)) n → found ≡ 0)

-- a try: the node was free, and is held with its star and all its copies; or it was dead, or never live, and then no neighbour in a held
-- star; or another actor holds it, and then the seat isn't alone
abbrev pub Tries : Opening → Step (List Sharer) → Mine → ℕ → Mine → Type 0
Tries o st v found w =
    After o st w
    × (found ≡ 0 → (star : Star) × (star.node ≡ st.word) × (kept_in (sharers_in v.0.chunks (Some star)) ≡ Some star)
    × (w ≡ (locked v.0 st.word (Some star), (st.word, sharers_in v.0.chunks (Some star)) ∷ v.1)))
    × (found ≡ 1 → (IsHeldNeighbour v.0 st.word → ⊥) × (w ≡ (found_dead v.0 st.word, v.1)))
    × (found ≡ 2 → (IsHeldNeighbour v.0 st.word → ⊥) × (w ≡ (found_never v.0 st.word, v.1)))
    × (3 ≤ found → (found ≢ held_by (number_of v.0)) × (found - 3 < v.0.workers) × (IsAlone v.0 → ⊥) × (w ≡ (lost_to v.0 st.word (found - 3), v.1)))
    × TriesAlone o v.0 st.word found

-- a release or a burial: the list that was taken last goes home
abbrev pub Frees : Opening → Step (List Sharer) → Mine → ℕ → Mine → Type 0
Frees o st v found w = After o st w × (w ≡ (released v.0 st.word, rest v.1))

-- a birth: the unborn node is held as any other
abbrev pub Births : Opening → Step (List Sharer) → Mine → ℕ → Mine → Type 0
Births o st v found w = After o st w × (w ≡ (born v.0, v.1))

-- the count of tickets is what the seat has seen or more, within the budget; and what it has seen, where the seat is alone
abbrev pub Counts : Opening → View → ℕ → Type 0
Counts o v found = (v.seen ≤ found) × (found ≤ o.budget) × (IsAlone v → found ≡ v.seen)

-- a note: the count of tickets was seen, and a mark was made
abbrev pub Notes : Opening → Step (List Sharer) → Mine → ℕ → Mine → Type 0
Notes o st v found w = After o st w × Counts o v.0 found × (w ≡ (noted v.0 found, v.1))

-- a note at which an operation was refused
abbrev pub Refuses : Opening → ℕ → Op → Cond → Step (List Sharer) → Mine → ℕ → Mine → Type 0
Refuses o chunk op why st v found w = After o st w × Counts o v.0 found × (w ≡ (refused v.0 found chunk op why, v.1))

-- the entry with the ticket that was drawn
abbrev pub at_ticket : Entry → ℕ → Entry
at_ticket e t = record { ticket = t; chunk = e.chunk; op = e.op }

-- a mesh with which the pairs agree before the entry, and which its new node isn't in; after it they agree with the mesh that the entry
-- makes of this one
pub record Makes (o : Opening) (v w : View) (e : Entry) : Type 0 where
  pub mesh : Undivided
  pub before : IsMeshOf v mesh
  pub fresh : IsFresh mesh e.ticket
  pub live : (n : ℕ) → IsLive mesh n → n < names_of o
  pub name : v.first_new + e.ticket < names_of o
  pub after : IsMeshOf w (applied mesh e)

-- a commit: the entry stands in the history with the ticket that was drawn, and the list of the node that it makes, which is empty, is in
-- the seat's hands
abbrev pub Commits : Opening → Entry → (ℕ → List Held) → Step (List Sharer) → Mine → ℕ → Mine → Type 0
Commits o e fresh st v found w =
    After o st w × Counts o v.0 found × Makes o v.0 w.0 (at_ticket e found)
    × (w ≡ (committed v.0 (at_ticket e found) (fresh found) (unborn_by v.0.first_new (at_ticket e found)), cond (makes_node e.op) ((v.0.first_new + found, []) ∷ v.1) v.1))

-- the operation can be judged from the held pairs of the view, and this is the first condition that it fails
abbrev pub IsJudgedByStars : View → ℕ → Op → Option Cond → Type 0
IsJudgedByStars v chunk op x = (can_judge v.held chunk op ≡ true) × (judged (star_held v.held) v.bands chunk op ≡ x)

-- the view holds the cavity of an operation, which passes on the held stars
abbrev pub CanCommit : View → ℕ → Op → Type 0
CanCommit v chunk op = (list_all (is_held v.held) (cavity_seen (star_held v.held) op) ≡ true) × (judged (star_held v.held) v.bands chunk op ≡ None)

-- the pairs that an entry with a ticket makes of those held, that of the new node in front
abbrev pub fresh_at : View → Entry → ℕ → List Held
fresh_at v e t = fresh_pairs v.first_new (at_ticket e t) v.held
