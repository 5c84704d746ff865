-- The laws of a board over one table of words and slots: each step on a word is an event of the core, whatever the other seats do at the
-- same time. A step asks for facts on the seat's own view and hands alone.
use Rattle.std.specs.Prelude.{◌≡◌, ◌≢◌, ℕ, ◌+◌, ◌%◌, ◌^◌, ◌<◌, ◌≤◌, ◌==◌, List, [], ◌∷◌, length, Option, Some, None}
use mathlib.Core.Option.{none, some}
use lib.ListN.{get_elem?}
use prog.Atomic.{either}
use Rattle.atomic_table.specs.Table.{step, opening, Allows, Splits, Joins, Final, Seen}
use Rattle.pf_model.specs.declared.Op.{Op}
use Rattle.pf_model.specs.declared.Cond.{Cond}
use Rattle.pf_model.specs.declared.Entry.{Entry}
use Rattle.pf_model.specs.Stars.{Star, star_of}
use Rattle.pf_star_model.specs.Lent.{Held}
use Rattle.pf_core_model.specs.declared.sharer.Sharer.{Sharer}
use Rattle.pf_core_model.specs.declared.view.View.{View}
use Rattle.pf_core_model.specs.Lists.{In}
use Rattle.pf_core_model.specs.Sharers.{sharers_in}
use Rattle.pf_core_model.specs.Moves.{spares_in, left_of, right_of, both_of, spent_view}
use Rattle.pf_core_model.specs.Core.{Opening, names_of, mesh_after, held_by, number_of, nodes_of}
use Rattle.pf_core_model.specs.Guards.{IsAlone, IsViewJudged, ViewHoldsCavity, IsViewPatch}
use Rattle.pf_core_model.specs.Seats.{own_log, IsWhole}
use Rattle.pf_core_model.specs.State.{opening_state, first_view}
use Rattle.pf_core_model.specs.Shown.{CanOpen}
use Rattle.pf_board_steps.specs.Plays.{BoardState, Mine, Holds, Tries, Frees, Births, Notes, Refuses, at_ticket, Commits, IsJudgedByStars, CanCommit, fresh_at}

-- a law over a seat of a board: its place among the seats, its view and its hands
abbrev pub OverSeat : (Opening → ℕ → ℕ → Mine → Type 0) → Type 0
OverSeat P = (o : Opening) (slots id : ℕ) (me : Mine) → P o slots id me

-- a try of a node that the seat doesn't hold: a free word becomes the seat's
abbrev pub TryIsStep : Type 0
TryIsStep = OverSeat (λ o slots id me. (n : ℕ) → me.0.numbers ≢ [] → me.0.unborn ≡ None → n < names_of o → (In n (nodes_of me.0) → ⊥)
    → Allows (Holds o) slots id me n (λ x. either (x == 0) (held_by (number_of me.0)) x) (Tries o (step slots n 0 (held_by (number_of me.0)) none) me))

-- a note: the count of tickets is read
abbrev pub NoteIsStep : Type 0
NoteIsStep = OverSeat (λ o slots id me. me.0.numbers ≢ [] → Allows (Holds o) slots id me (names_of o) (λ x. x) (Notes o (step slots (names_of o) 0 0 none) me))

-- a refusal: the count is read, and the operation fails on each mesh that the view may be of
abbrev pub RefusalIsStep : Type 0
RefusalIsStep = OverSeat (λ o slots id me. (chunk : ℕ) (op : Op) (why : Cond) → me.0.numbers ≢ [] → IsViewJudged me.0 chunk op (Some why)
    → Allows (Holds o) slots id me (names_of o) (λ x. x) (Refuses o chunk op why (step slots (names_of o) 0 0 none) me))

-- a commit: one is added to the count of tickets. The operation passes on each mesh that the view may be of, its cavity is held, and the
-- fresh pairs are what it makes of those held, whatever ticket is drawn
abbrev pub CommitIsStep : Type 0
CommitIsStep = OverSeat (λ o slots id me. (e : Entry) (fresh : ℕ → List Held) → me.0.numbers ≢ [] → me.0.unborn ≡ None → 0 < me.0.allowance
    → IsViewJudged me.0 e.chunk e.op None → ViewHoldsCavity me.0 e.chunk e.op → ((t : ℕ) → IsViewPatch me.0 (at_ticket e t) (fresh t))
    → Allows (Holds o) slots id me (names_of o) (λ x. (x + 1) % 2 ^ 64) (Commits o e fresh (step slots (names_of o) 1 0 none) me))

-- a birth: the word of the unborn node becomes the seat's
abbrev pub BirthIsStep : Type 0
BirthIsStep = OverSeat (λ o slots id me. (n : ℕ) → me.0.unborn ≡ Some n
    → Allows (Holds o) slots id me n (λ _. held_by (number_of me.0)) (λ _. Births o (step slots n (held_by (number_of me.0)) 0 none) me (held_by (number_of me.0))))

-- a release: the word of a live node becomes free, and the list taken last, which is that of its star, goes home
abbrev pub ReleaseIsStep : Type 0
ReleaseIsStep = (o : Opening) (slots id : ℕ) (v : View) (n : ℕ) (star : Star) (r : List (ℕ × List Sharer)) → v.numbers ≢ [] → In (record { node = n; star = Some star }) v.held → v.unborn ≡ None
    → Allows (Holds o) slots id (v, (n, sharers_in v.chunks (Some star)) ∷ r) n (λ _. 0) (λ _. Frees o (step slots n 0 0 none) (v, (n, sharers_in v.chunks (Some star)) ∷ r) 0)

-- a burial: the word of a node that isn't live becomes dead, and the list taken last, which is empty, goes home
abbrev pub BurialIsStep : Type 0
BurialIsStep = (o : Opening) (slots id : ℕ) (v : View) (n : ℕ) (r : List (ℕ × List Sharer)) → In (record { node = n; star = None }) v.held → v.unborn ≡ None
    → Allows (Holds o) slots id (v, (n, []) ∷ r) n (λ _. 1) (λ _. Frees o (step slots n 1 0 none) (v, (n, []) ∷ r) 1)

-- a split: a spare number and a share of the allowance go to a new seat
abbrev pub SplitIsStep : Type 0
SplitIsStep = (o : Opening) (id b share : ℕ) (v : View) → In b (spares_in v.numbers) → v.held ≡ [] → share ≤ v.allowance → Splits (Holds o) id v (left_of b share v) (right_of b share v)

-- a join: all that a seat knows goes to another
abbrev pub JoinIsStep : Type 0
JoinIsStep = (o : Opening) (id : ℕ) (v : View) (other : ℕ) (u : View) → v.numbers ≢ [] → u.held ≡ [] → Joins (Holds o) id v other u (both_of v u) spent_view

-- the lists are those of the copies of all names
abbrev pub AreCopies : Opening → List Entry → List (List Sharer) → Type 0
AreCopies o log lists = (n : ℕ) → n < names_of o → get_elem? lists n ≡ some (sharers_in o.mesh.chunks (star_of (mesh_after o log) n))

-- a board at the start: the words of the mesh's names, and their copies
abbrev pub BoardOpens : Type 0
BoardOpens = (o : Opening) (lists : List (List Sharer)) → CanOpen o → length lists ≡ names_of o → AreCopies o [] lists → Holds o (opening (opening_state o).words lists (first_view o))

-- a board at the end, by the view of a seat with all numbers that holds nothing: the history is the seat's own, and the slots have the
-- copies of the mesh after it
abbrev pub BoardCloses : Type 0
BoardCloses = (o : Opening) (id : ℕ) (v : View) (words : List ℕ) (lists : List (List Sharer)) → v.numbers ≢ [] → IsAlone v → v.held ≡ []
    → Final (Seen (Holds o) id v) words lists → IsWhole o v × AreCopies o (own_log v) lists

-- what is seen to fail on the held stars fails on each mesh that the view may be of
abbrev pub SeenIsJudged : Type 0
SeenIsJudged = (v : View) (chunk : ℕ) (op : Op) (x : Option Cond) → IsJudgedByStars v chunk op x → IsViewJudged v chunk op x

-- what can be made from the held stars can be committed
abbrev pub MadeIsPatch : Type 0
MadeIsPatch = (v : View) (e : Entry) → CanCommit v e.chunk e.op → IsViewJudged v e.chunk e.op None × ViewHoldsCavity v e.chunk e.op × ((t : ℕ) → IsViewPatch v (at_ticket e t) (fresh_at v e t))
