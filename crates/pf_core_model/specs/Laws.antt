-- The laws of the events in the form without owed pairs, as statements: each event is an update of words, homes, views and history.
use Rattle.std.specs.Prelude.{◌≡◌, ◌≢◌, ℕ, ◌+◌, ◌<◌, ◌≤◌, List, [], ◌∷◌, ◌++◌, length, map, slice_index, slice_set, false, Some, None}
use mathlib.Core.Option.{none, some}
use lib.ListN.{get_elem?}
use Rattle.pf_model.specs.declared.Op.{Op}
use Rattle.pf_model.specs.declared.Cond.{Cond}
use Rattle.pf_model.specs.declared.Entry.{Entry}
use Rattle.pf_model.specs.Conditions.{first_failing}
use Rattle.pf_model.specs.Stars.{Star}
use Rattle.pf_core_model.specs.declared.view.View.{View}
use Rattle.pf_star_model.specs.Lent.{Held}
use Rattle.pf_core_model.specs.Lists.{In}
use Rattle.pf_star_model.specs.Cavity.{cavity_of}
use Rattle.pf_core_model.specs.Cavity.{makes}
use Rattle.pf_core_model.specs.Sharers.{sharers_in}
use Rattle.pf_core_model.specs.Moves.{unborn_by, locked, lost_to, found_dead, found_never, noted, refused, committed, born, released, spares_in, left_of, right_of, both_of, spent_view}
use Rattle.pf_core_model.specs.History.{history_of}
use Rattle.pf_core_model.specs.Core.{Opening, names_of, mesh_after, star_after, held_by, number_of, ArePatched, Homes, Sound}

-- a law over sound words, homes and views, and the view at a place
abbrev pub OverSound : ((o : Opening) → List ℕ → Homes → List View → List Entry → ℕ → View → Type 0) → Type 0
OverSound P = (o : Opening) (words : List ℕ) (homes : Homes) (views : List View) (log : List Entry) (id : ℕ) (v : View) → Sound o words homes views log → get_elem? views id ≡ some v → P o words homes views log id v

abbrev pub LockKeepsSound : Type 0
LockKeepsSound = OverSound (λ o words homes views log id v. (n : ℕ) → v.numbers ≢ [] → n < names_of o → slice_index words n ≡ 0
    → Sound o (slice_set words n (held_by (number_of v))) (slice_set homes n none) (slice_set views id (locked v n (star_after o log n))) log)

abbrev pub LostKeepsSound : Type 0
LostKeepsSound = OverSound (λ o words homes views log id v. (n k : ℕ) → Sound o words homes (slice_set views id (lost_to v n k)) log)

abbrev pub FindKeepsSound : Type 0
FindKeepsSound = OverSound (λ o words homes views log id v. (n : ℕ) → n < names_of o → slice_index words n ≡ 1 → Sound o words homes (slice_set views id (found_dead v n)) log)

abbrev pub NeverKeepsSound : Type 0
NeverKeepsSound = OverSound (λ o words homes views log id v. (n : ℕ) → Sound o words homes (slice_set views id (found_never v n)) log)

abbrev pub NoteKeepsSound : Type 0
NoteKeepsSound = OverSound (λ o words homes views log id v. Sound o words homes (slice_set views id (noted v (length log))) log)

abbrev pub RefusalKeepsSound : Type 0
RefusalKeepsSound = OverSound (λ o words homes views log id v. (chunk : ℕ) (op : Op) (why : Cond) → first_failing (mesh_after o log) chunk op ≡ Some why → Sound o words homes (slice_set views id (refused v (length log) chunk op why)) log)

abbrev pub ReleaseKeepsSound : Type 0
ReleaseKeepsSound = OverSound (λ o words homes views log id v. (n : ℕ) (star : Star) → In (record { node = n; star = Some star }) v.held → v.unborn ≡ None
    → Sound o (slice_set words n 0) (slice_set homes n (some (sharers_in o.mesh.chunks (Some star)))) (slice_set views id (released v n)) log)

abbrev pub BuryKeepsSound : Type 0
BuryKeepsSound = OverSound (λ o words homes views log id v. (n : ℕ) → In (record { node = n; star = None }) v.held → v.unborn ≡ None
    → Sound o (slice_set words n 1) (slice_set homes n (some [])) (slice_set views id (released v n)) log)

abbrev pub BirthKeepsSound : Type 0
BirthKeepsSound = OverSound (λ o words homes views log id v. (n : ℕ) → v.unborn ≡ Some n → Sound o (slice_set words n (held_by (number_of v))) homes (slice_set views id (born v)) log)

abbrev pub SplitKeepsSound : Type 0
SplitKeepsSound = OverSound (λ o words homes views log id v. (b share : ℕ) → In b (spares_in v.numbers) → v.held ≡ [] → share ≤ v.allowance
    → Sound o words homes (slice_set views id (left_of b share v) ++ right_of b share v ∷ []) log)

abbrev pub JoinKeepsSound : Type 0
JoinKeepsSound = OverSound (λ o words homes views log id v. (other : ℕ) (u : View) → other ≢ id → get_elem? views other ≡ some u → v.numbers ≢ [] → u.held ≡ []
    → Sound o words homes (slice_set (slice_set views id (both_of v u)) other spent_view) log)

-- the entry has the ticket that is due, passes on the mesh, and its cavity is held; the fresh pairs show the nodes after it. The homes
-- stay, but for that of the new node
abbrev pub CommitKeepsSound : Type 0
CommitKeepsSound = OverSound (λ o words homes views log id v. (homes' : Homes) (e : Entry) (fresh : List Held)
    → length homes' ≡ length homes → ((n : ℕ) → makes o.mesh.first_new n e ≡ false → get_elem? homes' n ≡ get_elem? homes n)
    → v.numbers ≢ [] → v.unborn ≡ None → 0 < v.allowance → e.ticket ≡ length log
    → first_failing (mesh_after o log) e.chunk e.op ≡ None → ((n : ℕ) → In n (cavity_of (mesh_after o log) e.chunk e.op) → In n (map (λ (p : Held). p.node) v.held)) → ArePatched o log v e fresh
    → Sound o (slice_set words (names_of o) (length log + 1)) homes' (slice_set views id (committed v e fresh (unborn_by o.mesh.first_new e))) (log ++ e ∷ []))

-- the history of a sound state is the entries of all views by ticket
abbrev pub HistoryIsOfViews : Type 0
HistoryIsOfViews = (o : Opening) (words : List ℕ) (homes : Homes) (views : List View) (log : List Entry) → Sound o words homes views log → history_of (slice_index words (names_of o)) views ≡ log
