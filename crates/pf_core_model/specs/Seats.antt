-- What a view knows by itself in a sound state, whatever the other views are. Each step tells this of the view after it.
use Rattle.std.specs.Prelude.{◌≡◌, ◌≢◌, ℕ, ◌+◌, ◌-◌, ◌<◌, ◌≤◌, List, [], length, slice_index, None}
use Rattle.pf_model.specs.declared.Entry.{Entry}
use Rattle.pf_model.specs.Mesh.{Undivided}
use Rattle.pf_model.specs.Conforming.{IsConforming, IsLive}
use Rattle.pf_model.specs.Applied.{IsFresh}
use Rattle.pf_model.specs.Replay.{IsLegal}
use Rattle.pf_model.specs.Stars.{star_of}
use Rattle.pf_core_model.specs.declared.view.View.{View}
use Rattle.pf_star_model.specs.Lent.{Held}
use Rattle.pf_core_model.specs.Lists.{In}
use Rattle.pf_core_model.specs.Cavity.{neighbours_in}
use Rattle.pf_core_model.specs.Moves.{left_of, right_of, both_of}
use Rattle.pf_core_model.specs.History.{history_from}
use Rattle.pf_core_model.specs.Core.{Opening, names_of, mesh_after, nodes_of, KnowsOpening}
use Rattle.pf_core_model.specs.Guards.{IsMeshOf, IsAlone}
use Rattle.pf_core_model.specs.Laws.{OverSound}
use Rattle.pf_core_model.specs.State.{first_view}
use Rattle.pf_core_model.specs.Shown.{CanOpen}

-- the entries of a view by ticket, up to those that it has seen
abbrev pub own_log : View → List Entry
own_log v = history_from 0 v.seen v.entries

-- the history is the view's own: it has seen all of it, it is legal from the opening mesh, each held pair is true of its replay, and what
-- is left of the budget is the view's allowance
pub record IsWhole (o : Opening) (v : View) : Type 0 where
  pub conforming : IsConforming o.mesh
  pub fresh : IsFresh o.mesh 0
  pub legal : IsLegal o.mesh (own_log v)
  pub long : length (own_log v) ≡ v.seen
  pub pairs : (p : Held) → In p v.held → p.star ≡ star_of (mesh_after o (own_log v)) p.node
  pub budget : v.allowance + v.seen ≡ o.budget

-- the opening's bands and chunks, that the view's names are in range, and one conforming mesh with which its pairs agree
pub record KnowsMesh (o : Opening) (v : View) : Type 0 where
  pub opening : KnowsOpening o v
  pub small : names_of o ≤ 1048576
  pub seen : v.seen ≤ o.budget
  pub near : (n : ℕ) → In n (nodes_of v) → n < names_of o
  pub neighbours : (p : Held) (x : ℕ) → In p v.held → In x (neighbours_in p.star) → x < names_of o
  pub mesh : Undivided
  pub shown : IsMeshOf v mesh
  pub live : (n : ℕ) → IsLive mesh n → n < names_of o

-- what a view knows: a mesh, and, where it is alone, the whole history
abbrev pub Knows : Opening → View → Type 0
Knows o v = KnowsMesh o v × (IsAlone v → IsWhole o v)

abbrev pub SeatKnows : Type 0
SeatKnows = OverSound (λ o words homes views log id v. v.numbers ≢ [] → Knows o v)

-- so does the first view at the start
abbrev pub FirstKnows : Type 0
FirstKnows = (o : Opening) → CanOpen o → Knows o (first_view o)

-- what a view knows of a mesh, both parts know after a split
abbrev pub SplitKnows : Type 0
SplitKnows = (o : Opening) (b share : ℕ) (v : View) → v.held ≡ [] → KnowsMesh o v → KnowsMesh o (left_of b share v) × KnowsMesh o (right_of b share v)

-- and a view to which another was joined knows what it knew
abbrev pub JoinKnows : Type 0
JoinKnows = (o : Opening) (v u : View) → KnowsMesh o v → KnowsMesh o u → KnowsMesh o (both_of v u)

-- the ticket that is drawn next names a node that isn't live, and is in range where there is an allowance for it
abbrev pub TicketIsNew : Type 0
TicketIsNew = OverSound (λ o words homes views log id v. IsFresh (mesh_after o log) (length log) × (length log ≤ o.budget) × (0 < v.allowance → length log < o.budget))

-- the word of a node that is held names an actor
abbrev pub HolderIsNumber : Type 0
HolderIsNumber = OverSound (λ o words homes views log id v. (n : ℕ) → v.numbers ≢ [] → n < names_of o → 3 ≤ slice_index words n → slice_index words n - 3 < v.workers)

-- where the view is alone, a name that it doesn't hold is free exactly where it is live
abbrev pub AloneHoldsLive : Type 0
AloneHoldsLive = OverSound (λ o words homes views log id v. (n : ℕ) → v.numbers ≢ [] → IsAlone v → v.unborn ≡ None → n < names_of o → (In n (nodes_of v) → ⊥)
    → (slice_index words n ≡ 0 → IsLive (mesh_after o (own_log v)) n) × (IsLive (mesh_after o (own_log v)) n → slice_index words n ≡ 0))
