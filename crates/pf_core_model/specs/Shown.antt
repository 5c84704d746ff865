-- What a state of the pure core shows of the one history.
use Rattle.std.specs.Prelude.{◌≡◌, ℕ, ◌<◌, ◌≤◌, List, [], ◌∷◌, ◌++◌, length, Bool, ◌&&◌, filter, Some, None, slice_index}
use mathlib.Core.Option.{some}
use lib.ListN.{get_elem?}
use Rattle.pf_model.specs.declared.Tri.{Tri}
use Rattle.pf_model.specs.declared.Entry.{Entry}
use Rattle.pf_model.specs.Conforming.{IsConforming}
use Rattle.pf_model.specs.Applied.{IsFresh}
use Rattle.pf_model.specs.Replay.{IsLegal}
use Rattle.pf_model.specs.Sums.{area2_of}
use Rattle.pf_model.specs.Stars.{Star, star_of}
use Rattle.pf_core_model.specs.declared.event.Event.{Event}
use Rattle.pf_star_model.specs.Copies.{due_copy}
use Rattle.pf_core_model.specs.Sharers.{sharers_in}
use Rattle.pf_core_model.specs.Core.{Opening, names_of, Homes, Sound}
use Rattle.pf_core_model.specs.State.{CoreState, tickets_in, log_of, mesh_of, copy_at, stepped, state_after, opening_state, first_view, free_part_of, IsCore}
use Rattle.pf_core_model.specs.History.{is_free}

-- what all actors begin with is a conforming mesh, whose live names are below the first new one, at least one actor,
-- and not too many names
pub record CanOpen (o : Opening) : Type 0 where
  pub conforming : IsConforming o.mesh
  pub fresh : IsFresh o.mesh 0
  pub some_worker : 1 ≤ o.workers
  pub small : names_of o ≤ 1048576

-- the copies of the free nodes are those of one mesh: the history so far replayed on the opening mesh. That history is legal, as long
-- as the ticket count says, and within the budget; that mesh is conforming and has the area of the opening one
pub record IsOneMesh (o : Opening) (s : CoreState) : Type 0 where
  pub long : length (log_of o s) ≡ tickets_in o s
  pub within : tickets_in o s ≤ o.budget
  pub legal : IsLegal o.mesh (log_of o s)
  pub conforming : IsConforming (mesh_of o s)
  pub area : area2_of (mesh_of o s) ≡ area2_of o.mesh
  pub free : (n : ℕ) → n < names_of o → slice_index s.words n ≡ 0 → (star : Star) × (star_of (mesh_of o s) n ≡ Some star)
  pub copies : (n : ℕ) → n < names_of o → slice_index s.words n ≡ 0 → (chunk : ℕ) → chunk < o.mesh.chunks → copy_at s.lists chunk n ≡ due_copy chunk (star_of (mesh_of o s) n)
  pub dead : (n : ℕ) → n < names_of o → slice_index s.words n ≡ 1 → star_of (mesh_of o s) n ≡ None
  pub no_copy : (n : ℕ) → n < names_of o → slice_index s.words n ≡ 1 → (chunk : ℕ) → chunk < o.mesh.chunks → copy_at s.lists chunk n ≡ None

-- the state at the start is sound
abbrev pub OpensSound : Type 0
OpensSound = (o : Opening) → CanOpen o → IsCore o (opening_state o)

-- so are its words and first view with any homes that have the copies of the mesh
abbrev pub OpensWithHomes : Type 0
OpensWithHomes = (o : Opening) → CanOpen o → (homes : Homes) → length homes ≡ names_of o → ((n : ℕ) → n < names_of o → get_elem? homes n ≡ some (some (sharers_in o.mesh.chunks (star_of o.mesh n))))
    → Sound o (opening_state o).words homes (first_view o ∷ []) []

-- each event keeps a state sound
abbrev pub StepKeepsSound : Type 0
StepKeepsSound = (o : Opening) (s : CoreState) (event : Event) → IsCore o s → IsCore o (stepped o s event).state

-- a sound state shows one mesh
abbrev pub SoundShowsOneMesh : Type 0
SoundShowsOneMesh = (o : Opening) (s : CoreState) → IsCore o s → IsOneMesh o s

-- after any list of events the free nodes show one mesh
abbrev pub EventsShowOneMesh : Type 0
EventsShowOneMesh = (o : Opening) → CanOpen o → (events : List Event) → IsOneMesh o (state_after o (opening_state o) events)

-- the corners of the triangle are free
abbrev pub has_free_corners : ℕ → List ℕ → Tri → Bool
has_free_corners names words t = is_free names words t.a && (is_free names words t.b && is_free names words t.c)

-- the free part of a sound state is the triangles of the mesh whose corners are all free
abbrev pub FreePartIsOfMesh : Type 0
FreePartIsOfMesh = (o : Opening) (s : CoreState) → IsCore o s → free_part_of o s ≡ filter (has_free_corners (names_of o) s.words) (mesh_of o s).tris

-- the second history goes on from the first
abbrev pub IsExtended : List Entry → List Entry → Type 0
IsExtended log log' = (more : List Entry) × (log' ≡ log ++ more)

-- the history only grows
abbrev pub StepGrowsHistory : Type 0
StepGrowsHistory = (o : Opening) (s : CoreState) (event : Event) → IsCore o s → IsExtended (log_of o s) (log_of o (stepped o s event).state)
