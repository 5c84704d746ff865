-- A worker's job, before and after its turns.
use Rattle.std.specs.Prelude.{◌≡◌, ℕ, ◌<◌, ◌≤◌, List, [], All, length, min, Option, None}
use Rattle.pf_model.specs.declared.Entry.{Entry}
use Rattle.pf_model.specs.Mesh.{Undivided}
use Rattle.pf_model.specs.Stars.{Star}
use Rattle.pf_star_model.specs.Lent.{Held}
use Rattle.pf_core_model.specs.declared.event.Owed.{Owed}
use Rattle.pf_core_model.specs.Core.{Opening}
use Rattle.pf_core_model.specs.Right.{Gain}
use Rattle.pf_holder.specs.Facts.{LendsAll}
use Rattle.pf_driver.specs.declared.driving.DriveEnd.{DriveEnd}
use Rattle.pf_driver.specs.Visits.{HasGrown, HasVisited}
use Rattle.pf_driver.specs.Turns.{OnDone, IsEndAt}
use Rattle.pf_workers.specs.declared.parts.Part.{Part}
use Rattle.pf_workers.specs.Parts.{chunks_for, starts_for}

-- a holder holds and owes nothing
pub record IsIdle (pairs : List Held) (unborn : Option ℕ) (owed : List Owed) (lent : ℕ → Option Star) : Type 0 where
  pub nothing : (pairs ≡ []) × (unborn ≡ None) × (owed ≡ [])
  pub lends : LendsAll lent pairs

-- the chunks and the names are those of the mesh
pub record IsPartOf (m : Undivided) (part : Part) : Type 0 where
  pub chunks : All (λ c. c < m.chunks) part.chunks.items
  pub start : All (λ n. n < m.first_new) part.start.items

-- the part of a worker of so many: its chunks, and the nodes whose keeper is one of them
pub record IsPartFor (m : Undivided) (workers w : ℕ) (part : Part) : Type 0 where
  pub chunks : part.chunks.items ≡ chunks_for workers w m.chunks
  pub start : part.start.items ≡ starts_for m workers w

-- what a drive from this part tells: what was seen, what is left of the allowance, and the entries, before and after; and how it ended
pub record HasDriven (part : Part) (o : Opening) (seen seen' : ℕ) (gained : Gain → Type 0) (rich : ℕ) (before : List Entry) (left : ℕ) (after : List Entry) (turns : ℕ) (end : DriveEnd) : Type 0 where
  pub later : seen ≤ seen'
  pub grown : HasGrown seen rich before seen' left after
  pub spent : IsEndAt left end
  pub visited : OnDone end (HasVisited part.chunks.items o seen gained before after part.start.items (min turns (length part.start.items)))
