-- A run of entries over the edge table, and where it stops.
use Rattle.std.specs.Prelude.{◌≡◌, ◌≢◌, ℕ, ◌<◌, ◌≤◌, List, Some, None, length, take, slice_index_or}
use Rattle.std.specs.Option.{option_map}
use Rattle.pf_model.specs.declared.Band.{Band}
use Rattle.pf_model.specs.declared.Entry.{Entry}
use Rattle.pf_model.specs.declared.Refusal.{Refusal}
use Rattle.pf_model.specs.declared.Refusal.TheVariants as why
use Rattle.pf_model.specs.declared.FirstRefusal.{FirstRefusal}
use Rattle.pf_model.specs.Mesh.{Undivided}
use Rattle.pf_model.specs.Applied.{IsFresh}
use Rattle.pf_model.specs.Replay.{replayed, refusal_of, first_refusal}
use Rattle.pf_apply.specs.declared.run.ApplyErr.{ApplyErr}
use Rattle.pf_apply.specs.declared.run.ApplyErr.TheVariants.{Gone, Refused, Memory}
use Rattle.pf_apply.specs.declared.run.RunErr.{RunErr}
use Rattle.pf_edges.specs.declared.table.Node.{Node}
use Rattle.pf_edges.specs.Table.{Sides}
use Rattle.pf_edges.specs.Kept.{IsKept}

-- a refusal, as an error
abbrev pub error_of : Refusal → ApplyErr
error_of (why.Gone node) = Gone node
error_of (why.Failing cond) = Refused cond

-- the first refusal, as where a run stops
abbrev pub stop_of : FirstRefusal → RunErr
stop_of first = record { ticket = first.ticket; fault = error_of first.why }

-- what is said of an entry that isn't applied: its refusal, or that there was no memory for one that has none
pub record IsSaid (m : Undivided) (e : Entry) (fault : ApplyErr) : Type 0 where
  pub why : fault ≢ Memory → option_map error_of (refusal_of m e) ≡ Some fault
  pub memory : fault ≡ Memory → refusal_of m e ≡ None

-- the entries before the k-th aren't refused, and this is said of the k-th
pub record IsStopped (m : Undivided) (es : List Entry) (k : ℕ) (fault : ApplyErr) : Type 0 where
  pub within : k < length es
  pub before : first_refusal m (take k es) ≡ None
  pub said : (d : Entry) → IsSaid (replayed m (take k es)) (slice_index_or es k d) fault

-- the table shows this mesh, which has these bands and this first new name, and whose live names are below the new name of this
-- ticket; and there is room to list its nodes and triangles
pub record IsReached (sides : Sides) (nodes : List Node) (bands : List Band) (first_new ticket site_room tri_room : ℕ) (m : Undivided) : Type 0 where
  pub kept : IsKept sides nodes m
  pub bands_are : m.bands ≡ bands
  pub first : m.first_new ≡ first_new
  pub fresh : IsFresh m ticket
  pub sites_fit : length m.sites ≤ site_room
  pub tris_fit : length m.tris ≤ tri_room

-- the table shows such a mesh
pub record HasReached (sides : Sides) (nodes : List Node) (bands : List Band) (first_new ticket site_room tri_room : ℕ) : Type 0 where
  pub mesh : Undivided
  pub reached : IsReached sides nodes bands first_new ticket site_room tri_room mesh
