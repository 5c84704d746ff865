-- A holder over one undivided mesh, which nobody else changes: what its meanings are, and the laws by which it meets the trait.
use Rattle.std.specs.Prelude.{◌≡◌, ℕ, ◌+◌, ◌<◌, ◌≤◌, List, [], ◌∷◌, ◌++◌, length, map, take, Bool, false, ◌==◌, ◌||◌, Option, None, slice_index_or}
use Rattle.pf_model.specs.declared.Op.TheVariants.{Flip}
use Rattle.pf_model.specs.declared.Entry.{Entry}
use Rattle.pf_model.specs.Mesh.{Undivided}
use Rattle.pf_model.specs.Conforming.{IsConforming}
use Rattle.pf_model.specs.Applied.{IsFresh}
use Rattle.pf_model.specs.Replay.{IsLegal}
use Rattle.pf_model.specs.Stars.{Star, star_of}
use Rattle.pf_star_model.specs.Lent.{Held}
use Rattle.pf_core_model.specs.Lists.{In}
use Rattle.pf_core_model.specs.Cavity.{makes_node}
use Rattle.pf_plain.specs.Stars.{star_by}
use Rattle.pf_core_model.specs.Core.{Opening, names_of, mesh_after, IsTrueMark, IsTrueRefusal}
use Rattle.pf_core_model.specs.Right.{Gain, lost, dead, never, mark, refusal}

-- what the holder begins with: it is the one actor
abbrev pub opening_of : Undivided → ℕ → Opening
opening_of m budget = record { mesh = m; budget = budget; workers = 1 }

-- these are the stars of the mesh, by name
abbrev pub AreStars : List (Option Star) → Undivided → Type 0
AreStars stars m = (n : ℕ) → star_by stars n ≡ star_of m n

-- what stands past the last entry
abbrev pub no_entry : Entry
no_entry = record { ticket = 0; chunk = 0; op = Flip 0 0 }

-- the entry at this place makes a node
abbrev pub makes_at : List Entry → ℕ → Bool
makes_at log k = makes_node (slice_index_or log k no_entry).op

-- a node and its star in a mesh, or its absence
abbrev pub pair_at : Undivided → ℕ → Held
pair_at m n = record { node = n; star = star_of m n }

-- what is held, by the nodes that are
abbrev pub pairs_at : Undivided → List ℕ → List Held
pairs_at m nodes = map (pair_at m) nodes

-- the node is among these
abbrev pub has_node : List ℕ → ℕ → Bool
has_node [] n = false
has_node (k ∷ ks) n = k == n || has_node ks n

-- the invariant: the opening mesh, the journal, the nodes that are held, the latest first, and the allowance
pub record IsPlain (o : Opening) (log : List Entry) (nodes : List ℕ) (allowance : ℕ) : Type 0 where
  pub conforming : IsConforming o.mesh
  pub fresh : IsFresh o.mesh 0
  pub legal : IsLegal o.mesh log
  pub budget : allowance + length log ≡ o.budget
  pub near : (n : ℕ) → In n nodes → n < names_of o
  pub small : names_of o ≤ 1048576

-- the same holder later: its journal goes on
abbrev pub Follows : Opening → Opening → List Entry → List Entry → Type 0
Follows o o' log log' = (o' ≡ o) × ((more : List Entry) × (log' ≡ log ++ more))

-- the name is live in no mesh up to this moment
abbrev pub IsNeverLive : Opening → List Entry → ℕ → Type 0
IsNeverLive o log n = (t : ℕ) → t ≤ length log → star_of (mesh_after o (take t log)) n ≡ None

-- what is gained between two values, whose journals these are: nothing is stored, it is true
abbrev pub IsTrue : Opening → List Entry → List Entry → Gain → Type 0
IsTrue o before after (lost l) = ⊥
IsTrue o before after (dead n) = (n < o.mesh.first_new + length after) × (star_of (mesh_after o after) n ≡ None)
IsTrue o before after (never n) = IsNeverLive o before n
IsTrue o before after (mark m) = IsTrueMark o after m
IsTrue o before after (refusal r) = IsTrueRefusal o after r
