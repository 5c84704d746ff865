-- Which names a pass looks at: those that are given, and those from the first new one up to an end.
use Rattle.std.specs.Prelude.{◌≡◌, ℕ, ◌+◌, ◌<◌, ◌≤◌, List, Bool, true, not, ◌&&◌, ◌||◌, ◌==◌, nat_lt, length}
use Rattle.std.specs.List.{list_any}
use Rattle.pf_model.specs.declared.Entry.{Entry}
use Rattle.pf_model.specs.Lengths.{edge_of}
use Rattle.pf_model.specs.Mesh.{Undivided}
use Rattle.pf_model.specs.Conforming.{IsLive}
use Rattle.pf_core_model.specs.Core.{Opening}
use Rattle.pf_holder.specs.Facts.{history_in, mesh_alone}
use Rattle.pf_finish.specs.Passing.{has_passing}
use Rattle.pf_finish.specs.Seen.{IsSettled}
use Rattle.pf_finish.specs.Done.{HasWorkedOff}
use Rattle.pf_finish.specs.declared.tries.Answered.{Answered}
use Rattle.pf_finish.specs.declared.tries.Answered.TheVariants.{Done, Spent, Memory}

-- the name is looked at
abbrev pub is_covered : ℕ → List ℕ → ℕ → ℕ → Bool
is_covered first live end n = list_any (λ k. k == n) live || (not (nat_lt n first) && nat_lt n end)

-- each live name is looked at, and names that were never given are not
pub record Covers (o : Opening) (live : List ℕ) (entries : List Entry) (end : ℕ) : Type 0 where
  pub within : end ≤ o.mesh.first_new + length (history_in entries)
  pub all : (n : ℕ) → IsLive (mesh_alone o entries) n → is_covered o.mesh.first_new live end n ≡ true

-- what was done between two moments: answers alone, and the names of new nodes are looked at too
pub record IsWorkStep (o : Opening) (rich : ℕ) (before : List Entry) (from : ℕ) (left : ℕ) (after : List Entry) (end : ℕ) : Type 0 where
  pub answered : HasWorkedOff o rich before left after
  pub covers : (live : List ℕ) → Covers o live before from → Covers o live after end
  pub stays : left ≡ rich → end ≡ from

-- no line passes of an edge whose lower end is the node
abbrev pub IsSettledAt : Undivided → ℕ → Type 0
IsSettledAt m n = (x : ℕ) → n ≤ x → IsSettled m (edge_of n x)

-- what became of a line: the allowance fell, or nothing is left of it, or memory was wanting
abbrev pub IsNoted : Undivided → ℕ → ℕ → Answered → Type 0
IsNoted m rich left (Done t op) = left < rich
IsNoted m rich left Spent = (left ≡ 0) × (has_passing m ≡ true)
IsNoted m rich left Memory = Unit {0}
