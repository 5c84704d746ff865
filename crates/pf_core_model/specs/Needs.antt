-- What an operation that passes on a conforming mesh changes.
use Rattle.std.specs.Prelude.{◌≡◌, ◌≢◌, ℕ, ◌+◌, true, None}
use Rattle.pf_model.specs.declared.Entry.{Entry}
use Rattle.pf_model.specs.Mesh.{Undivided}
use Rattle.pf_model.specs.Conforming.{IsConforming}
use Rattle.pf_model.specs.Applied.{IsFresh, applied}
use Rattle.pf_model.specs.Conditions.{first_failing}
use Rattle.pf_model.specs.Stars.{star_of}
use Rattle.pf_core_model.specs.Lists.{In}
use Rattle.pf_star_model.specs.Cavity.{cavity_of}
use Rattle.pf_core_model.specs.Cavity.{makes_node, neighbours_in}

-- the entry passes on a conforming mesh, and its ticket names a new node
pub record Passes (m : Undivided) (e : Entry) : Type 0 where
  pub conforming : IsConforming m
  pub fresh : IsFresh m e.ticket
  pub passes : first_failing m e.chunk e.op ≡ None

-- the star of a node outside the cavity, whose name isn't the new one of the ticket, stays
abbrev pub KeepsOutside : Type 0
KeepsOutside = (m : Undivided) (e : Entry) → Passes m e → (n : ℕ) → (In n (cavity_of m e.chunk e.op) → ⊥) → n ≢ m.first_new + e.ticket → star_of (applied m e) n ≡ star_of m n

-- the neighbours of the new node are in the cavity
abbrev pub IsBornInside : Type 0
IsBornInside = (m : Undivided) (e : Entry) → Passes m e → makes_node e.op ≡ true → (x : ℕ) → In x (neighbours_in (star_of (applied m e) (m.first_new + e.ticket))) → In x (cavity_of m e.chunk e.op)
