-- An operation that can be applied to a mesh, and what it makes of the triangles.
use Rattle.std.specs.Prelude.{◌≡◌, ℕ, ◌+◌, List, None}
use Rattle.pf_model.specs.declared.Op.{Op}
use Rattle.pf_model.specs.declared.Tri.{Tri}
use Rattle.pf_model.specs.Mesh.{Undivided}
use Rattle.pf_model.specs.Conditions.{first_failing}
use Rattle.pf_model.specs.Applied.{IsFresh, op_applied}
use Rattle.pf_model.specs.Exchange.{CanExchange, exchanged}

-- the operation passes for a chunk, and n is the new name of a ticket that is fresh
pub record PassesWithName (m : Undivided) (n : ℕ) (op : Op) : Type 0 where
  pub chunk : ℕ
  pub ticket : ℕ
  pub fresh : IsFresh m ticket
  pub name : m.first_new + ticket ≡ n
  pub passes : first_failing m chunk op ≡ None

-- where the operation can be applied, it makes the second list of the first
pub record IsChange (m : Undivided) (n : ℕ) (op : Op) (removed new : List Tri) : Type 0 where
  pub fits : PassesWithName m n op → CanExchange removed new m.tris
  pub makes : (can : PassesWithName m n op) → exchanged removed new m.tris ≡ (op_applied m can.ticket op).tris
