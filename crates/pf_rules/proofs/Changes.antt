-- What an operation makes of the triangles, from the exchange that it is.
use Rattle.std.proofs.Common.{◌≡◌, ℕ, List}
use Rattle.pf_model.specs.declared.Tri.{Tri}
use Rattle.pf_model.specs.declared.Op.{Op}
use Rattle.pf_model.specs.Mesh.{Undivided}
use Rattle.pf_model.specs.Applied.{op_applied}
use Rattle.pf_model.specs.Exchange.{CanExchange, exchanged}
use Rattle.pf_rules.specs.Change.{PassesWithName, IsChange}

-- what an operation that can be applied makes of the triangles
pub change-from : (m : Undivided) (n : ℕ) (op : Op) (removed new : List Tri) → ((can : PassesWithName m n op) → CanExchange removed new m.tris × (exchanged removed new m.tris ≡ (op_applied m can.ticket op).tris)) → IsChange m n op removed new
change-from m n op removed new h = record { fits = λ can. (h can).0; makes = λ can. (h can).1 }
