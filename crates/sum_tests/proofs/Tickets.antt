-- The mesh after an operation with a ticket.
use Rattle.std.proofs.Common.{◌≡◌, ℕ, ◌+◌, refl, arith}
use Rattle.pf_model.specs.declared.Op.{Op}
use Rattle.pf_model.specs.declared.Op.TheVariants.{Flip, Bisect, Contract}
use Rattle.pf_model.specs.Mesh.{Undivided}
use Rattle.pf_model.specs.Applied.{IsFresh, op_applied}
use Rattle.pf_model.proofs.ReplayKeeps.{applied_fresh}

-- no operation changes the first new name
pub first-after : (m : Undivided) (ticket : ℕ) (op : Op) → (op_applied m ticket op).first_new ≡ m.first_new
first-after m ticket (Flip a b) = refl
first-after m ticket (Bisect a b) = refl
first-after m ticket (Contract u v) = refl

-- live names are below the next ticket's new name
pub fresh-after : (m : Undivided) (ticket : ℕ) (op : Op) → IsFresh m ticket → IsFresh (op_applied m ticket op) (ticket + 1)
fresh-after m ticket op f n l = let h = applied_fresh m ticket op f n l in omega (arith, h)
