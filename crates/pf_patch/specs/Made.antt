-- A plan that was made.
use Rattle.std.specs.Prelude.{◌≡◌, ℕ, All, IfSome, Option}
use Rattle.pf_model.specs.declared.Op.{Op}
use Rattle.pf_model.specs.Stars.{Star}
use Rattle.pf_patch.specs.declared.plan.Plan.{Plan}
use Rattle.pf_patch.specs.Tris.{HasCorners, HasSpot}
use Rattle.pf_patch.specs.Plans.{gone_by, tris_by, dead_by, born_by}

-- it is the operation's, by what is lent
pub record IsPlan (lent : ℕ → Option Star) (op : Op) (p : Plan) : Type 0 where
  pub gone : p.gone ≡ gone_by op
  pub added : p.added.items ≡ tris_by lent op
  pub dead : p.dead ≡ dead_by op
  pub born : p.born ≡ born_by lent op
  pub corners : All HasCorners p.added.items
  pub spot : IfSome p.born HasSpot
