-- An operation and its normal form pass together, and have one cavity.
use Rattle.std.proofs.Common.{ℕ, List, ◌∙◌}
use Rattle.std.specs.Prelude.{Option, None}
use Rattle.pf_model.specs.declared.Band.{Band}
use Rattle.pf_model.specs.declared.Op.{Op}
use Rattle.pf_model.specs.Ends.{normal_of}
use Rattle.pf_star_model.specs.Lent.{Held, star_held}
use Rattle.pf_star_model.proofs.Normals.{normal_is_judged, normal_has_cavity}
use Rattle.pf_holder.specs.Facts.{IsJudged, HoldsCavity}
use Rattle.pf_attempt.specs.Stages.{CanMake}

pub normal_judged : (bands : List Band) (ps : List Held) (chunk : ℕ) (op : Op) → IsJudged bands ps chunk op None → IsJudged bands ps chunk (normal_of op) None
normal_judged bands ps chunk op j m s = (normal_is_judged m (star_held ps) bands chunk op).0 ∙ j m s

pub normal_held : (bands : List Band) (ps : List Held) (chunk : ℕ) (op : Op) → HoldsCavity bands ps chunk op → HoldsCavity bands ps chunk (normal_of op)
normal_held bands ps chunk op c m s n h = c m s n ((normal_has_cavity m chunk op n).0 h)

pub normal_made : (bands : List Band) (ps : List Held) (chunk : ℕ) (op : Op) → IsJudged bands ps chunk op None → HoldsCavity bands ps chunk op → CanMake bands ps (normal_of op)
normal_made bands ps chunk op j c = (chunk, normal_judged bands ps chunk op j, normal_held bands ps chunk op c)
