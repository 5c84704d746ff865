-- A star outside the cavity stays, from the law of held stars.
use Rattle.pf_model.specs.declared.Entry.{Entry}
use Rattle.pf_model.specs.Mesh.{Undivided}
use Rattle.pf_star_model.specs.Cavity.{cavity_of}
use Rattle.pf_star_model.specs.Laws.{CanApply}
use Rattle.pf_star_model.proofs.Operations.{outside_stays}
use Rattle.pf_core_model.specs.Needs.{Passes, KeepsOutside}
use Rattle.pf_core_model.proofs.Born.{contains_in}

pub can_apply : (m : Undivided) (e : Entry) → Passes m e → CanApply m (record { ticket = e.ticket; chunk = e.chunk; op = e.op })
can_apply m e ok = record { conforming = ok.conforming; fresh = ok.fresh; passes = ok.passes }

pub keeps_outside : KeepsOutside
keeps_outside m e ok n out far = outside_stays m e.chunk e.ticket e.op (can_apply m e ok) n far (λ h. out (contains_in n (cavity_of m e.chunk e.op) h))
