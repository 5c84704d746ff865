use Rattle.std.proofs.Common.{refl}
use Rattle.pf_model.specs.Stars.{spokes_of}
use Rattle.pf_rest.proofs.around.gather_arm.Goals as goal

pub returns-in-Some-clause-part : goal.returns-in-Some-clause-part
returns-in-Some-clause-part c = λ m u ok s e p. c.push_after.ensures.part (spokes_of m u) p ((c.in-Some.ensures.found m u ok s e).there c.in-Some.spoke refl).0
