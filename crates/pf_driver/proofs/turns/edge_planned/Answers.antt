use Rattle.std.proofs.Common.{sym, subst}
use Rattle.pf_core_model.specs.Core.{Opening}
use Rattle.pf_driver.specs.Plans.{IsPlanBelow}
use Rattle.pf_driver.proofs.turns.edge_planned.Goals as goal

pub returns-in-Won-clause-near : goal.returns-in-Won-clause-near
returns-in-Won-clause-near g c =
    let m = g.H.Holder in
    let t = g.met.H.Holder in
    let h0 = c.args.h.now in
    let h1 = c.hold.new.self in
    let h2 = c.give_back.new.self in
    subst (λ (o : Opening). IsPlanBelow o.mesh.chunks c.planned-found.result) (sym (t.same_opening h0 h2 (t.same_then h0 h1 h2 c.hold.ensures.same c.give_back.ensures.same))) (c.planned-found.ensures (m.opening h0).mesh.chunks c.requires.chunks)

pub returns-in-Dead-clause-near : goal.returns-in-Dead-clause-near
returns-in-Dead-clause-near g c = c.rest_planned.ensures.below _

pub returns-in-Never-clause-near : goal.returns-in-Never-clause-near
returns-in-Never-clause-near g c = c.rest_planned-in-Never.ensures.below _
