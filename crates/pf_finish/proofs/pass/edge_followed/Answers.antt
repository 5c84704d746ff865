use Rattle.std.proofs.Common.{◌∙◌}
use Rattle.pf_finish.proofs.Steps.{step-then, step-still}
use Rattle.pf_finish.proofs.pass.edge_followed.Goals as goal

pub returns-else-is_err-clause-step : goal.returns-else-is_err-clause-step
returns-else-is_err-clause-step g c =
    let m = g.H.Holder in
    let t = g.met.H.Holder in
    let h0 = c.args.h.now in
    let h1 = c.edge_noted.new.h in
    let h2 = c.changed_put.new.h in
    let h3 = c.worked_off.new.h in
    let k = c.changed_put.ensures.kept in
    let same = t.same_opening h1 h2 c.changed_put.ensures.same ∙ t.same_opening h0 h1 c.edge_noted.ensures.same in
    step-then (m.opening h0) (m.opening h2) (m.allowance h0) (m.entries h0) c.args.end.now (m.allowance h2) (m.entries h2) c.edge_noted.new.end (m.allowance h3) (m.entries h3) c.worked_off.new.end same
    (step-still (m.opening h0) (m.allowance h0) (m.entries h0) c.args.end.now (m.allowance h1) (m.entries h1) c.edge_noted.new.end (m.allowance h2) (m.entries h2) k.1 k.0 c.edge_noted.ensures.step)
    c.worked_off.ensures.step
