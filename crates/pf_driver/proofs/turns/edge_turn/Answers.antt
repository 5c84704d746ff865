use Rattle.pf_driver.proofs.Moved.{grown_none, grown_then}
use Rattle.pf_driver.proofs.turns.edge_turn.Goals as goal

pub returns-in-Try-clause-grown : goal.returns-in-Try-clause-grown
returns-in-Try-clause-grown g c =
    let m = g.H.Holder in
    let h0 = c.args.h.now in
    let h1 = c.edge_planned.new.h in
    let h2 = c.edge_tried.new.h in
    let k = c.edge_planned.ensures.kept in
    grown_then (m.seen_at h0) (m.allowance h0) (m.entries h0) (m.seen_at h1) (m.allowance h1) (m.entries h1) (m.seen_at h2) (m.allowance h2) (m.entries h2)
    (grown_none (m.seen_at h0) (m.allowance h0) (m.entries h0) (m.seen_at h1) (m.allowance h1) (m.entries h1) k.0 k.1 k.2)
    c.edge_tried.ensures.grown
