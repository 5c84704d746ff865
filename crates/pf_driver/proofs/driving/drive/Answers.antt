use Rattle.std.proofs.Common.{min, length}
use Rattle.pf_driver.specs.Visits.{HasVisited}
use Rattle.pf_driver.proofs.Moved.{on_done}
use Rattle.pf_driver.proofs.driving.drive.Goals as goal

pub returns-clause-visited : goal.returns-clause-visited
returns-clause-visited g c =
    let m = g.H.Holder in
    let h0 = c.args.h.now in
    let h1 = c.all_turns-last.new.h in
    on_done c.all_turns-last.result c.ended.result (HasVisited c.args.chunks.now (m.opening h0) (m.seen_at h0) (m.gained h0 h1) (m.entries h0) (m.entries h1) c.args.start.now (min c.args.turns (length c.args.start.now))) c.ended.ensures.done c.all_turns-last.ensures.visited
