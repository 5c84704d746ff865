use Rattle.std.proofs.Common.{◌^◌, ◌<◌, ℕ, arith}
use Rattle.pf_edges.specs.Table.{triangles_at}
use Rattle.pf_edges.proofs.TableSteps.{shows_put, tally-le}
use Rattle.pf_edges.proofs.table.EdgeTable.put.Goals as goal

pub returns-clause-shows : goal.returns-clause-shows
returns-clause-shows c = λ ts s turned apart.
    let t = c.args.t in
    let nodes = c.args.self.now.nodes.items in
    let small = c.len.ensures.small in
    let len = c.len.ensures.len in
    let all = s.all in
    let few : (n : ℕ) → triangles_at nodes n < 2 ^ 62 = λ n. (let at = s.counts n in let most = tally-le n ts in omega (arith, at, most, small, len, all)) in
    let least = turned.least in
    let least' = turned.least' in
    shows_put c.args.self.now.sides c.enter.new.sides nodes c.raise_corners.new.nodes.items t ts c.enter.ensures.sides
    (c.enter.ensures.len (omega arith) turned.apart (omega arith))
    (c.raise_corners.ensures.counts turned few)
    s apart
