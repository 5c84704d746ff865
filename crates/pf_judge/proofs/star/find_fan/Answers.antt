use Rattle.pf_judge.proofs.StarFan.{counted, fan-found}
use Rattle.pf_judge.proofs.star.find_fan.Goals as goal

pub returns-clause-found : goal.returns-clause-found
returns-clause-found c = λ m ok s f edge.
    let most = c.triangles-most.result in
    let all = counted c.args.table.now.sides c.args.table.now.nodes.items m s c.args.u most c.triangles-most.ensures in
    let begun = c.put_edge_sides-begun.ensures.found m c.args.u ok s f edge in
    let t = c.turn_right.ensures.found m ok s all (c.turn_left-ends.ensures.found m ok s all begun) in
    fan-found m ok c.args.u most c.len.result c.turn_right.new.found.items t all c.len.ensures.value

pub returns-clause-spots : goal.returns-clause-spots
returns-clause-spots c = λ range. c.turn_right.ensures.spots range (c.turn_left-ends.ensures.spots range (c.put_edge_sides-begun.ensures.spots range))
