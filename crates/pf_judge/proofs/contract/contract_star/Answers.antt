use Rattle.std.proofs.Common.{sym, ◌∙◌, ap}
use Rattle.pf_model.specs.Clauses.{first_of}
use Rattle.pf_model.specs.Stars.{spokes_of}
use Rattle.pf_rules.specs.Contract.{star_clauses}
use Rattle.pf_judge.proofs.StarFan.{counted}
use Rattle.pf_rules.proofs.ContractReads.{edge-there, too-wide, pinched, by-star}
use Rattle.pf_judge.proofs.contract.contract_star.Goals as goal

pub returns-then-triangles-gt-MOST_SPOKES-clause-cond : goal.returns-then-triangles-gt-MOST_SPOKES-clause-cond
returns-then-triangles-gt-MOST_SPOKES-clause-cond c = λ m ok s bands.
    let pass = c.in_default.ensures m (c.edge_sides-edge_sides.ensures.sides m s) in
    too-wide m c.args.chunk c.args.u c.args.v pass c.triangles.result (counted c.args.table.now.sides c.args.table.now.nodes.items m s c.args.u c.triangles.result c.triangles.ensures) c.if-triangles-gt-MOST_SPOKES.true

pub returns-then-not-find_fan-clause-cond : goal.returns-then-not-find_fan-clause-cond
returns-then-not-find_fan-clause-cond c = λ m ok s bands.
    let pass = c.in_default.ensures m (c.edge_sides-edge_sides.ensures.sides m s) in
    let fan = c.find_fan.ensures.found m ok s (c.edge_sides-edge_sides.ensures.sides m s) (edge-there m c.args.chunk c.args.u c.args.v pass) in
    pinched m c.args.chunk c.args.u c.args.v pass c.triangles.result (counted c.args.table.now.sides c.args.table.now.nodes.items m s c.args.u c.triangles.result c.triangles.ensures) c.if-triangles-gt-MOST_SPOKES.false (sym fan.told ∙ c.if-not-find_fan.true)

pub returns-clause-cond : goal.returns-clause-cond
returns-clause-cond c = λ m ok s bands.
    let edge_sides = c.edge_sides-edge_sides.ensures.sides m s in
    let pass = c.in_default.ensures m edge_sides in
    let fan = c.find_fan.ensures.found m ok s (c.edge_sides-edge_sides.ensures.sides m s) (edge-there m c.args.chunk c.args.u c.args.v pass) in
    c.star_condition.ensures m ok s bands edge_sides (c.deref.ensures.0 ∙ fan.whole c.if-not-find_fan.false)
    ∙ (ap (λ l. first_of (star_clauses m c.args.u c.args.v l (spokes_of m c.args.v))) (c.deref.ensures.0 ∙ fan.whole c.if-not-find_fan.false)
    ∙ by-star m c.args.chunk c.args.u c.args.v pass c.triangles.result (counted c.args.table.now.sides c.args.table.now.nodes.items m s c.args.u c.triangles.result c.triangles.ensures) c.if-triangles-gt-MOST_SPOKES.false (sym fan.told ∙ c.if-not-find_fan.false))

pub returns-clause-star : goal.returns-clause-star
returns-clause-star c = λ m ok s none.
    let pass = c.in_default.ensures m (c.edge_sides-edge_sides.ensures.sides m s) in
    (c.find_fan.ensures.found m ok s (c.edge_sides-edge_sides.ensures.sides m s) (edge-there m c.args.chunk c.args.u c.args.v pass)).whole c.if-not-find_fan.false
