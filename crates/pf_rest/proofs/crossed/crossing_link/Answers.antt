use Rattle.pf_rest.proofs.Uncrossed.{uncrossed-least}
use Rattle.pf_rest.proofs.crossed.crossing_link.Goals as goal

pub returns-else-crossed : goal.returns-else-crossed
returns-else-crossed c = λ m u us ok are edge_sides none beside around. uncrossed-least m u c.args.v us c.args.names.now (none c.if-crossed.false) beside around
