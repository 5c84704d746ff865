use Rattle.pf_driver.proofs.planning.bisection_planned.Goals as goal

pub returns : goal.returns
returns c = c.rest_planned.ensures.by c.args.seen.chunk
