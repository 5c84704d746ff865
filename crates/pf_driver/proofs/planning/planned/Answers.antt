use Rattle.pf_driver.proofs.planning.planned.Goals as goal

pub returns-in-None : goal.returns-in-None
returns-in-None g c = λ n within. c.rest_planned.ensures.below n
