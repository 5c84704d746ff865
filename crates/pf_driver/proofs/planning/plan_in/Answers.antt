use Rattle.pf_driver.proofs.planning.plan_in.Goals as goal

pub returns-in-Node : goal.returns-in-Node
returns-in-Node c = λ n within. c.rest_planned.ensures.below n

pub returns-in_default-look : goal.returns-in_default-look
returns-in_default-look c = λ n within. c.rest_planned-in_default-look.ensures.below n

pub returns-then-not-is_mine : goal.returns-then-not-is_mine
returns-then-not-is_mine c = λ n within. c.rest_planned-then-not-is_mine.ensures.below n
