use Rattle.pf_driver.proofs.escaping.tried_planned.Goals as goal

pub returns-in_default : goal.returns-in_default
returns-in_default c = λ n within. c.missed.ensures n

pub returns-then-not-is_mine : goal.returns-then-not-is_mine
returns-then-not-is_mine c = λ n within. c.missed-then-not-is_mine.ensures n

pub returns-then-is_worn : goal.returns-then-is_worn
returns-then-is_worn c = λ n within. c.missed-then-is_worn.ensures n
