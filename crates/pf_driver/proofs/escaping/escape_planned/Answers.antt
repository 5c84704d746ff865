use Rattle.pf_driver.proofs.escaping.escape_planned.Goals as goal

pub returns-in_default : goal.returns-in_default
returns-in_default c = λ n within. c.missed.ensures n

pub returns-in-Walk : goal.returns-in-Walk
returns-in-Walk c = λ n within. c.walk_planned.ensures n

pub returns-in-Longest : goal.returns-in-Longest
returns-in-Longest c = λ n within. c.walk_planned-in-Longest.ensures n
