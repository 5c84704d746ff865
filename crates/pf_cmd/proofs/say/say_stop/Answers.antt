use Rattle.std.proofs.Common.{sym, ◌∙◌, inr}
use Rattle.pf_cmd.proofs.say.say_stop.Goals as goal

pub returns-in-Err : goal.returns-in-Err
returns-in-Err g c = inr (sym c.trouble.ensures ∙ c.in-None.is, c.say_forgotten.ensures)
