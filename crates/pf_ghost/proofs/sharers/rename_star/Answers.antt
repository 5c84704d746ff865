use Rattle.std.proofs.Common.{◌∙◌, sym}
use Rattle.pf_ghost.proofs.Unnamed.{other_star}
use Rattle.pf_ghost.proofs.sharers.rename_star.Goals as goal

pub returns-else-has_name : goal.returns-else-has_name
returns-else-has_name c = other_star c.args.old c.args.name c.args.star.now (sym c.has_name.ensures ∙ c.if-has_name.false)
