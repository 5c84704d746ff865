use Rattle.std.proofs.Common.{◌<◌, ℕ, get_or}
use Rattle.pf_model.specs.declared.Site.{Site}
use Rattle.pf_sweep.proofs.points.names_of.Given as goal

abbrev pub invariant-loop-site : goal.invariant-loop-site
invariant-loop-site l = (k : ℕ) (d : Site) → k < l.site-index → (get_or l.sites k d).name < l.names
