use Rattle.std.proofs.Common.{List, ◌++◌, ◌∙◌, ap}
use Rattle.std.specs.Prelude.{Some}
use Rattle.pf_core_model.specs.declared.sharer.Sharer.{Sharer}
use Rattle.pf_ghost.specs.Copies.{copy_for}
use Rattle.pf_ghost.proofs.ByOwner.{sole_copy}
use Rattle.pf_ghost.proofs.sharers.put_others.Goals as goal

pub returns-in-Some : goal.returns-in-Some
returns-in-Some c = ap (λ (l : List Sharer). l ++ copy_for (Some c.in-Some.chunk) c.args.star.now) c.requires ∙ sole_copy c.in-Some.chunk c.args.chunks c.args.star.now c.in-Some.ensures
