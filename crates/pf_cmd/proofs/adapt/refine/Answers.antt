use Rattle.std.proofs.Common.{◌≡◌, [], ◌∷◌, ◌∙◌}
use Rattle.std.proofs.lemmas.Result.{err_from_is_err_and}
use Rattle.pf_say.specs.declared.place.Place.TheVariants.{Node, Ele, Part, Size}
use Rattle.pf_cmd.specs.Commands.{budgeted_in}
use Rattle.pf_model.proofs.Replays.{legal-tickets}
use Rattle.pf_cmd.proofs.Reading.{memory-explains}
use Rattle.pf_cmd.proofs.adapt.refine.Goals as goal

pub returns-in_err-adapted-clause-stop : goal.returns-in_err-adapted-clause-stop
returns-in_err-adapted-clause-stop g c =
    let p = err_from_is_err_and c.from_residual-in_err-adapted.result c.from_residual-in_err-adapted.ensures.1 in
    rw p.1 (memory-explains (Node ∷ Ele ∷ Part ∷ Size ∷ []) _ _ _ (budgeted_in c.args.work.ops c.args.scale) _ p.2 c.in_ok-base.ensures.quiet)

pub returns-clause-tickets : goal.returns-clause-tickets
returns-clause-tickets g c = legal-tickets 0 _ _ c.in_ok-adapted.ensures.adapted.legal
