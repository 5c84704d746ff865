use Rattle.std.proofs.Common.{◌≡◌, [], ◌∷◌, ◌∙◌}
use Rattle.std.proofs.lemmas.Result.{err_from_is_err_and}
use Rattle.pf_say.specs.declared.place.Place.TheVariants.{Node, Ele, Part}
use Rattle.pf_cmd.specs.Commands.{divided_in}
use Rattle.pf_cmd.proofs.Reading.{memory-explains}
use Rattle.pf_cmd.proofs.chunks.chunks_answer.Goals as goal

pub returns-in_err-text-clause-stop : goal.returns-in_err-text-clause-stop
returns-in_err-text-clause-stop g c =
    let p = err_from_is_err_and c.from_residual-in_err-text.result c.from_residual-in_err-text.ensures.1 in
    rw p.1 (memory-explains (Node ∷ Ele ∷ Part ∷ []) _ _ _ (divided_in c.args.scale) _ p.2 c.in_ok-mesh.ensures.quiet)
