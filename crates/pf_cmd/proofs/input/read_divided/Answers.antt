use Rattle.std.proofs.Common.{◌≡◌, [], ◌∷◌, ◌∙◌, refl, ap, Ok, sym}
use Rattle.std.proofs.lemmas.Result.{err_from_is_err_and}
use Rattle.pf_model.specs.Tables.{with_tables_of}
use Rattle.pf_say.specs.declared.place.Place.TheVariants.{Node, Ele, Part}
use Rattle.pf_say.specs.Shown.{stems_of}
use Rattle.pf_cmd.specs.Shown.{parted_of}
use Rattle.pf_cmd.specs.Commands.{divided_in}
use Rattle.pf_cmd.specs.Input.{◌>>=◌, Partitioned, partitioned_in}
use Rattle.pf_cmd.proofs.Reading.{explains-then, memory-explains}
use Rattle.pf_cmd.proofs.input.read_divided.Goals as goal

pub returns-in_err-listed-clause-stop : goal.returns-in_err-listed-clause-stop
unfolding divided_in
returns-in_err-listed-clause-stop g c =
    let p = err_from_is_err_and c.from_residual.result c.from_residual.ensures.1 in
    rw (p.1, p.2) (explains-then (Node ∷ Ele ∷ Part ∷ []) (Node ∷ Ele ∷ Part ∷ []) _ _ _ (partitioned_in c.args.scale) (λ f parted. Ok (with_tables_of parted.listed.triangles parted.parts.owners parted.parts.chunks parted.listed.mesh.bands parted.listed.mesh)) _ (λ q a. a) c.in_err-listed.ensures.stop)

pub returns-clause-mesh : goal.returns-clause-mesh
unfolding divided_in
returns-clause-mesh g c = λ tells.
    ap (λ r. r >>= (λ parted. Ok (with_tables_of parted.listed.triangles parted.parts.owners parted.parts.chunks parted.listed.mesh.bands parted.listed.mesh))) (c.in_ok-listed.ensures.parted tells)
    ∙ ap (λ m. Ok m) made
  where
    banded : c.in_ok-bands.bands.items ≡ c.in_ok-listed.field-0.listed.mesh.mesh.bands
    banded = c.in_ok-bands.ensures.items ∙ c.bands.ensures.value

    laid : with_tables_of c.in_ok-listed.field-0.listed.triangles.items c.parts.inside.owners.items c.parts.inside.chunks c.in_ok-bands.bands.items c.in_ok-listed.field-0.listed.mesh.mesh ≡ c.in_ok-mesh.mesh.mesh
    laid = rw (← c.deref.ensures.value) (sym c.in_ok-mesh.ensures.value)

    made : with_tables_of c.in_ok-listed.field-0.listed.triangles.items c.in_ok-listed.field-0.parts.owners c.in_ok-listed.field-0.parts.chunks c.in_ok-listed.field-0.listed.mesh.mesh.bands c.in_ok-listed.field-0.listed.mesh.mesh ≡ c.in_ok-mesh.mesh.mesh
    made =
        sym (ap (λ parts. with_tables_of c.in_ok-listed.field-0.listed.triangles.items parts.owners parts.chunks c.in_ok-listed.field-0.listed.mesh.mesh.bands c.in_ok-listed.field-0.listed.mesh.mesh) c.parts.view_is)
        ∙ (ap (λ bands. with_tables_of c.in_ok-listed.field-0.listed.triangles.items c.parts.inside.owners.items c.parts.inside.chunks bands c.in_ok-listed.field-0.listed.mesh.mesh) (sym banded)
        ∙ laid)
