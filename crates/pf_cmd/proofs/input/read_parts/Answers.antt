use Rattle.std.proofs.Common.{◌≡◌, ◌≢◌, [], ◌∷◌, Ok, Err, sym, ◌∙◌, ap}
use Rattle.std.proofs.lemmas.Result.{err_from_is_err_and}
use Rattle.table_text.specs.Part.{part_of}
use Rattle.pf_say.specs.Stop.{memory_stop}
use Rattle.pf_cmd.specs.Faults.{table_stop}
use Rattle.pf_say.specs.declared.place.Place.TheVariants.{Part}
use Rattle.pf_cmd.specs.Input.{◌>>=◌, bytes_in, parts_in, table_accepted}
use Rattle.pf_cmd.proofs.Reading.{explains-then, explained, table_stop-inner, table-refused}
use Rattle.pf_cmd.proofs.input.read_parts.Goals as goal

pub returns-in_err-bytes-clause-stop : goal.returns-in_err-bytes-clause-stop
unfolding parts_in
returns-in_err-bytes-clause-stop g c =
    let p = err_from_is_err_and c.from_residual.result c.from_residual.ensures.1 in
    rw (p.1, p.2) (explains-then (Part ∷ []) (Part ∷ []) _ _ _ (bytes_in Part) (λ f bytes. table_accepted Part (part_of c.args.triangles bytes)) _ (λ q a. a) c.in_err-bytes.ensures.stop)

pub returns-in-Ok-clause-parts : goal.returns-in-Ok-clause-parts
unfolding parts_in
returns-in-Ok-clause-parts g c = λ tells.
    ap (λ r. r >>= (λ bytes. table_accepted Part (part_of c.args.triangles bytes))) (c.in_ok-bytes.ensures.bytes tells)
    ∙ ap (table_accepted Part) said
  where
    said : part_of c.args.triangles c.in_ok-bytes.bytes.items ≡ Ok c.in-Ok.parts
    said = rw (← c.deref.ensures.value) c.in-Ok.ensures.value

pub returns-clause-stop : goal.returns-clause-stop
unfolding parts_in
returns-clause-stop g c =
    rw c.table_stop.ensures
    (explained (Part ∷ []) _ _ _ (parts_in c.args.triangles) _ (table_stop-inner Part c.in-Err.fault)
    (λ ne tells. ap (λ r. r >>= (λ bytes. table_accepted Part (part_of c.args.triangles bytes))) (c.in_ok-bytes.ensures.bytes tells) ∙ refused ne)
    c.in_ok-bytes.ensures.quiet)
  where
    refused : table_stop Part c.in-Err.fault ≢ memory_stop → table_accepted Part (part_of c.args.triangles c.in_ok-bytes.bytes.items) ≡ Err (table_stop Part c.in-Err.fault)
    refused = table-refused Part _ c.in-Err.fault (rw (sym c.deref.ensures.value) c.in-Err.ensures.first_fault)
