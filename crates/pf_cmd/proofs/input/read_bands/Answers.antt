use Rattle.std.proofs.Common.{◌≡◌, ◌≢◌, [], ◌∷◌, Ok, Err, sym, ◌∙◌, ap}
use Rattle.std.proofs.lemmas.Result.{err_from_is_err_and}
use Rattle.table_text.specs.Size.{size_of}
use Rattle.pf_say.specs.Stop.{memory_stop}
use Rattle.pf_cmd.specs.Faults.{table_stop}
use Rattle.pf_say.specs.declared.place.Place.TheVariants.{Size}
use Rattle.pf_cmd.specs.Input.{◌>>=◌, bytes_in, bands_in, table_accepted}
use Rattle.pf_cmd.proofs.Reading.{explains-then, explained, table_stop-inner, table-refused}
use Rattle.pf_cmd.proofs.input.read_bands.Goals as goal

pub returns-in_err-bytes-clause-stop : goal.returns-in_err-bytes-clause-stop
unfolding bands_in
returns-in_err-bytes-clause-stop g c =
    let p = err_from_is_err_and c.from_residual.result c.from_residual.ensures.1 in
    rw (p.1, p.2) (explains-then (Size ∷ []) (Size ∷ []) _ _ _ (bytes_in Size) (λ f bytes. table_accepted Size (size_of bytes)) _ (λ q a. a) c.in_err-bytes.ensures.stop)

pub returns-in-Ok-clause-bands : goal.returns-in-Ok-clause-bands
unfolding bands_in
returns-in-Ok-clause-bands g c = λ tells.
    ap (λ r. r >>= (λ bytes. table_accepted Size (size_of bytes))) (c.in_ok-bytes.ensures.bytes tells)
    ∙ ap (table_accepted Size) said
  where
    said : size_of c.in_ok-bytes.bytes.items ≡ Ok c.in-Ok.bands.items
    said = rw (← c.deref.ensures.value) c.in-Ok.ensures.value

pub returns-clause-stop : goal.returns-clause-stop
unfolding bands_in
returns-clause-stop g c =
    rw c.table_stop.ensures
    (explained (Size ∷ []) _ _ _ (bands_in) _ (table_stop-inner Size c.in-Err.fault)
    (λ ne tells. ap (λ r. r >>= (λ bytes. table_accepted Size (size_of bytes))) (c.in_ok-bytes.ensures.bytes tells) ∙ refused ne)
    c.in_ok-bytes.ensures.quiet)
  where
    refused : table_stop Size c.in-Err.fault ≢ memory_stop → table_accepted Size (size_of c.in_ok-bytes.bytes.items) ≡ Err (table_stop Size c.in-Err.fault)
    refused = table-refused Size _ c.in-Err.fault (rw (sym c.deref.ensures.value) c.in-Err.ensures.first_fault)
