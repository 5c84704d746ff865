use Rattle.std.proofs.Common.{◌≡◌, ◌≢◌, ◌+◌, [], ◌∷◌, length, arith, Ok, Err, sym, ◌∙◌, ap}
use Rattle.std.proofs.lemmas.Result.{err_from_is_err_and}
use Rattle.journal_text.specs.Journal.{journal_of}
use Rattle.pf_say.specs.declared.stop.Stop.TheVariants.{Limit}
use Rattle.pf_say.specs.Stop.{memory_stop}
use Rattle.pf_cmd.specs.Faults.{jour_stop}
use Rattle.pf_say.specs.declared.place.Place.TheVariants.{Journal}
use Rattle.pf_cmd.specs.Input.{◌>>=◌, bytes_in, entries_in, jour_accepted, within_limit}
use Rattle.pf_cmd.proofs.Reading.{explains-then, explained, jour_stop-inner, jour-refused}
use Rattle.pf_cmd.proofs.InputLemmas.{within_limit-small, within_limit-large}
use Rattle.pf_cmd.proofs.input.read_entries.Goals as goal

pub returns-in_err-bytes-clause-stop : goal.returns-in_err-bytes-clause-stop
unfolding entries_in
returns-in_err-bytes-clause-stop g c =
    let p = err_from_is_err_and c.from_residual.result c.from_residual.ensures.1 in
    rw (p.1, p.2) (explains-then (Journal ∷ []) (Journal ∷ []) _ _ _ (bytes_in Journal) (λ f bytes. jour_accepted (journal_of bytes) >>= (λ entries. within_limit c.args.vertices (length entries) entries)) _ (λ q a. a) c.in_err-bytes.ensures.stop)

pub returns-clause-stop : goal.returns-clause-stop
unfolding entries_in
returns-clause-stop g c =
    rw c.jour_stop.ensures
    (explained (Journal ∷ []) _ _ _ (entries_in c.args.vertices) _ (jour_stop-inner c.in-Err.fault)
    (λ ne tells. ap (λ r. r >>= (λ bytes. jour_accepted (journal_of bytes) >>= (λ entries. within_limit c.args.vertices (length entries) entries))) (c.in_ok-bytes.ensures.bytes tells) ∙ ap (λ r. r >>= (λ entries. within_limit c.args.vertices (length entries) entries)) (refused ne))
    c.in_ok-bytes.ensures.quiet)
  where
    refused : jour_stop c.in-Err.fault ≢ memory_stop → jour_accepted (journal_of c.in_ok-bytes.bytes.items) ≡ Err (jour_stop c.in-Err.fault)
    refused = jour-refused _ c.in-Err.fault (rw (sym c.deref.ensures.value) c.in-Err.ensures.first_fault)

pub returns-in-Ok-clause-entries : goal.returns-in-Ok-clause-entries
unfolding entries_in
returns-in-Ok-clause-entries g c = λ tells.
    ap (λ r. r >>= (λ bytes. jour_accepted (journal_of bytes) >>= (λ entries. within_limit c.args.vertices (length entries) entries))) (c.in_ok-bytes.ensures.bytes tells)
    ∙ (ap (λ r. jour_accepted r >>= (λ entries. within_limit c.args.vertices (length entries) entries)) said ∙ within_limit-small c.args.vertices (length c.in-Ok.entries.items) c.in-Ok.entries.items (omega (arith, c.in-Ok.entries.ok)))
  where
    said : journal_of c.in_ok-bytes.bytes.items ≡ Ok c.in-Ok.entries.items
    said = rw (← c.deref.ensures.value) c.in-Ok.ensures.value

pub returns-then-count-gt-MOST_NAMES-clause-stop : goal.returns-then-count-gt-MOST_NAMES-clause-stop
unfolding entries_in
returns-then-count-gt-MOST_NAMES-clause-stop g c =
    explained (Journal ∷ []) _ _ _ (entries_in c.args.vertices) _ tt
    (λ ne tells.
    ap (λ r. r >>= (λ bytes. jour_accepted (journal_of bytes) >>= (λ entries. within_limit c.args.vertices (length entries) entries))) (c.in_ok-bytes.ensures.bytes tells)
    ∙ (ap (λ r. jour_accepted r >>= (λ entries. within_limit c.args.vertices (length entries) entries)) said
    ∙ (within_limit-large c.args.vertices (length c.in-Ok.entries.items) c.in-Ok.entries.items (omega (arith, c.in-Ok.entries.ok)) ∙ ap (λ n. Err (Limit n)) count)))
    c.in_ok-bytes.ensures.quiet
  where
    said : journal_of c.in_ok-bytes.bytes.items ≡ Ok c.in-Ok.entries.items
    said = rw (← c.deref.ensures.value) c.in-Ok.ensures.value

    count : c.args.vertices + length c.in-Ok.entries.items ≡ c.from.result + c.len.result
    count = omega (arith, c.in-Ok.entries.ok)
