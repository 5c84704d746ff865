use Rattle.std.proofs.Common.{◌≡◌, ◌≢◌, [], ◌∷◌, refl, sym, ◌∙◌, ap, Ok, Err, inl, inr}
use Rattle.std.proofs.lemmas.Result.{err_from_is_err_and}
use Rattle.trace_text.specs.Trace.{Told, trace_of}
use Rattle.trace_text.specs.Verdicts.{HasAnswerText}
use Rattle.pf_say.specs.declared.place.Place.TheVariants.{Node, Ele, Part, Size, Trace}
use Rattle.pf_say.specs.Shown.{stems_of}
use Rattle.pf_say.specs.Stop.{memory_stop}
use Rattle.pf_cmd.specs.Faults.{trace_stop}
use Rattle.pf_cmd.specs.Input.{HeldFiles, ◌>>=◌, Numbered, files_in, without, bytes_in, vertices_in, triangles_in, mesh_in, parts_in, partitioned_in, bands_in, numbered_in, trace_accepted, said_in}
use Rattle.pf_cmd.specs.Commands.{Traced, traced_in}
use Rattle.pf_cmd.proofs.Reading.{explains-then, explains-later, reads-later, explained, quiet-trans, only_read-trans, trace_stop-inner, trace-refused}
use Rattle.pf_cmd.proofs.trace.trace_answer.Goals as goal

-- the numbered mesh doesn't depend on the trace
apart : (scale : _) (f : HeldFiles) → numbered_in scale (without Trace f) ≡ numbered_in scale f
unfolding numbered_in bands_in partitioned_in parts_in mesh_in vertices_in triangles_in bytes_in
apart scale f = refl

pub returns-in_err-mesh-clause-stop : goal.returns-in_err-mesh-clause-stop
unfolding traced_in
returns-in_err-mesh-clause-stop g c =
    let p = err_from_is_err_and c.from_residual.result c.from_residual.ensures.1 in
    rw (p.1, p.2) (explains-then (Node ∷ Ele ∷ Part ∷ Size ∷ []) (Node ∷ Ele ∷ Part ∷ Size ∷ Trace ∷ []) _ _ _ (numbered_in c.args.scale) (λ f read. said_in read.mesh.first_new read.mesh.chunks f >>= (λ said. Ok record { mesh = read.mesh; said = said })) _ (λ q a. elim a [ inl e ↦ inl e | inr b ↦ elim b [ inl e ↦ inr (inl e) | inr d ↦ elim d [ inl e ↦ inr (inr (inl e)) | inr k ↦ elim k [ inl e ↦ inr (inr (inr (inl e))) | inr z ↦ absurd z ] ] ] ]) c.in_err-mesh.ensures.stop)

pub returns-in_err-bytes-clause-stop : goal.returns-in_err-bytes-clause-stop
unfolding traced_in said_in
returns-in_err-bytes-clause-stop g c =
    let p = err_from_is_err_and c.from_residual-in_err-bytes.result c.from_residual-in_err-bytes.ensures.1 in
    let read : Numbered = record { base = c.in_ok-mesh.field-0.base; mesh = c.in_ok-mesh.field-0.mesh.mesh } in
    rw (p.1, p.2)
    (explains-later (Node ∷ Ele ∷ Part ∷ Size ∷ Trace ∷ []) Trace _ _ _ (stems_of c.args.stems) (numbered_in c.args.scale) read (λ read f. said_in read.mesh.first_new read.mesh.chunks f >>= (λ said. Ok record { mesh = read.mesh; said = said })) _ (apart c.args.scale) (inr (inr (inr (inr (inl refl))))) c.in_ok-mesh.ensures.only_read c.in_ok-mesh.ensures.quiet c.in_ok-mesh.ensures.mesh
    (explains-then (Trace ∷ []) (Trace ∷ []) _ _ _ (said_in read.mesh.first_new read.mesh.chunks) (λ f said. Ok record { mesh = read.mesh; said = said }) _ (λ q a. a)
    (explains-then (Trace ∷ []) (Trace ∷ []) _ _ _ (bytes_in Trace) (λ f bytes. trace_accepted (trace_of read.mesh.first_new read.mesh.chunks bytes)) _ (λ q a. a) c.in_err-bytes.ensures.stop)))

pub run_trace-requires-clause-fresh : goal.run_trace-requires-clause-fresh
run_trace-requires-clause-fresh g c = c.in_ok-mesh.ensures.fresh

pub returns-clause-stop : goal.returns-clause-stop
unfolding traced_in said_in
returns-clause-stop g c =
    let read : Numbered = record { base = c.in_ok-mesh.field-0.base; mesh = c.in_ok-mesh.field-0.mesh.mesh } in
    rw c.trace_stop.ensures
    (explained (Node ∷ Ele ∷ Part ∷ Size ∷ Trace ∷ []) _ _ _ (traced_in c.args.scale) _ (trace_stop-inner c.in-Err.fault)
    (λ ne tells.
    ap (λ r. r >>= (λ read. said_in read.mesh.first_new read.mesh.chunks (files_in (g.S.Shelf.seen c.args.shelf.now) (stems_of c.args.stems)) >>= (λ said. Ok record { mesh = read.mesh; said = said }))) (c.in_ok-mesh.ensures.mesh tells)
    ∙ (ap (λ r. r >>= (λ bytes. trace_accepted (trace_of read.mesh.first_new read.mesh.chunks bytes)) >>= (λ said. Ok record { mesh = read.mesh; said = said })) (reads-later _ _ (stems_of c.args.stems) (bytes_in Trace) _ c.in_ok-mesh.ensures.only_read c.in_ok-bytes.ensures.bytes tells)
    ∙ ap (λ r. r >>= (λ said. Ok record { mesh = read.mesh; said = said })) (refused ne)))
    (quiet-trans _ _ _ c.in_ok-mesh.ensures.quiet c.in_ok-bytes.ensures.quiet))
  where
    refused : trace_stop c.in-Err.fault ≢ memory_stop → trace_accepted (trace_of c.in_ok-mesh.field-0.mesh.mesh.first_new c.in_ok-mesh.field-0.mesh.mesh.chunks c.in_ok-bytes.bytes.items) ≡ Err (trace_stop c.in-Err.fault)
    refused = trace-refused _ c.in-Err.fault (rw (sym c.deref.ensures.value) c.in-Err.ensures.first_fault)

pub returns-in-Ok-clause-traced : goal.returns-in-Ok-clause-traced
unfolding traced_in said_in
returns-in-Ok-clause-traced g c = λ tells.
    let read : Numbered = record { base = c.in_ok-mesh.field-0.base; mesh = c.in_ok-mesh.field-0.mesh.mesh } in
    record {
      input = record { mesh = read.mesh; said = answered.said };
      is_input =
          ap (λ r. r >>= (λ read. said_in read.mesh.first_new read.mesh.chunks (files_in (g.S.Shelf.seen c.args.shelf.now) (stems_of c.args.stems)) >>= (λ said. Ok record { mesh = read.mesh; said = said }))) (c.in_ok-mesh.ensures.mesh tells)
          ∙ (ap (λ r. r >>= (λ bytes. trace_accepted (trace_of read.mesh.first_new read.mesh.chunks bytes)) >>= (λ said. Ok record { mesh = read.mesh; said = said })) (reads-later _ _ (stems_of c.args.stems) (bytes_in Trace) _ c.in_ok-mesh.ensures.only_read c.in_ok-bytes.ensures.bytes tells)
          ∙ ap (λ r. trace_accepted r >>= (λ said. Ok record { mesh = read.mesh; said = said })) answered.says);
      answer = answered.answer;
    }
  where
    answered : HasAnswerText c.in_ok-mesh.field-0.mesh.mesh c.in_ok-bytes.bytes.items c.in-Ok.text.items
    answered = rw (← c.deref.ensures.value) c.in-Ok.ensures.answer

pub returns-in-Ok-clause-quiet : goal.returns-in-Ok-clause-quiet
returns-in-Ok-clause-quiet g c = quiet-trans _ _ _ c.in_ok-mesh.ensures.quiet c.in_ok-bytes.ensures.quiet
