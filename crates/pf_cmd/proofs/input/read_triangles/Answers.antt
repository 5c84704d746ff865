use Rattle.std.proofs.Common.{◌≡◌, ◌≢◌, [], ◌∷◌, Err, sym, ◌∙◌, ap, subst, length}
use Rattle.std.proofs.lemmas.Result.{err_from_is_err_and}
use Rattle.tri_text.specs.Node.{vertices_of}
use Rattle.tri_text.specs.Ele.{ele_read}
use Rattle.tri_text.specs.Reading.{Fails}
use Rattle.pf_say.specs.Stop.{memory_stop}
use Rattle.pf_cmd.specs.Faults.{tri_stop}
use Rattle.pf_say.specs.declared.place.Place.TheVariants.{Ele}
use Rattle.pf_cmd.specs.Input.{◌>>=◌, bytes_in, triangles_in, tri_accepted}
use Rattle.pf_cmd.proofs.Reading.{explains-then, explained, tri_stop-inner, tri-refused}
use Rattle.pf_cmd.proofs.input.read_triangles.Goals as goal

pub returns-in_err-bytes-clause-stop : goal.returns-in_err-bytes-clause-stop
unfolding triangles_in
returns-in_err-bytes-clause-stop g c =
    let p = err_from_is_err_and c.from_residual.result c.from_residual.ensures.1 in
    rw (p.1, p.2) (explains-then (Ele ∷ []) (Ele ∷ []) _ _ _ (bytes_in Ele) (λ f bytes. tri_accepted Ele (ele_read c.args.nodes.now.base (length c.args.nodes.now.points.items) bytes)) _ (λ q a. a) c.in_err-bytes.ensures.stop)

pub returns-in-Ok-clause-triangles : goal.returns-in-Ok-clause-triangles
unfolding triangles_in
returns-in-Ok-clause-triangles g c = λ tells.
    ap (λ r. r >>= (λ bytes. tri_accepted Ele (ele_read c.args.nodes.now.base (length c.args.nodes.now.points.items) bytes))) (c.in_ok-bytes.ensures.bytes tells)
    ∙ (ap (λ bytes. tri_accepted Ele (ele_read c.args.nodes.now.base (length c.args.nodes.now.points.items) bytes)) (sym c.deref.ensures.value) ∙ ap (tri_accepted Ele) c.in-Ok.ensures.gives)

pub returns-clause-stop : goal.returns-clause-stop
unfolding triangles_in
returns-clause-stop g c =
    rw c.tri_stop.ensures
    (explained (Ele ∷ []) _ _ _ (triangles_in (vertices_of c.args.nodes.now)) _ (tri_stop-inner Ele c.in-Err.fault)
    (λ ne tells. ap (λ r. r >>= (λ bytes. tri_accepted Ele (ele_read c.args.nodes.now.base (length c.args.nodes.now.points.items) bytes))) (c.in_ok-bytes.ensures.bytes tells) ∙ refused ne)
    c.in_ok-bytes.ensures.quiet)
  where
    refused : tri_stop Ele c.in-Err.fault ≢ memory_stop → tri_accepted Ele (ele_read c.args.nodes.now.base (length c.args.nodes.now.points.items) c.in_ok-bytes.bytes.items) ≡ Err (tri_stop Ele c.in-Err.fault)
    refused = tri-refused Ele _ c.in-Err.fault (let P = λ (bytes : _). Fails c.in-Err.fault (ele_read c.args.nodes.now.base (length c.args.nodes.now.points.items) bytes) in subst P c.deref.ensures.value c.in-Err.ensures.gives)
