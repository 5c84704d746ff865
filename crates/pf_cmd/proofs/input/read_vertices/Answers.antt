use Rattle.std.proofs.Common.{◌≡◌, ◌≢◌, [], ◌∷◌, Err, sym, ◌∙◌, ap, subst}
use Rattle.std.proofs.lemmas.Result.{err_from_is_err_and}
use Rattle.tri_text.specs.Node.{node_read}
use Rattle.tri_text.specs.Reading.{Fails}
use Rattle.pf_say.specs.Stop.{memory_stop}
use Rattle.pf_cmd.specs.Faults.{tri_stop}
use Rattle.pf_say.specs.declared.place.Place.TheVariants.{Node}
use Rattle.pf_cmd.specs.Input.{◌>>=◌, bytes_in, vertices_in, tri_accepted}
use Rattle.pf_cmd.proofs.Reading.{explains-then, explained, tri_stop-inner, tri-refused}
use Rattle.pf_cmd.proofs.input.read_vertices.Goals as goal

pub returns-in_err-bytes-clause-stop : goal.returns-in_err-bytes-clause-stop
unfolding vertices_in
returns-in_err-bytes-clause-stop g c =
    let p = err_from_is_err_and c.from_residual.result c.from_residual.ensures.1 in
    rw (p.1, p.2) (explains-then (Node ∷ []) (Node ∷ []) _ _ _ (bytes_in Node) (λ f bytes. tri_accepted Node (node_read c.args.scale bytes)) _ (λ q a. a) c.in_err-bytes.ensures.stop)

pub returns-in-Ok-clause-vertices : goal.returns-in-Ok-clause-vertices
unfolding vertices_in
returns-in-Ok-clause-vertices g c = λ tells.
    ap (λ r. r >>= (λ bytes. tri_accepted Node (node_read c.args.scale bytes))) (c.in_ok-bytes.ensures.bytes tells)
    ∙ (ap (λ bytes. tri_accepted Node (node_read c.args.scale bytes)) (sym c.deref.ensures.value) ∙ ap (tri_accepted Node) c.in-Ok.ensures.gives)

pub returns-clause-stop : goal.returns-clause-stop
unfolding vertices_in
returns-clause-stop g c =
    rw c.tri_stop.ensures
    (explained (Node ∷ []) _ _ _ (vertices_in c.args.scale) _ (tri_stop-inner Node c.in-Err.fault)
    (λ ne tells. ap (λ r. r >>= (λ bytes. tri_accepted Node (node_read c.args.scale bytes))) (c.in_ok-bytes.ensures.bytes tells) ∙ refused ne)
    c.in_ok-bytes.ensures.quiet)
  where
    refused : tri_stop Node c.in-Err.fault ≢ memory_stop → tri_accepted Node (node_read c.args.scale c.in_ok-bytes.bytes.items) ≡ Err (tri_stop Node c.in-Err.fault)
    refused = tri-refused Node _ c.in-Err.fault (let P = λ (bytes : _). Fails c.in-Err.fault (node_read c.args.scale bytes) in subst P c.deref.ensures.value c.in-Err.ensures.gives)
