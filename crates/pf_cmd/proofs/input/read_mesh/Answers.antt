use Rattle.std.proofs.Common.{◌≡◌, ◌≢◌, [], ◌∷◌, Err, ◌∙◌, ap, refl, Ok, arith, inl, inr}
use Rattle.std.proofs.lemmas.Result.{err_from_is_err_and}
use Rattle.pf_model.specs.declared.BuildErr.TheVariants.{Memory}
use Rattle.pf_model.specs.Build.{built}
use Rattle.tri_text.specs.Node.{Vertices, vertices_of}
use Rattle.pf_say.specs.declared.place.Place.TheVariants.{Node, Ele}
use Rattle.pf_say.specs.Shown.{stems_of}
use Rattle.pf_say.specs.Stop.{memory_stop}
use Rattle.pf_cmd.specs.Faults.{build_stop}
use Rattle.pf_cmd.specs.Input.{HeldFiles, ◌>>=◌, files_in, without, bytes_in, vertices_in, triangles_in, build_accepted, mesh_in}
use Rattle.pf_model.proofs.BuiltFresh.{built-fresh}
use Rattle.pf_cmd.proofs.Reading.{explains-then, explains-later, reads-later, explained, build_stop-inner, build-refused, quiet-trans}
use Rattle.pf_cmd.proofs.input.read_mesh.Goals as goal

-- the vertices don't depend on the triangles
apart : (scale : _) (f : HeldFiles) → vertices_in scale (without Ele f) ≡ vertices_in scale f
unfolding vertices_in bytes_in
apart scale f = refl

pub returns-in_err-nodes-clause-stop : goal.returns-in_err-nodes-clause-stop
unfolding mesh_in
returns-in_err-nodes-clause-stop g c =
    let p = err_from_is_err_and c.from_residual.result c.from_residual.ensures.1 in
    rw (p.1, p.2) (explains-then (Node ∷ []) (Node ∷ Ele ∷ []) _ _ _ (vertices_in c.args.scale) (λ f vertices. triangles_in vertices f >>= (λ triangles. build_accepted (built vertices.points triangles) >>= (λ mesh. Ok record { base = vertices.base; mesh = mesh; triangles = triangles }))) _ (λ q a. elim a [ inl e ↦ inl e | inr b ↦ absurd b ]) c.in_err-nodes.ensures.stop)

pub returns-in_err-triangles-clause-stop : goal.returns-in_err-triangles-clause-stop
unfolding mesh_in
returns-in_err-triangles-clause-stop g c =
    let p = err_from_is_err_and c.from_residual-in_err-triangles.result c.from_residual-in_err-triangles.ensures.1 in
    rw (p.1, p.2)
    (explains-later (Node ∷ Ele ∷ []) Ele _ _ _ (stems_of c.args.stems) (vertices_in c.args.scale) (vertices_of c.in_ok-nodes.nodes) (λ vertices f. triangles_in vertices f >>= (λ triangles. build_accepted (built vertices.points triangles) >>= (λ mesh. Ok record { base = vertices.base; mesh = mesh; triangles = triangles }))) _ (apart c.args.scale) (inr (inl refl)) c.in_ok-nodes.ensures.only_read c.in_ok-nodes.ensures.quiet c.in_ok-nodes.ensures.vertices
    (explains-then (Ele ∷ []) (Ele ∷ []) _ _ _ (triangles_in (vertices_of c.in_ok-nodes.nodes)) (λ f. (λ triangles. build_accepted (built c.in_ok-nodes.nodes.points.items triangles) >>= (λ mesh. Ok record { base = c.in_ok-nodes.nodes.base; mesh = mesh; triangles = triangles }))) _ (λ q a. a) c.in_err-triangles.ensures.stop))

pub returns-in-Ok-clause-mesh : goal.returns-in-Ok-clause-mesh
unfolding mesh_in
returns-in-Ok-clause-mesh g c = λ tells.
    ap (λ r. r >>= (λ vertices. triangles_in vertices (files_in (g.S.Shelf.seen c.args.shelf.now) (stems_of c.args.stems)) >>= (λ triangles. build_accepted (built vertices.points triangles) >>= (λ mesh. Ok record { base = vertices.base; mesh = mesh; triangles = triangles })))) (c.in_ok-nodes.ensures.vertices tells)
    ∙ (ap (λ r. r >>= (λ triangles. build_accepted (built c.in_ok-nodes.nodes.points.items triangles) >>= (λ mesh. Ok record { base = c.in_ok-nodes.nodes.base; mesh = mesh; triangles = triangles })))
    (reads-later _ _ (stems_of c.args.stems) (triangles_in (vertices_of c.in_ok-nodes.nodes)) _ c.in_ok-nodes.ensures.only_read c.in_ok-triangles.ensures.triangles tells)
    ∙ ap (λ r. build_accepted r >>= (λ mesh. Ok record { base = c.in_ok-nodes.nodes.base; mesh = mesh; triangles = c.in_ok-triangles.triangles.items })) made)
  where
    made : built c.in_ok-nodes.nodes.points.items c.in_ok-triangles.triangles.items ≡ Ok c.in-Ok.mesh.mesh
    made = rw (← c.deref.ensures.value, ← c.deref-2.ensures.value) c.in-Ok.ensures.ok

pub returns-clause-stop : goal.returns-clause-stop
unfolding mesh_in
returns-clause-stop g c =
    rw c.build_stop.ensures
    (explained (Node ∷ Ele ∷ []) _ _ _ (mesh_in c.args.scale) _ (build_stop-inner c.in-Err.fault)
    (λ ne tells.
    ap (λ r. r >>= (λ vertices. triangles_in vertices (files_in (g.S.Shelf.seen c.args.shelf.now) (stems_of c.args.stems)) >>= (λ triangles. build_accepted (built vertices.points triangles) >>= (λ mesh. Ok record { base = vertices.base; mesh = mesh; triangles = triangles })))) (c.in_ok-nodes.ensures.vertices tells)
    ∙ (ap (λ r. r >>= (λ triangles. build_accepted (built c.in_ok-nodes.nodes.points.items triangles) >>= (λ mesh. Ok record { base = c.in_ok-nodes.nodes.base; mesh = mesh; triangles = triangles })))
    (reads-later _ _ (stems_of c.args.stems) (triangles_in (vertices_of c.in_ok-nodes.nodes)) _ c.in_ok-nodes.ensures.only_read c.in_ok-triangles.ensures.triangles tells)
    ∙ ap (λ r. r >>= (λ mesh. Ok record { base = c.in_ok-nodes.nodes.base; mesh = mesh; triangles = c.in_ok-triangles.triangles.items })) (build-refused _ c.in-Err.fault refused ne)))
    (quiet-trans _ _ _ c.in_ok-nodes.ensures.quiet c.in_ok-triangles.ensures.quiet))
  where
    refused : c.in-Err.fault ≢ Memory → built c.in_ok-nodes.nodes.points.items c.in_ok-triangles.triangles.items ≡ Err c.in-Err.fault
    refused = rw (← c.deref.ensures.value, ← c.deref-2.ensures.value) (λ ne. c.in-Err.ensures.fault c.in-Err.fault refl ne)

pub returns-in-Ok-clause-fresh : goal.returns-in-Ok-clause-fresh
returns-in-Ok-clause-fresh g c = λ n live. let b = built-fresh c.deref.result.now c.deref-2.result.now c.in-Ok.mesh.mesh c.in-Ok.ensures.ok n live in omega (arith, b)

pub returns-in-Ok-clause-quiet : goal.returns-in-Ok-clause-quiet
returns-in-Ok-clause-quiet g c = quiet-trans _ _ _ c.in_ok-nodes.ensures.quiet c.in_ok-triangles.ensures.quiet
