use Rattle.std.proofs.Common.{◌≡◌, [], ◌∷◌, ◌∙◌, refl, ap, Ok, length, arith, inl, inr}
use Rattle.std.proofs.lemmas.Result.{err_from_is_err_and}
use Rattle.pf_say.specs.declared.place.Place.TheVariants.{Node, Ele, Part}
use Rattle.pf_say.specs.Shown.{stems_of}
use Rattle.pf_cmd.specs.Input.{HeldFiles, ◌>>=◌, Listed, files_in, without, bytes_in, vertices_in, triangles_in, mesh_in, parts_in, partitioned_in}
use Rattle.pf_cmd.proofs.Reading.{explains-then, explains-later, reads-later, quiet-trans}
use Rattle.pf_cmd.proofs.input.read_partitioned.Goals as goal

-- the mesh doesn't depend on the partition
pub apart : (scale : _) (f : HeldFiles) → mesh_in scale (without Part f) ≡ mesh_in scale f
unfolding mesh_in vertices_in triangles_in bytes_in
apart scale f = refl

pub returns-in_err-listed-clause-stop : goal.returns-in_err-listed-clause-stop
unfolding partitioned_in
returns-in_err-listed-clause-stop g c =
    let p = err_from_is_err_and c.from_residual.result c.from_residual.ensures.1 in
    rw (p.1, p.2) (explains-then (Node ∷ Ele ∷ []) (Node ∷ Ele ∷ Part ∷ []) _ _ _ (mesh_in c.args.scale) (λ f listed. parts_in (length listed.triangles) f >>= (λ parts. Ok record { listed = listed; parts = parts })) _ (λ q a. elim a [ inl e ↦ inl e | inr b ↦ elim b [ inl e ↦ inr (inl e) | inr z ↦ absurd z ] ]) c.in_err-listed.ensures.stop)

pub returns-in_err-parts-clause-stop : goal.returns-in_err-parts-clause-stop
unfolding partitioned_in
returns-in_err-parts-clause-stop g c =
    let p = err_from_is_err_and c.from_residual-in_err-parts.result c.from_residual-in_err-parts.ensures.1 in
    let read : Listed = record { base = c.in_ok-listed.listed.base; mesh = c.in_ok-listed.listed.mesh.mesh; triangles = c.in_ok-listed.listed.triangles.items } in
    let count : length read.triangles ≡ c.len.result = omega (arith, c.in_ok-listed.listed.triangles.ok) in
    rw (p.1, p.2)
    (explains-later (Node ∷ Ele ∷ Part ∷ []) Part _ _ _ (stems_of c.args.stems) (mesh_in c.args.scale) read (λ listed f. parts_in (length listed.triangles) f >>= (λ parts. Ok record { listed = listed; parts = parts })) _ (apart c.args.scale) (inr (inr (inl refl))) c.in_ok-listed.ensures.only_read c.in_ok-listed.ensures.quiet c.in_ok-listed.ensures.mesh
    (explains-then (Part ∷ []) (Part ∷ []) _ _ _ (parts_in (length read.triangles)) (λ f. (λ parts. Ok record { listed = read; parts = parts })) _ (λ q a. a) (rw count c.in_err-parts.ensures.stop)))

pub returns-clause-parted : goal.returns-clause-parted
unfolding partitioned_in
returns-clause-parted g c = λ tells.
    let read : Listed = record { base = c.in_ok-listed.listed.base; mesh = c.in_ok-listed.listed.mesh.mesh; triangles = c.in_ok-listed.listed.triangles.items } in
    let count : length read.triangles ≡ c.len.result = omega (arith, c.in_ok-listed.listed.triangles.ok) in
    ap (λ r. r >>= (λ listed. parts_in (length listed.triangles) (files_in (g.S.Shelf.seen c.args.shelf.now) (stems_of c.args.stems)) >>= (λ parts. Ok record { listed = listed; parts = parts }))) (c.in_ok-listed.ensures.mesh tells)
    ∙ ap (λ r. r >>= (λ parts. Ok record { listed = read; parts = parts }))
    (reads-later _ _ (stems_of c.args.stems) (parts_in (length read.triangles)) _ c.in_ok-listed.ensures.only_read (rw count c.in_ok-parts.ensures.parts) tells)

pub returns-clause-quiet : goal.returns-clause-quiet
returns-clause-quiet g c = quiet-trans _ _ _ c.in_ok-listed.ensures.quiet c.in_ok-parts.ensures.quiet
