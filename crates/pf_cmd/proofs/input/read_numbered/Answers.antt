use Rattle.std.proofs.Common.{◌≡◌, [], ◌∷◌, ◌∙◌, refl, ap, Ok, sym, inl, inr}
use Rattle.std.proofs.lemmas.Result.{err_from_is_err_and}
use Rattle.pf_model.specs.Tables.{with_tables_of}
use Rattle.pf_say.specs.declared.place.Place.TheVariants.{Node, Ele, Part, Size}
use Rattle.pf_say.specs.Shown.{stems_of}
use Rattle.pf_cmd.specs.Shown.{parted_of}
use Rattle.pf_cmd.specs.Input.{HeldFiles, ◌>>=◌, Partitioned, files_in, without, bytes_in, vertices_in, triangles_in, mesh_in, parts_in, partitioned_in, bands_in, numbered_in}
use Rattle.pf_cmd.proofs.Reading.{explains-then, explains-later, reads-later, memory-explains, quiet-trans}
use Rattle.pf_cmd.proofs.input.read_numbered.Goals as goal

-- the parted mesh doesn't depend on the size table
pub apart : (scale : _) (f : HeldFiles) → partitioned_in scale (without Size f) ≡ partitioned_in scale f
unfolding partitioned_in parts_in mesh_in vertices_in triangles_in bytes_in
apart scale f = refl

pub returns-in_err-listed-clause-stop : goal.returns-in_err-listed-clause-stop
unfolding numbered_in
returns-in_err-listed-clause-stop g c =
    let p = err_from_is_err_and c.from_residual.result c.from_residual.ensures.1 in
    rw (p.1, p.2) (explains-then (Node ∷ Ele ∷ Part ∷ []) (Node ∷ Ele ∷ Part ∷ Size ∷ []) _ _ _ (partitioned_in c.args.scale) (λ f parted. bands_in f >>= (λ bands. Ok record { base = parted.listed.base; mesh = with_tables_of parted.listed.triangles parted.parts.owners parted.parts.chunks bands parted.listed.mesh })) _ (λ q a. elim a [ inl e ↦ inl e | inr b ↦ elim b [ inl e ↦ inr (inl e) | inr d ↦ elim d [ inl e ↦ inr (inr (inl e)) | inr z ↦ absurd z ] ] ]) c.in_err-listed.ensures.stop)

pub returns-in_err-bands-clause-stop : goal.returns-in_err-bands-clause-stop
unfolding numbered_in
returns-in_err-bands-clause-stop g c =
    let p = err_from_is_err_and c.from_residual-in_err-bands.result c.from_residual-in_err-bands.ensures.1 in
    let read : Partitioned = parted_of c.in_ok-listed.field-0 in
    rw (p.1, p.2)
    (explains-later (Node ∷ Ele ∷ Part ∷ Size ∷ []) Size _ _ _ (stems_of c.args.stems) (partitioned_in c.args.scale) read (λ parted f. bands_in f >>= (λ bands. Ok record { base = parted.listed.base; mesh = with_tables_of parted.listed.triangles parted.parts.owners parted.parts.chunks bands parted.listed.mesh })) _ (apart c.args.scale) (inr (inr (inr (inl refl)))) c.in_ok-listed.ensures.only_read c.in_ok-listed.ensures.quiet c.in_ok-listed.ensures.parted
    (explains-then (Size ∷ []) (Size ∷ []) _ _ _ bands_in (λ f. (λ bands. Ok record { base = read.listed.base; mesh = with_tables_of read.listed.triangles read.parts.owners read.parts.chunks bands read.listed.mesh })) _ (λ q a. a) c.in_err-bands.ensures.stop))

pub returns-clause-mesh : goal.returns-clause-mesh
unfolding numbered_in
returns-clause-mesh g c = λ tells.
    let read : Partitioned = parted_of c.in_ok-listed.field-0 in
    ap (λ r. r >>= (λ parted. bands_in (files_in (g.S.Shelf.seen c.args.shelf.now) (stems_of c.args.stems)) >>= (λ bands. Ok record { base = parted.listed.base; mesh = with_tables_of parted.listed.triangles parted.parts.owners parted.parts.chunks bands parted.listed.mesh }))) (c.in_ok-listed.ensures.parted tells)
    ∙ (ap (λ r. r >>= (λ bands. Ok record { base = read.listed.base; mesh = with_tables_of read.listed.triangles read.parts.owners read.parts.chunks bands read.listed.mesh }))
    (reads-later _ _ (stems_of c.args.stems) bands_in _ c.in_ok-listed.ensures.only_read c.in_ok-bands.ensures.bands tells)
    ∙ ap (λ m. Ok record { base = read.listed.base; mesh = m }) made)
  where
    laid : with_tables_of c.in_ok-listed.field-0.listed.triangles.items c.parts.inside.owners.items c.parts.inside.chunks c.in_ok-bands.bands.items c.in_ok-listed.field-0.listed.mesh.mesh ≡ c.in_ok-mesh.mesh.mesh
    laid = rw (← c.deref.ensures.value) (sym c.in_ok-mesh.ensures.value)

    made : with_tables_of c.in_ok-listed.field-0.listed.triangles.items c.in_ok-listed.field-0.parts.owners c.in_ok-listed.field-0.parts.chunks c.in_ok-bands.bands.items c.in_ok-listed.field-0.listed.mesh.mesh ≡ c.in_ok-mesh.mesh.mesh
    made =
        sym (ap (λ parts. with_tables_of c.in_ok-listed.field-0.listed.triangles.items parts.owners parts.chunks c.in_ok-bands.bands.items c.in_ok-listed.field-0.listed.mesh.mesh) c.parts.view_is)
        ∙ laid

pub returns-in_err-mesh-clause-stop : goal.returns-in_err-mesh-clause-stop
returns-in_err-mesh-clause-stop g c =
    let p = err_from_is_err_and c.from_residual-in_err-mesh.result c.from_residual-in_err-mesh.ensures.1 in
    rw p.1 (memory-explains (Node ∷ Ele ∷ Part ∷ Size ∷ []) _ _ _ (numbered_in c.args.scale) _ p.2 (quiet-trans _ _ _ c.in_ok-listed.ensures.quiet c.in_ok-bands.ensures.quiet))

pub returns-clause-quiet : goal.returns-clause-quiet
returns-clause-quiet g c = quiet-trans _ _ _ c.in_ok-listed.ensures.quiet c.in_ok-bands.ensures.quiet
