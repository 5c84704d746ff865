use Rattle.std.proofs.Common.{◌≡◌, ◌∙◌, sym, subst}
use Rattle.pf_model.specs.Mesh.{Undivided}
use Rattle.pf_model.specs.Conforming.{IsConforming}
use Rattle.star_tests.proofs.tests.grown.copied.Goals as goal

pub of_parts-requires : goal.of_parts-requires
of_parts-requires c =
    let sites = c.in-Ok.ensures.items ∙ c.sites.ensures.value in
    let tris = c.in-Ok-from_slice.ensures.items ∙ c.tris.ensures.value in
    let bands = c.in-Ok-from_slice-2.ensures.items ∙ c.bands.ensures.value in
    let P : Undivided → Type 0 = λ m. IsConforming m in
    let copy : Undivided = record { first_new = c.first_new.result; sites = c.in-Ok.sites.items; tris = c.in-Ok-from_slice.tris.items; bands = c.in-Ok-from_slice-2.bands.items; chunks = c.chunks.result } in
    let same : copy ≡ c.args.mesh.now.mesh =
    λ i. record { first_new = c.first_new.ensures.value i; sites = sites i; tris = tris i; bands = bands i; chunks = c.chunks.ensures.value i } in
    subst P (sym same) c.sites.ensures.conforming
