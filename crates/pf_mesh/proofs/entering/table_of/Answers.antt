use Rattle.std.proofs.Common.{◌≡◌, ◌∙◌, ◌<◌, ℕ, List, length, sym, subst, ap, arith}
use Rattle.std.specs.Prelude.{All}
use Rattle.pf_model.specs.declared.Tri.{Tri}
use Rattle.pf_model.specs.declared.Site.{Site}
use Rattle.pf_model.specs.Exchange.{AreSound}
use Rattle.pf_model.specs.Build.{point_at}
use Rattle.pf_edges.specs.Table.{place_at, HasNamedCorners, ShowsTriangles}
use Rattle.pf_sweep.specs.Points.{ArePoints}
use Rattle.pf_mesh.proofs.Entered.{mesh-sound, mesh-within, table-keeps}
use Rattle.pf_mesh.proofs.entering.table_of.Goals as goal

pub enter_listed-requires-clause-sound : goal.enter_listed-requires-clause-sound
enter_listed-requires-clause-sound c =
    let l = c.requires in
    let S : List Tri → Type 0 = λ ts. AreSound ts in
    subst S l.tris_are (mesh-sound l.mesh l.conforming)

pub enter_listed-requires-clause-within : goal.enter_listed-requires-clause-within
enter_listed-requires-clause-within c =
    let l = c.requires in
    let nodes = c.in_ok-table.table.nodes.items in
    let points = c.in_ok-points.points.items in
    let names : length points ≡ length nodes = ap length (sym c.deref.ensures.value) ∙ sym c.in_ok-table.ensures.empty.names in
    let N : List Site → Type 0 = λ ss. All (λ s. s.name < length points) ss in
    let W : List Tri → Type 0 = λ ts. All (HasNamedCorners nodes) ts in
    subst W l.tris_are (mesh-within nodes (length points) l.mesh l.conforming names (subst N (sym l.sites_are) c.in_ok-points.ensures.named))

pub returns : goal.returns
returns c m ok es et =
    let points = c.in_ok-points.points.items in
    let P : List Site → Type 0 = λ ss. ArePoints points ss in
    let new = c.enter_listed.new.table in
    let S : List Tri → Type 0 = λ ts. ShowsTriangles new.sides new.nodes.items ts in
    let places : (n : ℕ) → place_at new.nodes.items n ≡ point_at points n = λ n. c.enter_listed.ensures.places.places n ∙ (c.in_ok-table.ensures.empty.places n ∙ ap (λ ps. point_at ps n) c.deref.ensures.value) in
    table-keeps new.sides new.nodes.items points m ok (subst P (sym es) c.in_ok-points.ensures.points) c.in_ok-points.ensures.in_range places (subst S (sym et) c.enter_listed.ensures.shows)
