use Rattle.std.proofs.Common.{◌≡◌, ◌∙◌, List}
use Rattle.std.specs.Prelude.{map, filter}
use Rattle.std.proofs.lemmas.Result.{IfOk-weaker}
use Rattle.pf_model.specs.declared.Tri.{Tri}
use Rattle.pf_model.specs.Mesh.{Undivided}
use Rattle.pf_model.specs.Conforming.{IsConforming}
use Rattle.pf_model.specs.Sums.{is_open, boundary_of}
use Rattle.pf_sums.specs.Edges.{edge_at, AreEdgesOf}
use Rattle.pf_sums.proofs.EdgeLemmas.{open-are_boundary}
use Rattle.pf_sums.proofs.boundary_by.Goals as goal

pub returns : goal.returns
returns c =
    IfOk-weaker c.open_edges.result
    (λ found. (ts : List Tri) → AreEdgesOf ts c.deref.result.now → map edge_at found.items ≡ filter (is_open ts) (map edge_at c.deref.result.now))
    (λ edges. (m : Undivided) → IsConforming m → c.args.tris.now ≡ m.tris → map edge_at edges.items ≡ boundary_of m)
    (λ found h m ok t. let are : AreEdgesOf m.tris c.deref.result.now = rw (← t, c.deref.ensures.value) c.in_ok-edges.ensures in h m.tris are ∙ open-are_boundary m c.deref.result.now ok are)
    c.open_edges.ensures
