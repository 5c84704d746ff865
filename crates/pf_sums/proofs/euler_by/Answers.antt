use Rattle.std.proofs.Common.{◌≡◌, ◌∙◌, length, rules}
use mir.Syntax.{w64}
use mir.Val.{to_z, of_z}
use Rattle.std.proofs.lemmas.Int.{to_z-of_z}
use Rattle.pf_model.specs.Sums.{edges_of}
use Rattle.pf_sums.specs.Edges.{AreEdgesOf}
use Rattle.pf_sums.proofs.EdgeLemmas.{counted-are_edges}
use Rattle.pf_sums.proofs.euler_by.Goals as goal

pub returns : goal.returns
returns c =
    λ m ok s t. let are : AreEdgesOf m.tris c.deref.result.now = rw (← t, c.deref.ensures.value) c.in_ok-edges.ensures in
    let count : c.count_edges-count.result ≡ length (edges_of m) = c.count_edges-count.ensures.count m.tris are ∙ counted-are_edges m c.deref.result.now ok are in
    let same : to_z w64 (of_z w64 c.alternating.result) ≡ c.alternating.result = to_z-of_z w64 c.alternating.result (search rules) in
    same ∙ rw (← count, ← s, ← t) c.alternating.ensures
