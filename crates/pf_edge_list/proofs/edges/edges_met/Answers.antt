use Rattle.std.proofs.Common.{◌≡◌, ◌++◌, List, map, All, sym, ◌∙◌, ap, subst}
use Rattle.std.specs.List.Sorted.{IsPermutation}
use Rattle.std.proofs.lemmas.List.{map-append}
use Rattle.std.proofs.lemmas.List.Elements.{All-append}
use Rattle.pf_model.specs.declared.Tri.{Tri}
use Rattle.pf_model.specs.Lengths.{Edge}
use Rattle.pf_model.specs.Mesh.{directed_edges_of}
use Rattle.pf_edge_list.specs.declared.edges.Corner.TheVariants.{First, Second, Third}
use Rattle.pf_edge_list.specs.declared.edges.Sided.{Sided}
use Rattle.pf_edge_list.specs.Edges.{IsListed, counted_from, counted_in, part_of, sided_edge}
use Rattle.pf_edge_list.proofs.SpanLemmas.{counted-permuted}
use Rattle.pf_edge_list.proofs.edges.edges_met.Goals as goal

pub returns-clause-counted : goal.returns-clause-counted
returns-clause-counted c = λ m s e.
    let parts = c.in_ok-parts.parts in
    let one = part_of First parts in
    let two = part_of Second parts in
    let three = part_of Third parts in
    let at = c.in_ok-parts.ensures.counted m s in
    let all : map sided_edge (one ++ (two ++ three)) ≡ counted_from m.tris First c.args.tris.now ++ (counted_from m.tris Second c.args.tris.now ++ counted_from m.tris Third c.args.tris.now) =
    map-append sided_edge one (two ++ three) ∙ (ap (λ l. map sided_edge one ++ l) (map-append sided_edge two three) ∙ (λ i. at First i ++ (at Second i ++ at Third i))) in
    let P : List Tri → Type 0 = λ ts. IsPermutation (counted_in m.tris (directed_edges_of m.tris)) (counted_from m.tris First ts ++ (counted_from m.tris Second ts ++ counted_from m.tris Third ts)) in
    let Q : List Edge → Type 0 = λ l. IsPermutation (counted_in m.tris (directed_edges_of m.tris)) l in
    subst Q (sym (ap (map sided_edge) c.in_ok-edges.ensures ∙ all)) (subst P e (counted-permuted m.tris m.tris))

pub returns-clause-listed : goal.returns-clause-listed
returns-clause-listed c =
    let parts = c.in_ok-parts.parts in
    let at = c.in_ok-parts.ensures.listed in
    let P : Sided → Type 0 = λ x. IsListed c.args.table.now.sides x in
    subst (λ l. All P l) (sym c.in_ok-edges.ensures) (All-append P (part_of First parts) (part_of Second parts ++ part_of Third parts) (at First) (All-append P (part_of Second parts) (part_of Third parts) (at Second) (at Third)))
