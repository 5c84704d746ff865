use Rattle.std.proofs.Common.{◌≡◌, List, map, sym, ◌∙◌, ap, subst}
use Rattle.pf_model.specs.Sums.{edges_of}
use Rattle.pf_rules.specs.Lengths.{span_value}
use Rattle.pf_edge_list.specs.declared.edges.Sided.{Sided}
use Rattle.pf_edge_list.specs.Edges.{sided_edge, IsOnlyIn}
use Rattle.pf_edge_list.proofs.EdgeSearch.{edges-rise, only-between, search-told}
use Rattle.pf_edge_list.proofs.edges.Edges.find.Goals as goal

pub returns-clause-edge : goal.returns-clause-edge
returns-clause-edge c = λ m ok are rising.
    let edges : List Sided = c.deref.result.now in
    let e = span_value c.args.e in
    let all : map sided_edge edges ≡ edges_of m = ap (map sided_edge) c.deref.ensures.value ∙ are.all in
    let only = only-between c.args.self.now.list.items e c.start.result c.end.result (c.start.ensures are.starts) (c.end.ensures are.starts) in
    search-told m ok edges all e rising c.search.result c.search.ensures.found
    (c.search.ensures.missing (edges-rise m ok edges all) (subst (λ l. IsOnlyIn l e c.start.result c.end.result) (sym c.deref.ensures.value) only))
