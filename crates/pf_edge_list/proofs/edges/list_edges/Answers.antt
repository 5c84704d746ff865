use Rattle.std.proofs.Common.{sym, subst}
use Rattle.pf_model.specs.Mesh.{directed_edges_of}
use Rattle.pf_edge_list.specs.Edges.{AreRising, AreStarts, counted_in}
use Rattle.pf_edge_list.proofs.SpanLemmas.{counted-different}
use Rattle.pf_edge_list.proofs.EdgeSearch.{edges-rise}
use Rattle.pf_edge_list.proofs.edges.list_edges.Goals as goal

pub returns-clause-all : goal.returns-clause-all
returns-clause-all c = λ m ok s e. c.in_ok-sort_edges.ensures.sorted (counted_in m.tris (directed_edges_of m.tris)) (counted-different m ok) (c.in_ok-list.ensures.counted m s e)

pub returns-clause-listed : goal.returns-clause-listed
returns-clause-listed c = c.in_ok-sort_edges.ensures.listed c.args.table.now.sides c.in_ok-list.ensures.listed

pub returns-clause-are : goal.returns-clause-are
returns-clause-are c = λ m ok s e.
    let all = returns-clause-all c m ok s e in
    let rising = edges-rise m ok c.sort_edges.new.edges.items all in
    let starts = c.in_ok-starts.ensures (subst (λ l. AreRising l) (sym c.deref.ensures.value) rising) in
    record { all = all; starts = subst (λ l. AreStarts l c.in_ok-starts.starts.items) c.deref.ensures.value starts }
