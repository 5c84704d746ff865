use Rattle.std.proofs.Common.{◌≡◌, ◌≤◌, length, append-nil, arith}
use Rattle.std.specs.Prelude.{map}
use Rattle.std.proofs.lemmas.List.{drop_all}
use Rattle.std.proofs.lemmas.List.Sorted.{IsPermutation-map}
use Rattle.pf_model.specs.Mesh.{directed_edges_of}
use Rattle.pf_sums.specs.Edges.{edge_at}
use Rattle.pf_sums.proofs.edges.directed_edges.Goals as goal

pub returns : goal.returns
returns c =
    let past : length c.args.tris.now ≤ c.loop-t.t-index = omega (arith, c.loop-t-test.false) in
    let e = drop_all c.loop-t.t-index c.args.tris.now past in
    let all : map edge_at c.loop-t.edges.items ≡ directed_edges_of c.args.tris.now = rw (e, append-nil) at c.loop-t.invariant in
    record { same = rw (← all) (IsPermutation-map edge_at c.loop-t.edges.items c.sort_unstable.new.self.items c.sort_unstable.ensures.permutation); sorted = c.sort_unstable.ensures.sorted }
