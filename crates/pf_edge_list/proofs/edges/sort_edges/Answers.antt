use Rattle.std.proofs.Common.{◌≡◌, ℕ, map, true, false, rules}
use Rattle.std.specs.Prelude.{Result, Ok, Err, OnOk}
use Rattle.std.specs.Result.{is_err}
use Rattle.std.proofs.lemmas.List.Sorted.{answers_always, All-permutation, IsPermutation-map, IsPermutation-trans}
use Rattle.pf_edge_list.specs.declared.edges.Sided.{Sided}
use Rattle.pf_edge_list.specs.Edges.{IsListed, sided_edge}
use Rattle.pf_edge_list.proofs.SpanLemmas.{sorted-spans}
use Rattle.pf_edge_list.proofs.edges.sort_edges.Goals as goal

-- what is so of a success
of_success : {T E P : Type 0} (r : Result T E) → false ≡ is_err r → OnOk r P → P
of_success (Ok x) n h = h
of_success (Err x) n h = absurd (let z : false ≡ true = n in cc)

pub returns-clause-sorted : goal.returns-clause-sorted
returns-clause-sorted c =
    let key : Sided → ℕ × ℕ = λ e. (e.span.lo, e.span.hi) in
    let old = c.args.edges.now.items in
    let new = c.sort_by_key.new.self.items in
    let sorted = of_success c.sort_by_key.result c.if-is_err.ensures.value c.sort_by_key.ensures.sorted in
    λ es different same. sorted-spans es new different (IsPermutation-trans es (map sided_edge old) (map sided_edge new) same (IsPermutation-map sided_edge old new c.sort_by_key.ensures.permutation)) (sorted key (answers_always _ _ _ (λ f a r g h. search rules)))

pub returns-clause-listed : goal.returns-clause-listed
returns-clause-listed c = λ table all. All-permutation (IsListed table) c.args.edges.now.items c.sort_by_key.new.self.items c.sort_by_key.ensures.permutation all
