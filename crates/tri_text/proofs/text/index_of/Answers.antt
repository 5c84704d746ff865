use Rattle.std.proofs.Common.{sym, rules, of_calls, nat_lt}
use Rattle.std.proofs.lemmas.Fn.{always_returns_same}
use Rattle.std.proofs.lemmas.List.Sorted.{IsPartitionedBy-ltb}
use Rattle.tri_text.proofs.WriteRows.{place_where, place_from, names_stay}
use Rattle.tri_text.proofs.text.index_of.Goals as goal

pub returns-in-Some : goal.returns-in-Some
returns-in-Some c =
    let found = c.in-Some.ensures.lookup in
    sym (place_where c.args.sites.now c.args.name c.args.name c.in-Some.site.now c.requires found.3.0 found.1 c.if-site-name.true)

pub returns-in_default : goal.returns-in_default
returns-in_default c =
    let sites = c.args.sites.now in
    let point = c.partition_point.ensures.partitioned (λ s. nat_lt s.name c.args.name) (always_returns_same _ _ _ (λ a r f k. search (rules, of_calls))) (IsPartitionedBy-ltb (λ s. s.name) sites c.args.name (names_stay sites c.requires)) in
    sym (place_from sites c.partition_point.result c.args.name c.partition_point.ensures.bound point)
