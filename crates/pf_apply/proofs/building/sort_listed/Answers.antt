use Rattle.std.proofs.Common.{ℕ, rules}
use Rattle.std.proofs.lemmas.List.Sorted.{answers_always}
use Rattle.pf_model.specs.declared.Tri.{Tri}
use Rattle.pf_apply.proofs.SortedIs.{sorted-from}
use Rattle.pf_apply.proofs.building.sort_listed.Goals as goal

pub returns : goal.returns
returns c =
    let key : Tri → ℕ × ℕ × ℕ = λ t. (t.a, t.b, t.c) in
    sorted-from c.args.listed.now.items c.sort_unstable_by_key.new.self.items c.requires c.sort_unstable_by_key.ensures.permutation
    (c.sort_unstable_by_key.ensures.sorted key (answers_always _ _ _ (λ f a r g h. search rules)))
