use Rattle.std.proofs.Common.{◌≡◌, ℕ, false, rules, arith}
use Rattle.std.specs.Prelude.{nat_lt}
use Rattle.std.specs.Ordering.{is_lt, nat_cmp}
use Rattle.std.proofs.lemmas.Bool.Decides.{nat_tests}
use Rattle.std.proofs.lemmas.List.Sorted.{answers_always}
use Rattle.pf_model.specs.declared.Site.{Site}
use Rattle.pf_star_model.specs.Assembled.{site_lt}
use Rattle.pf_assemble.proofs.Sorts.{sorts, of_success}
use Rattle.pf_assemble.proofs.Gathered.{same_name, site-tests}
use Rattle.pf_assemble.proofs.keepers.sort_sites.Goals as goal

not_before : (a b : ℕ) → is_lt (nat_cmp b a) ≡ false → nat_lt b a ≡ false
not_before a b h = grind (arith, nat_tests)

pub returns : goal.returns
returns c =
    let key : Site → ℕ = λ s. s.name in
    let sorted = of_success c.sort_by_key.result c.if-is_err.ensures.value c.sort_by_key.ensures.sorted in
    sorts site_lt same_name site-tests c.args.sites.now.items c.sort_by_key.new.self.items c.sort_by_key.ensures.permutation
    (λ k d l. not_before _ _ (sorted key (answers_always _ _ _ (λ f a r g h. search rules)) k d (omega arith) l))
