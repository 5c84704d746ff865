use Rattle.std.proofs.Common.{◌≡◌, [], ℕ, List, ap, ◌∙◌, arith}
use Rattle.std.specs.Prelude.{slice_index_or}
use Rattle.pf_locks.specs.Lists.{list_of, first_place}
use Rattle.pf_locks.specs.declared.kept.Kept.{Kept}
use Rattle.pf_locks.proofs.Keeping.{stands, place_near}
use Rattle.pf_locks.proofs.kept.put_list.Goals as goal

pub index_mut-requires : goal.index_mut-requires
index_mut-requires c =
    let z = place_near c.args.n c.args.kept.now.items c.requires in
    omega (arith, z, (c.index_of-at.ensures ∙ ap (λ (l : List Kept). first_place l c.args.n) c.deref.ensures.value), c.args.kept.now.ok)

pub returns-clause-result : goal.returns-clause-result
returns-clause-result c =
    let n = c.args.n in
    let ks = c.args.kept.now.items in
    let x = c.index_mut.result.now in
    let place : c.index_of-at.result ≡ first_place ks n = c.index_of-at.ensures ∙ ap (λ (l : List Kept). first_place l n) c.deref.ensures.value in
    ap list_of (c.replace-before.ensures.value ∙ c.index_mut.ensures.value ∙ ap (λ (i : ℕ). slice_index_or ks i x) place) ∙ stands list_of [] n ks x c.requires
