use Rattle.std.proofs.Common.{◌≡◌, ◌∙◌, sym, ap, arith, ◌<◌, ◌+◌, ◌-◌, ◌++◌, ◌∷◌, [], List, rules}
use Rattle.std.specs.Prelude.{Some}
use Rattle.pf_model.specs.declared.Spoke.{Spoke}
use Rattle.pf_model.specs.Conditions.{least_that}
use Rattle.pf_core_model.specs.declared.sharer.Sharer.{Sharer}
use Rattle.pf_core_model.specs.Sharers.{sharers_from}
use Rattle.pf_ghost.specs.Copies.{copy_for}
use Rattle.pf_ghost.proofs.ByOwner.{owners, from, last_owner, past_owner, one_owner, next_from}
use Rattle.pf_ghost.proofs.sharers.put_copies.Goals as goal

pub returns-in_default : goal.returns-in_default
returns-in_default c =
    last_owner c.owners.first c.args.chunks c.args.star.now (c.owners.list.items ++ copy_for c.owners.last c.args.star.now) (sym (c.owner_from.ensures ∙ ap (λ (l : List Spoke). least_that (from c.owners.first) (owners l)) c.spokes.ensures.value) ∙ c.in_default.is) c.owners.invariant.1

pub returns-then-chunk-chunks : goal.returns-then-chunk-chunks
returns-then-chunk-chunks c =
    past_owner c.owners.first c.in-Some.chunk c.args.chunks c.args.star.now (c.owners.list.items ++ copy_for c.owners.last c.args.star.now) (sym (c.owner_from.ensures ∙ ap (λ (l : List Spoke). least_that (from c.owners.first) (owners l)) c.spokes.ensures.value) ∙ c.in-Some.is) c.if-chunk-chunks.true c.owners.invariant.1

pub owners-smaller : goal.owners-smaller
owners-smaller c =
    let next = next_from c.owners.first c.in-Some.chunk c.args.star.now.spokes (sym (c.owner_from.ensures ∙ ap (λ (l : List Spoke). least_that (from c.owners.first) (owners l)) c.spokes.ensures.value) ∙ c.in-Some.is) in
    omega (arith, c.if-chunk-chunks.false, c.owners-test.true)

pub owners-preserved : goal.owners-preserved
owners-preserved c =
    let low : c.in-Some.chunk < c.args.chunks = omega (arith, c.if-chunk-chunks.false) in
    let more = one_owner c.owners.first c.in-Some.chunk c.args.chunks c.args.star.now (c.owners.list.items ++ copy_for c.owners.last c.args.star.now) (sym (c.owner_from.ensures ∙ ap (λ (l : List Spoke). least_that (from c.owners.first) (owners l)) c.spokes.ensures.value) ∙ c.in-Some.is) low c.owners.invariant.1 in
    let put : c.put_copy.new.list.items ≡ c.owners.list.items ++ copy_for c.owners.last c.args.star.now = search rules in
    (omega (arith, low), ap (λ (l : List Sharer). (l ++ copy_for (Some c.in-Some.chunk) c.args.star.now) ++ sharers_from (c.in-Some.chunk + 1) (c.args.chunks - (c.in-Some.chunk + 1)) (Some c.args.star.now)) put ∙ more)
