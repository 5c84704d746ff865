use Rattle.std.proofs.Common.{ℕ, ◌∙◌, ap, arith}
use Rattle.pf_model.specs.Stars.{star_of}
use Rattle.pf_core_model.specs.Sharers.{sharers_in}
use Rattle.pf_locks.specs.Closes.{list_at}
use Rattle.pf_locks.proofs.Opens.{all_placed, each_below}
use Rattle.pf_locks.proofs.opening.lists_for.Goals as goal

pub place_copies-requires : goal.place_copies-requires
place_copies-requires c = λ s i. let low = each_below c.args.m.now.mesh c.in_ok-stars.stars.items c.requires.fresh c.in_ok-stars.ensures s i in omega (arith, low, c.requires.many, c.in_ok-lists.ensures.len)

pub returns-clause-copies : goal.returns-clause-copies
returns-clause-copies c = λ n.
    c.in_ok-place_copies.ensures.placed n
    ∙ all_placed c.args.m.now.mesh c.chunks.result c.in_ok-stars.stars.items (list_at c.in_ok-lists.lists.items) c.in_ok-lists.ensures.empty c.in_ok-stars.ensures n
    ∙ ap (λ (k : ℕ). sharers_in k (star_of c.args.m.now.mesh n)) c.chunks.ensures.value
