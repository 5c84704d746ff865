use Rattle.std.proofs.Common.{[], ℕ, ap, ◌∙◌}
use Rattle.std.specs.Prelude.{slice_index_or}
use Rattle.pf_locks.specs.Lists.{list_of}
use Rattle.pf_locks.proofs.Keeping.{stands}
use Rattle.pf_locks.proofs.kept.take_list.Goals as goal

pub returns-clause-list : goal.returns-clause-list
returns-clause-list c =
    let ks = c.args.kept.now.items in
    λ n is h. ap list_of c.remove-list.ensures.value ∙ ap (λ (i : ℕ). list_of (slice_index_or ks i c.remove-list.result)) is ∙ stands list_of [] n ks c.remove-list.result h
