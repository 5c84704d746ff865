use Rattle.std.proofs.Common.{◌∙◌, List, subst}
use Rattle.pf_model.specs.declared.Tri.{Tri}
use Rattle.pf_apply.specs.Listing.{IsRank}
use Rattle.pf_apply.proofs.ListingLemmas.{insert-rank}
use Rattle.pf_apply.proofs.listing.enter_listed.Goals as goal

pub returns-clause-entered : goal.returns-clause-entered
returns-clause-entered c =
    let P : List Tri → Type 0 = λ ts. IsRank c.args.t ts c.rank-at.result in
    rw c.unwrap.ensures at c.insert.ensures.items ∙ insert-rank c.args.t c.args.tris.now.items c.rank-at.result (subst P c.deref.ensures.value c.rank-at.ensures)
