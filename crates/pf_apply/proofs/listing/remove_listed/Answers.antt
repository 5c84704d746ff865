use Rattle.std.proofs.Common.{◌≡◌, ◌-◌, ◌∙◌, List, ap, subst, arith}
use Rattle.std.specs.Prelude.{remove}
use Rattle.pf_model.specs.declared.Tri.{Tri}
use Rattle.pf_apply.specs.Listing.{IsRank}
use Rattle.pf_apply.proofs.ListingLemmas.{rank-found, remove-without}
use Rattle.pf_apply.proofs.listing.remove_listed.Goals as goal

pub returns-clause-removed : goal.returns-clause-removed
returns-clause-removed c =
    let t = c.args.t in
    let ts = c.args.tris.now.items in
    let P : List Tri → Type 0 = λ l. IsRank t l c.rank-after.result in
    let at = c.requires.there in
    let r = rank-found t ts c.rank-after.result c.requires.rising (subst P c.deref.ensures.value c.rank-after.ensures) at in
    let e : c.rank-after.result - 1 ≡ at.0 = omega (arith, r) in
    c.remove.ensures.items ∙ (ap (remove ts) e ∙ remove-without t ts at.0 c.requires.sound.edges_once c.requires.sound.once at.1 at.2)
