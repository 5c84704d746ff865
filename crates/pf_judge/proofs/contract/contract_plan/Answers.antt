use Rattle.std.proofs.Common.{◌≡◌, List, sym, ◌∙◌, ap, subst}
use Rattle.pf_model.specs.declared.Tri.{Tri}
use Rattle.pf_model.specs.declared.Op.TheVariants.{Contract}
use Rattle.pf_model.specs.Stars.{spokes_of}
use Rattle.pf_model.specs.Applied.{contracted}
use Rattle.pf_model.specs.Exchange.{CanExchange, exchanged}
use Rattle.pf_rules.specs.Contract.{star_tris, moved_tris}
use Rattle.pf_rules.proofs.ContractExchange.{contract-exchange}
use Rattle.pf_rules.proofs.Changes.{change-from}
use Rattle.pf_judge.proofs.contract.contract_plan.Goals as goal

pub returns-clause-change : goal.returns-clause-change
returns-clause-change c = λ m n k none.
    let u = c.args.u in
    let v = c.args.v in
    let star = c.contract_star.ensures.star m k.conforming k.shows c.in_default.is in
    let removed = c.triangles_of.ensures ∙ ap (star_tris u) (c.deref.ensures.0 ∙ star) in
    let new = c.triangles_moved.ensures ∙ ap (moved_tris v) (c.deref-2.ensures.0 ∙ star) in
    let P : List Tri → Type 0 = λ g. CanExchange g c.triangles_moved.new.tris.items m.tris × (exchanged g c.triangles_moved.new.tris.items m.tris ≡ (contracted m u v).tris) in
    let Q : List Tri → Type 0 = λ l. CanExchange (star_tris u (spokes_of m u)) l m.tris × (exchanged (star_tris u (spokes_of m u)) l m.tris ≡ (contracted m u v).tris) in
    change-from m n (Contract u v) c.triangles_of.new.tris.items c.triangles_moved.new.tris.items (λ can. subst P (sym removed) (subst Q (sym new) (contract-exchange m can.chunk u v k.conforming can.passes)))
