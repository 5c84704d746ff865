use Rattle.std.proofs.Common.{◌≡◌, ◌≤◌, ◌-◌, ◌<◌, List, ◌∷◌, length, drop, get_or, sym, ◌∙◌, ap, subst, arith}
use Rattle.pf_model.specs.declared.Tri.{Tri}
use Rattle.pf_model.specs.Rising.{IsRising, insert_by, insert_all_by}
use Rattle.pf_model.specs.Mesh.{tri_lt}
use Rattle.pf_model.specs.Exchange.{AreFit, SharesNoEdge}
use Rattle.pf_edges.proofs.TableSteps.{fit-drop, drop_last}
use Rattle.pf_apply.proofs.ListingLemmas.{rising-fit}
use Rattle.pf_apply.proofs.listing.enter_all.Goals as goal

pub loop-left-preserved : goal.loop-left-preserved
loop-left-preserved c =
    let new = c.args.new.now in
    let ts = c.args.tris.now.items in
    let k = c.loop-left.left in
    let none : Tri = record { a = 0; b = 0; c = 0; owner = 0 } in
    let t = get_or new (k - 1) none in
    let some : 0 < k = omega arith in
    let within : k ≤ length new = c.loop-left.invariant.1 in
    let e : drop (k - 1) new ≡ t ∷ drop k new = drop_last new k none some within in
    let f : AreFit (t ∷ drop k new) ts = subst (λ l. AreFit l ts) e (fit-drop (k - 1) new ts c.requires.fit) in
    let now = c.loop-left.invariant.4 in
    let S : List Tri → Type 0 = λ l. SharesNoEdge t l in
    let Q : List Tri → Type 0 = λ l. IsRising tri_lt l in
    let len = c.enter_listed.ensures.len in
    let room = c.loop-left.invariant.2 in
    let cap = c.enter_listed.ensures.capacity in
    let cap' = c.loop-left.invariant.3 in (
      subst Q (sym c.enter_listed.ensures.entered) (rising-fit t c.loop-left.tris.items c.loop-left.invariant.0 (subst S (sym now) f.1)),
      omega (arith, within),
      omega (arith, len, room, some),
      omega (arith, cap, cap'),
      c.enter_listed.ensures.entered ∙ (ap (insert_by tri_lt t) now ∙ ap (λ l. insert_all_by tri_lt l ts) (sym e)),
    )
