use Rattle.std.proofs.Common.{◌≡◌, ◌∙◌, ℕ, List, refl, sym, ap, subst}
use Rattle.std.specs.Prelude.{min, max}
use Rattle.pf_model.specs.declared.Tri.{Tri}
use Rattle.pf_model.specs.declared.Op.TheVariants.{Bisect}
use Rattle.pf_model.specs.Applied.{bisected}
use Rattle.pf_model.specs.Exchange.{CanExchange, exchanged}
use Rattle.pf_rules.proofs.BisectExchange.{bisect-exchange, wholes_at, halves_at}
use Rattle.pf_rules.proofs.Changes.{change-from}
use Rattle.pf_rules.proofs.bisect.bisect_change.Goals as goal

pub returns : goal.returns
returns c = λ m ok edge_sides.
    let n = c.args.n in
    let a = c.args.a in
    let b = c.args.b in
    let rising = c.rising-rising.ensures.shown m.tris edge_sides in
    let removed : c.halve-2.new.removed.items ≡ wholes_at m (min a b) (max a b) = rw (c.halve-2.ensures.removed, c.halve.ensures.removed, c.clear.ensures, rising.on_left, rising.on_right, c.min-lo.ensures, c.max-hi.ensures) refl in
    let new : c.halve-2.new.new.items ≡ halves_at m n (min a b) (max a b) = rw (c.halve-2.ensures.new, c.halve.ensures.new, c.clear-2.ensures, rising.on_left, rising.on_right, c.min-lo.ensures, c.max-hi.ensures) refl in
    let after = (bisected m n (min a b) (max a b)).tris in
    let P : List Tri → Type 0 = λ g. CanExchange g (halves_at m n (min a b) (max a b)) m.tris × (exchanged g (halves_at m n (min a b) (max a b)) m.tris ≡ after) in
    let Q : List Tri → Type 0 = λ l. CanExchange c.halve-2.new.removed.items l m.tris × (exchanged c.halve-2.new.removed.items l m.tris ≡ after) in
    change-from m n (Bisect a b) c.halve-2.new.removed.items c.halve-2.new.new.items (λ can.
    let h = subst Q (sym new) (subst P (sym removed) (bisect-exchange m can.chunk can.ticket a b n ok can.fresh can.name can.passes)) in
    (h.0, h.1 ∙ sym (ap (λ (i : ℕ). (bisected m i (min a b) (max a b)).tris) can.name)))
