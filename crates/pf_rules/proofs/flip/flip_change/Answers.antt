use Rattle.std.proofs.Common.{◌≡◌, ◌∙◌, ℕ, Some, refl, sym, ap}
use Rattle.std.specs.Prelude.{min, max}
use Rattle.pf_model.specs.declared.Op.TheVariants.{Flip}
use Rattle.pf_model.specs.Mesh.{side_of}
use Rattle.pf_model.specs.Exchange.{two_of, turned_of}
use Rattle.pf_rules.proofs.FlipExchange.{flip-exchange-named}
use Rattle.pf_rules.proofs.Changes.{change-from}
use Rattle.pf_rules.proofs.flip.flip_change.Goals as goal

pub returns : goal.returns
returns c = λ m n ok edge_sides.
    let a = c.args.a in
    let b = c.args.b in
    let lo = c.min-lo.result in
    let hi = c.max-hi.result in
    let l = c.in-Some.left in
    let r = c.in-Some-right.right in
    let rising = c.rising-rising.ensures.shown m.tris edge_sides in
    let left : side_of m.tris lo hi ≡ Some l =
    ap (λ (i : ℕ). side_of m.tris i hi) c.min-lo.ensures ∙ (ap (side_of m.tris (min a b)) c.max-hi.ensures ∙ (sym rising.on_left ∙ c.in-Some.is))
    in
    let right : side_of m.tris hi lo ≡ Some r =
    ap (λ (i : ℕ). side_of m.tris i lo) c.max-hi.ensures ∙ (ap (side_of m.tris (max a b)) c.min-lo.ensures ∙ (sym rising.on_right ∙ c.in-Some-right.is))
    in
    let removed : two_of lo hi l r ≡ c.push-2.new.self.items = rw (c.push-2.ensures.items, c.push.ensures.items, c.clear.ensures, c.least_first.ensures, c.least_first-2.ensures) refl in
    let new : turned_of lo hi l r ≡ c.push-4.new.self.items = rw (c.push-4.ensures.items, c.push-3.ensures.items, c.clear-2.ensures, c.least_first-3.ensures, c.least_first-4.ensures) refl in
    change-from m n (Flip a b) c.push-2.new.self.items c.push-4.new.self.items (λ can. flip-exchange-named m can.chunk a b lo hi l r c.push-2.new.self.items c.push-4.new.self.items (sym c.min-lo.ensures) (sym c.max-hi.ensures) ok can.passes left right removed new)
