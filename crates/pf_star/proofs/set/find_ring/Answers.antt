use Rattle.std.proofs.Common.{◌∙◌, sym, ap}
use Rattle.pf_star.proofs.Places.{none-held, held-found}
use Rattle.pf_star.proofs.set.find_ring.Goals as goal

pub returns-then-not-is_at : goal.returns-then-not-is_at
returns-then-not-is_at c = sym (none-held c.args.n c.args.pairs.now c.place-at.result c.requires c.place-at.ensures (c.is_at.ensures.absent c.if-not-is_at.true)).0

pub returns : goal.returns
returns c =
    let at = c.is_at.ensures.there c.if-not-is_at.false in
    let x = c.index-pairs-at.result in
    c.ring_of.ensures ∙ (c.star.ensures ∙ (ap (λ h. h.star) c.index-pairs-at.is ∙ sym (held-found c.args.n c.args.pairs.now c.place-at.result x c.requires at.within (at.node x)).0))
