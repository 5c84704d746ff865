use Rattle.pf_plain.specs.Plains.{opening_of}
use Rattle.pf_plain.specs.PlainLaws.{back_plain}
use Rattle.pf_plain.proofs.holding.PlainHolder.give_back.Goals as goal

pub invariant_of-self : goal.invariant_of-self
invariant_of-self c =
    let h = c.args.self.now in
    record { plain = back_plain (opening_of h.mesh.mesh h.budget) h.journal.items h.nodes.items c.clear.new.self.items h.allowance c.clear.ensures h.plain; stars_are = h.stars_are; long = h.long; room = h.room; count = h.count; small = h.small }
