use Rattle.pf_plain.specs.Plains.{opening_of}
use Rattle.pf_plain.specs.PlainLaws.{mark_noted, asked_told}
use Rattle.pf_plain.proofs.holding.PlainHolder.note.Goals as goal

pub returns-clause-mark : goal.returns-clause-mark
returns-clause-mark c =
    let h = c.args.self.now in
    mark_noted (opening_of h.mesh.mesh h.budget) h.journal.items h.nodes.items c.seen.result c.seen.ensures _ (λ n f. f.1)

pub returns-clause-told : goal.returns-clause-told
returns-clause-told c =
    let h = c.args.self.now in
    asked_told (opening_of h.mesh.mesh h.budget) h.journal.items h.nodes.items h.allowance c.seen.result c.seen.ensures h.plain c.args.asked
