use Rattle.std.proofs.Common.{◌≡◌, suc, ◌+◌, ◌-◌, [], ◌∷◌, ◌++◌, length, refl, ap, ◌∙◌, arith, length-append}
use Rattle.pf_model.specs.declared.Entry.{Entry}
use Rattle.pf_plain.specs.Plains.{opening_of}
use Rattle.pf_plain.specs.PlainLaws.{made_plain}
use Rattle.pf_plain.proofs.Commits.{spread_plain, places_low}
use Rattle.pf_plain.proofs.holding.PlainHolder.commit.Goals as goal

pub spread-requires : goal.spread-requires
spread-requires c = λ l i.
    let h = c.args.self.now in
    let named : c.first_new.result + c.seen-ticket.result ≡ h.mesh.mesh.first_new + length h.journal.items = λ k. c.first_new.ensures.value k + c.seen-ticket.ensures k in
    let low = places_low (opening_of h.mesh.mesh h.budget) h.journal.items h.nodes.items h.allowance c.args.chunk (c.first_new.result + c.seen-ticket.result) c.args.op c.args.ready c.requires.rich named c.requires.passes c.requires.cavity c.requires.ready h.plain l i in
    let long = h.long in
    omega (arith, low, long)

pub push_entry-requires : goal.push_entry-requires
push_entry-requires c =
    let h = c.args.self.now in
    let rich = c.requires.rich in
    let room = h.room in
    let count = h.count in
    let ok = h.journal.ok in
    omega (arith, rich, room, count, ok)

pub invariant_of-self : goal.invariant_of-self
invariant_of-self c =
    let h = c.args.self.now in
    let rich = c.requires.rich in
    let one : h.allowance ≡ suc (h.allowance - 1) = omega (arith, rich) in
    let e : Entry = record { ticket = length h.journal.items; chunk = c.args.chunk; op = c.args.op } in
    let log : c.push_entry.new.journal.items ≡ h.journal.items ++ e ∷ [] = c.push_entry.ensures.pushed ∙ (λ k. h.journal.items ++ record { ticket = c.seen-ticket.ensures k; chunk = c.args.chunk; op = c.args.op } ∷ []) in
    let named : c.first_new.result + c.seen-ticket.result ≡ h.mesh.mesh.first_new + length h.journal.items = λ k. c.first_new.ensures.value k + c.seen-ticket.ensures k in
    let room = h.room in
    let more = c.push_entry.ensures.capacity in
    let count = h.count in
    let grown = ap length log in
    let added = length-append h.journal.items (e ∷ []) in
    record {
      plain = made_plain (opening_of h.mesh.mesh h.budget) (opening_of h.mesh.mesh h.budget) h.journal.items c.push_entry.new.journal.items h.nodes.items h.allowance (h.allowance - 1) c.args.chunk c.args.op refl log one c.requires.passes h.plain;
      stars_are = spread_plain (opening_of h.mesh.mesh h.budget) h.journal.items c.push_entry.new.journal.items h.nodes.items h.allowance c.args.chunk (c.first_new.result + c.seen-ticket.result) c.args.op c.args.ready h.stars.items c.spread.new.stars.items c.spread_puts_due.ensures c.requires.rich named log c.requires.passes c.requires.cavity c.requires.ready c.spread.ensures.put h.plain h.stars_are;
      long = c.spread.ensures.len ∙ h.long;
      room = omega (arith, room, more);
      count = omega (arith, count, grown, added, rich);
      small = h.small;
    }
