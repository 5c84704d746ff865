use Rattle.std.proofs.Common.{refl, sym, ◌∙◌, inl}
use Rattle.pf_core_model.specs.Core.{mesh_after}
use Rattle.pf_plain.specs.Plains.{opening_of}
use Rattle.pf_plain.specs.PlainLaws.{some_star, none_star, won_pairs, won_near, won_plain, known_below, unknown_never, near_not_none, alone_none}
use Rattle.pf_model.specs.Stars.{star_of}
use Rattle.pf_plain.proofs.holding.PlainHolder.hold.Goals as goal

pub invariant_of-self : goal.invariant_of-self
invariant_of-self c =
    let h = c.args.self.now in
    let m = mesh_after (opening_of h.mesh.mesh h.budget) h.journal.items in
    let s = some_star (star_of m c.args.n) (sym c.is_live.ensures ∙ c.if-is_live.true) in
    record { plain = won_plain (opening_of h.mesh.mesh h.budget) h.journal.items h.nodes.items c.insert.new.self.items h.allowance c.args.n s.0 c.insert.ensures.items s.1 h.plain; stars_are = h.stars_are; long = h.long; room = h.room; count = h.count; small = h.small }

pub returns-then-is_live-clause-told : goal.returns-then-is_live-clause-told
returns-then-is_live-clause-told c =
    let h = c.args.self.now in
    let m = mesh_after (opening_of h.mesh.mesh h.budget) h.journal.items in
    let s = some_star (star_of m c.args.n) (sym c.is_live.ensures ∙ c.if-is_live.true) in
    (won_near (opening_of h.mesh.mesh h.budget) h.journal.items h.nodes.items h.allowance c.args.n s.0 h.plain s.1, (s.0, won_pairs m c.insert.new.self.items h.nodes.items c.args.n s.0 c.insert.ensures.items s.1))

pub returns-then-is_known-clause-told : goal.returns-then-is_known-clause-told
returns-then-is_known-clause-told c =
    let h = c.args.self.now in
    let o = opening_of h.mesh.mesh h.budget in
    let l = h.journal.items in
    (refl, (known_below o l h.nodes.items h.allowance c.args.n h.plain (sym c.is_known.ensures ∙ c.if-is_known.true), none_star (star_of (mesh_after o l) c.args.n) (sym c.is_live.ensures ∙ c.if-is_live.false)))

pub returns-then-is_known-clause-near : goal.returns-then-is_known-clause-near
returns-then-is_known-clause-near c =
    let h = c.args.self.now in
    let o = opening_of h.mesh.mesh h.budget in
    let l = h.journal.items in
    λ k. near_not_none o l h.nodes.items h.allowance c.args.n h.plain (none_star (star_of (mesh_after o l) c.args.n) (sym c.is_live.ensures ∙ c.if-is_live.false)) k

pub returns-then-is_known-clause-alone : goal.returns-then-is_known-clause-alone
returns-then-is_known-clause-alone c =
    let h = c.args.self.now in
    let o = opening_of h.mesh.mesh h.budget in
    let l = h.journal.items in
    λ a. alone_none o l h.nodes.items h.allowance c.args.n h.plain (none_star (star_of (mesh_after o l) c.args.n) (sym c.is_live.ensures ∙ c.if-is_live.false))

pub returns-else-is_known-clause-told : goal.returns-else-is_known-clause-told
returns-else-is_known-clause-told c =
    let h = c.args.self.now in
    let o = opening_of h.mesh.mesh h.budget in
    let l = h.journal.items in
    (refl, inl (unknown_never o l h.nodes.items h.allowance c.args.n h.plain (sym c.is_known.ensures ∙ c.if-is_known.false)))

pub returns-else-is_known-clause-near : goal.returns-else-is_known-clause-near
returns-else-is_known-clause-near c =
    let h = c.args.self.now in
    let o = opening_of h.mesh.mesh h.budget in
    let l = h.journal.items in
    λ k. near_not_none o l h.nodes.items h.allowance c.args.n h.plain (none_star (star_of (mesh_after o l) c.args.n) (sym c.is_live.ensures ∙ c.if-is_live.false)) k

pub returns-else-is_known-clause-alone : goal.returns-else-is_known-clause-alone
returns-else-is_known-clause-alone c =
    let h = c.args.self.now in
    let o = opening_of h.mesh.mesh h.budget in
    let l = h.journal.items in
    λ a. alone_none o l h.nodes.items h.allowance c.args.n h.plain (none_star (star_of (mesh_after o l) c.args.n) (sym c.is_live.ensures ∙ c.if-is_live.false))
