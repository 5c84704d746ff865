use Rattle.std.proofs.Common.{sym, ◌∙◌, refl, vec_capacity}
use Rattle.pf_apply.proofs.RunLemmas.{can-apply, reached-more, reached-roomier}
use Rattle.pf_apply.proofs.run.step.Goals as goal

pub perform-requires : goal.perform-requires
perform-requires c =
    let r = c.requires.reached.reached in
    let m = c.requires.reached.mesh in
    let p = sym (c.entry_refusal.ensures.refusal m r.kept r.bands_are) ∙ c.in_default.is in
    record { mesh = m; kept = r.kept; can = can-apply c.args.table.now.sides c.args.table.now.nodes.items c.args.bands.now c.args.first_new (vec_capacity c.args.sites.now) (vec_capacity c.args.tris.now) m c.args.entry.now r p; change = c.entry_refusal.ensures.change m r.kept c.in_default.is }

pub returns-in-Ok-perform-clause-applied : goal.returns-in-Ok-perform-clause-applied
returns-in-Ok-perform-clause-applied c = λ m r.
    let old = c.args.table.now in
    let new = c.perform.new.table in
    let e = c.args.entry.now in
    let p = sym (c.entry_refusal.ensures.refusal m r.kept r.bands_are) ∙ c.in_default.is in
    let change = c.entry_refusal.ensures.change m r.kept c.in_default.is in
    let can = can-apply old.sides old.nodes.items c.args.bands.now c.args.first_new (vec_capacity c.args.sites.now) (vec_capacity c.args.tris.now) m e r p in
    (p, reached-more old.sides new.sides old.nodes.items new.nodes.items c.args.bands.now c.args.first_new (vec_capacity c.args.sites.now) (vec_capacity c.args.tris.now) (vec_capacity c.make_room.new.sites) (vec_capacity c.make_room.new.tris) m e c.entry_refusal.new.scratch.change.removed.items c.entry_refusal.new.scratch.change.new.items r p (c.in-Ok-perform.ensures.applied m r.kept can change) (change.makes can) c.in-Ok-perform.ensures.few c.in-Ok.ensures.sites_fit (c.in-Ok.ensures.tris_fit m.tris r.kept.shows.triangles))

pub returns-in-Err-perform-clause-stopped : goal.returns-in-Err-perform-clause-stopped
returns-in-Err-perform-clause-stopped c = λ m r.
    let old = c.args.table.now in
    let new = c.perform.new.table in
    let e = c.args.entry.now in
    let p = sym (c.entry_refusal.ensures.refusal m r.kept r.bands_are) ∙ c.in_default.is in
    let can = can-apply old.sides old.nodes.items c.args.bands.now c.args.first_new (vec_capacity c.args.sites.now) (vec_capacity c.args.tris.now) m e r p in (
      record { why = λ other. absurd (other refl); memory = λ same. p },
      reached-roomier old.sides old.nodes.items c.args.bands.now c.args.first_new e.ticket (vec_capacity c.args.sites.now) (vec_capacity c.args.tris.now) (vec_capacity c.make_room.new.sites) (vec_capacity c.make_room.new.tris) m r new.sides new.nodes.items (c.in-Err-perform.ensures.err m r.kept can) c.make_room.ensures.sites_stay c.make_room.ensures.tris_stay,
    )
