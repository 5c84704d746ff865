use Rattle.std.proofs.Common.{ℕ, vec_capacity}
use Rattle.pf_model.specs.declared.Entry.{Entry}
use Rattle.pf_model.specs.declared.Op.TheVariants.{Flip}
use Rattle.pf_model.specs.Mesh.{Undivided}
use Rattle.pf_apply.specs.Run.{IsReached}
use Rattle.pf_apply.proofs.RunLemmas.{tickets-at, run-more}
use Rattle.pf_apply.proofs.run.run_entries.Goals as goal

pub loop-entry-preserved : goal.loop-entry-preserved
loop-entry-preserved c =
    let es = c.args.entries.now in
    let i = c.loop-entry.entry-index in
    let none : Entry = record { ticket = 0; chunk = 0; op = Flip 0 0 } in
    let old = c.loop-entry.table in
    let new = c.step.new.table in
    let inv = c.loop-entry.invariant in
    let t = tickets-at es i none c.loop-entry-test.true inv.2 in
    let R : ℕ → Undivided → Type 0 = λ k n. IsReached old.sides old.nodes.items c.args.bands.now c.args.first_new k (vec_capacity c.loop-entry.sites) (vec_capacity c.loop-entry.tris) n in
    let S : ℕ → Undivided → Type 0 = λ k n. IsReached new.sides new.nodes.items c.args.bands.now c.args.first_new k (vec_capacity c.step.new.sites) (vec_capacity c.step.new.tris) n in
    (c.step.ensures.no_sites, c.step.ensures.no_tris, t.1, λ m r. run-more R S m es i none c.loop-entry-test.true t.0 c.in-Ok.ensures.applied (inv.3 m r))
