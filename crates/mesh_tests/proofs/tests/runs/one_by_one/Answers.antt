use Rattle.std.proofs.Common.{◌+◌, get_or, sym, ◌∙◌, ap, subst, arith}
use Rattle.pf_model.specs.declared.Entry.{Entry}
use Rattle.pf_model.specs.declared.Op.TheVariants.{Flip}
use Rattle.pf_model.specs.Mesh.{Undivided}
use Rattle.pf_model.specs.Applied.{IsFresh}
use Rattle.pf_model.proofs.ReplayKeeps.{applied_fresh}
use Rattle.mesh_tests.proofs.Tickets.{tickets-at, first-after}
use Rattle.mesh_tests.proofs.tests.runs.one_by_one.Goals as goal

pub apply-requires-clause-fresh : goal.apply-requires-clause-fresh
apply-requires-clause-fresh c =
    let t = tickets-at c.args.entries.now c.loop-entry.entry-index record { ticket = 0; chunk = 0; op = Flip 0 0 } c.loop-entry-test.true c.loop-entry.invariant.2 in
    subst (λ k. IsFresh c.loop-entry.mesh.mesh k) (sym t.0) c.loop-entry.invariant.1

pub apply-requires-clause-named : goal.apply-requires-clause-named
apply-requires-clause-named c =
    let t = tickets-at c.args.entries.now c.loop-entry.entry-index record { ticket = 0; chunk = 0; op = Flip 0 0 } c.loop-entry-test.true c.loop-entry.invariant.2 in
    let ticket = t.0 in
    let first = c.loop-entry.invariant.0 in
    let test = c.loop-entry-test.true in
    let named = c.requires.named in
    omega (arith, ticket, first, test, named)

pub loop-entry-preserved : goal.loop-entry-preserved
loop-entry-preserved c =
    let i = c.loop-entry.entry-index in
    let e : Entry = get_or c.args.entries.now i record { ticket = 0; chunk = 0; op = Flip 0 0 } in
    let m = c.loop-entry.mesh.mesh in
    let inv = c.loop-entry.invariant in
    let t = tickets-at c.args.entries.now i record { ticket = 0; chunk = 0; op = Flip 0 0 } c.loop-entry-test.true inv.2 in
    let ticket = t.0 in
    let now : IsFresh m e.ticket = subst (λ k. IsFresh m k) (sym ticket) inv.1 in
    let first = first-after m e.ticket e.op in
    let same = c.in-Ok.ensures.applied in
    let F : Undivided → Type 0 = λ n. IsFresh n (i + 1) in (
      ap (λ (n : Undivided). n.first_new) same ∙ (first ∙ inv.0),
      subst F (sym same) (λ n l. (let a = applied_fresh m e.ticket e.op now n l in omega (arith, a, ticket))),
      t.1,
    )
