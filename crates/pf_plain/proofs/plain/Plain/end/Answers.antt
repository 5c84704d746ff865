use Rattle.std.proofs.Common.{List, sym, ap, subst, ◌∙◌}
use Rattle.pf_model.specs.declared.Entry.{Entry}
use Rattle.pf_model.specs.Replay.{HasTickets, replayed}
use Rattle.pf_plain.specs.Plains.{opening_of}
use Rattle.pf_plain.proofs.Begun.{tickets_now, history_now}
use Rattle.pf_plain.proofs.plain.Plain.end.Goals as goal

pub apply_all-requires-clause-tickets : goal.apply_all-requires-clause-tickets
apply_all-requires-clause-tickets c =
    let h = c.args.self in
    subst (λ (l : List Entry). HasTickets l) (sym c.deref.ensures.value) (tickets_now (opening_of h.mesh.mesh h.budget) h.journal.items h.nodes.items h.allowance h.plain)

pub returns-in-Ok-clause-mesh : goal.returns-in-Ok-clause-mesh
returns-in-Ok-clause-mesh c =
    let h = c.args.self in
    c.in-Ok.ensures.replayed ∙ ap (λ (l : List Entry). replayed h.mesh.mesh l) (c.deref.ensures.value ∙ sym (history_now (opening_of h.mesh.mesh h.budget) h.journal.items h.nodes.items h.allowance h.plain))

pub returns-in-Ok-clause-journal : goal.returns-in-Ok-clause-journal
returns-in-Ok-clause-journal c =
    let h = c.args.self in
    sym (history_now (opening_of h.mesh.mesh h.budget) h.journal.items h.nodes.items h.allowance h.plain)
