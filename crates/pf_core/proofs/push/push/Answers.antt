use Rattle.std.proofs.Common.{◌≡◌, ◌<◌, ◌+◌, ◌-◌, List, ◌∷◌, true, refl, sym, ap, ◌∙◌, set, arith}
use Rattle.std.specs.Prelude.{Option, map}
use Rattle.pf_model.specs.Stars.{Star}
use Rattle.pf_star_model.specs.Copies.{due_copy}
use Rattle.pf_core_model.specs.Sharers.{put_copy}
use Rattle.pf_core.specs.declared.tables.Node.{Node}
use Rattle.pf_core.specs.Tables.{node_at, listed_node}
use Rattle.pf_core.specs.Gates.{can_push}
use Rattle.pf_core.proofs.Kept.{actor_of_lead}
use Rattle.pf_core.proofs.Moves.{stays_as}
use Rattle.pf_core.proofs.Pushing.{push_ignored, push_taken, push_near}
use Rattle.pf_core.proofs.push.push.Goals as goal

pub returns-then-not-is_owed-clause-took : goal.returns-then-not-is_owed-clause-took
returns-then-not-is_owed-clause-took c = push_ignored c.args.s.now c.args.a c.args.chunk c.args.n ((λ i. can_push (sym c.deref.ensures.value i) c.args.a c.args.chunk c.args.n) ∙ sym c.is_owed.ensures ∙ c.if-not-is_owed.true)

pub due_at-requires : goal.due_at-requires
due_at-requires c = let r = actor_of_lead c.args.s.now c.args.a c.requires.sound c.requires.actor in
    let z = push_near r.opening r.state c.args.s.now r.shown c.args.a c.args.chunk c.args.n r.place r.found ((λ i. can_push (sym c.deref.ensures.value i) c.args.a c.args.chunk c.args.n) ∙ sym c.is_owed.ensures ∙ c.if-not-is_owed.false) in
    let y = c.deref-2.ensures.len in omega (arith, c.args.s.now.nodes.ok)

pub put_in-requires : goal.put_in-requires
put_in-requires c = let r = actor_of_lead c.args.s.now c.args.a c.requires.sound c.requires.actor in
    push_near r.opening r.state c.args.s.now r.shown c.args.a c.args.chunk c.args.n r.place r.found ((λ i. can_push (sym c.deref.ensures.value i) c.args.a c.args.chunk c.args.n) ∙ sym c.is_owed.ensures ∙ c.if-not-is_owed.false)

pub returns-in-Ok-clause-took : goal.returns-in-Ok-clause-took
returns-in-Ok-clause-took c = push_taken c.args.s.now _ c.args.a c.args.chunk c.args.n ((λ i. can_push (sym c.deref.ensures.value i) c.args.a c.args.chunk c.args.n) ∙ sym c.is_owed.ensures ∙ c.if-not-is_owed.false)
    record { first_new = refl; chunks = refl; bands = refl } refl
    (c.in-Ok.ensures.put ∙ ap (λ (x : Option Star). set c.args.s.now.nodes.items c.args.n (listed_node (put_copy c.args.chunk x (node_at c.args.s.now.nodes.items c.args.n).list) (node_at c.args.s.now.nodes.items c.args.n)))
    (c.in_ok-copy.ensures ∙ ap (λ (l : List Node). due_copy c.args.chunk (node_at l c.args.n).star) c.deref-2.ensures.value))
    c.pay.ensures

pub returns-in-Err-clause-same : goal.returns-in-Err-clause-same
returns-in-Err-clause-same c = stays_as c.args.s.now _ record { first_new = refl; chunks = refl; bands = refl } refl c.in-Err.ensures.same refl
