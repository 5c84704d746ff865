use Rattle.std.proofs.Common.{◌≡◌, ◌<◌, ◌+◌, ◌-◌, ◌∷◌, true, refl, sym, ap, ◌∙◌, set, arith}
use Rattle.std.specs.Prelude.{Option, map}
use Rattle.pf_model.specs.Stars.{Star}
use Rattle.pf_core.specs.Tables.{node_at, held_node}
use Rattle.pf_core_model.specs.Sharers.{kept_in}
use Rattle.pf_core.specs.Gates.{can_lock}
use Rattle.pf_core.proofs.Kept.{few_held}
use Rattle.pf_core.proofs.Locking.{lock_ignored, lock_taken}
use Rattle.pf_core.proofs.lock.lock.Goals as goal

pub returns-then-not-is_lockable-clause-took : goal.returns-then-not-is_lockable-clause-took
returns-then-not-is_lockable-clause-took c = lock_ignored c.args.s.now c.args.a c.args.n
    ((λ i. can_lock (sym c.deref.ensures.value i) (sym c.deref-2.ensures.value i) c.args.a c.args.n) ∙ sym c.is_lockable.ensures ∙ c.if-not-is_lockable.true)

pub count_one-requires-clause-room : goal.count_one-requires-clause-room
count_one-requires-clause-room c = let z = few_held c.args.s.now c.args.a c.requires.sound c.requires.actor in omega arith

pub returns-clause-took : goal.returns-clause-took
returns-clause-took c = lock_taken c.args.s.now _ c.args.a c.args.n
    ((λ i. can_lock (sym c.deref.ensures.value i) (sym c.deref-2.ensures.value i) c.args.a c.args.n) ∙ sym c.is_lockable.ensures ∙ c.if-not-is_lockable.false)
    record { first_new = refl; chunks = refl; bands = refl } refl
    (c.hold.ensures ∙ ap (λ (x : Option Star). set c.args.s.now.nodes.items c.args.n (held_node c.args.a x (node_at c.args.s.now.nodes.items c.args.n)))
    (c.in_ok-star.ensures ∙ (λ i. kept_in (node_at (c.deref-3.ensures.value i) c.args.n).list)))
    c.count_one.ensures
