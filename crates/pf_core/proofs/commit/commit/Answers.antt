use Rattle.std.proofs.Common.{◌≡◌, ℕ, ◌<◌, ◌≤◌, ◌+◌, ◌-◌, List, [], ◌∷◌, ◌++◌, Bool, true, false, not, ◌&&◌, ◌==◌, nat_lt, refl, sym, ap, ◌∙◌, set, length, take, drop, subst, suc, arith, rules, add-one, append_assoc}
use Rattle.std.specs.Prelude.{Option, Contains}
use Rattle.pf_model.specs.declared.Entry.{Entry}
use Rattle.pf_model.specs.Stars.{Star}
use Rattle.pf_star_model.specs.Lent.{Held, IsShown}
use Rattle.pf_star_model.specs.Laws.{AreEndsShown}
use Rattle.pf_star_model.specs.Patched.{patch_of}
use Rattle.pf_core_model.specs.declared.event.Owed.{Owed}
use Rattle.pf_dues.specs.Owed.{owed_all}
use Rattle.pf_core.specs.declared.tables.Node.{Node}
use Rattle.pf_core.specs.declared.tables.Seat.{Seat}
use Rattle.pf_core.specs.Tables.{seat_at, star_seen}
use Rattle.pf_core.specs.Gates.{can_commit, IsShownTo}
use Rattle.pf_core.specs.Making.{committed_seat}
use Rattle.pf_core.proofs.Kept.{actor_of_lead, few_held}
use Rattle.pf_core.proofs.Committing.{commit_ignored, commit_taken, commit_near}
use Rattle.pf_core.proofs.commit.commit.Goals as goal

pub returns-then-not-is_committable-clause-took : goal.returns-then-not-is_committable-clause-took
returns-then-not-is_committable-clause-took c = commit_ignored c.args.s.now c.args.a c.args.chunk c.args.op c.is_committable.result
    (λ m shown. c.is_committable.ensures m (subst (λ (p : List Node). IsShownTo p c.deref-2.result.now c.args.a c.args.op m) (sym c.deref.ensures.value) (subst (λ (q : List Seat). IsShownTo c.args.s.now.nodes.items q c.args.a c.args.op m) (sym c.deref-2.ensures.value) shown))
    ∙ (λ i. can_commit (c.deref.ensures.value i) (c.deref-2.ensures.value i) (c.deref-3.ensures.value i) c.args.a c.args.chunk c.args.op))
    c.if-not-is_committable.true

pub put_stars-requires : goal.put_stars-requires
put_stars-requires c = commit_near c.args.s.now c.args.a c.args.chunk c.args.op c.is_committable.result (c.args.s.now.first_new + c.len-ticket.result) c.in_ok-fresh.fresh.items
    (actor_of_lead c.args.s.now c.args.a c.requires.sound c.requires.actor)
    (λ m shown. c.is_committable.ensures m (subst (λ (p : List Node). IsShownTo p c.deref-2.result.now c.args.a c.args.op m) (sym c.deref.ensures.value) (subst (λ (q : List Seat). IsShownTo c.args.s.now.nodes.items q c.args.a c.args.op m) (sym c.deref-2.ensures.value) shown))
    ∙ (λ i. can_commit (c.deref.ensures.value i) (c.deref-2.ensures.value i) (c.deref-3.ensures.value i) c.args.a c.args.chunk c.args.op))
    c.if-not-is_committable.false (let z = c.len-ticket.ensures in omega (arith, c.args.s.now.log.ok))
    (λ m chunk ticket can ends whole named small.
    let q : star_seen c.deref-4.result.now c.deref-5.result.now c.args.a ≡ star_seen c.args.s.now.nodes.items c.args.s.now.seats.items c.args.a = (λ i. star_seen (c.deref-4.ensures.value i) (c.deref-5.ensures.value i) c.args.a) in
    c.in_ok-fresh.ensures m chunk ticket can (subst (λ (l : ℕ → Option Star). AreEndsShown l m c.args.op) (sym q) ends) (λ n h. subst (λ (l : ℕ → Option Star). IsShown l m n) (sym q) (whole n h)) named small
    ∙ ap (λ (l : ℕ → Option Star). patch_of l (c.args.s.now.first_new + c.len-ticket.result) c.args.op) q)

pub count_operation-requires-clause-room : goal.count_operation-requires-clause-room
count_operation-requires-clause-room c = let z = few_held c.args.s.now c.args.a c.requires.sound c.requires.actor in omega arith

pub returns-clause-took : goal.returns-clause-took
returns-clause-took c = commit_taken c.args.s.now _ c.args.a c.args.chunk c.args.op c.is_committable.result c.len-ticket.result (c.args.s.now.first_new + c.len-ticket.result) c.in_ok-fresh.fresh.items
    (λ m shown. c.is_committable.ensures m (subst (λ (p : List Node). IsShownTo p c.deref-2.result.now c.args.a c.args.op m) (sym c.deref.ensures.value) (subst (λ (q : List Seat). IsShownTo c.args.s.now.nodes.items q c.args.a c.args.op m) (sym c.deref-2.ensures.value) shown))
    ∙ (λ i. can_commit (c.deref.ensures.value i) (c.deref-2.ensures.value i) (c.deref-3.ensures.value i) c.args.a c.args.chunk c.args.op))
    c.if-not-is_committable.false record { first_new = refl; chunks = refl; bands = refl } (let z = c.len-ticket.ensures in omega (arith, c.args.s.now.log.ok)) (let z = c.len-ticket.ensures in omega (arith, c.args.s.now.log.ok))
    (λ m chunk ticket can ends whole named small.
    let q : star_seen c.deref-4.result.now c.deref-5.result.now c.args.a ≡ star_seen c.args.s.now.nodes.items c.args.s.now.seats.items c.args.a = (λ i. star_seen (c.deref-4.ensures.value i) (c.deref-5.ensures.value i) c.args.a) in
    c.in_ok-fresh.ensures m chunk ticket can (subst (λ (l : ℕ → Option Star). AreEndsShown l m c.args.op) (sym q) ends) (λ n h. subst (λ (l : ℕ → Option Star). IsShown l m n) (sym q) (whole n h)) named small
    ∙ ap (λ (l : ℕ → Option Star). patch_of l (c.args.s.now.first_new + c.len-ticket.result) c.args.op) q)
    (c.push_reserved.ensures.items ∙ ap (λ (l : List Entry). l ++ record { ticket = c.len-ticket.result; chunk = c.args.chunk; op = c.args.op } ∷ []) c.reserve.ensures.items)
    c.put_stars.ensures
    (c.count_operation.ensures ∙ ap (λ (l : List Owed). set c.args.s.now.seats.items c.args.a (committed_seat c.args.op (c.args.s.now.first_new + c.len-ticket.result) l (seat_at c.args.s.now.seats.items c.args.a)))
    (c.in_ok-owed.ensures ∙ (λ i. owed_all (star_seen (c.deref-6.ensures.value i) (c.deref-7.ensures.value i) c.args.a) (c.deref-8.ensures.value i))))
