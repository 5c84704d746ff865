-- The history only grows: each event leaves it, or adds to its end.
use Rattle.std.proofs.Common.{◌≡◌, ◌≢◌, ℕ, zero, suc, ◌+◌, ◌-◌, ◌<◌, Bool, true, false, not, ◌==◌, ◌&&◌, nat_lt, List, [], ◌∷◌, ◌++◌, length, drop, set, refl, sym, ap, ◌∙◌, subst, inr, arith}
use Rattle.std.specs.Prelude.{Option, Some, None, is_some}
use Rattle.std.proofs.lemmas.List.{map-append}
use mathlib.Core.Option.{some, some-injective, some-ne-none}
use mathlib.Core.Logic.{dite}
use native.Mathlib.Decide.{ℕ_discrete}
use lib.ListN.{get_elem?}
use Rattle.std.proofs.lemmas.Bool.Decides.{nat_tests}
use Rattle.pf_model.specs.declared.Cond.{Cond}
use Rattle.pf_model.specs.declared.Entry.{Entry}
use Rattle.pf_core_model.specs.declared.view.View.{View}
use Rattle.pf_core_model.specs.declared.event.Asked.{Asked}
use Rattle.pf_core_model.specs.declared.event.Event.{Event}
use Rattle.pf_core_model.specs.declared.event.Event.TheVariants.{Split, Lock, Lost, Note, Commit, Push, Birth, Release, Bury, Join}
use Rattle.pf_core_model.specs.Lists.{In, times}
use Rattle.pf_core_model.specs.History.{entries_of}
use Rattle.pf_core_model.specs.Moves.{locked, lost_to, seen_at, failed_at, born, released, spares_in, left_of, right_of, both_of, spent_view}
use Rattle.pf_star_model.specs.Judged.{judged}
use Rattle.pf_core_model.specs.Sharers.{kept_in}
use Rattle.pf_core_model.specs.declared.event.Owed.{Owed}
use Rattle.std.specs.List.{list_any}
use Rattle.pf_core_model.specs.Core.{Opening, held_by, number_of, tickets_of, Homes, Sound}
use Rattle.pf_star_model.specs.Lent.{is_held, star_held}
use Rattle.pf_core_model.specs.State.{Actor, CoreState, view_in, views_of, homes_of, list_at, tickets_in, log_of, word_of, Found, found_from, is_nil, is_number_in, owes_of, is_owed, without_owed, is_clear, has_nothing, guarded, by_actor, can_put_back, can_judge, judge_step, can_make, note_step, commit_step, join_step, acted, actor_of, stepped, split_state, lock_state, lost_state, note_state, refuse_state, commit_state, push_state, birth_state, back_state, join_state, IsCore}
use Rattle.pf_core_model.proofs.Lists.{total_some, in_times, in_mapped, set_else, at_set_here, at_longer, at_map, map_set, in_left, in_right}
use Rattle.pf_core_model.proofs.Replays.{and_left, ticket_at}
use Rattle.pf_core_model.proofs.Histories.{at_below, entry_from, entry_among, history_is_log}
use Rattle.pf_core_model.proofs.StateLaws.{sound_in}
use Rattle.pf_core_model.proofs.Steps.{found_is, step_core}
use Rattle.pf_core_model.specs.Needs.{KeepsOutside}
use Rattle.pf_core_model.specs.Shown.{IsExtended}

-- the entries of a state
abbrev pub entered : CoreState → List Entry
entered s = entries_of (views_of s.actors)

-- where one view changes and keeps its entries, all entries stay
stay_set : (d : Entry) (actors : List Actor) (id : ℕ) (a b : Actor) → get_elem? actors id ≡ some a → (In d a.view.entries → In d b.view.entries) → In d (entries_of (views_of actors)) → In d (entries_of (views_of (set actors id b)))
stay_set d actors id a b at keeps h =
    let r = entry_from d (views_of actors) h in
    let was : get_elem? (views_of actors) id ≡ some a.view = at_map view_in actors id a at in
    let views : views_of (set actors id b) ≡ set (views_of actors) id b.view = map_set view_in actors id b in
    subst (λ (l : List View). In d (entries_of l)) (sym views)
    (dite (ℕ_discrete r.0 id)
    (λ e. entry_among d (set (views_of actors) id b.view) id b.view (at_set_here (views_of actors) id a.view b.view was)
    (keeps (subst (λ (v : View). In d v.entries) (some-injective r.1 a.view (sym r.2 ∙ ap (λ (k : ℕ). get_elem? (views_of actors) k) e ∙ was)) r.3)))
    (λ ne. entry_among d (set (views_of actors) id b.view) r.0 r.1 (set_else (views_of actors) id r.0 b.view ne ∙ r.2) r.3))

stay_longer : (d : Entry) (actors : List Actor) (b : Actor) → In d (entries_of (views_of actors)) → In d (entries_of (views_of (actors ++ b ∷ [])))
stay_longer d actors b h =
    let r = entry_from d (views_of actors) h in
    subst (λ (l : List View). In d (entries_of l)) (sym (map-append view_in actors (b ∷ []))) (entry_among d (views_of actors ++ b.view ∷ []) r.0 r.1 (at_longer (views_of actors) (b.view ∷ []) r.0 r.1 r.2) r.3)

stay_joined : (d : Entry) (actors : List Actor) (id other : ℕ) (a b : Actor) → get_elem? actors id ≡ some a → other ≢ id → get_elem? actors other ≡ some b → In d (entries_of (views_of actors))
    → In d (entries_of (views_of (set (set actors id (record { view = both_of a.view b.view; owed = [] })) other (record { view = spent_view; owed = [] }))))
stay_joined d actors id other a b at ne there h =
    let r = entry_from d (views_of actors) h in
    let c : Actor = record { view = both_of a.view b.view; owed = [] } in
    let z : Actor = record { view = spent_view; owed = [] } in
    let vs : List View = views_of actors in
    let was : get_elem? vs id ≡ some a.view = at_map view_in actors id a at in
    let there' : get_elem? vs other ≡ some b.view = at_map view_in actors other b there in
    let views : views_of (set (set actors id c) other z) ≡ set (set vs id c.view) other z.view = map_set view_in (set actors id c) other z ∙ ap (λ (l : List View). set l other z.view) (map_set view_in actors id c) in
    let here : get_elem? (set (set vs id c.view) other z.view) id ≡ some c.view = set_else (set vs id c.view) other id z.view (λ e. ne (sym e)) ∙ at_set_here vs id a.view c.view was in
    subst (λ (l : List View). In d (entries_of l)) (sym views)
    (dite (ℕ_discrete r.0 id)
    (λ e. entry_among d (set (set vs id c.view) other z.view) id c.view here (in_left d a.view.entries b.view.entries (subst (λ (v : View). In d v.entries) (some-injective r.1 a.view (sym r.2 ∙ ap (λ (k : ℕ). get_elem? vs k) e ∙ was)) r.3)))
    (λ n1. dite (ℕ_discrete r.0 other)
    (λ e. entry_among d (set (set vs id c.view) other z.view) id c.view here (in_right d a.view.entries b.view.entries (subst (λ (v : View). In d v.entries) (some-injective r.1 b.view (sym r.2 ∙ ap (λ (k : ℕ). get_elem? vs k) e ∙ there')) r.3)))
    (λ n2. entry_among d (set (set vs id c.view) other z.view) r.0 r.1 (set_else (set vs id c.view) other r.0 z.view n2 ∙ set_else vs id r.0 c.view n1 ∙ r.2) r.3)))

-- the entry is one of the state
record Entered (d : Entry) (s : CoreState) : Type 0 where
  pub inside : In d (entered s)

module _ (o : Opening) (s : CoreState) (d : Entry) (h : Entered d s) where
  stay_guarded : (b : Bool) (t : CoreState) (v : Option ℕ) → (b ≡ true → Entered d t) → Entered d (guarded b s t v).state
  stay_guarded true t v f = f refl
  stay_guarded false t v f = h

  module _ (f : Found) (at : get_elem? s.actors f.place ≡ some f.actor) where
    -- a new view that keeps the entries, or adds to them
    stay : (t : CoreState) (view : View) (owed : List Owed) → t.actors ≡ set s.actors f.place (record { view = view; owed = owed }) → (In d f.actor.view.entries → In d view.entries) → Entered d t
    stay t view owed e keeps = record { inside = subst (λ (l : List Actor). In d (entries_of (views_of l))) (sym e) (stay_set d s.actors f.place f.actor (record { view = view; owed = owed }) at keeps h.inside) }

    stay_judged : (asked : Asked) (x : Option Cond) → Entered d (judge_step (can_judge f.actor.view.held asked.chunk asked.op) s f (tickets_in o s) asked x).state
    stay_judged asked None = h
    stay_judged asked (Some why) = stay_guarded (can_judge f.actor.view.held asked.chunk asked.op) (refuse_state s f (tickets_in o s) asked.chunk asked.op why) (Some (tickets_in o s))
        (λ _. stay (refuse_state s f (tickets_in o s) asked.chunk asked.op why) (failed_at f.actor.view (tickets_in o s) asked.chunk asked.op why) f.actor.owed refl (λ k. k))

    stay_note : (asked : Option Asked) → Entered d (note_step o s f asked).state
    stay_note None = stay (note_state s f (tickets_in o s)) (seen_at f.actor.view (tickets_in o s)) f.actor.owed refl (λ k. k)
    stay_note (Some asked) = stay_judged asked (judged (star_held f.actor.view.held) o.mesh.bands asked.chunk asked.op)

    stay_join : (b : ℕ) (x : Option Found) → found_from b 0 s.actors ≡ x → Entered d (join_step s f x).state
    stay_join b None e = h
    stay_join b (Some g) e = stay_guarded (not (f.place == g.place) && (has_nothing f.actor && has_nothing g.actor)) (join_state s f g) None (λ k.
        let test = and_left (not (f.place == g.place)) (has_nothing f.actor && has_nothing g.actor) k in
        let far : g.place ≢ f.place = grind (arith, nat_tests) in
        record { inside = stay_joined d s.actors f.place g.place f.actor g.actor at far (found_is b s.actors g e).at h.inside })

    stay_acted : (event : Event) → Entered d (acted o s event f).state
    stay_acted (Split x b share) = stay_guarded (is_clear f.actor && (is_nil f.actor.view.held && (is_number_in b (spares_in f.actor.view.numbers) && not (nat_lt f.actor.view.allowance share)))) (split_state s f b share) None
        (λ _. record {
          inside = stay_longer d (set s.actors f.place (record { view = left_of b share f.actor.view; owed = f.actor.owed })) (record { view = right_of b share f.actor.view; owed = [] })
              (stay_set d s.actors f.place f.actor (record { view = left_of b share f.actor.view; owed = f.actor.owed }) at (λ k. k) h.inside);
        })
    stay_acted (Lock x n) = stay_guarded (is_clear f.actor && (word_of o s n == 0)) (lock_state s f n) None (λ _. stay (lock_state s f n) (locked f.actor.view n (kept_in (list_at s.lists n))) f.actor.owed refl (λ k. k))
    stay_acted (Lost x n) = stay_guarded (nat_lt 2 (word_of o s n) && not (word_of o s n == held_by (number_of f.actor.view))) (lost_state s f n (word_of o s n - 3)) (Some (word_of o s n - 3))
        (λ _. stay (lost_state s f n (word_of o s n - 3)) (lost_to f.actor.view n (word_of o s n - 3)) f.actor.owed refl (λ k. k))
    stay_acted (Note x asked) = stay_note asked
    stay_acted (Commit x chunk op) = stay_commit (record { ticket = tickets_in o s; chunk = chunk; op = op })
      where
        stay_commit : (e : Entry) → Entered d (commit_step o s f e).state
        stay_commit e = stay_guarded
            (is_clear f.actor && (nat_lt 0 f.actor.view.allowance && can_make o f.actor.view.held e))
            (commit_state o s f e) (Some e.ticket) (λ _. stay (commit_state o s f e) _ _ refl (λ k. inr k))
    stay_acted (Push x chunk n) = stay_guarded (list_any (is_owed chunk n) f.actor.owed) (push_state s f chunk n) None (λ _. stay (push_state s f chunk n) f.actor.view (without_owed chunk n f.actor.owed) refl (λ k. k))
    stay_acted (Birth x n) = stay_guarded (is_held f.actor.view.held n && (word_of o s n == 2 && not (owes_of n f.actor.owed))) (birth_state s f n) None (λ _. stay (birth_state s f n) (born f.actor.view) f.actor.owed refl (λ k. k))
    stay_acted (Release x n) = stay_guarded (can_put_back o s f n && is_some (star_held f.actor.view.held n)) (back_state s f n 0) None (λ _. stay (back_state s f n 0) (released f.actor.view n) f.actor.owed refl (λ k. k))
    stay_acted (Bury x n) = stay_guarded (can_put_back o s f n && not (is_some (star_held f.actor.view.held n))) (back_state s f n 1) None (λ _. stay (back_state s f n 1) (released f.actor.view n) f.actor.owed refl (λ k. k))
    stay_acted (Join x b) = stay_join b (found_from b 0 s.actors) refl

  stay_by_actor : (event : Event) (x : Option Found) → found_from (actor_of event) 0 s.actors ≡ x → Entered d (by_actor s x (acted o s event)).state
  stay_by_actor event None e = h
  stay_by_actor event (Some f) e = stay_acted f (found_is (actor_of event) s.actors f e).at event

  entries_stay : (event : Event) → Entered d (stepped o s event).state
  entries_stay event = stay_by_actor event (found_from (actor_of event) 0 s.actors) refl

longer_by : (xs ys : List Entry) → ((i : ℕ) (d : Entry) → get_elem? xs i ≡ some d → get_elem? ys i ≡ some d) → ys ≡ xs ++ drop (length xs) ys
longer_by [] ys h = refl
longer_by (x ∷ xs) [] h = absurd (some-ne-none x (sym (h zero x refl)))
longer_by (x ∷ xs) (y ∷ ys) h = let p : y ≡ x = some-injective y x (h zero x refl) in let q = longer_by xs ys (λ i d e. h (suc i) d e) in λ i. p i ∷ q i

-- the view that has the entry at a place of the history
holder_of_ticket : (o : Opening) (words : List ℕ) (homes : Homes) (views : List View) (log : List Entry) → Sound o words homes views log → (i : ℕ) (d : Entry) → get_elem? log i ≡ some d → (id : ℕ) × (v : View) × (get_elem? views id ≡ some v) × In d v.entries
holder_of_ticket o words homes views log s i d at =
    let c = s.once i (at_below log i d at) in
    let r = total_some (λ (v : View). times i (tickets_of v)) views (omega arith) in
    let h = in_mapped (λ (y : Entry). y.ticket) i r.1.entries (in_times i (tickets_of r.1) r.3) in
    let is : h.0 ≡ d = some-injective h.0 d (sym ((s.fits r.0 r.1 r.2).done h.0 h.1).0 ∙ ap (λ (k : ℕ). get_elem? log k) (sym h.2) ∙ at) in
    (r.0, r.1, r.2, subst (λ (y : Entry). In y r.1.entries) is h.1)

pub has_grown : (o : Opening) (s t : CoreState) → IsCore o s → IsCore o t → ((d : Entry) → In d (entered s) → In d (entered t)) → IsExtended (log_of o s) (log_of o t)
has_grown o s t c k stays =
    let snd = sound_in o s c in
    let snt = sound_in o t k in
    let log = c.sound.0 in
    let log' = k.sound.0 in
    let one : log_of o s ≡ log = history_is_log o s.words (homes_of s.words s.lists) (views_of s.actors) log snd in
    let two : log_of o t ≡ log' = history_is_log o t.words (homes_of t.words t.lists) (views_of t.actors) log' snt in
    let grow : log' ≡ log ++ drop (length log) log' = longer_by log log' (λ i d at.
    let low : i < length log = at_below log i d at in
    let w = holder_of_ticket o s.words (homes_of s.words s.lists) (views_of s.actors) log snd i d at in
    let x = stays d (entry_among d (views_of s.actors) w.0 w.1 w.2 w.3) in
    let y = entry_from d (views_of t.actors) x in
    let z = ((snt.fits y.0 y.1 y.2).done d y.3).0 in
    let ticket : d.ticket ≡ 0 + i = ticket_at 0 o.mesh log i d snd.legal at in
    ap (λ (j : ℕ). get_elem? log' j) (let e : i ≡ d.ticket = omega arith in e) ∙ z) in
    (drop (length log) log', two ∙ grow ∙ ap (λ (l : List Entry). l ++ drop (length log) log') (sym one))

pub step_grows : (outside : KeepsOutside) (o : Opening) (s : CoreState) (event : Event) → IsCore o s → IsExtended (log_of o s) (log_of o (stepped o s event).state)
step_grows outside o s event c = has_grown o s (stepped o s event).state c (step_core outside o s c event) (λ d h. (entries_stay o s d (record { inside = h }) event).inside)
