-- Each event keeps a state of the pure core sound, and so does each list of events.
use Rattle.std.proofs.Common.{◌≡◌, ◌≢◌, ℕ, suc, ◌+◌, ◌-◌, ◌<◌, ◌≤◌, Bool, true, false, cond, not, ◌==◌, ◌&&◌, ◌||◌, nat_lt, List, [], ◌∷◌, set, refl, sym, ap, ◌∙◌, subst, inl, inr, ⊎_elim, arith}
use Rattle.std.specs.Prelude.{Option, Some, None, is_some, slice_index}
use Rattle.std.specs.List.{list_any, list_all}
use Rattle.std.proofs.lemmas.Bool.Decides.{nat_tests}
use mathlib.Core.Option.{some}
use mathlib.Core.Logic.{dite}
use native.Mathlib.Decide.{dec_le, ℕ_discrete}
use lib.ListN.{get_elem?}
use Rattle.pf_model.specs.declared.Op.{Op}
use Rattle.pf_model.specs.declared.Cond.{Cond}
use Rattle.pf_model.specs.declared.Entry.{Entry}
use Rattle.pf_model.specs.Mesh.{Undivided}
use Rattle.pf_model.specs.declared.Band.{Band}
use Rattle.pf_model.specs.Conforming.{IsConforming}
use Rattle.pf_model.specs.Conditions.{first_failing}
use Rattle.pf_model.specs.Stars.{Star, star_of}
use Rattle.pf_star_model.specs.Lent.{Held, is_held, star_held}
use Rattle.pf_core_model.specs.declared.event.Asked.{Asked}
use Rattle.pf_core_model.specs.declared.event.Owed.{Owed}
use Rattle.pf_core_model.specs.declared.event.Event.{Event}
use Rattle.pf_core_model.specs.declared.event.Event.TheVariants.{Split, Lock, Lost, Note, Commit, Push, Birth, Release, Bury, Join}
use Rattle.pf_core_model.specs.Lists.{In}
use Rattle.pf_star_model.specs.Judged.{judged}
use Rattle.pf_core_model.specs.Moves.{spares_in, lost_to, seen_at, failed_at}
use Rattle.pf_core_model.specs.Needs.{Passes, KeepsOutside}
use Rattle.pf_core_model.specs.Core.{Opening, names_of, held_by, number_of, nodes_in, nodes_of, Sound}
use Rattle.pf_core_model.specs.State.{Actor, CoreState, views_of, homes_of, tickets_in, mesh_of, word_of, log_of, Found, leads, found_from, is_nil, is_number_in, owes_of, is_owed, is_clear, has_nothing, guarded, by_actor, can_put_back, can_judge, judge_step, can_make, note_step, commit_step, join_step, acted, actor_of, stepped, state_after, note_state, refuse_state, IsCore}
use Rattle.pf_core_model.proofs.Replays.{and_left, and_right, or_cases, replayed_first_new, replayed_bands, star_after_is, conforms_after, passes_after}
use Rattle.pf_core_model.proofs.Views.{holder_of}
use Rattle.pf_core_model.proofs.Learnt.{loses, sees, sees_failed}
use Rattle.pf_core_model.proofs.Owing.{owing, owed_is}
use Rattle.pf_core_model.proofs.Judged.{held_in, judged_is, made_is_of}
use Rattle.pf_core_model.proofs.StateLaws.{sound_in, view_at, fits_in, mesh_is, locks_core, learns_core, births_core, releases_core, buries_core, splits_core, joins_core, pushes_core, commits_core}

-- tests as facts
nil_is : {A : Type 0} (l : List A) → is_nil l ≡ true → l ≡ []
nil_is [] h = refl
nil_is (x ∷ xs) h = absurd (cc (h))

not_true : (b : Bool) → not b ≡ true → b ≡ false
not_true true h = absurd (cc (h))
not_true false h = refl

true_not_false : (b : Bool) → b ≡ true → b ≡ false → ⊥
true_not_false b p q = let z : true ≡ false = sym p ∙ q in absurd (cc (z))

none_is : {A : Type 0} (x : Option A) → not (is_some x) ≡ true → x ≡ None
none_is None h = refl
none_is (Some a) h = absurd (cc (h))

some_star : (x : Option Star) → is_some x ≡ true → (star : Star) × (x ≡ Some star)
some_star (Some a) h = (a, refl)
some_star None h = absurd (cc (h))

number_in : (k : ℕ) (ks : List ℕ) → is_number_in k ks ≡ true → In k ks
number_in k [] h = absurd (cc (h))
number_in k (x ∷ xs) h = ⊎_elim (λ (e : (x == k) ≡ true). inl (let z : k ≡ x = grind (arith, nat_tests) in z)) (λ (e : is_number_in k xs ≡ true). inr (number_in k xs e)) (or_cases (x == k) (is_number_in k xs) h)

owed_there : (chunk n : ℕ) (ds : List Owed) → list_any (is_owed chunk n) ds ≡ true → In (owing chunk n) ds
owed_there chunk n [] h = absurd (cc (h))
owed_there chunk n (d ∷ ds) h = ⊎_elim (λ (e : is_owed chunk n d ≡ true). inl (sym (owed_is chunk n d e))) (λ (e : list_any (is_owed chunk n) ds ≡ true). inr (owed_there chunk n ds e)) (or_cases (is_owed chunk n d) (list_any (is_owed chunk n) ds) h)

owes_none : (n : ℕ) (ds : List Owed) → owes_of n ds ≡ false → (k : ℕ) → In (owing k n) ds → ⊥
owes_none n [] h k i = absurd i
owes_none n (d ∷ ds) h k (inl e) = let z : (d.node == n) ≡ true = let y : n ≡ d.node = ap (λ (x : Owed). x.node) e in grind (arith, nat_tests) in absurd (let w : true ≡ false = ap (λ (b : Bool). b || owes_of n ds) (sym z) ∙ h in cc (w))
owes_none n (d ∷ ds) h k (inr i) = owes_none n ds (right (d.node == n) (owes_of n ds) h) k i
  where
    right : (a b : Bool) → (a || b) ≡ false → b ≡ false
    right true b e = absurd (cc (e))
    right false b e = e

-- the pair of a node that is held
pair_at : (n : ℕ) (ps : List Held) (star : Option Star) → In n (nodes_in ps) → star_held ps n ≡ star → In (record { node = n; star = star }) ps
pair_at n [] star h e = absurd h
pair_at n (p ∷ ps) star h e = dite (ℕ_discrete p.node n)
    (λ same. let is : (p.node == n) ≡ true = grind (arith, nat_tests) in
    let st : p.star ≡ star = sym (ap (λ (b : Bool). cond b p.star (star_held ps n)) is) ∙ e in
    inl (λ i. record { node = sym same i; star = sym st i }))
    (λ ne. let is : (p.node == n) ≡ false = grind (arith, nat_tests) in
    inr (pair_at n ps star (⊎_elim (λ (x : n ≡ p.node). absurd (ne (sym x))) (λ (x : In n (nodes_in ps)). x) h) (sym (ap (λ (b : Bool). cond b p.star (star_held ps n)) is) ∙ e)))

-- the actor that is found
pub record IsFound (a : ℕ) (actors : List Actor) (f : Found) : Type 0 where
  pub at : get_elem? actors f.place ≡ some f.actor
  pub named : leads a f.actor.view.numbers ≡ true

record IsFoundFrom (a i : ℕ) (actors : List Actor) (f : Found) : Type 0 where
  pub after : ℕ
  pub place : f.place ≡ i + after
  pub at : get_elem? actors after ≡ some f.actor
  pub named : leads a f.actor.view.numbers ≡ true

found_is_from : (a i : ℕ) (actors : List Actor) (f : Found) → found_from a i actors ≡ Some f → IsFoundFrom a i actors f
found_is_from a i [] f e = absurd (let z : false ≡ true = ap is_some e in cc (z))
found_is_from a i (x ∷ xs) f e = go (leads a x.view.numbers) refl e (λ k. found_is_from a (suc i) xs f k)
  where
    or_first : Option Found → Found
    or_first None = record { place = i; actor = x }
    or_first (Some g) = g

    go : (b : Bool) → leads a x.view.numbers ≡ b → cond b (Some record { place = i; actor = x }) (found_from a (suc i) xs) ≡ Some f → (found_from a (suc i) xs ≡ Some f → IsFoundFrom a (suc i) xs f) → IsFoundFrom a i (x ∷ xs) f
    go true is k more =
        let same : record { place = i; actor = x } ≡ f = ap or_first k in
        let p : i ≡ f.place = ap (λ (g : Found). g.place) same in
        record { after = 0; place = omega arith; at = ap (λ (g : Found). some g.actor) same; named = subst (λ (g : Found). leads a g.actor.view.numbers ≡ true) same is }
    go false is k more = let r = more k in let p = r.place in record { after = suc r.after; place = omega arith; at = r.at; named = r.named }

pub found_is : (a : ℕ) (actors : List Actor) (f : Found) → found_from a 0 actors ≡ Some f → IsFound a actors f
found_is a actors f e = let r = found_is_from a 0 actors f e in let p = r.place in
    record { at = ap (λ (k : ℕ). get_elem? actors k) (let z : f.place ≡ r.after = omega arith in z) ∙ r.at; named = r.named }

leads_some : (a : ℕ) (ks : List ℕ) → leads a ks ≡ true → ks ≢ []
leads_some a [] h e = absurd (cc (h))
leads_some a (k ∷ ks) h e = absurd (cc (e))

module _ (outside : KeepsOutside) (o : Opening) where
  guarded_core : (b : Bool) (s t : CoreState) (v : Option ℕ) → IsCore o s → (b ≡ true → IsCore o t) → IsCore o (guarded b s t v).state
  guarded_core true s t v c f = f refl
  guarded_core false s t v c f = c

  module _ (s : CoreState) (c : IsCore o s) where
    -- the word of a name, and where it isn't 2 the name is one of the state
    word_near : (n : ℕ) → word_of o s n ≢ 2 → (n < names_of o) × (word_of o s n ≡ slice_index s.words n)
    word_near n ne = dite (ℕ_discrete_lt n)
        (λ (low : n < names_of o). let is : nat_lt n (names_of o) ≡ true = grind (arith, nat_tests) in (low, ap (λ (b : Bool). cond b (slice_index s.words n) 2) is))
        (λ high. let is : nat_lt n (names_of o) ≡ false = grind (arith, nat_tests) in absurd (ne (ap (λ (b : Bool). cond b (slice_index s.words n) 2) is)))
      where
        ℕ_discrete_lt : (k : ℕ) → Dec (k < names_of o)
        ℕ_discrete_lt k = dec_le (suc k) (names_of o)

    word_in : (n : ℕ) → n < names_of o → word_of o s n ≡ slice_index s.words n
    word_in n low = let is : nat_lt n (names_of o) ≡ true = grind (arith, nat_tests) in ap (λ (b : Bool). cond b (slice_index s.words n) 2) is

    module _ (f : Found) (at : get_elem? s.actors f.place ≡ some f.actor) (actor : f.actor.view.numbers ≢ []) where
      abbrev place : ℕ
      place = f.place

      abbrev a : Actor
      a = f.actor

      clear_owed : is_clear f.actor ≡ true → f.actor.owed ≡ []
      clear_owed h = nil_is f.actor.owed (and_left (is_nil f.actor.owed) (list_all (λ (p : Held). is_some p.star) f.actor.view.held && not (is_some f.actor.view.unborn)) h)

      clear_born : is_clear f.actor ≡ true → f.actor.view.unborn ≡ None
      clear_born h = none_is f.actor.view.unborn (and_right (list_all (λ (p : Held). is_some p.star) f.actor.view.held) (not (is_some f.actor.view.unborn)) (and_right (is_nil f.actor.owed) (list_all (λ (p : Held). is_some p.star) f.actor.view.held && not (is_some f.actor.view.unborn)) h))

      notes_core : IsCore o (note_state s f (tickets_in o s))
      notes_core =
          let snd = sound_in o s c in
          learns_core o s c f.place f.actor at (seen_at f.actor.view (tickets_in o s)) refl
          (subst (λ (k : ℕ). Sound o s.words (homes_of s.words s.lists) (set (views_of s.actors) f.place (seen_at f.actor.view k)) c.sound.0) (sym snd.tickets)
          (sees o s.words (homes_of s.words s.lists) (views_of s.actors) c.sound.0 snd f.place f.actor.view (view_at o s c f.place f.actor at)))

      refuses_core : (chunk : ℕ) (op : Op) (why : Cond) → first_failing (mesh_of o s) chunk op ≡ Some why → IsCore o (refuse_state s f (tickets_in o s) chunk op why)
      refuses_core chunk op why fails =
          let snd = sound_in o s c in
          learns_core o s c f.place f.actor at (failed_at f.actor.view (tickets_in o s) chunk op why) refl
          (subst (λ (k : ℕ). Sound o s.words (homes_of s.words s.lists) (set (views_of s.actors) f.place (failed_at f.actor.view k chunk op why)) c.sound.0) (sym snd.tickets)
          (sees_failed o s.words (homes_of s.words s.lists) (views_of s.actors) c.sound.0 snd f.place f.actor.view chunk op why (view_at o s c f.place f.actor at)
          (subst (λ (m : Undivided). first_failing m chunk op ≡ Some why) (mesh_is o s c) fails)))

      -- the held pairs are those of the mesh after the history
      held_shows : (p : Held) → In p f.actor.view.held → p.star ≡ star_of (mesh_of o s) p.node
      held_shows p h = (fits_in o s c f.place f.actor at).pairs p h ∙ star_after_is o c.sound.0 p.node ∙ ap (λ (m : Undivided). star_of m p.node) (sym (mesh_is o s c))

      mesh_conforms : IsConforming (mesh_of o s)
      mesh_conforms = let snd = sound_in o s c in subst IsConforming (sym (mesh_is o s c)) (conforms_after o c.sound.0 snd.conforming snd.fresh snd.legal)

      mesh_bands : (mesh_of o s).bands ≡ o.mesh.bands
      mesh_bands = replayed_bands o.mesh (log_of o s)

      judged_core : (asked : Asked) (x : Option Cond) → judged (star_held f.actor.view.held) o.mesh.bands asked.chunk asked.op ≡ x → IsCore o (judge_step (can_judge f.actor.view.held asked.chunk asked.op) s f (tickets_in o s) asked x).state
      judged_core asked None e = c
      judged_core asked (Some why) e = guarded_core (can_judge f.actor.view.held asked.chunk asked.op) s (refuse_state s f (tickets_in o s) asked.chunk asked.op why) (Some (tickets_in o s)) c
          (λ able. refuses_core asked.chunk asked.op why
          (sym (judged_is (mesh_of o s) mesh_conforms f.actor.view.held held_shows asked.chunk asked.op able) ∙ ap (λ (l : List Band). judged (star_held f.actor.view.held) l asked.chunk asked.op) mesh_bands ∙ e))

      note_core : (asked : Option Asked) → IsCore o (note_step o s f asked).state
      note_core None = notes_core
      note_core (Some asked) = judged_core asked (judged (star_held f.actor.view.held) o.mesh.bands asked.chunk asked.op) refl

      -- a node that can be put back: its pair, and what is known of it
      back : (n : ℕ) → can_put_back o s f n ≡ true → In n (nodes_of f.actor.view) × (f.actor.view.unborn ≡ None) × ((k : ℕ) → In (owing k n) f.actor.owed → ⊥)
      back n h =
          let rest = and_right (word_of o s n == held_by (number_of f.actor.view)) (not (owes_of n f.actor.owed) && not (is_some f.actor.view.unborn)) h in
          let test = and_left (word_of o s n == held_by (number_of f.actor.view)) (not (owes_of n f.actor.owed) && not (is_some f.actor.view.unborn)) h in
          let word : word_of o s n ≡ held_by (number_of f.actor.view) = grind (arith, nat_tests) in
          let near = word_near n (λ two. omega arith) in
          let same = near.1 in
          let by : slice_index s.words n ≡ held_by (number_of f.actor.view) = sym near.1 ∙ word in (
            holder_of o s.words (homes_of s.words s.lists) (views_of s.actors) c.sound.0 (sound_in o s c) f.place n f.actor.view (view_at o s c f.place f.actor at) actor near.0 by,
            none_is f.actor.view.unborn (and_right (not (owes_of n f.actor.owed)) (not (is_some f.actor.view.unborn)) rest),
            owes_none n f.actor.owed (not_true (owes_of n f.actor.owed) (and_left (not (owes_of n f.actor.owed)) (not (is_some f.actor.view.unborn)) rest)),
          )

      passes_now : (e : Entry) → e.ticket ≡ tickets_in o s → first_failing (mesh_of o s) e.chunk e.op ≡ None → Passes (mesh_of o s) e
      passes_now e ticket passes =
          let snd = sound_in o s c in
          subst (λ (m : Undivided). Passes m e) (sym (mesh_is o s c))
          (passes_after o c.sound.0 snd.conforming snd.fresh snd.legal e (ticket ∙ snd.tickets) (subst (λ (m : Undivided). first_failing m e.chunk e.op ≡ None) (mesh_is o s c) passes))

      commit_core : (e : Entry) → e.ticket ≡ tickets_in o s → IsCore o (commit_step o s f e).state
      commit_core e ticket = guarded_core (is_clear f.actor && (nat_lt 0 f.actor.view.allowance && can_make o f.actor.view.held e)) s _ (Some e.ticket) c
          (λ h.
          let clear = and_left (is_clear f.actor) (nat_lt 0 f.actor.view.allowance && can_make o f.actor.view.held e) h in
          let h1 = and_right (is_clear f.actor) (nat_lt 0 f.actor.view.allowance && can_make o f.actor.view.held e) h in
          let rich = and_left (nat_lt 0 f.actor.view.allowance) (can_make o f.actor.view.held e) h1 in
          let able = and_right (nat_lt 0 f.actor.view.allowance) (can_make o f.actor.view.held e) h1 in
          let some_left : 0 < f.actor.view.allowance = grind (arith, nat_tests) in
          let made = made_is_of (mesh_of o s) mesh_conforms f.actor.view.held held_shows o e mesh_bands (replayed_first_new o.mesh (log_of o s)) (passes_now e ticket) able in
          commits_core o s c f.place f.actor at outside e actor (clear_owed clear) (clear_born clear) some_left ticket made.passes made.cavity made.pairs)

      join_core : (b : ℕ) (x : Option Found) → found_from b 0 s.actors ≡ x → IsCore o (join_step s f x).state
      join_core b None e = c
      join_core b (Some g) e = guarded_core (not (f.place == g.place) && (has_nothing f.actor && has_nothing g.actor)) s _ None c
          (λ h.
          let ne = not_true (f.place == g.place) (and_left (not (f.place == g.place)) (has_nothing f.actor && has_nothing g.actor) h) in
          let both = and_right (not (f.place == g.place)) (has_nothing f.actor && has_nothing g.actor) h in
          let mine = nil_is f.actor.view.held (and_left (is_nil f.actor.view.held) (is_nil f.actor.owed) (and_left (has_nothing f.actor) (has_nothing g.actor) both)) in
          let empty = nil_is g.actor.view.held (and_left (is_nil g.actor.view.held) (is_nil g.actor.owed) (and_right (has_nothing f.actor) (has_nothing g.actor) both)) in
          let far : g.place ≢ f.place = grind (arith, nat_tests) in
          joins_core o s c f.place f.actor at g.place g.actor far (found_is b s.actors g e).at actor mine empty)

      acted_core : (event : Event) → IsCore o (acted o s event f).state
      acted_core (Split x b share) = guarded_core (is_clear f.actor && (is_nil f.actor.view.held && (is_number_in b (spares_in f.actor.view.numbers) && not (nat_lt f.actor.view.allowance share)))) s _ None c
          (λ h.
          let h1 = and_right (is_clear f.actor) (is_nil f.actor.view.held && (is_number_in b (spares_in f.actor.view.numbers) && not (nat_lt f.actor.view.allowance share))) h in
          let empty = nil_is f.actor.view.held (and_left (is_nil f.actor.view.held) (is_number_in b (spares_in f.actor.view.numbers) && not (nat_lt f.actor.view.allowance share)) h1) in
          let h2 = and_right (is_nil f.actor.view.held) (is_number_in b (spares_in f.actor.view.numbers) && not (nat_lt f.actor.view.allowance share)) h1 in
          let spare = number_in b (spares_in f.actor.view.numbers) (and_left (is_number_in b (spares_in f.actor.view.numbers)) (not (nat_lt f.actor.view.allowance share)) h2) in
          let no_more = not_true (nat_lt f.actor.view.allowance share) (and_right (is_number_in b (spares_in f.actor.view.numbers)) (not (nat_lt f.actor.view.allowance share)) h2) in
          let rich : share ≤ f.actor.view.allowance = grind (arith, nat_tests) in
          splits_core o s c f.place f.actor at b share spare empty rich)
      acted_core (Lock x n) = guarded_core (is_clear f.actor && (word_of o s n == 0)) s _ None c
          (λ h.
          let paid = clear_owed (and_left (is_clear f.actor) (word_of o s n == 0) h) in
          let test = and_right (is_clear f.actor) (word_of o s n == 0) h in
          let zero_word : word_of o s n ≡ 0 = grind (arith, nat_tests) in
          let near = word_near n (λ two. omega arith) in
          locks_core o s c f.place f.actor at n actor paid near.0 (sym near.1 ∙ zero_word))
      acted_core (Lost x n) = guarded_core (nat_lt 2 (word_of o s n) && not (word_of o s n == held_by (number_of f.actor.view))) s _ (Some (word_of o s n - 3)) c
          (λ _. learns_core o s c f.place f.actor at (lost_to f.actor.view n (word_of o s n - 3)) refl
          (loses o s.words (homes_of s.words s.lists) (views_of s.actors) c.sound.0 (sound_in o s c) f.place n (word_of o s n - 3) f.actor.view (view_at o s c f.place f.actor at)))
      acted_core (Note x asked) = note_core asked
      acted_core (Commit x chunk op) = commit_core (record { ticket = tickets_in o s; chunk = chunk; op = op }) refl
      acted_core (Push x chunk n) = guarded_core (list_any (is_owed chunk n) f.actor.owed) s _ None c (λ h. pushes_core o s c f.place f.actor at chunk n (owed_there chunk n f.actor.owed h))
      acted_core (Birth x n) = guarded_core (is_held f.actor.view.held n && (word_of o s n == 2 && not (owes_of n f.actor.owed))) s _ None c
          (λ h.
          let held = held_in n f.actor.view.held (and_left (is_held f.actor.view.held n) (word_of o s n == 2 && not (owes_of n f.actor.owed)) h) in
          let test = and_left (word_of o s n == 2) (not (owes_of n f.actor.owed)) (and_right (is_held f.actor.view.held n) (word_of o s n == 2 && not (owes_of n f.actor.owed)) h) in
          let two : word_of o s n ≡ 2 = grind (arith, nat_tests) in
          let fit = fits_in o s c f.place f.actor at in
          let word : slice_index s.words n ≡ 2 = sym (word_in n (fit.near n held)) ∙ two in
          births_core o s c f.place f.actor at n
          (⊎_elim (λ (z : slice_index s.words n ≡ held_by (number_of f.actor.view)). absurd (omega arith)) (λ (z : (f.actor.view.unborn ≡ Some n) × (slice_index s.words n ≡ 2)). z.0) (fit.own n held)))
      acted_core (Release x n) = guarded_core (can_put_back o s f n && is_some (star_held f.actor.view.held n)) s _ None c
          (λ h.
          let b = back n (and_left (can_put_back o s f n) (is_some (star_held f.actor.view.held n)) h) in
          let star = some_star (star_held f.actor.view.held n) (and_right (can_put_back o s f n) (is_some (star_held f.actor.view.held n)) h) in
          releases_core o s c f.place f.actor at n star.0 (pair_at n f.actor.view.held (Some star.0) b.0 star.1) b.1 b.2)
      acted_core (Bury x n) = guarded_core (can_put_back o s f n && not (is_some (star_held f.actor.view.held n))) s _ None c
          (λ h.
          let b = back n (and_left (can_put_back o s f n) (not (is_some (star_held f.actor.view.held n))) h) in
          let gone = none_is (star_held f.actor.view.held n) (and_right (can_put_back o s f n) (not (is_some (star_held f.actor.view.held n))) h) in
          buries_core o s c f.place f.actor at n (pair_at n f.actor.view.held None b.0 gone) b.1 b.2)
      acted_core (Join x b) = join_core b (found_from b 0 s.actors) refl

    by_actor_core : (event : Event) (x : Option Found) → found_from (actor_of event) 0 s.actors ≡ x → IsCore o (by_actor s x (acted o s event)).state
    by_actor_core event None e = c
    by_actor_core event (Some f) e = let r = found_is (actor_of event) s.actors f e in acted_core f r.at (leads_some (actor_of event) f.actor.view.numbers r.named) event

    pub step_core : (event : Event) → IsCore o (stepped o s event).state
    step_core event = by_actor_core event (found_from (actor_of event) 0 s.actors) refl

  -- along any list of events
  pub steps_core : (s : CoreState) (events : List Event) → IsCore o s → IsCore o (state_after o s events)
  steps_core s [] c = c
  steps_core s (e ∷ es) c = steps_core (stepped o s e).state es (step_core s c e)
