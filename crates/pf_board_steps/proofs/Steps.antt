-- Each step on a word of the board is an event of the core.
use Rattle.std.proofs.Common.{◌≡◌, ◌≢◌, ◌⊎◌, ℕ, ◌+◌, ◌-◌, ◌%◌, ◌<◌, ◌≤◌, ◌^◌, eqb, Bool, true, false, cond, List, [], ◌∷◌, ◌++◌, length, set, refl, sym, ap, ◌∙◌, subst, ⊎_elim, arith}
use Rattle.std.specs.Prelude.{slice_index, Option, Some, None}
use Rattle.std.proofs.lemmas.List.{set-get_or, length-set}
use Rattle.std.proofs.Math.Nat.{mod-eq_of_lt}
use mathlib.Core.Option.{none, some}
use mathlib.Core.Logic.{dite}
use native.Mathlib.Decide.{ℕ_discrete}
use lib.ListN.{get_elem?}
use prog.Atomic.{either}
use Rattle.atomic_table.specs.Table.{step, Act, keeps, takes, gives, Valid, carried_after, stepped, Allows, Splits, Joins}
use Rattle.atomic_table.proofs.Lists.{exchanged, set_else}
use Rattle.pf_model.specs.declared.Op.{Op}
use Rattle.pf_model.specs.declared.Cond.{Cond}
use Rattle.pf_model.specs.declared.Entry.{Entry}
use Rattle.pf_model.specs.Mesh.{Undivided}
use Rattle.pf_model.specs.Applied.{IsFresh}
use Rattle.pf_model.specs.Stars.{Star}
use Rattle.pf_core_model.specs.declared.sharer.Sharer.{Sharer}
use Rattle.pf_core_model.specs.declared.view.View.{View}
use Rattle.pf_star_model.specs.Lent.{Held}
use Rattle.pf_core_model.specs.Lists.{In}
use Rattle.pf_core_model.specs.Cavity.{makes_node, makes, is_made}
use Rattle.pf_core_model.specs.Sharers.{sharers_in, kept_in}
use Rattle.pf_core_model.specs.Moves.{locked, lost_to, found_dead, found_never, noted, refused, committed, unborn_by, born, released, spares_in, left_of, right_of, both_of, spent_view}
use Rattle.pf_core_model.specs.Core.{Opening, names_of, mesh_after, held_by, number_of, nodes_of, Homes, Sound, IsSound}
use Rattle.pf_core_model.specs.Guards.{IsMeshOf, IsViewJudged, ViewHoldsCavity, IsViewPatch}
use Rattle.pf_core_model.specs.Seats.{Knows}
use Rattle.pf_core_model.proofs.Lists.{total_at, at_set_here}
use Rattle.pf_core_model.proofs.Replays.{star_after_is, replayed_more, conforms_after, replayed_chunks, makes_here, made_below}
use Rattle.pf_core_model.proofs.Outside.{keeps_outside}
use Rattle.pf_core_model.proofs.Views.{node_in, acts}
use Rattle.pf_core_model.proofs.Sharing.{kept_is, star_shared}
use Rattle.pf_core_model.proofs.Events.{locks, births, releases, buries}
use Rattle.pf_core_model.proofs.Learnt.{loses, finds_dead, finds_never, notes}
use Rattle.pf_core_model.proofs.Parted.{splits, joins}
use Rattle.pf_core_model.proofs.Told.{shown_mesh, judged_keeps, made_keeps, others_hold, neighbour_near, knows_all}
use Rattle.pf_core_model.proofs.Seats.{star_named, ticket_new, live_near, seat_knows, holder_number, alone_holds}
use Rattle.pf_board_steps.specs.Plays.{BoardState, Mine, Holds, IsHeldNeighbour, After, TriesAlone, Tries, Frees, Births, Counts, Notes, Refuses, at_ticket, Makes, Commits}

by_cases : (b : Bool) (P : Type 0) → (b ≡ true → P) → (b ≡ false → P) → P
by_cases true P hit miss = hit refl
by_cases false P hit miss = miss refl

-- what the view at a place knows after it is set
knows_after : (o : Opening) (words : List ℕ) (homes : Homes) (views : List View) (id : ℕ) (v w : View) → get_elem? views id ≡ some v → IsSound o words homes (set views id w) → w.numbers ≢ [] → Knows o w
knows_after o words homes views id v w at h actor = seat_knows o words homes (set views id w) h.0 h.1 id w (at_set_here views id v w at) actor

-- there is a slot for each name
all_slots : (o : Opening) (slots : ℕ) (s : BoardState) → Holds o s → length s.homes ≡ slots → slots ≡ names_of o
all_slots o slots s h long = sym long ∙ h.1.homes_long

-- what the count of tickets tells
counts : (o : Opening) (id : ℕ) (v : View) (s : BoardState) → Holds o s → get_elem? s.views id ≡ some v → v.numbers ≢ [] → Counts o v (slice_index s.words (names_of o))
counts o id v s h at actor =
    let t = h.1.tickets in
    let q = (h.1.fits id v at).seen in
    let b = (ticket_new o s.words s.homes s.views h.0 h.1 id v at).1 in
    (omega arith, omega arith, λ alone. let k = (knows_all o s.words s.homes s.views h.0 h.1 id v at actor alone).seen in omega arith)

module _ (o : Opening) (slots id : ℕ) (me : Mine) where
  -- what a step leads to, where the word becomes y
  abbrev Goes : BoardState → ℕ → (ℕ → Mine → Type 0) → ℕ → Type 0
  Goes s i then y = (w : View) × (a : Act (List Sharer)) × Valid s.homes me.1 a × Holds o (stepped s i y id me.1 w a) × then (slice_index s.words i) (w, carried_after me.1 a)

  -- the word stays as it was, and the view becomes w
  stays : (s : BoardState) (i : ℕ) (then : ℕ → Mine → Type 0) (w : View) → Holds o record { words = s.words; homes = s.homes; views = set s.views id w } → then (slice_index s.words i) (w, me.1) → Goes s i then (slice_index s.words i)
  stays s i then w h told = (w, keeps, tt, subst (λ (l : List ℕ). IsSound o l s.homes (set s.views id w)) (sym (set-get_or s.words i 0)) h, told)

  pub tries : (n : ℕ) → me.0.numbers ≢ [] → me.0.unborn ≡ None → n < names_of o → (In n (nodes_of me.0) → ⊥)
      → Allows (Holds o) slots id me n (λ x. either (eqb x 0) (held_by (number_of me.0)) x) (Tries o (step slots n 0 (held_by (number_of me.0)) none) me)
  tries n actor clear near away s h long at small =
      let log = h.0 in
      let snd = h.1 in
      let x : ℕ = slice_index s.words n in
      let told = Tries o (step slots n 0 (held_by (number_of me.0)) none) me in
      let knows = (snd.fits id me.0 at).knows actor in
      let chunks : me.0.chunks ≡ o.mesh.chunks = knows.2 in
      let far : (IsHeldNeighbour me.0 n) → (x ≡ 0) ⊎ (3 ≤ x) = λ k. (neighbour_near o s.words s.homes s.views log snd id me.0 at k.0 n clear k.1 k.2).1 in
      let no_near : (k : ℕ) → x ≡ k → 0 < k → k < 3 → IsHeldNeighbour me.0 n → ⊥ = λ k e low high y. ⊎_elim (λ (z : x ≡ 0). absurd (omega arith)) (λ (z : 3 ≤ x). absurd (omega arith)) (far y) in
      let full : slots ≡ names_of o = all_slots o slots s h long in
      let alone : TriesAlone o me.0 n x = λ a. alone_holds o s.words s.homes s.views log snd id me.0 at n actor a clear near away in
      let still : (w : View) → IsSound o s.words s.homes (set s.views id w) → w.numbers ≢ [] → After o (step slots n 0 (held_by (number_of me.0)) none) (w, me.1)
      = λ w k acting. (knows_after o s.words s.homes s.views id me.0 w at k acting, full) in
      exchanged x 0 (held_by (number_of me.0)) (Goes s n told)
      (λ free.
      let r = snd.free n near free in
      let m = mesh_after o log in
      let some_chunk = star_shared m n r.star (conforms_after o log snd.conforming snd.fresh snd.legal) (sym (star_after_is o log n) ∙ r.live) in
      let low : some_chunk.0 < o.mesh.chunks = subst (λ (k : ℕ). some_chunk.0 < k) (replayed_chunks o.mesh log) some_chunk.1 in
      let kept : kept_in (sharers_in me.0.chunks (Some r.star)) ≡ Some r.star = ap (λ (k : ℕ). kept_in (sharers_in k (Some r.star))) chunks ∙ kept_is o.mesh.chunks some_chunk.0 r.star low some_chunk.2 in
      let law = locks o s.words s.homes s.views log snd id n me.0 at actor near free in
      let w : View = locked me.0 n (Some r.star) in
      let after : IsSound o (set s.words n (held_by (number_of me.0))) (set s.homes n none) (set s.views id w)
      = (log, subst (λ (y : Option Star). Sound o (set s.words n (held_by (number_of me.0))) (set s.homes n none) (set s.views id (locked me.0 n y)) log) r.live law) in (
        w,
        takes n (sharers_in me.0.chunks (Some r.star)),
        r.copies ∙ ap (λ (k : ℕ). some (some (sharers_in k (Some r.star)))) (sym chunks),
        after,
        (
          (knows_after o _ _ s.views id me.0 w at after actor, full),
          (λ _. (r.star, star_named m n r.star (sym (star_after_is o log n) ∙ r.live), kept, refl)),
          (λ e. absurd (omega arith)),
          (λ e. absurd (omega arith)),
          (λ e. absurd (omega arith)),
          alone,
        ),
      ))
      (λ taken. dite (ℕ_discrete x 1)
      (λ dead.
      let after = finds_dead o s.words s.homes s.views log snd id n me.0 at near dead in
      stays s n told (found_dead me.0 n) (log, after)
      (still (found_dead me.0 n) (log, after) actor, (λ e. absurd (omega arith)), (λ _. (no_near 1 dead (omega arith) (omega arith), refl)), (λ e. absurd (omega arith)), (λ e. absurd (omega arith)), alone))
      (λ alive. dite (ℕ_discrete x 2)
      (λ never.
      let after = finds_never o s.words s.homes s.views log snd id n me.0 at in
      stays s n told (found_never me.0 n) (log, after)
      (still (found_never me.0 n) (log, after) actor, (λ e. absurd (omega arith)), (λ e. absurd (omega arith)), (λ _. (no_near 2 never (omega arith) (omega arith), refl)), (λ e. absurd (omega arith)), alone))
      (λ other.
      let after = loses o s.words s.homes s.views log snd id n (x - 3) me.0 at in
      stays s n told (lost_to me.0 n (x - 3)) (log, after) (
        still (lost_to me.0 n (x - 3)) (log, after) actor,
        (λ e. absurd (omega arith)),
        (λ e. absurd (omega arith)),
        (λ e. absurd (omega arith)),
        (λ three.
            let z = others_hold o s.words s.homes s.views log snd id me.0 at n actor near three away in
            (z.0, holder_number o s.words s.homes s.views log snd id me.0 at n actor near three, z.1, refl)),
        alone,
      ))))

  pub notes_step : me.0.numbers ≢ [] → Allows (Holds o) slots id me (names_of o) (λ x. x) (Notes o (step slots (names_of o) 0 0 none) me)
  notes_step actor s h long at small =
      let log = h.0 in
      let snd = h.1 in
      let w : View = noted me.0 (slice_index s.words (names_of o)) in
      let after : IsSound o s.words s.homes (set s.views id w)
      = (log, subst (λ (k : ℕ). Sound o s.words s.homes (set s.views id (noted me.0 k)) log) (sym snd.tickets) (notes o s.words s.homes s.views log snd id me.0 at)) in
      stays s (names_of o) (Notes o (step slots (names_of o) 0 0 none) me) w after
      ((knows_after o s.words s.homes s.views id me.0 w at after actor, all_slots o slots s h long), counts o id me.0 s h at actor, refl)

  pub refuses_step : (chunk : ℕ) (op : Op) (why : Cond) → me.0.numbers ≢ [] → IsViewJudged me.0 chunk op (Some why)
      → Allows (Holds o) slots id me (names_of o) (λ x. x) (Refuses o chunk op why (step slots (names_of o) 0 0 none) me)
  refuses_step chunk op why actor judged s h long at small =
      let log = h.0 in
      let snd = h.1 in
      let w : View = refused me.0 (slice_index s.words (names_of o)) chunk op why in
      let after : IsSound o s.words s.homes (set s.views id w)
      = (log, subst (λ (k : ℕ). Sound o s.words s.homes (set s.views id (refused me.0 k chunk op why)) log) (sym snd.tickets) (judged_keeps o s.words s.homes s.views log snd id me.0 at chunk op why actor judged)) in
      stays s (names_of o) (Refuses o chunk op why (step slots (names_of o) 0 0 none) me) w after
      ((knows_after o s.words s.homes s.views id me.0 w at after actor, all_slots o slots s h long), counts o id me.0 s h at actor, refl)

  pub births_step : (n : ℕ) → me.0.unborn ≡ Some n
      → Allows (Holds o) slots id me n (λ _. held_by (number_of me.0)) (λ _. Births o (step slots n (held_by (number_of me.0)) 0 none) me (held_by (number_of me.0)))
  births_step n is s h long at small =
      let f = h.1.fits id me.0 at in
      let after : IsSound o (set s.words n (held_by (number_of me.0))) s.homes (set s.views id (born me.0)) = (h.0, births o s.words s.homes s.views h.0 h.1 id n me.0 at is) in
      let actor : me.0.numbers ≢ [] = acts o s.words s.homes s.views h.0 h.1 me.0 f n (f.unborn n is).held in
      (born me.0, keeps, tt, after, ((knows_after o _ _ s.views id me.0 (born me.0) at after actor, all_slots o slots s h long), refl))

  pub commits_step : (e : Entry) (fresh : ℕ → List Held) → me.0.numbers ≢ [] → me.0.unborn ≡ None → 0 < me.0.allowance
      → IsViewJudged me.0 e.chunk e.op None → ViewHoldsCavity me.0 e.chunk e.op → ((t : ℕ) → IsViewPatch me.0 (at_ticket e t) (fresh t))
      → Allows (Holds o) slots id me (names_of o) (λ x. (x + 1) % 2 ^ 64) (Commits o e fresh (step slots (names_of o) 1 0 none) me)
  commits_step e fresh actor clear rich judged cavity patch s h long at small =
      let log = h.0 in
      let snd = h.1 in
      let x : ℕ = slice_index s.words (names_of o) in
      let t : x ≡ length log = snd.tickets in
      let b = snd.budget in
      let c = snd.small in
      let q = (snd.fits id me.0 at).seen in
      let new : me.0.first_new ≡ o.mesh.first_new = ((snd.fits id me.0 at).knows actor).1 in
      let room : length log < o.budget = let a = total_at (λ (u : View). u.allowance) s.views id me.0 at in omega arith in
      let next : (x + 1) % 2 ^ 64 ≡ length log + 1 = mod-eq_of_lt (omega arith) ∙ ap (λ (k : ℕ). k + 1) t in
      let d : Entry = at_ticket e x in
      let w : View = committed me.0 d (fresh x) (unborn_by me.0.first_new d) in
      let law : (homes' : Homes) → length homes' ≡ length s.homes → ((n : ℕ) → makes o.mesh.first_new n d ≡ false → get_elem? homes' n ≡ get_elem? s.homes n)
      → Sound o (set s.words (names_of o) ((x + 1) % 2 ^ 64)) homes' (set s.views id w) (log ++ d ∷ [])
      = λ homes' full else_.
      subst (λ (k : ℕ). Sound o (set s.words (names_of o) k) homes' (set s.views id w) (log ++ d ∷ [])) (sym next)
      (made_keeps o s.words s.homes s.views log snd id me.0 at keeps_outside homes' d (fresh x) full else_ actor clear rich t judged cavity (patch x)) in
      let name : ℕ = me.0.first_new + x in
      let m : Undivided = mesh_after o log in
      let count = counts o id me.0 s h at actor in
      let full_slots : slots ≡ names_of o = all_slots o slots s h long in
      let after_of : (homes' : Homes) → IsSound o (set s.words (names_of o) ((x + 1) % 2 ^ 64)) homes' (set s.views id w) → After o (step slots (names_of o) 1 0 none) (w, me.1)
      = λ homes' k. (knows_after o _ homes' s.views id me.0 w at k actor, full_slots) in
      let makes_of : (homes' : Homes) → Sound o (set s.words (names_of o) ((x + 1) % 2 ^ 64)) homes' (set s.views id w) (log ++ d ∷ []) → Makes o me.0 w d
      = λ homes' k.
      record {
        mesh = m;
        before = shown_mesh o s.words s.homes s.views log snd id me.0 at actor;
        fresh = subst (λ (k : ℕ). IsFresh m k) (sym t) (ticket_new o s.words s.homes s.views log snd id me.0 at).0;
        live = live_near o s.words s.homes s.views log snd id me.0 at;
        name = omega arith;
        after = subst (λ (r : Undivided). IsMeshOf w r) (replayed_more o.mesh log d) (shown_mesh o _ homes' (set s.views id w) (log ++ d ∷ []) k id w (at_set_here s.views id me.0 w at) actor);
      } in
      let not_made : is_made o.mesh.first_new log name ≡ false
      = by_cases (is_made o.mesh.first_new log name) (is_made o.mesh.first_new log name ≡ false) (λ y. let r = (made_below 0 o.mesh.first_new name o.mesh log snd.legal y).1 in absurd (omega arith)) (λ y. y) in
      let home : get_elem? s.homes name ≡ some (some []) = (snd.unmade name (omega arith) (omega arith) not_made).1 in
      let told = Commits o e fresh (step slots (names_of o) 1 0 none) me in
      by_cases (makes_node e.op) (Goes s (names_of o) told ((x + 1) % 2 ^ 64))
      (λ yes_it.
      let homes' : Homes = set s.homes name none in
      let k = law homes' (length-set s.homes name none) (λ n other. set_else s.homes name n none (λ same.
      let y : true ≡ false = sym (makes_here o.mesh.first_new n d yes_it (same ∙ ap (λ (f : ℕ). f + x) new)) ∙ other in absurd (cc (y)))) in (
        w,
        takes name [],
        home,
        (log ++ d ∷ [], k),
        (after_of homes' (log ++ d ∷ [], k), count, makes_of homes' k, ap (λ (b : Bool). (w, cond b ((name, []) ∷ me.1) me.1)) (sym yes_it)),
      ))
      (λ no_it.
      let k = law s.homes refl (λ n _. refl) in (
        w,
        keeps,
        tt,
        (log ++ d ∷ [], k),
        (after_of s.homes (log ++ d ∷ [], k), count, makes_of s.homes k, ap (λ (b : Bool). (w, cond b ((name, []) ∷ me.1) me.1)) (sym no_it)),
      ))

module _ (o : Opening) (slots id : ℕ) where
  -- the list taken last goes home, where it is the due one of the held star
  pub releases_step : (v : View) (n : ℕ) (star : Star) (r : List (ℕ × List Sharer)) → v.numbers ≢ [] → In (record { node = n; star = Some star }) v.held → v.unborn ≡ None
      → Allows (Holds o) slots id (v, (n, sharers_in v.chunks (Some star)) ∷ r) n (λ _. 0) (λ _. Frees o (step slots n 0 0 none) (v, (n, sharers_in v.chunks (Some star)) ∷ r) 0)
  releases_step v n star r actor mine clear s h long at small =
      let chunks : v.chunks ≡ o.mesh.chunks = ((h.1.fits id v at).knows actor).2 in
      let after : IsSound o (set s.words n 0) (set s.homes n (some (sharers_in v.chunks (Some star)))) (set s.views id (released v n))
      = (h.0, subst (λ (k : ℕ). Sound o (set s.words n 0) (set s.homes n (some (sharers_in k (Some star)))) (set s.views id (released v n)) h.0) (sym chunks) (releases o s.words s.homes s.views h.0 h.1 id n star v at mine clear)) in
      (released v n, gives, tt, after, ((knows_after o _ _ s.views id v (released v n) at after actor, all_slots o slots s h long), refl))

  pub buries_step : (v : View) (n : ℕ) (r : List (ℕ × List Sharer)) → In (record { node = n; star = None }) v.held → v.unborn ≡ None
      → Allows (Holds o) slots id (v, (n, []) ∷ r) n (λ _. 1) (λ _. Frees o (step slots n 1 0 none) (v, (n, []) ∷ r) 1)
  buries_step v n r mine clear s h long at small =
      let after : IsSound o (set s.words n 1) (set s.homes n (some [])) (set s.views id (released v n)) = (h.0, buries o s.words s.homes s.views h.0 h.1 id n v at mine clear) in
      let actor : v.numbers ≢ [] = acts o s.words s.homes s.views h.0 h.1 v (h.1.fits id v at) n (node_in (record { node = n; star = None }) v.held mine) in
      (released v n, gives, tt, after, ((knows_after o _ _ s.views id v (released v n) at after actor, all_slots o slots s h long), refl))

module _ (o : Opening) (id : ℕ) where
  pub splits_step : (b share : ℕ) (v : View) → In b (spares_in v.numbers) → v.held ≡ [] → share ≤ v.allowance → Splits (Holds o) id v (left_of b share v) (right_of b share v)
  splits_step b share v spare empty rich s h at = (h.0, splits o s.words s.homes s.views h.0 h.1 id b share v at spare empty rich)

  pub joins_step : (v : View) (other : ℕ) (u : View) → v.numbers ≢ [] → u.held ≡ [] → Joins (Holds o) id v other u (both_of v u) spent_view
  joins_step v other u actor empty s h at ne there =
      let was : get_elem? s.views other ≡ some u = sym (set_else s.views id other (both_of v u) ne) ∙ there in
      (h.0, joins o s.words s.homes s.views h.0 h.1 id other v u at ne was actor empty)
