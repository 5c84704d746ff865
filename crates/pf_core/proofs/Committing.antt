-- An operation that is made.
use Rattle.std.proofs.Common.{◌≡◌, ◌≢◌, ℕ, zero, suc, ◌+◌, ◌-◌, ◌<◌, ◌≤◌, Bool, true, false, cond, not, ◌==◌, ◌&&◌, ◌||◌, nat_lt, List, [], ◌∷◌, ◌++◌, length, map, set, refl, sym, ap, ◌∙◌, subst, inl, inr, ◌⊎◌, ⊎_elim, arith, length-append}
use Rattle.std.specs.Prelude.{Option, Some, None, is_some, is_none, slice_index, Contains}
use Rattle.std.specs.Option.{option_map}
use Rattle.std.specs.List.{list_all}
use Rattle.std.proofs.lemmas.Bool.Decides.{nat_tests}
use Rattle.std.proofs.lemmas.List.{get_or-set_same, length-map, map-append}
use mathlib.Core.Option.{some, some-injective}
use mathlib.Core.Logic.{dite}
use native.Mathlib.Decide.{ℕ_discrete}
use lib.ListN.{get_elem?}
use Rattle.pf_model.specs.declared.Band.{Band}
use Rattle.pf_model.specs.declared.Entry.{Entry}
use Rattle.pf_model.specs.declared.Op.{Op}
use Rattle.pf_model.specs.declared.Spoke.{Spoke}
use Rattle.pf_model.specs.declared.Op.TheVariants.{Flip, Bisect, Contract}
use Rattle.pf_model.specs.Mesh.{Undivided}
use Rattle.pf_model.specs.Conforming.{IsConforming}
use Rattle.pf_model.specs.Applied.{applied}
use Rattle.pf_model.specs.Conditions.{first_failing, least_that}
use Rattle.pf_model.specs.Ends.{first_end, second_end}
use Rattle.pf_model.specs.Stars.{Star, star_of, is_sharer, spokes_of}
use Rattle.pf_star_model.specs.Lent.{Held as Pair, is_held, star_held, spokes_in, IsShown}
use Rattle.pf_star_model.specs.Judged.{judged}
use Rattle.pf_star_model.specs.Cavity.{cavity_of, cavity_seen, needed}
use Rattle.pf_star_model.specs.Patched.{patched, made_star, kept_star, patched_pairs, patch_of, changed_by, made_by, risen}
use Rattle.pf_star_model.specs.Laws.{CanApply, AreEndsShown}
use Rattle.pf_star_model.proofs.Cavities.{cavity_is_seen}
use Rattle.pf_star_model.proofs.Copies.{sharer_below}
use Rattle.pf_star_model.proofs.Names.{risen-means, risen-has}
use Rattle.pf_star_model.proofs.Operations.{passes_at_ends}
use Rattle.pf_core_model.specs.declared.event.Event.TheVariants.{Commit}
use Rattle.pf_core_model.specs.declared.event.Owed.{Owed}
use Rattle.pf_core_model.specs.declared.event.Verdict.{Verdict}
use Rattle.pf_core_model.specs.declared.event.Verdict.TheVariants.{Taken, Ignored}
use Rattle.pf_core_model.specs.declared.view.View.{View}
use Rattle.pf_core_model.specs.Cavity.{makes, makes_node, is_made}
use Rattle.pf_core_model.specs.Lists.{In}
use Rattle.pf_core_model.specs.Moves.{committed, unborn_by}
use Rattle.pf_core_model.specs.Needs.{Passes}
use Rattle.pf_core_model.specs.Same.{same_star}
use Rattle.pf_core_model.specs.Core.{Opening, names_of, held_by, number_of, nodes_in, nodes_of, mesh_after, Sound}
use Rattle.pf_core_model.specs.Shown.{IsExtended}
use Rattle.pf_core_model.specs.State.{Actor, CoreState, Found, found_from, views_of, homes_of, view_in, is_clear, tickets_in, log_of, mesh_of, new_pairs, fresh_pairs, owed_after, is_nil, is_apex_held, can_judge, can_make, commit_state, IsCore}
use Rattle.pf_core_model.proofs.Lists.{at_last, at_map, in_mapped, in_map, at_set_here, in_none, in_either, in_left, in_right, total_at}
use Rattle.pf_core_model.proofs.Replays.{and_left, and_right, or_cases, replayed_more, legal_more, replayed_first_new, replayed_bands, replayed_chunks, star_after_is, passes_after, made_name, made_below, conforms_after}
use Rattle.pf_core_model.proofs.Born.{in_contains, contains_in}
use Rattle.pf_core_model.proofs.Outside.{can_apply, keeps_outside}
use Rattle.pf_core_model.proofs.Histories.{history_is_log}
use Rattle.pf_core_model.proofs.Judged.{held_in, can_judge_held, Made, made_is_of}
use Rattle.pf_core_model.proofs.OneMesh.{shows_one_mesh}
use Rattle.pf_core_model.proofs.Owing.{owing, shares, star_in_is, IsOwedAfter, in_owed_after, owed_after_in}
use Rattle.pf_core_model.proofs.Same.{star_same}
use Rattle.pf_core_model.proofs.Sharing.{spokes_are_of}
use Rattle.pf_core_model.proofs.StateLaws.{sound_in, fits_in, view_at, mesh_is}
use Rattle.pf_core_model.proofs.Views.{node_in, some_is}
use Rattle.pf_core.specs.declared.state.State.{State}
use Rattle.pf_core.specs.declared.tables.Node.{Node}
use Rattle.pf_core.specs.declared.tables.Seat.{Seat}
use Rattle.pf_core.specs.Tables.{node_at, seat_at, code_in, list_in, is_clear_seat, holds, star_seen}
use Rattle.pf_core.specs.Gates.{can_make_by, can_commit, IsShownTo}
use Rattle.pf_dues.specs.Owed.{owed_all}
use Rattle.pf_core.specs.Making.{starred, absent_by, born_by, count_by, committed_seat}
use Rattle.pf_core.specs.Shown.{ShowsSeat, ShowsState, IsShownState as IsSome, IsAct}
use Rattle.pf_core.proofs.Kept.{IsActor, sound, names, tickets_are, codes_next, at, acts, own, seat, lead_is, mine, fits, clear_is, held_near, pair_of, star_is, holds_is, seen_held, acted_core, acted_grows, eq_true, eq_false, lt_is, both_ways}
use Rattle.pf_core.proofs.Moves.{IsOf, refused, taken, core_taken, grows_taken, other_node, put_shows}
use Rattle.pf_core.proofs.Noting.{held_fun, star_fun, held_of, seen_of, shown_to, judged_is}
use Rattle.pf_core.proofs.Starring.{end_in, in_held, starred_codes, starred_lists, starred_else, starred_at, IsOwing, in_owed_all, owed_all_in, held_star, whole_is, all_in}

-- one element more, whose place is known
log_next : (xs ys more : List Entry) (e : Entry) → ys ≡ xs ++ more → length more ≡ 1 → get_elem? ys (length xs) ≡ some e → ys ≡ xs ++ e ∷ []
log_next xs ys [] e is one there = absurd (omega arith)
log_next xs ys (d ∷ []) e is one there =
    let same : d ≡ e = some-injective d e (sym (at_last xs d (length xs) refl) ∙ ap (λ (l : List Entry). get_elem? l (length xs)) (sym is) ∙ there) in
    is ∙ ap (λ (x : Entry). xs ++ x ∷ []) same
log_next xs ys (d ∷ b ∷ rest) e is one there = absurd (omega arith)

-- a node that stays has a star after, where it had one
patched_some : (lent : ℕ → Option Star) (new : ℕ) (op : Op) (n : ℕ) → is_some (lent n) ≡ true → patched lent new op n ≡ None → absent_by op ≡ Some n
patched_some lent new (Flip a b) n there gone = absurd (kept _ (lent n) there gone)
  where
    kept : (f : Star → Star) (x : Option Star) → is_some x ≡ true → option_map f x ≡ None → ⊥
    kept f (Some s) h e = absurd (cc (e))
    kept f None h e = absurd (let z : false ≡ true = h in cc)
patched_some lent new (Bisect a b) n there gone = absurd (go _ _ (n == new) (lent n) there gone)
  where
    go : (s : Star) (f : Star → Star) (t : Bool) (x : Option Star) → is_some x ≡ true → cond {A = Option Star} t (Some s) (option_map f x) ≡ None → ⊥
    go s f true x h e = absurd (cc (e))
    go s f false (Some y) h e = absurd (cc (e))
    go s f false None h e = absurd (let z : false ≡ true = h in cc)
patched_some lent new (Contract u v) n there gone = go _ (n == u) refl (lent n) there gone
  where
    go : (f : Star → Star) (t : Bool) → (n == u) ≡ t → (x : Option Star) → is_some x ≡ true → cond {A = Option Star} t None (option_map f x) ≡ None → Some u ≡ Some n
    go f true k x h e = let z : n ≡ u = grind (arith, nat_tests) in ap (λ (j : ℕ). Some j) (sym z)
    go f false k (Some y) h e = absurd (cc (e))
    go f false k None h e = absurd (let z : false ≡ true = h in cc)

first_some : (t : Bool) (x : Star) (y : Option Star) → t ≡ true → is_some (cond {A = Option Star} t (Some x) y) ≡ true
first_some true x y e = refl
first_some false x y e = absurd (let z : false ≡ true = e in cc)

first_none : (t : Bool) (y : Option Star) → t ≡ true → cond {A = Option Star} t None y ≡ None
first_none true y e = refl
first_none false y e = absurd (let z : false ≡ true = e in cc)

made_some : (lent : ℕ → Option Star) (new : ℕ) (op : Op) (n : ℕ) → In n (made_by new op) → is_some (patched lent new op n) ≡ true
made_some lent new (Flip a b) n h = absurd h
made_some lent new (Bisect a b) n (inl e) = first_some (n == new) (made_star lent new (Bisect a b)) (kept_star lent new (Bisect a b) n) (eq_true n new e)
made_some lent new (Bisect a b) n (inr h) = absurd h
made_some lent new (Contract u v) n h = absurd h

gone_none : (lent : ℕ → Option Star) (new : ℕ) (op : Op) (n : ℕ) → absent_by op ≡ Some n → patched lent new op n ≡ None
gone_none lent new (Flip a b) n e = absurd (cc (e))
gone_none lent new (Bisect a b) n e = absurd (cc (e))
gone_none lent new (Contract u v) n e = first_none (n == u) (kept_star lent new (Contract u v) n) (eq_true n u (sym (some_is u n e)))

absent_end : (op : Op) (n : ℕ) → absent_by op ≡ Some n → n ≡ first_end op
absent_end (Flip a b) n e = absurd (cc (e))
absent_end (Bisect a b) n e = absurd (cc (e))
absent_end (Contract u v) n e = sym (some_is u n e)

born_is : (first : ℕ) (e : Entry) (name : ℕ) → name ≡ first + e.ticket → born_by e.op name ≡ unborn_by first e
born_is first e name is = go e.op
  where
    go : (op : Op) → born_by op name ≡ cond (makes_node op) (Some (first + e.ticket)) None
    go (Flip a b) = refl
    go (Bisect a b) = ap (λ (k : ℕ). Some k) is
    go (Contract u v) = refl

made_count : (lent : ℕ → Option Star) (new : ℕ) (op : Op) → length (new_pairs lent new op) ≡ count_by op
made_count lent new (Flip a b) = refl
made_count lent new (Bisect a b) = refl
made_count lent new (Contract u v) = refl

made_new : (new : ℕ) (op : Op) (n : ℕ) → In n (made_by new op) → n ≡ new
made_new new (Flip a b) n h = absurd h
made_new new (Bisect a b) n (inl e) = e
made_new new (Bisect a b) n (inr h) = absurd h
made_new new (Contract u v) n h = absurd h

applied_chunks : (x : Undivided) (t chunk : ℕ) (op : Op) → (applied x (record { ticket = t; chunk = chunk; op = op })).chunks ≡ x.chunks
applied_chunks x t chunk (Flip a b) = refl
applied_chunks x t chunk (Bisect a b) = refl
applied_chunks x t chunk (Contract u v) = refl

-- a number is in a list, or isn't
decide : (n : ℕ) (ns : List ℕ) (P : Type 0) → (In n ns → P) → ((In n ns → ⊥) → P) → P
decide n [] P hit miss = miss (λ h. h)
decide n (k ∷ ks) P hit miss = dite (ℕ_discrete n k) (λ e. hit (inl e)) (λ ne. decide n ks P (λ h. hit (inr h)) (λ out. miss (λ h. ⊎_elim (λ (e : n ≡ k). ne e) (λ (i : In n ks). out i) h)))

module _ (o : Opening) (c : CoreState) (s : State) (sh : ShowsState o c s) (a chunk : ℕ) (op : Op) (f : Found) (found : found_from a 0 c.actors ≡ Some f) where
  conforms : IsConforming (mesh_of o c)
  conforms = (shows_one_mesh o c sh.core).conforming

  stars_alone : is_clear f.actor ≡ true → list_all (λ (p : Pair). is_some p.star) f.actor.view.held ≡ true
  stars_alone h = and_left (list_all (λ (p : Pair). is_some p.star) f.actor.view.held) (not (is_some f.actor.view.unborn)) (and_right (is_nil f.actor.owed) (list_all (λ (p : Pair). is_some p.star) f.actor.view.held && not (is_some f.actor.view.unborn)) h)

  make_is : is_clear f.actor ≡ true → can_make o f.actor.view.held (record { ticket = tickets_in o c; chunk = chunk; op = op }) ≡ can_make_by (star_seen s.nodes.items s.seats.items a) s.bands.items chunk op
  make_is h =
      let same : is_held f.actor.view.held ≡ (λ n. is_some (star_held f.actor.view.held n)) = λ i n. held_star f.actor.view.held (stars_alone h) n i in
      (λ i. list_all (same i) (cavity_seen (star_held f.actor.view.held) op) && not (is_some (judged_is o c s sh a f found chunk op i)))
      ∙ (λ i. list_all (λ n. is_some (star_fun o c s sh a f found i n)) (cavity_seen (star_fun o c s sh a f found i) op) && not (is_some (judged (star_seen s.nodes.items s.seats.items a) s.bands.items chunk op)))
      ∙ (λ i. whole_is (λ n. is_some (star_seen s.nodes.items s.seats.items a n)) (cavity_seen (star_seen s.nodes.items s.seats.items a) op) i && not (is_some (judged (star_seen s.nodes.items s.seats.items a) s.bands.items chunk op)))

  pub gate_is : (is_clear f.actor && (nat_lt 0 f.actor.view.allowance && can_make o f.actor.view.held (record { ticket = tickets_in o c; chunk = chunk; op = op }))) ≡ can_commit s.nodes.items s.seats.items s.bands.items a chunk op
  gate_is = go (is_clear f.actor) refl
    where
      go : (b : Bool) → is_clear f.actor ≡ b → (is_clear f.actor && (nat_lt 0 f.actor.view.allowance && can_make o f.actor.view.held (record { ticket = tickets_in o c; chunk = chunk; op = op }))) ≡ can_commit s.nodes.items s.seats.items s.bands.items a chunk op
      go true e = λ i. clear_is o c s sh a f found i && (nat_lt 0 (sym (seat o c s sh a f found).allowance i) && make_is e i)
      go false e =
          ap (λ (x : Bool). x && (nat_lt 0 f.actor.view.allowance && can_make o f.actor.view.held (record { ticket = tickets_in o c; chunk = chunk; op = op }))) e
          ∙ ap (λ (x : Bool). x && (nat_lt 0 (seat_at s.seats.items a).allowance && can_make_by (star_seen s.nodes.items s.seats.items a) s.bands.items chunk op)) (sym e ∙ clear_is o c s sh a f found)

  -- where the guard holds
  module _ (able : can_commit s.nodes.items s.seats.items s.bands.items a chunk op ≡ true) where
    clear : is_clear f.actor ≡ true
    clear = clear_is o c s sh a f found ∙ and_left (is_clear_seat (seat_at s.seats.items a)) (nat_lt 0 (seat_at s.seats.items a).allowance && can_make_by (star_seen s.nodes.items s.seats.items a) s.bands.items chunk op) able

    makes_it : can_make o f.actor.view.held (record { ticket = tickets_in o c; chunk = chunk; op = op }) ≡ true
    makes_it = make_is clear ∙ and_right (nat_lt 0 (seat_at s.seats.items a).allowance) (can_make_by (star_seen s.nodes.items s.seats.items a) s.bands.items chunk op)
        (and_right (is_clear_seat (seat_at s.seats.items a)) (nat_lt 0 (seat_at s.seats.items a).allowance && can_make_by (star_seen s.nodes.items s.seats.items a) s.bands.items chunk op) able)

    fit : first_failing (mesh_of o c) chunk op ≡ None → Passes (mesh_of o c) (record { ticket = tickets_in o c; chunk = chunk; op = op })
    fit passes =
        let snd = sound o c s sh in
        subst (λ (x : Undivided). Passes x (record { ticket = tickets_in o c; chunk = chunk; op = op })) (sym (mesh_is o c sh.core))
        (passes_after o sh.core.sound.0 snd.conforming snd.fresh snd.legal (record { ticket = tickets_in o c; chunk = chunk; op = op }) snd.tickets (subst (λ (x : Undivided). first_failing x chunk op ≡ None) (mesh_is o c sh.core) passes))

    made : Made (mesh_of o c) conforms f.actor.view.held (held_of o c s sh a f found) o.mesh.first_new (record { ticket = tickets_in o c; chunk = chunk; op = op })
    made = made_is_of (mesh_of o c) conforms f.actor.view.held (held_of o c s sh a f found) o (record { ticket = tickets_in o c; chunk = chunk; op = op }) (replayed_bands o.mesh (log_of o c)) (replayed_first_new o.mesh (log_of o c)) fit makes_it

    pub can : CanApply (mesh_of o c) (record { ticket = tickets_in o c; chunk = chunk; op = op })
    can = can_apply (mesh_of o c) (record { ticket = tickets_in o c; chunk = chunk; op = op }) (fit made.passes)

    cavity_held : list_all (is_held f.actor.view.held) (cavity_seen (star_held f.actor.view.held) op) ≡ true
    cavity_held = and_left (list_all (is_held f.actor.view.held) (cavity_seen (star_held f.actor.view.held) op)) (not (is_some (judged (star_held f.actor.view.held) o.mesh.bands chunk op))) makes_it

    judgeable : can_judge f.actor.view.held chunk op ≡ true
    judgeable = can_judge_held (mesh_of o c) conforms f.actor.view.held (held_of o c s sh a f found) chunk op cavity_held

    holds_end : (n : ℕ) → is_held f.actor.view.held n ≡ true → holds s.nodes.items s.seats.items a n ≡ true
    holds_end n h = sym (holds_is o c s sh a f found n) ∙ h

    pub ends : AreEndsShown (star_seen s.nodes.items s.seats.items a) (mesh_of o c) op
    ends =
        let rest = and_right (is_held f.actor.view.held (first_end op)) (is_held f.actor.view.held (second_end op) && is_apex_held f.actor.view.held chunk op) judgeable in (
          seen_of o c s sh a f found (first_end op) (holds_end (first_end op) (and_left (is_held f.actor.view.held (first_end op)) (is_held f.actor.view.held (second_end op) && is_apex_held f.actor.view.held chunk op) judgeable)),
          seen_of o c s sh a f found (second_end op) (holds_end (second_end op) (and_left (is_held f.actor.view.held (second_end op)) (is_apex_held f.actor.view.held chunk op) rest)),
        )

    -- the nodes of the cavity, as it is seen, are held
    seen_cavity : (n : ℕ) → In n (cavity_seen (star_seen s.nodes.items s.seats.items a) op) → In n (nodes_of f.actor.view)
    seen_cavity n h = held_in n f.actor.view.held (all_in (is_held f.actor.view.held) (cavity_seen (star_held f.actor.view.held) op) cavity_held n (subst (λ (l : ℕ → Option Star). In n (cavity_seen l op)) (sym (star_fun o c s sh a f found)) h))

    seen_is : cavity_seen (star_seen s.nodes.items s.seats.items a) op ≡ cavity_of (mesh_of o c) chunk op
    seen_is = cavity_is_seen (mesh_of o c) (star_seen s.nodes.items s.seats.items a) chunk op conforms ends (passes_at_ends (mesh_of o c) chunk op made.passes)

    pub whole : (n : ℕ) → Contains (cavity_of (mesh_of o c) chunk op) n → IsShown (star_seen s.nodes.items s.seats.items a) (mesh_of o c) n
    whole n h = seen_of o c s sh a f found n (holds_node n (made.cavity n (contains_in n (cavity_of (mesh_of o c) chunk op) h)))
      where
        holds_node : (k : ℕ) → In k (nodes_of f.actor.view) → holds s.nodes.items s.seats.items a k ≡ true
        holds_node k i = holds_end k (in_held k f.actor.view.held i)

    -- there is a name for the new node, and no actor holds it
    pub new_near : o.mesh.first_new + tickets_in o c < names_of o
    new_near =
        let snd = sound o c s sh in
        let rich : nat_lt 0 (seat_at s.seats.items a).allowance ≡ true = and_left (nat_lt 0 (seat_at s.seats.items a).allowance) (can_make_by (star_seen s.nodes.items s.seats.items a) s.bands.items chunk op)
        (and_right (is_clear_seat (seat_at s.seats.items a)) (nat_lt 0 (seat_at s.seats.items a).allowance && can_make_by (star_seen s.nodes.items s.seats.items a) s.bands.items chunk op) able) in
        let some_left = lt_is 0 (seat_at s.seats.items a).allowance rich in
        let same = (seat o c s sh a f found).allowance in
        let part = total_at (λ (v : View). v.allowance) (views_of c.actors) f.place f.actor.view (view_at o c sh.core f.place f.actor (at o c s sh a f found)) in
        let all = snd.budget in
        let t = snd.tickets in
        omega arith

    not_new : (j : ℕ) (u : Actor) → get_elem? c.actors j ≡ some u → (n : ℕ) → In n (nodes_of u.view) → n ≢ o.mesh.first_new + tickets_in o c
    not_new j u there n h e =
        let snd = sound o c s sh in
        let fit_u = fits_in o c sh.core j u there in
        let t = snd.tickets in
        let near = new_near in
        let unmade : is_made o.mesh.first_new sh.core.sound.0 n ≡ false = by_test (is_made o.mesh.first_new sh.core.sound.0 n) (λ y. let r = (made_below 0 o.mesh.first_new n o.mesh sh.core.sound.0 snd.legal y).1 in absurd (omega arith)) in
        let two : slice_index c.words n ≡ 2 = (snd.unmade n (omega arith) (omega arith) unmade).0 in
        ⊎_elim
        (λ (w : slice_index c.words n ≡ held_by (number_of u.view)). absurd (omega arith))
        (λ (w : (u.view.unborn ≡ Some n) × (slice_index c.words n ≡ 2)).
        let un = fit_u.unborn n w.0 in
        let name = made_name o.mesh.first_new n un.entry un.made in
        let done = (fit_u.done un.entry un.entered).1 in
        let seen = fit_u.seen in
        absurd (omega arith))
        (fit_u.own n h)
      where
        by_test : (b : Bool) → (b ≡ true → b ≡ false) → b ≡ false
        by_test true f = f refl
        by_test false f = refl

    -- the patch, and the pairs of the model
    abbrev patch : List Pair
    patch = patch_of (star_seen s.nodes.items s.seats.items a) (o.mesh.first_new + tickets_in o c) op

    abbrev fresh : List Pair
    fresh = fresh_pairs o.mesh.first_new (record { ticket = tickets_in o c; chunk = chunk; op = op }) f.actor.view.held

    abbrev after : ℕ → Option Star
    after n = patched (star_seen s.nodes.items s.seats.items a) (o.mesh.first_new + tickets_in o c) op n

    in_patch : (n : ℕ) → In n (cavity_seen (star_seen s.nodes.items s.seats.items a) op ++ made_by (o.mesh.first_new + tickets_in o c) op) → In (record { node = n; star = after n }) patch
    in_patch n h =
        let all : List ℕ = cavity_seen (star_seen s.nodes.items s.seats.items a) op ++ made_by (o.mesh.first_new + tickets_in o c) op in
        in_map (λ (k : ℕ). record { node = k; star = after k }) n (risen all) (contains_in n (risen all) (risen-has all n (in_contains n all h)))

    pub from_patch : (h : Pair) → In h patch → (h.star ≡ after h.node) × In h.node (cavity_seen (star_seen s.nodes.items s.seats.items a) op ++ made_by (o.mesh.first_new + tickets_in o c) op)
    from_patch h i =
        let all : List ℕ = cavity_seen (star_seen s.nodes.items s.seats.items a) op ++ made_by (o.mesh.first_new + tickets_in o c) op in
        let r = in_mapped (λ (k : ℕ). record { node = k; star = after k }) h (risen all) i in
        let node : h.node ≡ r.0 = ap (λ (p : Pair). p.node) r.2 in
        (ap (λ (p : Pair). p.star) r.2 ∙ ap after (sym node), subst (λ (k : ℕ). In k all) (sym node) (contains_in r.0 all (risen-means all r.0 (in_contains r.0 (risen all) r.1))))

    pub patch_near : (h : Pair) → In h patch → h.node < names_of o
    patch_near h i = ⊎_elim
        (λ (k : In h.node (cavity_seen (star_seen s.nodes.items s.seats.items a) op)). (fits o c s sh a f found).near h.node (seen_cavity h.node k))
        (λ (k : In h.node (made_by (o.mesh.first_new + tickets_in o c) op)). subst (λ (n : ℕ). n < names_of o) (sym (made_new (o.mesh.first_new + tickets_in o c) op h.node k)) new_near)
        (in_either h.node (cavity_seen (star_seen s.nodes.items s.seats.items a) op) (made_by (o.mesh.first_new + tickets_in o c) op) (from_patch h i).1)

    after_is : (n : ℕ) → patched (star_held f.actor.view.held) (o.mesh.first_new + tickets_in o c) op n ≡ after n
    after_is n = ap (λ (l : ℕ → Option Star). patched l (o.mesh.first_new + tickets_in o c) op n) (star_fun o c s sh a f found)

    -- a pair of the model is the new node's, or that of a node that was held
    record IsFresh (p : Pair) : Type 0 where
      pub star : p.star ≡ after p.node
      pub place : In p.node (made_by (o.mesh.first_new + tickets_in o c) op) ⊎ ((q : Pair) × In q f.actor.view.held × (p.node ≡ q.node))

    from_fresh : (p : Pair) → In p fresh → IsFresh p
    from_fresh p h = ⊎_elim
        (λ (k : In p (new_pairs (star_held f.actor.view.held) (o.mesh.first_new + tickets_in o c) op)).
        let r = in_mapped (λ (n : ℕ). record { node = n; star = patched (star_held f.actor.view.held) (o.mesh.first_new + tickets_in o c) op n }) p (made_by (o.mesh.first_new + tickets_in o c) op) k in
        let node : p.node ≡ r.0 = ap (λ (q : Pair). q.node) r.2 in
        record { star = ap (λ (q : Pair). q.star) r.2 ∙ after_is r.0 ∙ ap after (sym node); place = inl (subst (λ (n : ℕ). In n (made_by (o.mesh.first_new + tickets_in o c) op)) (sym node) r.1) })
        (λ (k : In p (patched_pairs f.actor.view.held (o.mesh.first_new + tickets_in o c) op)).
        let r = in_mapped (λ (q : Pair). record { node = q.node; star = patched (star_held f.actor.view.held) (o.mesh.first_new + tickets_in o c) op q.node }) p f.actor.view.held k in
        let node : p.node ≡ r.0.node = ap (λ (q : Pair). q.node) r.2 in
        record { star = ap (λ (q : Pair). q.star) r.2 ∙ after_is r.0.node ∙ ap after (sym node); place = inr (r.0, r.1, node) })
        (in_either p (new_pairs (star_held f.actor.view.held) (o.mesh.first_new + tickets_in o c) op) (patched_pairs f.actor.view.held (o.mesh.first_new + tickets_in o c) op) h)

    held_fresh : (q : Pair) → In q f.actor.view.held → In (record { node = q.node; star = after q.node }) fresh
    held_fresh q h =
        in_right (record { node = q.node; star = after q.node }) (new_pairs (star_held f.actor.view.held) (o.mesh.first_new + tickets_in o c) op) (patched_pairs f.actor.view.held (o.mesh.first_new + tickets_in o c) op)
        (subst (λ (x : Option Star). In (record { node = q.node; star = x }) (patched_pairs f.actor.view.held (o.mesh.first_new + tickets_in o c) op)) (after_is q.node)
        (in_map (λ (p : Pair). record { node = p.node; star = patched (star_held f.actor.view.held) (o.mesh.first_new + tickets_in o c) op p.node }) q f.actor.view.held h))

    made_fresh : (n : ℕ) → In n (made_by (o.mesh.first_new + tickets_in o c) op) → In (record { node = n; star = after n }) fresh
    made_fresh n h =
        in_left (record { node = n; star = after n }) (new_pairs (star_held f.actor.view.held) (o.mesh.first_new + tickets_in o c) op) (patched_pairs f.actor.view.held (o.mesh.first_new + tickets_in o c) op)
        (subst (λ (x : Option Star). In (record { node = n; star = x }) (new_pairs (star_held f.actor.view.held) (o.mesh.first_new + tickets_in o c) op)) (after_is n)
        (in_map (λ (k : ℕ). record { node = k; star = patched (star_held f.actor.view.held) (o.mesh.first_new + tickets_in o c) op k }) n (made_by (o.mesh.first_new + tickets_in o c) op) h))

    -- the star of a held node outside the cavity stays
    stays : (q : Pair) → In q f.actor.view.held → (In q.node (cavity_seen (star_seen s.nodes.items s.seats.items a) op) → ⊥) → after q.node ≡ q.star
    stays q h out =
        made.pairs (record { node = q.node; star = after q.node }) (held_fresh q h)
        ∙ keeps_outside (mesh_of o c) (record { ticket = tickets_in o c; chunk = chunk; op = op }) (fit made.passes) q.node (λ k. out (subst (λ (l : List ℕ). In q.node l) (sym seen_is) k))
        (λ e. not_new f.place f.actor (at o c s sh a f found) q.node (node_in q f.actor.view.held h) (e ∙ ap (λ (k : ℕ). k + tickets_in o c) (replayed_first_new o.mesh (log_of o c))))
        ∙ sym (held_of o c s sh a f found q h)

    -- the star that stands at a node after
    after_stands : (p : Pair) → In p fresh → (node_at (starred patch s.nodes.items) p.node).star ≡ p.star
    after_stands p h =
        let r = from_fresh p h in
        ⊎_elim
        (λ (k : In p.node (made_by (o.mesh.first_new + tickets_in o c) op)). put p.node (in_right p.node (cavity_seen (star_seen s.nodes.items s.seats.items a) op) (made_by (o.mesh.first_new + tickets_in o c) op) k) ∙ sym r.star)
        (λ (k : (q : Pair) × In q f.actor.view.held × (p.node ≡ q.node)).
        decide p.node (cavity_seen (star_seen s.nodes.items s.seats.items a) op) ((node_at (starred patch s.nodes.items) p.node).star ≡ p.star)
        (λ i. put p.node (in_left p.node (cavity_seen (star_seen s.nodes.items s.seats.items a) op) (made_by (o.mesh.first_new + tickets_in o c) op) i) ∙ sym r.star)
        (λ out.
        let far : (x : Pair) → In x patch → x.node ≢ p.node = λ x i e. ⊎_elim
        (λ (y : In x.node (cavity_seen (star_seen s.nodes.items s.seats.items a) op)). out (subst (λ (n : ℕ). In n (cavity_seen (star_seen s.nodes.items s.seats.items a) op)) e y))
        (λ (y : In x.node (made_by (o.mesh.first_new + tickets_in o c) op)). not_new f.place f.actor (at o c s sh a f found) p.node (subst (λ (n : ℕ). In n (nodes_of f.actor.view)) (sym k.2) (node_in k.0 f.actor.view.held k.1)) (sym e ∙ made_new (o.mesh.first_new + tickets_in o c) op x.node y))
        (in_either x.node (cavity_seen (star_seen s.nodes.items s.seats.items a) op) (made_by (o.mesh.first_new + tickets_in o c) op) (from_patch x i).1) in
        starred_else patch s.nodes.items p.node far
        ∙ ap (λ (n : ℕ). (node_at s.nodes.items n).star) k.2 ∙ (mine o c s sh a f found).stars k.0 k.1
        ∙ sym (stays k.0 k.1 (λ i. out (subst (λ (n : ℕ). In n (cavity_seen (star_seen s.nodes.items s.seats.items a) op)) (sym k.2) i))) ∙ ap after (sym k.2) ∙ sym r.star))
        r.place
      where
        put : (n : ℕ) → In n (cavity_seen (star_seen s.nodes.items s.seats.items a) op ++ made_by (o.mesh.first_new + tickets_in o c) op) → (node_at (starred patch s.nodes.items) n).star ≡ after n
        put n i =
            let low : n < length s.nodes.items = let y = patch_near (record { node = n; star = after n }) (in_patch n i) in let z = names o c s sh in omega arith in
            starred_at patch s.nodes.items n (after n) low (λ x k e. (from_patch x k).0 ∙ ap after e) (record { node = n; star = after n }) (in_patch n i) refl

    -- the stars of other actors stay
    others_stand : (j : ℕ) (u : Actor) → j ≢ f.place → get_elem? c.actors j ≡ some u → (p : Pair) → In p u.view.held → (node_at (starred patch s.nodes.items) p.node).star ≡ (node_at s.nodes.items p.node).star
    others_stand j u ne there p h = starred_else patch s.nodes.items p.node (λ x i e. ⊎_elim
        (λ (y : In x.node (cavity_seen (star_seen s.nodes.items s.seats.items a) op)). other_node o c s sh a f found j u x.node ne there (seen_cavity x.node y) p h (sym e))
        (λ (y : In x.node (made_by (o.mesh.first_new + tickets_in o c) op)). not_new j u there p.node (node_in p u.view.held h) (sym e ∙ made_new (o.mesh.first_new + tickets_in o c) op x.node y))
        (in_either x.node (cavity_seen (star_seen s.nodes.items s.seats.items a) op) (made_by (o.mesh.first_new + tickets_in o c) op) (from_patch x i).1))

    -- what is owed
    nothing : f.actor.owed ≡ []
    nothing = nil_is f.actor.owed (and_left (is_nil f.actor.owed) (list_all (λ (p : Pair). is_some p.star) f.actor.view.held && not (is_some f.actor.view.unborn)) clear)
      where
        nil_is : (l : List Owed) → is_nil l ≡ true → l ≡ []
        nil_is [] h = refl
        nil_is (x ∷ xs) h = absurd (let z : false ≡ true = h in cc)

    old_is : (n : ℕ) → star_held f.actor.view.held n ≡ star_seen s.nodes.items s.seats.items a n
    old_is n = star_is o c s sh a f found n

    -- the pair of the patch's node in the model
    patch_fresh : (h : Pair) → In h patch → (p : Pair) × In p fresh × (p.node ≡ h.node) × (p.star ≡ h.star)
    patch_fresh h i =
        let r = from_patch h i in
        ⊎_elim
        (λ (k : In h.node (cavity_seen (star_seen s.nodes.items s.seats.items a) op)).
        let q = pair_of h.node f.actor.view.held (seen_cavity h.node k) in
        (record { node = q.0.node; star = after q.0.node }, held_fresh q.0 q.1, q.2, ap after q.2 ∙ sym r.0))
        (λ (k : In h.node (made_by (o.mesh.first_new + tickets_in o c) op)). (record { node = h.node; star = after h.node }, made_fresh h.node k, refl, sym r.0))
        (in_either h.node (cavity_seen (star_seen s.nodes.items s.seats.items a) op) (made_by (o.mesh.first_new + tickets_in o c) op) r.1)

    low_chunk : (x : Undivided) (n k : ℕ) (star : Option Star) → IsConforming x → x.chunks ≡ o.mesh.chunks → star ≡ star_of x n → is_sharer k (spokes_in star) ≡ true → k < o.mesh.chunks
    low_chunk x n k star ok chunks is h = go star is h
      where
        go : (y : Option Star) → y ≡ star_of x n → is_sharer k (spokes_in y) ≡ true → k < o.mesh.chunks
        go None e i = absurd (let z : false ≡ true = i in cc)
        go (Some y) e i = subst (λ (j : ℕ). k < j) chunks (sharer_below x ok k n (ap (λ (l : List Spoke). is_sharer k l) (sym (spokes_are_of x n y (sym e)) ∙ ap spokes_in (sym e)) ∙ i))

    owed_low : (p : Pair) → In p fresh → (k : ℕ) → shares k (star_held f.actor.view.held p.node) p.star ≡ true → k < o.mesh.chunks
    owed_low p h k sharing = ⊎_elim
        (λ (y : is_sharer k (spokes_in (star_held f.actor.view.held p.node)) ≡ true).
        low_chunk (mesh_of o c) p.node k (star_held f.actor.view.held p.node) conforms (replayed_chunks o.mesh (log_of o c)) (old_shown p.node y) y)
        (λ (y : is_sharer k (spokes_in p.star) ≡ true).
        low_chunk (applied (mesh_of o c) (record { ticket = tickets_in o c; chunk = chunk; op = op })) p.node k p.star conforms_next (applied_chunks (mesh_of o c) (tickets_in o c) chunk op ∙ replayed_chunks o.mesh (log_of o c)) (made.pairs p h) y)
        (or_cases (is_sharer k (spokes_in (star_held f.actor.view.held p.node))) (is_sharer k (spokes_in p.star)) sharing)
      where
        old_shown : (n : ℕ) → is_sharer k (spokes_in (star_held f.actor.view.held n)) ≡ true → star_held f.actor.view.held n ≡ star_of (mesh_of o c) n
        old_shown n y = old_is n ∙ by_holds (holds s.nodes.items s.seats.items a n) refl
          where
            by_holds : (b : Bool) → holds s.nodes.items s.seats.items a n ≡ b → star_seen s.nodes.items s.seats.items a n ≡ star_of (mesh_of o c) n
            by_holds true e = seen_of o c s sh a f found n e
            by_holds false e = absurd (let z : true ≡ false = sym y ∙ ap (λ (x : Option Star). is_sharer k (spokes_in x)) (old_is n ∙ ap (λ (b : Bool). cond b (node_at s.nodes.items n).star None) e) in cc (z))

        conforms_next : IsConforming (applied (mesh_of o c) (record { ticket = tickets_in o c; chunk = chunk; op = op }))
        conforms_next =
            let snd = sound o c s sh in
            let e : Entry = record { ticket = tickets_in o c; chunk = chunk; op = op } in
            let passes : first_failing (mesh_after o sh.core.sound.0) chunk op ≡ None = subst (λ (x : Undivided). first_failing x chunk op ≡ None) (mesh_is o c sh.core) made.passes in
            subst IsConforming (replayed_more o.mesh sh.core.sound.0 e ∙ ap (λ (x : Undivided). applied x e) (sym (mesh_is o c sh.core)))
            (conforms_after o (sh.core.sound.0 ++ e ∷ []) snd.conforming snd.fresh (legal_more 0 o.mesh sh.core.sound.0 e snd.legal (let z = snd.tickets in omega arith) passes))

    owed_in_model : (d : Owed) → In d (owed_all (star_seen s.nodes.items s.seats.items a) patch) → In d (owed_after o.mesh.chunks f.actor.view.held fresh)
    owed_in_model d h =
        let r = in_owed_all (star_seen s.nodes.items s.seats.items a) patch d h in
        let p = patch_fresh r.pair r.inside in
        let changed : same_star (star_held f.actor.view.held p.0.node) p.0.star ≡ false = (λ i. same_star (old_is (p.2 i) i) (p.3 i)) ∙ r.changed in
        let sharing : shares d.chunk (star_held f.actor.view.held p.0.node) p.0.star ≡ true = (λ i. shares d.chunk (old_is (p.2 i) i) (p.3 i)) ∙ r.shared in
        subst (λ (y : Owed). In y (owed_after o.mesh.chunks f.actor.view.held fresh)) (λ i. record { chunk = d.chunk; node = (p.2 ∙ sym r.node) i })
        (owed_after_in o.mesh.chunks f.actor.view.held fresh p.0 d.chunk p.1 (owed_low p.0 p.1 d.chunk sharing) changed sharing)

    model_in_owed : (d : Owed) → In d (owed_after o.mesh.chunks f.actor.view.held fresh) → In d (owed_all (star_seen s.nodes.items s.seats.items a) patch)
    model_in_owed d h =
        let r = in_owed_after o.mesh.chunks f.actor.view.held fresh d h in
        let p : Pair = r.pair in
        let k = from_fresh p r.inside in
        let changed : same_star (star_seen s.nodes.items s.seats.items a p.node) (after p.node) ≡ false = (λ i. same_star (sym (old_is p.node) i) (sym k.star i)) ∙ r.changed in
        let sharing : shares d.chunk (star_seen s.nodes.items s.seats.items a p.node) (after p.node) ≡ true = (λ i. shares d.chunk (sym (old_is p.node) i) (sym k.star i)) ∙ r.shared in
        let here : In p.node (cavity_seen (star_seen s.nodes.items s.seats.items a) op ++ made_by (o.mesh.first_new + tickets_in o c) op) → In d (owed_all (star_seen s.nodes.items s.seats.items a) patch)
        = λ i. subst (λ (y : Owed). In y (owed_all (star_seen s.nodes.items s.seats.items a) patch)) (λ j. record { chunk = d.chunk; node = sym r.node j })
        (owed_all_in (star_seen s.nodes.items s.seats.items a) patch (record { node = p.node; star = after p.node }) d.chunk (in_patch p.node i) changed sharing) in
        ⊎_elim
        (λ (i : In p.node (made_by (o.mesh.first_new + tickets_in o c) op)). here (in_right p.node (cavity_seen (star_seen s.nodes.items s.seats.items a) op) (made_by (o.mesh.first_new + tickets_in o c) op) i))
        (λ (i : (q : Pair) × In q f.actor.view.held × (p.node ≡ q.node)).
        decide p.node (cavity_seen (star_seen s.nodes.items s.seats.items a) op) (In d (owed_all (star_seen s.nodes.items s.seats.items a) patch))
        (λ j. here (in_left p.node (cavity_seen (star_seen s.nodes.items s.seats.items a) op) (made_by (o.mesh.first_new + tickets_in o c) op) j))
        (λ out.
        let old : star_seen s.nodes.items s.seats.items a p.node ≡ i.0.star = seen_pair i.0 i.1 p.node i.2 in
        let kept : after p.node ≡ i.0.star = ap after i.2 ∙ stays i.0 i.1 (λ j. out (subst (λ (n : ℕ). In n (cavity_seen (star_seen s.nodes.items s.seats.items a) op)) (sym i.2) j)) in
        absurd (let z : true ≡ false = sym ((λ j. same_star (old j) (kept j)) ∙ star_same i.0.star) ∙ changed in cc (z))))
        k.place
      where
        seen_pair : (q : Pair) → In q f.actor.view.held → (n : ℕ) → n ≡ q.node → star_seen s.nodes.items s.seats.items a n ≡ q.star
        seen_pair q h n e = sym (old_is n) ∙ ap (star_held f.actor.view.held) e ∙ star_in_is (star_of (mesh_of o c)) q.node f.actor.view.held (held_of o c s sh a f found) (node_in q f.actor.view.held h) ∙ sym (held_of o c s sh a f found q h)

    -- the seat after
    long_fresh : length (fresh_pairs o.mesh.first_new (record { ticket = tickets_in o c; chunk = chunk; op = op }) f.actor.view.held) ≡ count_by op + length f.actor.view.held
    long_fresh =
        let long : length (map (λ (q : Pair). record { node = q.node; star = patched (star_held f.actor.view.held) (o.mesh.first_new + tickets_in o c) op q.node }) f.actor.view.held) ≡ length f.actor.view.held = length-map f.actor.view.held _ in
        length-append (new_pairs (star_held f.actor.view.held) (o.mesh.first_new + tickets_in o c) op) (patched_pairs f.actor.view.held (o.mesh.first_new + tickets_in o c) op)
        ∙ (λ i. made_count (star_held f.actor.view.held) (o.mesh.first_new + tickets_in o c) op i + long i)

    first_held : In (first_end op) (nodes_of f.actor.view)
    first_held = seen_cavity (first_end op) (end_in (star_seen s.nodes.items s.seats.items a) op)

    fresh_absent : (n : ℕ) → absent_by op ≡ Some n → In (record { node = n; star = None }) fresh
    fresh_absent n e =
        let end : n ≡ first_end op = absent_end op n e in
        let q = pair_of (first_end op) f.actor.view.held first_held in
        let node : q.0.node ≡ n = q.2 ∙ sym end in
        subst (λ (p : Pair). In p fresh) (λ i. record { node = node i; star = (ap after node ∙ gone_none (star_seen s.nodes.items s.seats.items a) (o.mesh.first_new + tickets_in o c) op n e) i }) (held_fresh q.0 q.1)

    fresh_absences : (p : Pair) → In p fresh → p.star ≡ None → absent_by op ≡ Some p.node
    fresh_absences p h gone =
        let r = from_fresh p h in
        ⊎_elim
        (λ (i : In p.node (made_by (o.mesh.first_new + tickets_in o c) op)).
        absurd (let z : true ≡ false = sym (made_some (star_seen s.nodes.items s.seats.items a) (o.mesh.first_new + tickets_in o c) op p.node i) ∙ ap (λ (x : Option Star). is_some x) (sym r.star ∙ gone) in cc (z)))
        (λ (i : (q : Pair) × In q f.actor.view.held × (p.node ≡ q.node)).
        let there : is_some (star_seen s.nodes.items s.seats.items a p.node) ≡ true
        = ap (λ (x : Option Star). is_some x) (sym (old_is p.node)) ∙ sym (held_star f.actor.view.held (stars_alone clear) p.node) ∙ in_held p.node f.actor.view.held (subst (λ (n : ℕ). In n (nodes_of f.actor.view)) (sym i.2) (node_in i.0 f.actor.view.held i.1)) in
        patched_some (star_seen s.nodes.items s.seats.items a) (o.mesh.first_new + tickets_in o c) op p.node there (sym r.star ∙ gone))
        r.place

    pub commit_seat : (name : ℕ) → name ≡ o.mesh.first_new + tickets_in o c → ShowsSeat (committed_seat op name (owed_all (star_seen s.nodes.items s.seats.items a) patch) (seat_at s.seats.items a))
        (record { view = committed f.actor.view (record { ticket = tickets_in o c; chunk = chunk; op = op }) fresh (unborn_by o.mesh.first_new (record { ticket = tickets_in o c; chunk = chunk; op = op })); owed = f.actor.owed ++ owed_after o.mesh.chunks f.actor.view.held fresh })
    commit_seat name is =
        let kept = seat o c s sh a f found in
        record {
          allowance = ap (λ (k : ℕ). k - 1) kept.allowance;
          held = let z = kept.held in let y = long_fresh in omega arith;
          unborn = born_is o.mesh.first_new (record { ticket = tickets_in o c; chunk = chunk; op = op }) name is;
          absent = fresh_absent;
          absences = fresh_absences;
          owed = λ d h. in_right d f.actor.owed (owed_after o.mesh.chunks f.actor.view.held fresh) (owed_in_model d h);
          debts = λ d h. ⊎_elim (λ (k : In d f.actor.owed). absurd (in_none d f.actor.owed k nothing)) (λ (k : In d (owed_after o.mesh.chunks f.actor.view.held fresh)). model_in_owed d k) (in_either d f.actor.owed (owed_after o.mesh.chunks f.actor.view.held fresh) h);
        }

    pub commit_shows : (t : State) (name : ℕ) → name ≡ o.mesh.first_new + tickets_in o c → IsOf s t → t.log.items ≡ s.log.items ++ record { ticket = tickets_in o c; chunk = chunk; op = op } ∷ []
        → t.nodes.items ≡ starred patch s.nodes.items → t.seats.items ≡ set s.seats.items a (committed_seat op name (owed_all (star_seen s.nodes.items s.seats.items a) patch) (seat_at s.seats.items a))
        → IsCore o (commit_state o c f (record { ticket = tickets_in o c; chunk = chunk; op = op })) → IsExtended (log_of o c) (log_of o (commit_state o c f (record { ticket = tickets_in o c; chunk = chunk; op = op })))
        → ShowsState o (commit_state o c f (record { ticket = tickets_in o c; chunk = chunk; op = op })) t
    commit_shows t name is of log nodes seats core' grown =
        let e : Entry = record { ticket = tickets_in o c; chunk = chunk; op = op } in
        let d : CoreState = commit_state o c f e in
        let b : Actor = record { view = committed f.actor.view e fresh (unborn_by o.mesh.first_new e); owed = f.actor.owed ++ owed_after o.mesh.chunks f.actor.view.held fresh } in
        let words' : List ℕ = set c.words (names_of o) (tickets_in o c + 1) in
        let wide = (sound o c s sh).words_long in
        let ticket : tickets_in o d ≡ tickets_in o c + 1 = get_or-set_same c.words (names_of o) (tickets_in o c + 1) 0 (omega arith) in
        let one = (shows_one_mesh o c sh.core).long in
        let two = (shows_one_mesh o d core').long in
        let sum = ap length grown.1 ∙ length-append (log_of o c) grown.0 in
        let single : length grown.0 ≡ 1 = omega arith in
        let there : get_elem? (views_of d.actors) f.place ≡ some b.view = at_map view_in d.actors f.place b (at_set_here c.actors f.place f.actor b (at o c s sh a f found)) in
        let entered = ((sound_in o d core').fits f.place b.view there).done e (inl refl) in
        let history : log_of o d ≡ core'.sound.0 = history_is_log o d.words (homes_of d.words d.lists) (views_of d.actors) core'.sound.0 (sound_in o d core') in
        let known : get_elem? (log_of o d) (length (log_of o c)) ≡ some e = (λ i. get_elem? (history i) (one i)) ∙ entered.0 in
        let next : log_of o d ≡ log_of o c ++ e ∷ [] = log_next (log_of o c) (log_of o d) grown.0 e grown.1 single known in
        let longer : tickets_in o c + 1 ≡ length t.log.items = let z = ap length log ∙ length-append s.log.items (e ∷ []) in let y = tickets_are o c s sh in omega arith in
        put_shows o c s sh a f found t words' c.lists b (committed_seat op name (owed_all (star_seen s.nodes.items s.seats.items a) patch) (seat_at s.seats.items a)) of core'
        ((λ i. set (sh.words i) (names_of o) (tickets_in o c + 1)) ∙ codes_next s.nodes.items (length s.log.items) (tickets_in o c + 1) (names_of o) (sym (names o c s sh))
        ∙ (λ i. (sym (starred_codes patch s.nodes.items) ∙ ap (map code_in) (sym nodes)) i ++ longer i ∷ []))
        (sh.lists ∙ sym (starred_lists patch s.nodes.items) ∙ ap (map list_in) (sym nodes))
        (next ∙ ap (λ (l : List Entry). l ++ e ∷ []) sh.log ∙ sym log)
        seats (lead_is o c s sh a f found) refl (commit_seat name is)
        (λ p h. ap (λ (l : List Node). (node_at l p.node).star) nodes ∙ after_stands p h)
        (λ j u ne x p h. ap (λ (l : List Node). (node_at l p.node).star) nodes ∙ others_stand j u ne x p h)

pub commit_ignored : (s : State) (a chunk : ℕ) (op : Op) (b : Bool) → ((m : Undivided) → IsShownTo s.nodes.items s.seats.items a op m → b ≡ can_commit s.nodes.items s.seats.items s.bands.items a chunk op) → b ≡ false → IsAct (Commit a chunk op) s Ignored s
commit_ignored s a chunk op b is no_gate o c f sh found =
    refused o c s sh (is_clear f.actor && (nat_lt 0 f.actor.view.allowance && can_make o f.actor.view.held (record { ticket = tickets_in o c; chunk = chunk; op = op }))) (commit_state o c f (record { ticket = tickets_in o c; chunk = chunk; op = op })) (Some (tickets_in o c))
    (gate_is o c s sh a chunk op f found ∙ sym (is (mesh_of o c) (shown_to o c s sh a f found op)) ∙ no_gate)

-- what is patched, on each mesh that shows the cavity
abbrev pub IsPatchOf : State → ℕ → Op → ℕ → List Pair → Type 0
IsPatchOf s a op name pairs = (m : Undivided) (chunk ticket : ℕ) → CanApply m (record { ticket = ticket; chunk = chunk; op = op }) → AreEndsShown (star_seen s.nodes.items s.seats.items a) m op
    → ((n : ℕ) → Contains (cavity_of m chunk op) n → IsShown (star_seen s.nodes.items s.seats.items a) m n) → name ≡ m.first_new + ticket → m.first_new + ticket ≤ 4294967295
    → pairs ≡ patch_of (star_seen s.nodes.items s.seats.items a) name op

module _ (o : Opening) (c : CoreState) (s : State) (sh : ShowsState o c s) (a chunk : ℕ) (op : Op) (f : Found) (found : found_from a 0 c.actors ≡ Some f) (able : can_commit s.nodes.items s.seats.items s.bands.items a chunk op ≡ true) (name : ℕ) (pairs : List Pair) (is : name ≡ s.first_new + length s.log.items) (patched_is : IsPatchOf s a op name pairs) where
  pub name_is : name ≡ o.mesh.first_new + tickets_in o c
  name_is = is ∙ (λ i. sh.first_new i + sym (tickets_are o c s sh) i)

  pub pairs_are : pairs ≡ patch_of (star_seen s.nodes.items s.seats.items a) (o.mesh.first_new + tickets_in o c) op
  pairs_are =
      let first = replayed_first_new o.mesh (log_of o c) in
      let low = new_near o c s sh a chunk op f found able in
      let small = (sound o c s sh).small in
      let n = name_is in
      patched_is (mesh_of o c) chunk (tickets_in o c) (can o c s sh a chunk op f found able) (ends o c s sh a chunk op f found able) (whole o c s sh a chunk op f found able) (omega arith) (omega arith)
      ∙ ap (λ (k : ℕ). patch_of (star_seen s.nodes.items s.seats.items a) k op) name_is

pub commit_taken : (s t : State) (a chunk : ℕ) (op : Op) (b : Bool) (ticket name : ℕ) (pairs : List Pair) → ((m : Undivided) → IsShownTo s.nodes.items s.seats.items a op m → b ≡ can_commit s.nodes.items s.seats.items s.bands.items a chunk op) → b ≡ true
    → IsOf s t → ticket ≡ length s.log.items → name ≡ s.first_new + length s.log.items → IsPatchOf s a op name pairs → t.log.items ≡ s.log.items ++ record { ticket = ticket; chunk = chunk; op = op } ∷ []
    → t.nodes.items ≡ starred pairs s.nodes.items → t.seats.items ≡ set s.seats.items a (committed_seat op name (owed_all (star_seen s.nodes.items s.seats.items a) pairs) (seat_at s.seats.items a)) → IsAct (Commit a chunk op) s (Taken (Some ticket)) t
commit_taken s t a chunk op b ticket name pairs is gate of same named patched_is log nodes seats o c f sh found =
    let e : Entry = record { ticket = tickets_in o c; chunk = chunk; op = op } in
    let able : can_commit s.nodes.items s.seats.items s.bands.items a chunk op ≡ true = sym (is (mesh_of o c) (shown_to o c s sh a f found op)) ∙ gate in
    let g : Bool = is_clear f.actor && (nat_lt 0 f.actor.view.allowance && can_make o f.actor.view.held e) in
    let holds_gate : g ≡ true = gate_is o c s sh a chunk op f found ∙ able in
    let d : CoreState = commit_state o c f e in
    let tick : ticket ≡ tickets_in o c = same ∙ sym (tickets_are o c s sh) in
    let are = pairs_are o c s sh a chunk op f found able name pairs named patched_is in
    let core' = core_taken o c g d (Some (tickets_in o c)) holds_gate (acted_core o c s sh a f found (Commit a chunk op) refl) in
    let grown = grows_taken o c g d (Some (tickets_in o c)) holds_gate (acted_grows o c s sh a f found (Commit a chunk op) refl) in
    let r = taken o c t g d (Some (tickets_in o c)) holds_gate
    (commit_shows o c s sh a chunk op f found able t name (name_is o c s sh a chunk op f found able name pairs named patched_is) of
    (log ∙ ap (λ (k : ℕ). s.log.items ++ record { ticket = k; chunk = chunk; op = op } ∷ []) tick)
    (nodes ∙ ap (λ (l : List Pair). starred l s.nodes.items) are)
    (seats ∙ ap (λ (l : List Pair). set s.seats.items a (committed_seat op name (owed_all (star_seen s.nodes.items s.seats.items a) l) (seat_at s.seats.items a))) are)
    core' grown) in
    (r.0, ap (λ (k : ℕ). Taken (Some k)) tick ∙ r.1)

-- the nodes of the patch stand in the table, and the new name is small
pub commit_near : (s : State) (a chunk : ℕ) (op : Op) (b : Bool) (name : ℕ) (pairs : List Pair) → IsActor s a → ((m : Undivided) → IsShownTo s.nodes.items s.seats.items a op m → b ≡ can_commit s.nodes.items s.seats.items s.bands.items a chunk op) → b ≡ true
    → name ≡ s.first_new + length s.log.items → IsPatchOf s a op name pairs → (h : Pair) → Contains pairs h → h.node < length s.nodes.items
commit_near s a chunk op b name pairs r is gate named patched_is h i =
    let able : can_commit s.nodes.items s.seats.items s.bands.items a chunk op ≡ true = sym (is (mesh_of r.opening r.state) (shown_to r.opening r.state s r.shown a r.place r.found op)) ∙ gate in
    let are = pairs_are r.opening r.state s r.shown a chunk op r.place r.found able name pairs named patched_is in
    let low = patch_near r.opening r.state s r.shown a chunk op r.place r.found able h (subst (λ (l : List Pair). In h l) are (contains_in h pairs i)) in
    let z = names r.opening r.state s r.shown in
    omega arith

pub few_names_next : (s : State) → IsSome s → s.first_new + length s.log.items ≤ 1048576
few_names_next s x =
    let sh = x.shown in
    let t = (shows_one_mesh x.opening x.state sh.core).within in
    let y = tickets_are x.opening x.state s sh in
    let z = (sound x.opening x.state s sh).small in
    let w = sh.first_new in
    omega arith
