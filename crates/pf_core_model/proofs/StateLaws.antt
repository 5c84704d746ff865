-- The laws of the pure core, from those of words, homes and views.
use Rattle.std.proofs.Common.{◌≡◌, ◌≢◌, ℕ, zero, suc, ◌+◌, ◌<◌, ◌≤◌, Bool, true, false, List, [], ◌∷◌, ◌++◌, length, set, refl, sym, ap, ◌∙◌, subst, inl, inr, ⊎_elim, arith}
use Rattle.std.specs.Prelude.{Option, Some, None, slice_index}
use Rattle.std.proofs.lemmas.List.{get_or-set_other, get_or-set_same, length-set, map-append}
use mathlib.Core.Option.{none, some}
use mathlib.Core.Logic.{dite}
use native.Mathlib.Decide.{ℕ_discrete}
use lib.ListN.{get_elem?}
use Rattle.pf_model.specs.declared.Entry.{Entry}
use Rattle.pf_model.specs.Mesh.{Undivided}
use Rattle.pf_model.specs.Applied.{applied}
use Rattle.pf_model.specs.Conditions.{first_failing}
use Rattle.pf_model.specs.Replay.{replayed}
use Rattle.pf_model.specs.Stars.{Star, star_of}
use Rattle.pf_core_model.specs.declared.sharer.Sharer.{Sharer}
use Rattle.pf_core_model.specs.declared.view.View.{View}
use Rattle.pf_star_model.specs.Lent.{Held, star_held}
use Rattle.pf_core_model.specs.declared.event.Owed.{Owed}
use Rattle.pf_core_model.specs.Lists.{In}
use Rattle.pf_star_model.specs.Cavity.{cavity_of}
use Rattle.pf_core_model.specs.Cavity.{is_made}
use Rattle.pf_star_model.specs.Copies.{due_copy}
use Rattle.pf_core_model.specs.Sharers.{sharers_in, kept_in, copy_in, put_copy, IsSharerList}
use Rattle.pf_core_model.specs.Same.{same_star}
use Rattle.pf_core_model.specs.Moves.{unborn_by, locked, committed, made_list, born, without, released, spares_in, left_of, right_of, both_of, spent_view}
use Rattle.pf_core_model.specs.Needs.{KeepsOutside}
use Rattle.pf_core_model.specs.Core.{Opening, names_of, mesh_after, star_after, held_by, number_of, nodes_in, nodes_of, ArePatched, Fits, Homes, Sound}
use Rattle.pf_core_model.specs.State.{Actor, CoreState, view_in, views_of, homes_of, list_at, fresh_pairs, copy_at, tickets_in, mesh_of, Found, put, without_owed, owed_after, split_state, lock_state, commit_state, push_state, birth_state, back_state, join_state, Owes, IsCore}
use Rattle.pf_core_model.proofs.Lists.{set_else, set_again, at_snoc, at_map, at_index, map_set, total_at, each_set, in_none, in_either, in_right}
use Rattle.pf_core_model.proofs.Replays.{star_after_is, star_applied, conforms_after, replayed_chunks, made_name, made_below, made_in}
use Rattle.pf_core_model.proofs.Views.{some_not_none, node_in, apart}
use Rattle.pf_core_model.proofs.Events.{in_without, node_stays, locks_in, births_in, releases_in, buries_in, in_hands}
use Rattle.pf_core_model.proofs.Parted.{splits, joins}
use Rattle.pf_core_model.proofs.Commits.{in_made, commits}
use Rattle.pf_core_model.proofs.Histories.{history_is_log}
use Rattle.pf_core_model.proofs.Same.{star_is, star_not}
use Rattle.pf_core_model.proofs.Sharing.{sharers_due, none_due, kept_is, put_here, put_else, put_listed, star_shared}
use Rattle.pf_core_model.proofs.Slots.{due_list}
use Rattle.pf_core_model.proofs.Owing.{home_from, homes_are, homes_long, homes_else, home_listed, places_same, star_in_is, star_in_none, fresh_nodes, owing, in_without_owed, stays_owed, shares, in_owed_after, owed_after_in, due_none, due_differ}

by_cases : (b : Bool) (P : Type 0) → (b ≡ true → P) → (b ≡ false → P) → P
by_cases true P hit miss = hit refl
by_cases false P hit miss = miss refl

module _ (o : Opening) (s : CoreState) (c : IsCore o s) where
  abbrev log_in : List Entry
  log_in = c.sound.0

  abbrev homes_in : Homes
  homes_in = homes_of s.words s.lists

  abbrev views_in : List View
  views_in = views_of s.actors

  pub sound_in : Sound o s.words homes_in views_in log_in
  sound_in = c.sound.1

  full_homes : (words' : List ℕ) (lists' : List (List Sharer)) → length lists' ≡ length s.lists → length (homes_of words' lists') ≡ length homes_in
  full_homes words' lists' e = homes_long words' lists' ∙ e ∙ sym (homes_long s.words s.lists)

  pub list_there : (n : ℕ) → n < names_of o → get_elem? s.lists n ≡ some (list_at s.lists n)
  list_there n h = let z = c.lists_long in at_index s.lists n [] (omega arith)

  list_full : (n : ℕ) → n < names_of o → IsSharerList o.mesh.chunks (list_at s.lists n)
  list_full n h = c.listed n (list_at s.lists n) (list_there n h)

  -- the word of one name changes
  word_else : (n x : ℕ) (m : ℕ) → m ≢ n → get_elem? (homes_of (set s.words n x) s.lists) m ≡ get_elem? homes_in m
  word_else n x m ne = homes_else s.words (set s.words n x) s.lists s.lists m (get_or-set_other s.words n m x 0 ne) refl

  -- the mesh of the state is that after its history
  pub mesh_is : mesh_of o s ≡ mesh_after o log_in
  mesh_is = ap (replayed o.mesh) (history_is_log o s.words homes_in views_in log_in sound_in)

  -- the copies of a free node
  pub record FreeRow (n : ℕ) : Type 0 where
    pub star : Star
    pub live : star_after o log_in n ≡ Some star
    pub due : (k : ℕ) → k < o.mesh.chunks → copy_at s.lists k n ≡ due_copy k (Some star)
    pub kept : kept_in (list_at s.lists n) ≡ Some star

  pub free_row : (n : ℕ) → n < names_of o → slice_index s.words n ≡ 0 → FreeRow n
  free_row n near free =
      let r = sound_in.free n near free in
      let list : list_at s.lists n ≡ sharers_in o.mesh.chunks (Some r.star)
      = places_same (list_at s.lists n) (sharers_in o.mesh.chunks (Some r.star)) (sym (home_listed s.words s.lists n (list_at s.lists n) (omega arith) (list_there n near)) ∙ r.copies) in
      let m : Undivided = mesh_after o log_in in
      let some_chunk = star_shared m n r.star (conforms_after o log_in sound_in.conforming sound_in.fresh sound_in.legal) (sym (star_after_is o log_in n) ∙ r.live) in
      let low : some_chunk.0 < o.mesh.chunks = subst (λ (k : ℕ). some_chunk.0 < k) (replayed_chunks o.mesh log_in) some_chunk.1 in
      record { star = r.star; live = r.live; due = λ k h. ap (λ (l : List Sharer). copy_in l k) list ∙ sharers_due o.mesh.chunks (Some r.star) k h; kept = ap kept_in list ∙ kept_is o.mesh.chunks some_chunk.0 r.star low some_chunk.2 }

  module _ (id : ℕ) (a : Actor) (at : get_elem? s.actors id ≡ some a) where
    abbrev here : Found
    here = record { place = id; actor = a }

    pub view_at : get_elem? views_in id ≡ some a.view
    view_at = at_map view_in s.actors id a at

    views_set : (b : Actor) → views_of (set s.actors id b) ≡ set views_in id b.view
    views_set b = map_set view_in s.actors id b

    pub fits_in : Fits o s.words log_in a.view
    fits_in = sound_in.fits id a.view view_at

    owes_in : Owes o.mesh.chunks s.lists a.view.held a.owed
    owes_in = c.owes id a at

    nothing_owed : a.owed ≡ [] → (d : Owed) → In d a.owed → ⊥
    nothing_owed e d h = in_none d a.owed h e

    pub locks_core : (n : ℕ) → a.view.numbers ≢ [] → a.owed ≡ [] → n < names_of o → slice_index s.words n ≡ 0 → IsCore o (lock_state s here n)
    locks_core n actor paid near free =
        let r = free_row n near free in
        let star : Option Star = kept_in (list_at s.lists n) in
        let x : ℕ = held_by (number_of a.view) in
        let same : star ≡ star_after o log_in n = r.kept ∙ sym r.live in
        let b : Actor = record { view = locked a.view n star; owed = a.owed } in
        let words' : List ℕ = set s.words n x in
        let law = locks_in o s.words homes_in views_in log_in sound_in (homes_of words' s.lists) id n a.view (full_homes words' s.lists refl) (word_else n x) view_at actor near free in
        let views : views_of (set s.actors id b) ≡ set views_in id (locked a.view n (star_after o log_in n)) = views_set b ∙ ap (λ (y : Option Star). set views_in id (locked a.view n y)) same in
        record {
          sound = (log_in, subst (λ (l : List View). Sound o words' (homes_of words' s.lists) l log_in) (sym views) law);
          lists_long = c.lists_long;
          listed = c.listed;
          owes = each_set (λ (y : Actor). Owes o.mesh.chunks s.lists y.view.held y.owed) s.actors id b
              record {
                of_held = λ d h. absurd (nothing_owed paid d h);
                paid = λ p k. ⊎_elim
                    (λ (e : p ≡ record { node = n; star = star }). λ low out. subst (λ (q : Held). copy_at s.lists k q.node ≡ due_copy k q.star) (sym e) (r.due k low ∙ ap (λ (y : Option Star). due_copy k y) (sym r.kept)))
                    (λ (h : In p a.view.held). owes_in.paid p k h);
                behind = λ p k h owed. absurd (nothing_owed paid (owing k p.node) owed);
              }
              (λ j u _ e. c.owes j u e);
        }

    -- an event that changes one view alone, and not what it holds
    pub learns_core : (w : View) → w.held ≡ a.view.held → Sound o s.words homes_in (set views_in id w) log_in → IsCore o (put s id record { view = w; owed = a.owed })
    learns_core w held law =
        record {
          sound = (log_in, subst (λ (l : List View). Sound o s.words homes_in l log_in) (sym (views_set record { view = w; owed = a.owed })) law);
          lists_long = c.lists_long;
          listed = c.listed;
          owes = each_set (λ (y : Actor). Owes o.mesh.chunks s.lists y.view.held y.owed) s.actors id record { view = w; owed = a.owed } (subst (λ (l : List Held). Owes o.mesh.chunks s.lists l a.owed) (sym held) owes_in) (λ j u _ e. c.owes j u e);
        }

    pub births_core : (n : ℕ) → a.view.unborn ≡ Some n → IsCore o (birth_state s here n)
    births_core n is =
        let x : ℕ = held_by (number_of a.view) in
        let b : Actor = record { view = born a.view; owed = a.owed } in
        let words' : List ℕ = set s.words n x in
        let law = births_in o s.words homes_in views_in log_in sound_in (homes_of words' s.lists) id n a.view (full_homes words' s.lists refl) (word_else n x) view_at is in
        record {
          sound = (log_in, subst (λ (l : List View). Sound o words' (homes_of words' s.lists) l log_in) (sym (views_set b)) law);
          lists_long = c.lists_long;
          listed = c.listed;
          owes = each_set (λ (y : Actor). Owes o.mesh.chunks s.lists y.view.held y.owed) s.actors id b owes_in (λ j u _ e. c.owes j u e);
        }

    back_owes : (n : ℕ) → ((k : ℕ) → In (owing k n) a.owed → ⊥) → Owes o.mesh.chunks s.lists (without n a.view.held) a.owed
    back_owes n clear =
        record {
          of_held = λ d h. let r = owes_in.of_held d h in (node_stays n d.node a.view.held r.0 (λ e. clear d.chunk (subst (λ (k : ℕ). In (owing d.chunk k) a.owed) e h)), r.1);
          paid = λ p k h. owes_in.paid p k (in_without n p a.view.held h);
          behind = λ p k h. owes_in.behind p k (in_without n p a.view.held h);
        }

    -- the list of a held node that owes nothing is due
    back_list : (n : ℕ) (star : Option Star) → In (record { node = n; star = star }) a.view.held → ((k : ℕ) → In (owing k n) a.owed → ⊥) → list_at s.lists n ≡ sharers_in o.mesh.chunks star
    back_list n star held clear =
        let near = fits_in.near n (node_in (record { node = n; star = star }) a.view.held held) in
        due_list o.mesh.chunks star (list_at s.lists n) (list_full n near) (λ k low. owes_in.paid (record { node = n; star = star }) k held low (clear k))

    back_home : (n x : ℕ) → n < names_of o → x < 3 → get_elem? (homes_of (set s.words n x) s.lists) n ≡ some (some (list_at s.lists n))
    back_home n x near low =
        let wide = sound_in.words_long in
        let w : slice_index (set s.words n x) n ≡ x = get_or-set_same s.words n x 0 (omega arith) in
        home_listed (set s.words n x) s.lists n (list_at s.lists n) (omega arith) (list_there n near)

    pub releases_core : (n : ℕ) (star : Star) → In (record { node = n; star = Some star }) a.view.held → a.view.unborn ≡ None → ((k : ℕ) → In (owing k n) a.owed → ⊥) → IsCore o (back_state s here n 0)
    releases_core n star held clear paid =
        let b : Actor = record { view = released a.view n; owed = a.owed } in
        let words' : List ℕ = set s.words n 0 in
        let near = fits_in.near n (node_in (record { node = n; star = Some star }) a.view.held held) in
        let home : get_elem? (homes_of words' s.lists) n ≡ some (some (sharers_in o.mesh.chunks (Some star))) = back_home n 0 near (omega arith) ∙ ap (λ (l : List Sharer). some (some l)) (back_list n (Some star) held paid) in
        let law = releases_in o s.words homes_in views_in log_in sound_in (homes_of words' s.lists) id n star a.view (full_homes words' s.lists refl) (word_else n 0) view_at held clear home in
        record {
          sound = (log_in, subst (λ (l : List View). Sound o words' (homes_of words' s.lists) l log_in) (sym (views_set b)) law);
          lists_long = c.lists_long;
          listed = c.listed;
          owes = each_set (λ (y : Actor). Owes o.mesh.chunks s.lists y.view.held y.owed) s.actors id b (back_owes n paid) (λ j u _ e. c.owes j u e);
        }

    pub buries_core : (n : ℕ) → In (record { node = n; star = None }) a.view.held → a.view.unborn ≡ None → ((k : ℕ) → In (owing k n) a.owed → ⊥) → IsCore o (back_state s here n 1)
    buries_core n held clear paid =
        let b : Actor = record { view = released a.view n; owed = a.owed } in
        let words' : List ℕ = set s.words n 1 in
        let near = fits_in.near n (node_in (record { node = n; star = None }) a.view.held held) in
        let home : get_elem? (homes_of words' s.lists) n ≡ some (some []) = back_home n 1 near (omega arith) ∙ ap (λ (l : List Sharer). some (some l)) (back_list n None held paid ∙ none_due 0 o.mesh.chunks) in
        let law = buries_in o s.words homes_in views_in log_in sound_in (homes_of words' s.lists) id n a.view (full_homes words' s.lists refl) (word_else n 1) view_at held clear home in
        record {
          sound = (log_in, subst (λ (l : List View). Sound o words' (homes_of words' s.lists) l log_in) (sym (views_set b)) law);
          lists_long = c.lists_long;
          listed = c.listed;
          owes = each_set (λ (y : Actor). Owes o.mesh.chunks s.lists y.view.held y.owed) s.actors id b (back_owes n paid) (λ j u _ e. c.owes j u e);
        }

    pub splits_core : (b share : ℕ) → In b (spares_in a.view.numbers) → a.view.held ≡ [] → share ≤ a.view.allowance → IsCore o (split_state s here b share)
    splits_core b share spare empty rich =
        let l : Actor = record { view = left_of b share a.view; owed = a.owed } in
        let r : Actor = record { view = right_of b share a.view; owed = [] } in
        let law = splits o s.words homes_in views_in log_in sound_in id b share a.view view_at spare empty rich in
        let views : views_of (set s.actors id l ++ r ∷ []) ≡ set views_in id l.view ++ r.view ∷ [] = map-append view_in (set s.actors id l) (r ∷ []) ∙ ap (λ (x : List View). x ++ r.view ∷ []) (views_set l) in
        record {
          sound = (log_in, subst (λ (x : List View). Sound o s.words homes_in x log_in) (sym views) law);
          lists_long = c.lists_long;
          listed = c.listed;
          owes = λ j u e. ⊎_elim
              (λ (x : get_elem? (set s.actors id l) j ≡ some u). each_set (λ (y : Actor). Owes o.mesh.chunks s.lists y.view.held y.owed) s.actors id l owes_in (λ i y _ z. c.owes i y z) j u x)
              (λ (x : r ≡ u). subst (λ (y : Actor). Owes o.mesh.chunks s.lists y.view.held y.owed) x record { of_held = λ d h. absurd h; paid = λ p k h. absurd h; behind = λ p k h. absurd h })
              (at_snoc (set s.actors id l) r u j e);
        }

    pub joins_core : (other : ℕ) (u : Actor) → other ≢ id → get_elem? s.actors other ≡ some u → a.view.numbers ≢ [] → a.view.held ≡ [] → u.view.held ≡ [] → IsCore o (join_state s here record { place = other; actor = u })
    joins_core other u ne there actor mine empty =
        let b : Actor = record { view = both_of a.view u.view; owed = [] } in
        let z : Actor = record { view = spent_view; owed = [] } in
        let law = joins o s.words homes_in views_in log_in sound_in id other a.view u.view view_at ne (at_map view_in s.actors other u there) actor empty in
        let views : views_of (set (set s.actors id b) other z) ≡ set (set views_in id b.view) other z.view = map_set view_in (set s.actors id b) other z ∙ ap (λ (x : List View). set x other z.view) (views_set b) in
        let bare : Owes o.mesh.chunks s.lists [] [] = record { of_held = λ d h. absurd h; paid = λ p k h. absurd h; behind = λ p k h. absurd h } in
        record {
          sound = (log_in, subst (λ (x : List View). Sound o s.words homes_in x log_in) (sym views) law);
          lists_long = c.lists_long;
          listed = c.listed;
          owes = each_set (λ (y : Actor). Owes o.mesh.chunks s.lists y.view.held y.owed) (set s.actors id b) other z bare
              (λ j y _ e. each_set (λ (y : Actor). Owes o.mesh.chunks s.lists y.view.held y.owed) s.actors id b (subst (λ (l : List Held). Owes o.mesh.chunks s.lists l []) (sym mine) bare) (λ i x _ k. c.owes i x k) j y e);
        }

    pub pushes_core : (chunk n : ℕ) → In (owing chunk n) a.owed → IsCore o (push_state s here chunk n)
    pushes_core chunk n owed =
        let q = owes_in.of_held (owing chunk n) owed in
        let held : In n (nodes_of a.view) = q.0 in
        let low : chunk < o.mesh.chunks = q.1 in
        let near = fits_in.near n held in
        let full = c.lists_long in
        let listed = list_full n near in
        let star : Option Star = star_held a.view.held n in
        let true_star : star ≡ star_after o log_in n = star_in_is (star_after o log_in) n a.view.held fits_in.pairs held in
        let list : List Sharer = put_copy chunk (due_copy chunk star) (list_at s.lists n) in
        let lists' : List (List Sharer) = set s.lists n list in
        let b : Actor = record { view = a.view; owed = without_owed chunk n a.owed } in
        let views : views_of (set s.actors id b) ≡ views_in = views_set b ∙ set_again views_in id a.view view_at in
        let own : (2 ≤ slice_index s.words n) × (slice_index s.words n ≡ 2 → is_made o.mesh.first_new log_in n ≡ true)
        = ⊎_elim (λ (x : slice_index s.words n ≡ held_by (number_of a.view)). (omega arith, λ two. absurd (omega arith)))
        (λ (x : (a.view.unborn ≡ Some n) × (slice_index s.words n ≡ 2)). let two = x.1 in let y = fits_in.unborn n x.0 in (omega arith, λ _. made_in o.mesh.first_new n log_in y.entry.ticket y.entry (fits_in.done y.entry y.entered).0 y.made))
        (fits_in.own n held) in
        let here_list : list_at lists' n ≡ list = get_or-set_same s.lists n list [] (omega arith) in
        let else_list : (m : ℕ) → m ≢ n → list_at lists' m ≡ list_at s.lists m = λ m ne. get_or-set_other s.lists n m list [] ne in
        let here_copy : copy_at lists' chunk n ≡ due_copy chunk star = ap (λ (l : List Sharer). copy_in l chunk) here_list ∙ put_here 0 o.mesh.chunks chunk (due_copy chunk star) (list_at s.lists n) listed in
        let else_copy : (k m : ℕ) → owing k m ≢ owing chunk n → copy_at lists' k m ≡ copy_at s.lists k m
        = λ k m ne. dite (ℕ_discrete m n)
        (λ e. let far : k ≢ chunk = λ x. ne (λ i. record { chunk = x i; node = e i }) in
        ap (λ (l : List Sharer). copy_in l k) (ap (list_at lists') e ∙ here_list) ∙ put_else chunk k (due_copy chunk star) (list_at s.lists n) far ∙ ap (λ (j : ℕ). copy_at s.lists k j) (sym e))
        (λ x. ap (λ (l : List Sharer). copy_in l k) (else_list m x)) in
        let law = in_hands o s.words homes_in views_in log_in sound_in (homes_of s.words lists') n (full_homes s.words lists' (length-set s.lists n list)) (λ m ne. homes_else s.words s.words s.lists lists' m refl (set_else s.lists n m list ne)) own.0 own.1 in
        record {
          sound = (log_in, subst (λ (l : List View). Sound o s.words (homes_of s.words lists') l log_in) (sym views) law);
          lists_long = length-set s.lists n list ∙ c.lists_long;
          listed = each_set (IsSharerList o.mesh.chunks) s.lists n list (put_listed 0 o.mesh.chunks chunk (due_copy chunk star) (list_at s.lists n) (omega arith) low listed) (λ j l _ e. c.listed j l e);
          owes = each_set (λ (y : Actor). Owes o.mesh.chunks lists' y.view.held y.owed) s.actors id b
              record {
                of_held = λ d h. owes_in.of_held d (in_without_owed chunk n d a.owed h).0;
                paid = λ p k h less out. pick_owed k p.node (copy_at lists' k p.node ≡ due_copy k p.star) chunk n
                    (λ e. let ek : k ≡ chunk = ap (λ (d : Owed). d.chunk) e in let en : p.node ≡ n = ap (λ (d : Owed). d.node) e in
                    let same : p.star ≡ star = fits_in.pairs p h ∙ ap (star_after o log_in) en ∙ sym true_star in
                    (λ i. copy_at lists' (ek i) (en i)) ∙ here_copy ∙ (λ i. due_copy (sym ek i) (sym same i)))
                    (λ ne. else_copy k p.node ne ∙ owes_in.paid p k h less (λ x. out (stays_owed chunk n (owing k p.node) a.owed x ne)));
                behind = λ p k h x e. let r = in_without_owed chunk n (owing k p.node) a.owed x in owes_in.behind p k h r.0 (sym (else_copy k p.node r.1) ∙ e);
              }
              (λ j u ne e.
              let other = c.owes j u e in
              let view_u : get_elem? views_in j ≡ some u.view = at_map view_in s.actors j u e in
              let away : (k : ℕ) (p : Held) → In p u.view.held → owing k p.node ≢ owing chunk n
              = λ k p h x. apart o s.words homes_in views_in log_in sound_in id j a.view u.view n view_at view_u ne held (subst (λ (m : ℕ). In m (nodes_of u.view)) (ap (λ (d : Owed). d.node) x) (node_in p u.view.held h)) in
              record {
                of_held = other.of_held;
                paid = λ p k h less out. else_copy k p.node (away k p h) ∙ other.paid p k h less out;
                behind = λ p k h owed x. other.behind p k h owed (sym (else_copy k p.node (away k p h)) ∙ x);
              });
        }
      where
        pick_owed : (k m : ℕ) (P : Type 0) (chunk n : ℕ) → (owing k m ≡ owing chunk n → P) → (owing k m ≢ owing chunk n → P) → P
        pick_owed k m P chunk n hit miss = dite (ℕ_discrete k chunk)
            (λ x. dite (ℕ_discrete m n) (λ y. hit (λ i. record { chunk = x i; node = y i })) (λ y. miss (λ e. y (ap (λ (d : Owed). d.node) e))))
            (λ x. miss (λ e. x (ap (λ (d : Owed). d.chunk) e)))

    pub commits_core : (outside : KeepsOutside) (e : Entry) → a.view.numbers ≢ [] → a.owed ≡ [] → a.view.unborn ≡ None → 0 < a.view.allowance → e.ticket ≡ tickets_in o s
        → first_failing (mesh_of o s) e.chunk e.op ≡ None → ((n : ℕ) → In n (cavity_of (mesh_of o s) e.chunk e.op) → In n (nodes_of a.view))
        → ((p : Held) → In p (fresh_pairs o.mesh.first_new e a.view.held) → p.star ≡ star_of (applied (mesh_of o s) e) p.node) → IsCore o (commit_state o s here e)
    commits_core outside e actor paid clear rich ticket passes cavity patched_is =
        let f0 : ℕ = o.mesh.first_new in
        let log' : List Entry = log_in ++ e ∷ [] in
        let t : tickets_in o s ≡ length log_in = sound_in.tickets in
        let wide = sound_in.words_long in
        let full = c.lists_long in
        let ns : List ℕ = made_list f0 e ++ nodes_of a.view in
        let fresh : List Held = fresh_pairs f0 e a.view.held in
        let w : View = committed a.view e fresh (unborn_by f0 e) in
        let extra : List Owed = owed_after o.mesh.chunks a.view.held fresh in
        let b : Actor = record { view = w; owed = a.owed ++ extra } in
        let words' : List ℕ = set s.words (names_of o) (tickets_in o s + 1) in
        let shown : (p : Held) → In p fresh → p.star ≡ star_after o log' p.node
        = λ p h. patched_is p h ∙ ap (λ (m : Undivided). star_of (applied m e) p.node) mesh_is ∙ star_applied o log_in e p.node in
        let nodes : nodes_in fresh ≡ ns = fresh_nodes f0 e a.view.held in
        let patched : ArePatched o log_in a.view e fresh = record { nodes = nodes; pairs = shown } in
        let home_else : (n : ℕ) → get_elem? (homes_of words' s.lists) n ≡ get_elem? homes_in n
        = λ n. dite (ℕ_discrete n (names_of o))
        (λ x. let gone : get_elem? s.lists n ≡ none = past s.lists n (omega arith) in
        homes_are words' s.lists n ∙ ap (home_from (slice_index words' n)) gone ∙ sym (homes_are s.words s.lists n ∙ ap (home_from (slice_index s.words n)) gone))
        (λ ne. homes_else s.words words' s.lists s.lists n (get_or-set_other s.words (names_of o) n (tickets_in o s + 1) 0 ne) refl) in
        let law : Sound o (set s.words (names_of o) (length log_in + 1)) (homes_of words' s.lists) (set views_in id w) log'
        = commits outside o s.words homes_in views_in log_in sound_in (homes_of words' s.lists) id a.view e fresh (full_homes words' s.lists refl) (λ n _. home_else n) view_at actor clear rich (ticket ∙ t)
        (subst (λ (m : Undivided). first_failing m e.chunk e.op ≡ None) mesh_is passes) (λ n h. cavity n (subst (λ (m : Undivided). In n (cavity_of m e.chunk e.op)) (sym mesh_is) h)) patched in
        let law' : Sound o words' (homes_of words' s.lists) (views_of (set s.actors id b)) log'
        = subst (λ (l : List View). Sound o words' (homes_of words' s.lists) l log') (sym (views_set b)) (subst (λ (k : ℕ). Sound o (set s.words (names_of o) (k + 1)) (homes_of words' s.lists) (set views_in id w) log') (sym t) law) in
        let room : length log_in < o.budget = let x = total_at (λ (u : View). u.allowance) views_in id a.view view_at in let y = sound_in.budget in omega arith in
        -- before the entry, each copy of a node of the new pairs is the due one of its old star
        let was_due : (m k : ℕ) → In m (nodes_in fresh) → k < o.mesh.chunks → copy_at s.lists k m ≡ due_copy k (star_held a.view.held m)
        = λ m k h low. ⊎_elim
        (λ (x : In m (made_list f0 e)).
        let made = in_made f0 m e x in
        let name = made_name f0 m e made in
        let unmade : is_made f0 log_in m ≡ false = by_cases (is_made f0 log_in m) (is_made f0 log_in m ≡ false) (λ y. let r = (made_below 0 f0 m o.mesh log_in sound_in.legal y).1 in absurd (omega arith)) (λ y. y) in
        let near : m < names_of o = omega arith in
        let r = sound_in.unmade m near (omega arith) unmade in
        let two = r.0 in
        let list : list_at s.lists m ≡ [] = places_same (list_at s.lists m) [] (sym (home_listed s.words s.lists m (list_at s.lists m) (omega arith) (list_there m near)) ∙ r.1) in
        let out : In m (nodes_of a.view) → ⊥ = λ y. ⊎_elim
        (λ (z : slice_index s.words m ≡ held_by (number_of a.view)). absurd (omega arith))
        (λ (z : (a.view.unborn ≡ Some m) × (slice_index s.words m ≡ 2)). absurd (some_not_none m (sym z.0 ∙ clear)))
        (fits_in.own m y) in
        ap (λ (l : List Sharer). copy_in l k) list ∙ ap (λ (y : Option Star). due_copy k y) (sym (star_in_none m a.view.held out)))
        (λ (x : In m (nodes_of a.view)).
        let star : Option Star = star_held a.view.held m in
        let is : star ≡ star_after o log_in m = star_in_is (star_after o log_in) m a.view.held fits_in.pairs x in
        let p = pair_of m a.view.held x in
        let same : p.0.star ≡ star = fits_in.pairs p.0 p.1 ∙ ap (star_after o log_in) p.2 ∙ sym is in
        ap (copy_at s.lists k) (sym p.2) ∙ owes_in.paid p.0 k p.1 low (nothing_owed paid (owing k p.0.node)) ∙ ap (λ (y : Option Star). due_copy k y) same)
        (in_either m (made_list f0 e) (nodes_of a.view) (subst (λ (l : List ℕ). In m l) nodes h)) in
        let only : (d : Owed) → In d (a.owed ++ extra) → In d extra = λ d h. ⊎_elim (λ (x : In d a.owed). absurd (nothing_owed paid d x)) (λ (x : In d extra). x) (in_either d a.owed extra h) in
        let owes : Owes o.mesh.chunks s.lists fresh (a.owed ++ extra) =
        record {
          of_held = λ d h. let r = in_owed_after o.mesh.chunks a.view.held fresh d (only d h) in (subst (λ (m : ℕ). In m (nodes_in fresh)) (sym r.node) (node_in r.pair fresh r.inside), r.low);
          paid = λ p k h low out. was_due p.node k (node_in p fresh h) low ∙ by_cases (same_star (star_held a.view.held p.node) p.star) (due_copy k (star_held a.view.held p.node) ≡ due_copy k p.star)
              (λ x. ap (λ (y : Option Star). due_copy k y) (star_is (star_held a.view.held p.node) p.star x))
              (λ changed. by_cases (shares k (star_held a.view.held p.node) p.star) (due_copy k (star_held a.view.held p.node) ≡ due_copy k p.star)
              (λ x. absurd (out (in_right (owing k p.node) a.owed extra (owed_after_in o.mesh.chunks a.view.held fresh p k h low changed x))))
              (λ x. due_none k (star_held a.view.held p.node) p.star x));
          behind = λ p k h x same.
              let r = in_owed_after o.mesh.chunks a.view.held fresh (owing k p.node) (only (owing k p.node) x) in
              let star : r.pair.star ≡ p.star = shown r.pair r.inside ∙ ap (star_after o log') (sym r.node) ∙ sym (shown p h) in
              let old : Option Star = star_held a.view.held r.pair.node in
              let node : r.pair.node ≡ p.node = sym r.node in
              due_differ k old r.pair.star (star_not old r.pair.star r.changed) r.shared
              (ap (λ (m : ℕ). due_copy k (star_held a.view.held m)) node ∙ sym (was_due p.node k (node_in p fresh h) r.low) ∙ same ∙ ap (λ (y : Option Star). due_copy k y) (sym star));
        } in
        record {
          sound = (log', law');
          lists_long = c.lists_long;
          listed = c.listed;
          owes = each_set (λ (y : Actor). Owes o.mesh.chunks s.lists y.view.held y.owed) s.actors id b owes (λ j u _ x. c.owes j u x);
        }
      where
        past : {A : Type 0} (l : List A) (i : ℕ) → length l ≤ i → get_elem? l i ≡ none
        past [] i h = refl
        past (x ∷ xs) zero h = absurd (omega arith)
        past (x ∷ xs) (suc i) h = past xs i (omega arith)

        pair_of : (m : ℕ) (ps : List Held) → In m (nodes_in ps) → (p : Held) × In p ps × (p.node ≡ m)
        pair_of m [] h = absurd h
        pair_of m (p ∷ ps) (inl x) = (p, inl refl, sym x)
        pair_of m (p ∷ ps) (inr h) = let r = pair_of m ps h in (r.0, inr r.1, r.2)
