-- The pure core: the state with the copies of all nodes and with what each actor owes, and what each event makes of it. An operation is
-- judged and made from the stars that its actor holds.
use Rattle.std.specs.Prelude.{◌≡◌, ◌≢◌, ℕ, zero, suc, ◌+◌, ◌-◌, ◌<◌, List, [], ◌∷◌, ◌++◌, Bool, true, false, cond, not, ◌&&◌, ◌||◌, ◌==◌, nat_lt, length, map, Option, Some, None, is_some, slice_index, slice_index_or, slice_set, filter, take, min, max}
use Rattle.std.specs.List.{list_any, list_all}
use mathlib.Core.Option.{none, some}
use Rattle.pf_model.specs.declared.Tri.{Tri}
use Rattle.pf_model.specs.declared.Op.{Op}
use Rattle.pf_model.specs.declared.Cond.{Cond}
use Rattle.pf_model.specs.declared.Op.TheVariants.{Flip, Bisect, Contract}
use Rattle.pf_model.specs.declared.Entry.{Entry}
use Rattle.pf_model.specs.Mesh.{Undivided, point_of}
use Rattle.pf_model.specs.Ends.{first_end, second_end}
use Rattle.pf_model.specs.Conditions.{apex_or}
use Rattle.pf_model.specs.Replay.{replayed}
use Rattle.pf_model.specs.Stars.{Star, star_of, is_sharer}
use Rattle.pf_core_model.specs.declared.view.View.{View}
use Rattle.pf_star_model.specs.Lent.{Held, spokes_in, is_held, star_held}
use Rattle.pf_core_model.specs.declared.event.Asked.{Asked}
use Rattle.pf_core_model.specs.declared.event.Owed.{Owed}
use Rattle.pf_core_model.specs.declared.event.Event.{Event}
use Rattle.pf_core_model.specs.declared.event.Event.TheVariants.{Split, Lock, Lost, Note, Commit, Push, Birth, Release, Bury, Join}
use Rattle.pf_core_model.specs.declared.event.Verdict.{Verdict}
use Rattle.pf_core_model.specs.declared.event.Verdict.TheVariants.{Taken, Ignored}
use Rattle.pf_core_model.specs.Lists.{In, Each, counting}
use Rattle.pf_star_model.specs.Judged.{judged, judged_ends, left_seen}
use Rattle.pf_star_model.specs.Cavity.{cavity_seen}
use Rattle.pf_star_model.specs.Patched.{patched, patched_pairs, made_by}
use Rattle.pf_star_model.specs.Copies.{due_copy}
use Rattle.pf_core_model.specs.declared.sharer.Sharer.{Sharer}
use Rattle.pf_core_model.specs.Sharers.{sharers_in, copy_in, kept_in, put_copy, IsSharerList}
use Rattle.pf_core_model.specs.Same.{same_star}
use Rattle.pf_core_model.specs.Moves.{locked, lost_to, seen_at, failed_at, committed, unborn_by, born, released, spares_in, left_of, right_of, both_of, spent_view}
use Rattle.pf_core_model.specs.History.{history_of, is_free, free_tris_in}
use Rattle.pf_core_model.specs.Core.{Opening, names_of, held_by, number_of, nodes_in, Homes, IsSound}

pub record Actor : Type 0 where
  pub view : View
  pub owed : List Owed

-- a word and the list of the copies for each name; the last word is the count of tickets
pub record CoreState : Type 0 where
  pub words : List ℕ
  pub lists : List (List Sharer)
  pub actors : List Actor

abbrev pub view_in : Actor → View
view_in a = a.view

abbrev pub views_of : List Actor → List View
views_of actors = map view_in actors

-- the copies at home: those of the nodes that nobody holds
abbrev pub homes_of : List ℕ → List (List Sharer) → Homes
homes_of ws [] = []
homes_of [] (l ∷ ls) = some l ∷ homes_of [] ls
homes_of (w ∷ ws) (l ∷ ls) = cond (nat_lt w 3) (some l) none ∷ homes_of ws ls

-- the copies of a node
abbrev pub list_at : List (List Sharer) → ℕ → List Sharer
list_at lists n = slice_index_or lists n []

-- a chunk's copy of a node
abbrev pub copy_at : List (List Sharer) → ℕ → ℕ → Option Star
copy_at lists chunk n = copy_in (list_at lists n) chunk

abbrev pub tickets_in : Opening → CoreState → ℕ
tickets_in o s = slice_index s.words (names_of o)

-- the history of a state, and the mesh after it
abbrev pub log_of : Opening → CoreState → List Entry
log_of o s = history_of (tickets_in o s) (views_of s.actors)

abbrev pub mesh_of : Opening → CoreState → Undivided
mesh_of o s = replayed o.mesh (log_of o s)

-- the word of a name; a name outside was never live
abbrev pub word_of : Opening → CoreState → ℕ → ℕ
word_of o s n = cond (nat_lt n (names_of o)) (slice_index s.words n) 2

-- the actor of a number, and its place
pub record Found : Type 0 where
  pub place : ℕ
  pub actor : Actor

abbrev pub leads : ℕ → List ℕ → Bool
leads a [] = false
leads a (k ∷ ks) = k == a

abbrev pub found_from : ℕ → ℕ → List Actor → Option Found
found_from a i [] = None
found_from a i (x ∷ xs) = cond (leads a x.view.numbers) (Some record { place = i; actor = x }) (found_from a (suc i) xs)

abbrev pub is_nil : {A : Type 0} → List A → Bool
is_nil [] = true
is_nil (x ∷ xs) = false

abbrev pub is_number_in : ℕ → List ℕ → Bool
is_number_in k ks = list_any (λ x. x == k) ks

abbrev pub owes_of : ℕ → List Owed → Bool
owes_of n owed = list_any (λ (d : Owed). d.node == n) owed

abbrev pub is_owed : ℕ → ℕ → Owed → Bool
is_owed chunk n d = d.chunk == chunk && d.node == n

abbrev pub without_owed : ℕ → ℕ → List Owed → List Owed
without_owed chunk n [] = []
without_owed chunk n (d ∷ ds) = cond (is_owed chunk n d) (without_owed chunk n ds) (d ∷ without_owed chunk n ds)

-- owes nothing, and holds neither an absence nor an unborn node
abbrev pub is_clear : Actor → Bool
is_clear x = is_nil x.owed && (list_all (λ (p : Held). is_some p.star) x.view.held && not (is_some x.view.unborn))

abbrev pub has_nothing : Actor → Bool
has_nothing x = is_nil x.view.held && is_nil x.owed

-- the chunks that share the node in its old or its new star, from this chunk on
abbrev pub owed_from : ℕ → ℕ → ℕ → Option Star → Option Star → List Owed
owed_from chunk zero n old new = []
owed_from chunk (suc more) n old new =
    cond (is_sharer chunk (spokes_in old) || is_sharer chunk (spokes_in new)) (record { chunk = chunk; node = n } ∷ owed_from (suc chunk) more n old new) (owed_from (suc chunk) more n old new)

-- what is owed of the pairs after an operation: of each node whose star changed, a copy for each of these chunks
abbrev pub owed_after : ℕ → List Held → List Held → List Owed
owed_after chunks old [] = []
owed_after chunks old (p ∷ ps) = cond (same_star (star_held old p.node) p.star) [] (owed_from 0 chunks p.node (star_held old p.node) p.star) ++ owed_after chunks old ps

pub record Stepped : Type 0 where
  pub state : CoreState
  pub verdict : Verdict

abbrev pub ignored : CoreState → Stepped
ignored s = record { state = s; verdict = Ignored }

-- the event takes place where the guard holds
abbrev pub guarded : Bool → CoreState → CoreState → Option ℕ → Stepped
guarded true s t value = record { state = t; verdict = Taken value }
guarded false s t value = ignored s

abbrev pub by_actor : CoreState → Option Found → (Found → Stepped) → Stepped
by_actor s None act = ignored s
by_actor s (Some f) act = act f

abbrev pub put : CoreState → ℕ → Actor → CoreState
put s place x = record s { actors = slice_set s.actors place x }

-- the effects, once the actor is found
abbrev pub split_state : CoreState → Found → ℕ → ℕ → CoreState
split_state s f b share = record s { actors = slice_set s.actors f.place (record { view = left_of b share f.actor.view; owed = f.actor.owed }) ++ record { view = right_of b share f.actor.view; owed = [] } ∷ [] }

abbrev pub lock_state : CoreState → Found → ℕ → CoreState
lock_state s f n =
    record s {
      words = slice_set s.words n (held_by (number_of f.actor.view));
      actors = slice_set s.actors f.place (record { view = locked f.actor.view n (kept_in (list_at s.lists n)); owed = f.actor.owed });
    }

abbrev pub lost_state : CoreState → Found → ℕ → ℕ → CoreState
lost_state s f n k = put s f.place (record { view = lost_to f.actor.view n k; owed = f.actor.owed })

abbrev pub note_state : CoreState → Found → ℕ → CoreState
note_state s f t = put s f.place (record { view = seen_at f.actor.view t; owed = f.actor.owed })

abbrev pub refuse_state : CoreState → Found → ℕ → ℕ → Op → Cond → CoreState
refuse_state s f t chunk op why = put s f.place (record { view = failed_at f.actor.view t chunk op why; owed = f.actor.owed })

-- the pairs after an operation, from those that are held: the new node's in front, and each other patched
abbrev pub new_pairs : (ℕ → Option Star) → ℕ → Op → List Held
new_pairs lent new op = map (λ n. record { node = n; star = patched lent new op n }) (made_by new op)

abbrev pub fresh_pairs : ℕ → Entry → List Held → List Held
fresh_pairs first_new e held = new_pairs (star_held held) (first_new + e.ticket) e.op ++ patched_pairs held (first_new + e.ticket) e.op

abbrev pub commit_state : Opening → CoreState → Found → Entry → CoreState
commit_state o s f e =
    let fresh = fresh_pairs o.mesh.first_new e f.actor.view.held in
    record s {
      words = slice_set s.words (names_of o) (tickets_in o s + 1);
      actors = slice_set s.actors f.place (record { view = committed f.actor.view e fresh (unborn_by o.mesh.first_new e); owed = f.actor.owed ++ owed_after o.mesh.chunks f.actor.view.held fresh });
    }

abbrev pub push_state : CoreState → Found → ℕ → ℕ → CoreState
push_state s f chunk n =
    record s {
      lists = slice_set s.lists n (put_copy chunk (due_copy chunk (star_held f.actor.view.held n)) (list_at s.lists n));
      actors = slice_set s.actors f.place (record { view = f.actor.view; owed = without_owed chunk n f.actor.owed });
    }

abbrev pub birth_state : CoreState → Found → ℕ → CoreState
birth_state s f n =
    record s {
      words = slice_set s.words n (held_by (number_of f.actor.view));
      actors = slice_set s.actors f.place (record { view = born f.actor.view; owed = f.actor.owed });
    }

abbrev pub back_state : CoreState → Found → ℕ → ℕ → CoreState
back_state s f n word =
    record s {
      words = slice_set s.words n word;
      actors = slice_set s.actors f.place (record { view = released f.actor.view n; owed = f.actor.owed });
    }

abbrev pub join_state : CoreState → Found → Found → CoreState
join_state s f g =
    record s { actors = slice_set (slice_set s.actors f.place (record { view = both_of f.actor.view g.actor.view; owed = [] })) g.place (record { view = spent_view; owed = [] }) }

-- the guards
abbrev pub can_put_back : Opening → CoreState → Found → ℕ → Bool
can_put_back o s f n = word_of o s n == held_by (number_of f.actor.view) && (not (owes_of n f.actor.owed) && not (is_some f.actor.view.unborn))

-- the left apex of a flip whose other conditions pass is held
abbrev pub is_apex_held : List Held → ℕ → Op → Bool
is_apex_held held chunk (Flip a b) = is_some (judged_ends (star_held held) chunk a b) || is_held held (apex_or (left_seen (star_held held) (min a b) (max a b)))
is_apex_held held chunk (Bisect a b) = true
is_apex_held held chunk (Contract u v) = true

-- the operation can be judged from what is held
abbrev pub can_judge : List Held → ℕ → Op → Bool
can_judge held chunk op = is_held held (first_end op) && (is_held held (second_end op) && is_apex_held held chunk op)

-- what was judged is noted, where it fails
abbrev pub judge_step : Bool → CoreState → Found → ℕ → Asked → Option Cond → Stepped
judge_step able s f t asked None = ignored s
judge_step able s f t asked (Some why) = guarded able s (refuse_state s f t asked.chunk asked.op why) (Some t)

abbrev pub note_step : Opening → CoreState → Found → Option Asked → Stepped
note_step o s f None = guarded true s (note_state s f (tickets_in o s)) (Some (tickets_in o s))
note_step o s f (Some asked) =
    judge_step (can_judge f.actor.view.held asked.chunk asked.op) s f (tickets_in o s) asked (judged (star_held f.actor.view.held) o.mesh.bands asked.chunk asked.op)

-- the cavity is held, and the operation passes on the held stars
abbrev pub can_make : Opening → List Held → Entry → Bool
can_make o held e = list_all (is_held held) (cavity_seen (star_held held) e.op) && not (is_some (judged (star_held held) o.mesh.bands e.chunk e.op))

abbrev pub commit_step : Opening → CoreState → Found → Entry → Stepped
commit_step o s f e = guarded (is_clear f.actor && (nat_lt 0 f.actor.view.allowance && can_make o f.actor.view.held e)) s (commit_state o s f e) (Some e.ticket)

abbrev pub join_step : CoreState → Found → Option Found → Stepped
join_step s f None = ignored s
join_step s f (Some g) = guarded (not (f.place == g.place) && (has_nothing f.actor && has_nothing g.actor)) s (join_state s f g) None

-- what an event makes of a state
abbrev pub acted : Opening → CoreState → Event → Found → Stepped
acted o s (Split a b share) f =
    guarded (is_clear f.actor && (is_nil f.actor.view.held && (is_number_in b (spares_in f.actor.view.numbers) && not (nat_lt f.actor.view.allowance share)))) s (split_state s f b share) None
acted o s (Lock a n) f = guarded (is_clear f.actor && (word_of o s n == 0)) s (lock_state s f n) None
acted o s (Lost a n) f = guarded (nat_lt 2 (word_of o s n) && not (word_of o s n == held_by (number_of f.actor.view))) s (lost_state s f n (word_of o s n - 3)) (Some (word_of o s n - 3))
acted o s (Note a asked) f = note_step o s f asked
acted o s (Commit a chunk op) f = commit_step o s f record { ticket = tickets_in o s; chunk = chunk; op = op }
acted o s (Push a chunk n) f = guarded (list_any (is_owed chunk n) f.actor.owed) s (push_state s f chunk n) None
acted o s (Birth a n) f = guarded (is_held f.actor.view.held n && (word_of o s n == 2 && not (owes_of n f.actor.owed))) s (birth_state s f n) None
acted o s (Release a n) f = guarded (can_put_back o s f n && is_some (star_held f.actor.view.held n)) s (back_state s f n 0) None
acted o s (Bury a n) f = guarded (can_put_back o s f n && not (is_some (star_held f.actor.view.held n))) s (back_state s f n 1) None
acted o s (Join a b) f = join_step s f (found_from b 0 s.actors)

abbrev pub actor_of : Event → ℕ
actor_of (Split a b share) = a
actor_of (Lock a n) = a
actor_of (Lost a n) = a
actor_of (Note a asked) = a
actor_of (Commit a chunk op) = a
actor_of (Push a chunk n) = a
actor_of (Birth a n) = a
actor_of (Release a n) = a
actor_of (Bury a n) = a
actor_of (Join a b) = a

abbrev pub stepped : Opening → CoreState → Event → Stepped
stepped o s event = by_actor s (found_from (actor_of event) 0 s.actors) (acted o s event)

-- the state after a list of events, and their verdicts
abbrev pub state_after : Opening → CoreState → List Event → CoreState
state_after o s [] = s
state_after o s (e ∷ es) = state_after o (stepped o s e).state es

abbrev pub verdicts_of : Opening → CoreState → List Event → List Verdict
verdicts_of o s [] = []
verdicts_of o s (e ∷ es) = let x = stepped o s e in x.verdict ∷ verdicts_of o x.state es

-- the state at the start
abbrev pub first_word : Opening → ℕ → ℕ
first_word o n = cond (nat_lt n o.mesh.first_new) (cond (is_some (point_of o.mesh.sites n)) 0 1) 2

abbrev pub first_view : Opening → View
first_view o =
    record {
      workers = o.workers;
      first_new = o.mesh.first_new;
      chunks = o.mesh.chunks;
      bands = o.mesh.bands;
      numbers = counting 0 o.workers;
      allowance = o.budget;
      seen = 0;
      held = [];
      unborn = None;
      entries = [];
      refusals = [];
      lost = [];
      dead = [];
      never = [];
      marks = [];
    }

abbrev pub first_list : Opening → ℕ → List Sharer
first_list o n = sharers_in o.mesh.chunks (star_of o.mesh n)

abbrev pub opening_state : Opening → CoreState
opening_state o =
    record {
      words = map (first_word o) (counting 0 (names_of o)) ++ 0 ∷ [];
      lists = map (first_list o) (counting 0 (names_of o));
      actors = record { view = first_view o; owed = [] } ∷ [];
    }

-- the triangles whose corners are all free, from the keepers' copies
abbrev pub free_part_from : ℕ → List ℕ → List (List Sharer) → ℕ → ℕ → List Tri
free_part_from names words lists n zero = []
free_part_from names words lists n (suc more) =
    cond (is_free names words n) (free_tris_in names words n (spokes_in (kept_in (list_at lists n)))) [] ++ free_part_from names words lists (suc n) more

abbrev pub free_part_of : Opening → CoreState → List Tri
free_part_of o s = free_part_from (names_of o) s.words s.lists 0 (names_of o)

-- how many names have such a word
abbrev pub counted : Opening → CoreState → (ℕ → Bool) → ℕ
counted o s test = length (filter test (take (names_of o) s.words))

-- how many nodes are free, held, dead, and never live or unborn
abbrev pub counts_of : Opening → CoreState → List ℕ
counts_of o s = counted o s (λ w. w == 0) ∷ counted o s (λ w. nat_lt 2 w) ∷ counted o s (λ w. w == 1) ∷ counted o s (λ w. w == 2) ∷ []

-- what is owed of held pairs: of the nodes, unborn or not, exactly the copies that are not due
pub record Owes (chunks : ℕ) (lists : List (List Sharer)) (held : List Held) (owed : List Owed) : Type 0 where
  pub of_held : (d : Owed) → In d owed → In d.node (nodes_in held) × (d.chunk < chunks)
  pub paid : (p : Held) (chunk : ℕ) → In p held → chunk < chunks → (In (record { chunk = chunk; node = p.node }) owed → ⊥) → copy_at lists chunk p.node ≡ due_copy chunk p.star
  pub behind : (p : Held) (chunk : ℕ) → In p held → In (record { chunk = chunk; node = p.node }) owed → copy_at lists chunk p.node ≢ due_copy chunk p.star

-- a state of the pure core is sound
pub record IsCore (o : Opening) (s : CoreState) : Type 0 where
  pub sound : IsSound o s.words (homes_of s.words s.lists) (views_of s.actors)
  pub lists_long : length s.lists ≡ names_of o
  pub listed : Each s.lists (IsSharerList o.mesh.chunks)
  pub owes : Each s.actors (λ (a : Actor). Owes o.mesh.chunks s.lists a.view.held a.owed)
