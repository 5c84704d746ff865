-- A node that is put back, with a star or without one, and a new node that is held as any other from now on.
use Rattle.std.proofs.Common.{◌≡◌, ◌≢◌, ℕ, zero, suc, ◌+◌, ◌-◌, ◌<◌, ◌≤◌, Bool, true, false, cond, not, ◌==◌, ◌&&◌, ◌||◌, nat_lt, List, [], ◌∷◌, ◌++◌, length, map, set, refl, sym, ap, ◌∙◌, subst, inl, inr, ⊎_elim, arith}
use Rattle.std.specs.Prelude.{Option, Some, None, is_some, slice_index}
use Rattle.std.proofs.lemmas.Bool.Decides.{nat_tests}
use Rattle.std.proofs.lemmas.List.{get_or-set_other}
use mathlib.Core.Option.{some}
use mathlib.Core.Logic.{dite}
use native.Mathlib.Decide.{ℕ_discrete}
use lib.ListN.{get_elem?}
use Rattle.pf_model.specs.declared.Entry.{Entry}
use Rattle.pf_model.specs.Stars.{Star}
use Rattle.pf_star_model.specs.Lent.{Held as Pair, is_held, star_held}
use Rattle.pf_core_model.specs.declared.event.Event.TheVariants.{Release, Bury, Birth}
use Rattle.pf_core_model.specs.declared.event.Verdict.{Verdict}
use Rattle.pf_core_model.specs.declared.event.Verdict.TheVariants.{Taken, Ignored}
use Rattle.pf_core_model.specs.declared.sharer.Sharer.{Sharer}
use Rattle.pf_core_model.specs.Lists.{In, times}
use Rattle.pf_core_model.specs.Moves.{without, released, born}
use Rattle.pf_core_model.specs.Core.{Opening, names_of, held_by, number_of, nodes_in, nodes_of}
use Rattle.pf_core_model.specs.State.{Actor, CoreState, Found, found_from, word_of, tickets_in, log_of, owes_of, can_put_back, back_state, birth_state, IsCore}
use Rattle.pf_core_model.proofs.Lists.{times_in, times_out}
use Rattle.pf_core_model.proofs.Replays.{and_left, and_right, or_right}
use Rattle.pf_core_model.proofs.Events.{in_without, node_in_without}
use Rattle.pf_core_model.proofs.Views.{node_in, some_is}
use Rattle.pf_core.specs.declared.state.State.{State}
use Rattle.pf_core.specs.declared.word.Word.{Word}
use Rattle.pf_core.specs.declared.word.Word.TheVariants.{Free, Dead}
use Rattle.pf_core.specs.declared.tables.Node.{Node}
use Rattle.pf_core.specs.declared.tables.Seat.{Seat}
use Rattle.pf_core.specs.Tables.{word_code, node_at, seat_at, code_seen, code_in, list_in, holds, is_this, star_seen, put_back_node, born_node, less_held, born_seat}
use Rattle.pf_core.specs.Gates.{can_return, can_release, can_bury, can_birth}
use Rattle.pf_core.specs.Shown.{ShowsSeat, ShowsState, IsAct}
use Rattle.pf_core.proofs.Kept.{sound, names, code_near, code_here, word_is, word_at, codes_set, lists_same, at, own, seat, lead_is, mine, fits, owes_is, holds_is, star_is, seen_held, held_near, pair_of, acted_core, acted_grows, eq_is, eq_true, eq_false, both_ways}
use Rattle.pf_core.proofs.Moves.{IsOf, star_else, star_here, star_same, refused, taken, core_taken, grows_taken, log_stays, other_node, put_shows}

-- one pair fewer
all_stay : (n : ℕ) (ps : List Pair) → times n (nodes_in ps) ≡ 0 → length (without n ps) ≡ length ps
all_stay n [] e = refl
all_stay n (q ∷ qs) e = dite (ℕ_discrete q.node n)
    (λ x. let z : times n (nodes_in (q ∷ qs)) ≡ 1 + times n (nodes_in qs) = ap (λ (b : Bool). cond b 1 0 + times n (nodes_in qs)) (eq_true q.node n x) in absurd (omega arith))
    (λ x. let is : (q.node == n) ≡ false = eq_false q.node n x in
    let z : times n (nodes_in (q ∷ qs)) ≡ 0 + times n (nodes_in qs) = ap (λ (b : Bool). cond b 1 0 + times n (nodes_in qs)) is in
    let r = all_stay n qs (omega arith) in
    ap (λ (b : Bool). length (cond b (without n qs) (q ∷ without n qs))) is ∙ ap suc r)

without_length : (n : ℕ) (ps : List Pair) → times n (nodes_in ps) ≤ 1 → In n (nodes_in ps) → length (without n ps) + 1 ≡ length ps
without_length n [] one h = absurd h
without_length n (p ∷ ps) one h = dite (ℕ_discrete p.node n)
    (λ e. let is = eq_true p.node n e in
    let z : times n (nodes_in (p ∷ ps)) ≡ 1 + times n (nodes_in ps) = ap (λ (b : Bool). cond b 1 0 + times n (nodes_in ps)) is in
    let y : length (without n (p ∷ ps)) ≡ length (without n ps) = ap (λ (b : Bool). length (cond b (without n ps) (p ∷ without n ps))) is in
    let w = all_stay n ps (omega arith) in
    let x : length (p ∷ ps) ≡ suc (length ps) = refl in
    omega arith)
    (λ ne. let is : (p.node == n) ≡ false = eq_false p.node n ne in
    let z : times n (nodes_in (p ∷ ps)) ≡ 0 + times n (nodes_in ps) = ap (λ (b : Bool). cond b 1 0 + times n (nodes_in ps)) is in
    let y : length (without n (p ∷ ps)) ≡ suc (length (without n ps)) = ap (λ (b : Bool). length (cond b (without n ps) (p ∷ without n ps))) is in
    let inside : In n (nodes_in ps) = ⊎_elim (λ (x : n ≡ p.node). absurd (ne (sym x))) (λ (x : In n (nodes_in ps)). x) h in
    let r = without_length n ps (omega arith) inside in
    let x : length (p ∷ ps) ≡ suc (length ps) = refl in
    omega arith)

pair_stays : (n : ℕ) (p : Pair) (ps : List Pair) → In p ps → p.node ≢ n → In p (without n ps)
pair_stays n p [] h ne = absurd h
pair_stays n p (q ∷ ps) (inl is) ne = subst (λ (b : Bool). In p (cond b (without n ps) (q ∷ without n ps))) (sym (eq_false q.node n (λ e. ne (ap (λ (r : Pair). r.node) is ∙ e)))) (inl is)
pair_stays n p (q ∷ ps) (inr h) ne = go (q.node == n) (pair_stays n p ps h ne)
  where
    go : (b : Bool) → In p (without n ps) → In p (cond b (without n ps) (q ∷ without n ps))
    go true k = k
    go false k = inr k

pub return_near : (nodes : List Node) (seats : List Seat) (a n : ℕ) → can_return nodes seats a n ≡ true → n < length nodes
return_near nodes seats a n h =
    let by : code_seen nodes n ≡ held_by a = eq_is (code_seen nodes n) (held_by a) (and_left (code_seen nodes n == held_by a) (not (owes_of n (seat_at seats a).owed) && not (is_some (seat_at seats a).unborn)) h) in
    code_near nodes n (λ two. omega arith)

module _ (o : Opening) (c : CoreState) (s : State) (sh : ShowsState o c s) (a n : ℕ) (f : Found) (found : found_from a 0 c.actors ≡ Some f) where
  return_is : can_put_back o c f n ≡ can_return s.nodes.items s.seats.items a n
  return_is = λ i. (word_is o c s sh n i == held_by (own o c s sh a f found i)) && (not (owes_is o c s sh a f found n i) && not (is_some (sym (seat o c s sh a f found).unborn i)))

  return_held : can_return s.nodes.items s.seats.items a n ≡ true → holds s.nodes.items s.seats.items a n ≡ true
  return_held h = ap (λ (b : Bool). b || is_this (seat_at s.seats.items a).unborn n) (and_left (code_seen s.nodes.items n == held_by a) (not (owes_of n (seat_at s.seats.items a).owed) && not (is_some (seat_at s.seats.items a).unborn)) h)

  -- the test of the star reads the table, where the rest of the guard holds
  star_test : (test : Option Star → Bool) → (can_put_back o c f n && test (star_held f.actor.view.held n)) ≡ (can_return s.nodes.items s.seats.items a n && test (node_at s.nodes.items n).star)
  star_test test = (λ i. return_is i && test (star_is o c s sh a f found n i)) ∙ go (can_return s.nodes.items s.seats.items a n) refl
    where
      go : (b : Bool) → can_return s.nodes.items s.seats.items a n ≡ b → (b && test (star_seen s.nodes.items s.seats.items a n)) ≡ (b && test (node_at s.nodes.items n).star)
      go true e = ap (λ (x : Bool). test (cond x (node_at s.nodes.items n).star None)) (return_held e)
      go false e = refl

  -- a node is put back: its word becomes this one, and its absence goes where it was one
  back_shows : (t : State) (word : Word) (absent : Option ℕ) → can_return s.nodes.items s.seats.items a n ≡ true → IsOf s t → t.log.items ≡ s.log.items
      → t.nodes.items ≡ set s.nodes.items n (put_back_node word (node_at s.nodes.items n)) → t.seats.items ≡ set s.seats.items a (less_held absent (seat_at s.seats.items a))
      → IsCore o (back_state c f n (word_code word)) → log_of o (back_state c f n (word_code word)) ≡ log_of o c
      → ((m : ℕ) → absent ≡ Some m → In (record { node = m; star = None }) (without n f.actor.view.held))
      → ((p : Pair) → In p (without n f.actor.view.held) → p.star ≡ None → absent ≡ Some p.node)
      → ShowsState o (back_state c f n (word_code word)) t
  back_shows t word absent able of log nodes seats core' log' is_absent all_absent =
      let old : List Node = s.nodes.items in
      let inside : In n (nodes_of f.actor.view) = seen_held o c s sh a f found n (return_held able) in
      let low : n < length old = held_near o c s sh a f found n inside in
      let x : Node = put_back_node word (node_at old n) in
      let kept : ShowsSeat (seat_at s.seats.items a) f.actor = seat o c s sh a f found in
      put_shows o c s sh a f found t (set c.words n (word_code word)) c.lists (record { view = released f.actor.view n; owed = f.actor.owed }) (less_held absent (seat_at s.seats.items a)) of core'
      (ap (λ (l : List ℕ). set l n (word_code word)) sh.words ∙ codes_set old (length s.log.items ∷ []) n x low ∙ (λ i. map code_in (sym nodes i) ++ length (sym log i) ∷ []))
      (sh.lists ∙ sym (lists_same old n x refl) ∙ ap (map list_in) (sym nodes))
      (log' ∙ sh.log ∙ sym log)
      seats (lead_is o c s sh a f found) refl
      (record {
        allowance = kept.allowance;
        held = let z = without_length n f.actor.view.held ((fits o c s sh a f found).once n) inside in let y = kept.held in omega arith;
        unborn = kept.unborn;
        absent = is_absent;
        absences = all_absent;
        owed = kept.owed;
        debts = kept.debts;
      })
      (λ p h. ap (λ (l : List Node). (node_at l p.node).star) nodes
      ∙ star_else old n p.node x (node_in_without n p.node f.actor.view.held (node_in p (without n f.actor.view.held) h)).1
      ∙ (mine o c s sh a f found).stars p (in_without n p f.actor.view.held h))
      (λ j u ne there p h. ap (λ (l : List Node). (node_at l p.node).star) nodes ∙ star_else old n p.node x (other_node o c s sh a f found j u n ne there inside p h))

  back_log : (word : ℕ) → can_return s.nodes.items s.seats.items a n ≡ true → tickets_in o (back_state c f n word) ≡ tickets_in o c
  back_log word able =
      let low : n < names_of o = let y = held_near o c s sh a f found n (seen_held o c s sh a f found n (return_held able)) in let z = names o c s sh in omega arith in
      get_or-set_other c.words n (names_of o) word 0 (λ e. omega arith)

pub release_ignored : (s : State) (a n : ℕ) → can_release s.nodes.items s.seats.items a n ≡ false → IsAct (Release a n) s Ignored s
release_ignored s a n no_gate o c f sh found =
    refused o c s sh (can_put_back o c f n && is_some (star_held f.actor.view.held n)) (back_state c f n 0) None (star_test o c s sh a n f found is_some ∙ no_gate)

pub release_taken : (s t : State) (a n : ℕ) → can_release s.nodes.items s.seats.items a n ≡ true → IsOf s t → t.log.items ≡ s.log.items
    → t.nodes.items ≡ set s.nodes.items n (put_back_node Free (node_at s.nodes.items n)) → t.seats.items ≡ set s.seats.items a (less_held (seat_at s.seats.items a).absent (seat_at s.seats.items a))
    → IsAct (Release a n) s (Taken None) t
release_taken s t a n able of log nodes seats o c f sh found =
    let g : Bool = can_put_back o c f n && is_some (star_held f.actor.view.held n) in
    let gate : g ≡ true = star_test o c s sh a n f found is_some ∙ able in
    let first = and_left (can_return s.nodes.items s.seats.items a n) (is_some (node_at s.nodes.items n).star) able in
    let there : is_some (node_at s.nodes.items n).star ≡ true = and_right (can_return s.nodes.items s.seats.items a n) (is_some (node_at s.nodes.items n).star) able in
    let core' : IsCore o (back_state c f n 0) = core_taken o c g (back_state c f n 0) None gate (acted_core o c s sh a f found (Release a n) refl) in
    let grown = grows_taken o c g (back_state c f n 0) None gate (acted_grows o c s sh a f found (Release a n) refl) in
    let kept : ShowsSeat (seat_at s.seats.items a) f.actor = seat o c s sh a f found in
    let far : (p : Pair) → In p f.actor.view.held → p.star ≡ None → p.node ≢ n = λ p h gone e.
    let z : true ≡ false = sym there ∙ ap (λ (k : ℕ). is_some (node_at s.nodes.items k).star) (sym e) ∙ ap (λ (y : Option Star). is_some y) ((mine o c s sh a f found).stars p h ∙ gone) in cc (z) in
    taken o c t g (back_state c f n 0) None gate
    (back_shows o c s sh a n f found t Free (seat_at s.seats.items a).absent first of log nodes seats core'
    (log_stays o c (back_state c f n 0) sh.core core' grown (back_log o c s sh a n f found 0 first))
    (λ m e. let h = kept.absent m e in pair_stays n (record { node = m; star = None }) f.actor.view.held h (far (record { node = m; star = None }) h refl))
    (λ p h. kept.absences p (in_without n p f.actor.view.held h)))

pub bury_ignored : (s : State) (a n : ℕ) → can_bury s.nodes.items s.seats.items a n ≡ false → IsAct (Bury a n) s Ignored s
bury_ignored s a n no_gate o c f sh found =
    refused o c s sh (can_put_back o c f n && not (is_some (star_held f.actor.view.held n))) (back_state c f n 1) None (star_test o c s sh a n f found (λ (x : Option Star). not (is_some x)) ∙ no_gate)

pub bury_taken : (s t : State) (a n : ℕ) → can_bury s.nodes.items s.seats.items a n ≡ true → IsOf s t → t.log.items ≡ s.log.items
    → t.nodes.items ≡ set s.nodes.items n (put_back_node Dead (node_at s.nodes.items n)) → t.seats.items ≡ set s.seats.items a (less_held None (seat_at s.seats.items a))
    → IsAct (Bury a n) s (Taken None) t
bury_taken s t a n able of log nodes seats o c f sh found =
    let g : Bool = can_put_back o c f n && not (is_some (star_held f.actor.view.held n)) in
    let gate : g ≡ true = star_test o c s sh a n f found (λ (x : Option Star). not (is_some x)) ∙ able in
    let first = and_left (can_return s.nodes.items s.seats.items a n) (not (is_some (node_at s.nodes.items n).star)) able in
    let gone : (node_at s.nodes.items n).star ≡ None = none_there (node_at s.nodes.items n).star (and_right (can_return s.nodes.items s.seats.items a n) (not (is_some (node_at s.nodes.items n).star)) able) in
    let core' : IsCore o (back_state c f n 1) = core_taken o c g (back_state c f n 1) None gate (acted_core o c s sh a f found (Bury a n) refl) in
    let grown = grows_taken o c g (back_state c f n 1) None gate (acted_grows o c s sh a f found (Bury a n) refl) in
    let kept : ShowsSeat (seat_at s.seats.items a) f.actor = seat o c s sh a f found in
    let inside : In n (nodes_of f.actor.view) = seen_held o c s sh a f found n (return_held o c s sh a n f found first) in
    let pair = pair_of n f.actor.view.held inside in
    let here : (seat_at s.seats.items a).absent ≡ Some n = kept.absences pair.0 pair.1 (sym ((mine o c s sh a f found).stars pair.0 pair.1) ∙ ap (λ (k : ℕ). (node_at s.nodes.items k).star) pair.2 ∙ gone) ∙ ap (λ (k : ℕ). Some k) pair.2 in
    taken o c t g (back_state c f n 1) None gate
    (back_shows o c s sh a n f found t Dead None first of log nodes seats core'
    (log_stays o c (back_state c f n 1) sh.core core' grown (back_log o c s sh a n f found 1 first))
    (λ m e. absurd (cc (e)))
    (λ p h none. absurd ((node_in_without n p.node f.actor.view.held (node_in p (without n f.actor.view.held) h)).1
    (some_is p.node n (sym (kept.absences p (in_without n p f.actor.view.held h) none) ∙ here)))))
  where
    none_there : (x : Option Star) → not (is_some x) ≡ true → x ≡ None
    none_there None h = refl
    none_there (Some y) h = absurd (let z : false ≡ true = h in cc)

-- a new node is held as any other
module _ (o : Opening) (c : CoreState) (s : State) (sh : ShowsState o c s) (a n : ℕ) (f : Found) (found : found_from a 0 c.actors ≡ Some f) where
  this_is : (x : Option ℕ) → is_this x n ≡ true → x ≡ Some n
  this_is None k = absurd (let z : false ≡ true = k in cc)
  this_is (Some m) k = ap (λ (j : ℕ). Some j) (eq_is m n k)

  birth_here : is_this (seat_at s.seats.items a).unborn n ≡ true → (code_seen s.nodes.items n == 2) ≡ true
  birth_here e =
      let kept : ShowsSeat (seat_at s.seats.items a) f.actor = seat o c s sh a f found in
      let un = (fits o c s sh a f found).unborn n (sym kept.unborn ∙ this_is (seat_at s.seats.items a).unborn e) in
      let low : n < length s.nodes.items = held_near o c s sh a f found n un.held in
      eq_true (code_seen s.nodes.items n) 2 (code_here s.nodes.items n low ∙ sym (word_at o c s sh n low) ∙ un.never)

  -- a node whose word is Never is held as the unborn one alone
  birth_only : (h b q p : Bool) → (b ≡ true → h ≡ false) → (q ≡ true → b ≡ true) → ((h || q) && (b && p)) ≡ (q && p)
  birth_only true true q p f k = absurd (let z : true ≡ false = f refl in cc (z))
  birth_only false true q p f k = refl
  birth_only true false true p f k = absurd (let z : false ≡ true = k refl in cc (z))
  birth_only true false false p f k = refl
  birth_only false false true p f k = absurd (let z : false ≡ true = k refl in cc (z))
  birth_only false false false p f k = refl

  birth_is : (is_held f.actor.view.held n && (word_of o c n == 2 && not (owes_of n f.actor.owed))) ≡ can_birth s.seats.items a n
  birth_is =
      (λ i. holds_is o c s sh a f found n i && (word_is o c s sh n i == 2 && not (owes_is o c s sh a f found n i)))
      ∙ birth_only (code_seen s.nodes.items n == held_by a) (code_seen s.nodes.items n == 2) (is_this (seat_at s.seats.items a).unborn n) (not (owes_of n (seat_at s.seats.items a).owed))
      (λ k. eq_false (code_seen s.nodes.items n) (held_by a) (λ x. let two = eq_is (code_seen s.nodes.items n) 2 k in absurd (omega arith)))
      birth_here

pub birth_ignored : (s : State) (a n : ℕ) → can_birth s.seats.items a n ≡ false → IsAct (Birth a n) s Ignored s
birth_ignored s a n no_gate o c f sh found =
    refused o c s sh (is_held f.actor.view.held n && (word_of o c n == 2 && not (owes_of n f.actor.owed))) (birth_state c f n) None (birth_is o c s sh a n f found ∙ no_gate)

pub birth_taken : (s t : State) (a n : ℕ) → can_birth s.seats.items a n ≡ true → IsOf s t → t.log.items ≡ s.log.items
    → t.nodes.items ≡ set s.nodes.items n (born_node a (node_at s.nodes.items n)) → t.seats.items ≡ set s.seats.items a (born_seat (seat_at s.seats.items a))
    → IsAct (Birth a n) s (Taken None) t
birth_taken s t a n able of log nodes seats o c f sh found =
    let old : List Node = s.nodes.items in
    let g : Bool = is_held f.actor.view.held n && (word_of o c n == 2 && not (owes_of n f.actor.owed)) in
    let gate : g ≡ true = birth_is o c s sh a n f found ∙ able in
    let core' : IsCore o (birth_state c f n) = core_taken o c g (birth_state c f n) None gate (acted_core o c s sh a f found (Birth a n) refl) in
    let grown = grows_taken o c g (birth_state c f n) None gate (acted_grows o c s sh a f found (Birth a n) refl) in
    let kept : ShowsSeat (seat_at s.seats.items a) f.actor = seat o c s sh a f found in
    let this : is_this (seat_at s.seats.items a).unborn n ≡ true = and_left (is_this (seat_at s.seats.items a).unborn n) (not (owes_of n (seat_at s.seats.items a).owed)) able in
    let inside : In n (nodes_of f.actor.view) = seen_held o c s sh a f found n (or_right (code_seen old n == held_by a) (is_this (seat_at s.seats.items a).unborn n) this) in
    let low : n < length old = held_near o c s sh a f found n inside in
    let x : Node = born_node a (node_at old n) in
    taken o c t g (birth_state c f n) None gate
    (put_shows o c s sh a f found t (set c.words n (held_by (number_of f.actor.view))) c.lists (record { view = born f.actor.view; owed = f.actor.owed }) (born_seat (seat_at s.seats.items a)) of core'
    ((λ i. set (sh.words i) n (held_by (own o c s sh a f found i))) ∙ codes_set old (length s.log.items ∷ []) n x low ∙ (λ i. map code_in (sym nodes i) ++ length (sym log i) ∷ []))
    (sh.lists ∙ sym (lists_same old n x refl) ∙ ap (map list_in) (sym nodes))
    (log_stays o c (birth_state c f n) sh.core core' grown (get_or-set_other c.words n (names_of o) (held_by (number_of f.actor.view)) 0 (λ e. let z = names o c s sh in omega arith)) ∙ sh.log ∙ sym log)
    seats (lead_is o c s sh a f found) refl
    (record { allowance = kept.allowance; held = kept.held; unborn = refl; absent = kept.absent; absences = kept.absences; owed = kept.owed; debts = kept.debts })
    (λ p h. ap (λ (l : List Node). (node_at l p.node).star) nodes ∙ star_same old n p.node x low refl ∙ (mine o c s sh a f found).stars p h)
    (λ j u ne there p h. ap (λ (l : List Node). (node_at l p.node).star) nodes ∙ star_same old n p.node x low refl))

-- the unborn node stands in the table
pub birth_near : (o : Opening) (c : CoreState) (s : State) (a n : ℕ) (f : Found) → ShowsState o c s → found_from a 0 c.actors ≡ Some f → can_birth s.seats.items a n ≡ true → n < length s.nodes.items
birth_near o c s a n f sh found able =
    let this = and_left (is_this (seat_at s.seats.items a).unborn n) (not (owes_of n (seat_at s.seats.items a).owed)) able in
    held_near o c s sh a f found n (seen_held o c s sh a f found n (or_right (code_seen s.nodes.items n == held_by a) (is_this (seat_at s.seats.items a).unborn n) this))
