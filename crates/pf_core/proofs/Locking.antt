-- A try for a node: one that is free, and one that another actor holds.
use Rattle.std.proofs.Common.{◌≡◌, ◌≢◌, ℕ, zero, suc, ◌+◌, ◌-◌, ◌<◌, ◌≤◌, Bool, true, false, cond, not, ◌==◌, ◌&&◌, nat_lt, List, [], ◌∷◌, ◌++◌, length, map, set, refl, sym, ap, ◌∙◌, subst, inl, inr, ⊎_elim, arith}
use Rattle.std.specs.Prelude.{Option, Some, None, slice_index}
use Rattle.std.proofs.lemmas.List.{get_or-set_other}
use mathlib.Core.Option.{some}
use mathlib.Core.Logic.{dite}
use native.Mathlib.Decide.{ℕ_discrete}
use lib.ListN.{get_elem?}
use Rattle.pf_model.specs.declared.Entry.{Entry}
use Rattle.pf_model.specs.Stars.{Star}
use Rattle.pf_star_model.specs.Lent.{Held as Pair}
use Rattle.pf_core_model.specs.declared.event.Event.TheVariants.{Lock, Lost}
use Rattle.pf_core_model.specs.declared.event.Verdict.{Verdict}
use Rattle.pf_core_model.specs.declared.event.Verdict.TheVariants.{Taken, Ignored}
use Rattle.pf_core_model.specs.declared.sharer.Sharer.{Sharer}
use Rattle.pf_core_model.specs.Lists.{In}
use Rattle.pf_core_model.specs.Sharers.{kept_in}
use Rattle.pf_core_model.specs.Moves.{locked, lost_to}
use Rattle.pf_core_model.specs.Core.{Opening, names_of, held_by, number_of}
use Rattle.pf_core_model.specs.State.{Actor, CoreState, Found, found_from, is_clear, word_of, list_at, tickets_in, log_of, lock_state, lost_state, IsCore}
use Rattle.pf_core_model.proofs.Replays.{and_left, and_right}
use Rattle.pf_core_model.proofs.StateLaws.{free_row}
use Rattle.pf_core_model.proofs.Views.{some_is}
use Rattle.pf_core.specs.declared.state.State.{State}
use Rattle.pf_core.specs.declared.tables.Node.{Node}
use Rattle.pf_core.specs.declared.tables.Seat.{Seat}
use Rattle.pf_core.specs.Tables.{node_at, seat_at, code_seen, code_in, list_in, is_clear_seat, held_node, more_held}
use Rattle.pf_core.specs.Shown.{ShowsSeat, ShowsState, IsAct}
use Rattle.pf_core.specs.Gates.{can_lock, is_others, other_holder}
use Rattle.pf_core.proofs.Kept.{names, code_near, code_here, word_is, word_at, list_is, codes_set, lists_same, at, own, seat, lead_is, mine, clear_is, acted_core, acted_grows, eq_is}
use Rattle.pf_core.proofs.Moves.{IsOf, star_else, star_here, refused, taken, core_taken, grows_taken, log_stays, free_node, put_shows, learn_shows}

pub free_near : (nodes : List Node) (seats : List Seat) (a n : ℕ) → can_lock nodes seats a n ≡ true → (n < length nodes) × (code_seen nodes n ≡ 0)
free_near nodes seats a n h =
    let zero_word : code_seen nodes n ≡ 0 = eq_is (code_seen nodes n) 0 (and_right (is_clear_seat (seat_at seats a)) (code_seen nodes n == 0) h) in
    (code_near nodes n (λ two. omega arith), zero_word)

pub lock_ignored : (s : State) (a n : ℕ) → can_lock s.nodes.items s.seats.items a n ≡ false → IsAct (Lock a n) s Ignored s
lock_ignored s a n no_gate o c f sh found =
    refused o c s sh (is_clear f.actor && (word_of o c n == 0)) (lock_state c f n) None
    ((λ i. clear_is o c s sh a f found i && (word_is o c s sh n i == 0)) ∙ no_gate)

pub lock_taken : (s t : State) (a n : ℕ) → can_lock s.nodes.items s.seats.items a n ≡ true → IsOf s t → t.log.items ≡ s.log.items
    → t.nodes.items ≡ set s.nodes.items n (held_node a (kept_in (node_at s.nodes.items n).list) (node_at s.nodes.items n))
    → t.seats.items ≡ set s.seats.items a (more_held (seat_at s.seats.items a)) → IsAct (Lock a n) s (Taken None) t
lock_taken s t a n able of log nodes seats o c f sh found =
    let old : List Node = s.nodes.items in
    let low : n < length old = (free_near old s.seats.items a n able).0 in
    let free : code_seen old n ≡ 0 = (free_near old s.seats.items a n able).1 in
    let gate : (is_clear f.actor && (word_of o c n == 0)) ≡ true = (λ i. clear_is o c s sh a f found i && (word_is o c s sh n i == 0)) ∙ able in
    let star : Option Star = kept_in (list_at c.lists n) in
    let star_is : star ≡ kept_in (node_at old n).list = ap kept_in (list_is o c s sh n) in
    let x : Node = held_node a (kept_in (node_at old n).list) (node_at old n) in
    let b : Actor = record { view = locked f.actor.view n star; owed = f.actor.owed } in
    let core' : IsCore o (lock_state c f n) = core_taken o c (is_clear f.actor && (word_of o c n == 0)) (lock_state c f n) None gate (acted_core o c s sh a f found (Lock a n) refl) in
    let grown = grows_taken o c (is_clear f.actor && (word_of o c n == 0)) (lock_state c f n) None gate (acted_grows o c s sh a f found (Lock a n) refl) in
    let here : n < names_of o = let z = names o c s sh in omega arith in
    let word : slice_index c.words n ≡ 0 = word_at o c s sh n low ∙ sym (code_here old n low) ∙ free in
    let row = free_row o c sh.core n here word in
    let kept : ShowsSeat (seat_at s.seats.items a) f.actor = seat o c s sh a f found in
    let words' : List ℕ = set c.words n (held_by (number_of f.actor.view)) in
    taken o c t (is_clear f.actor && (word_of o c n == 0)) (lock_state c f n) None gate
    (put_shows o c s sh a f found t words' c.lists b (more_held (seat_at s.seats.items a)) of core'
    ((λ i. set (sh.words i) n (held_by (own o c s sh a f found i))) ∙ codes_set old (length s.log.items ∷ []) n x low ∙ (λ i. map code_in (sym nodes i) ++ length (sym log i) ∷ []))
    (sh.lists ∙ sym (lists_same old n x refl) ∙ ap (map list_in) (sym nodes))
    (log_stays o c (lock_state c f n) sh.core core' grown (get_or-set_other c.words n (names_of o) (held_by (number_of f.actor.view)) 0 (λ e. omega arith)) ∙ sh.log ∙ sym log)
    seats (lead_is o c s sh a f found) refl
    (record {
      allowance = kept.allowance;
      held = let z = kept.held in omega arith;
      unborn = kept.unborn;
      absent = λ m e. inr (kept.absent m e);
      absences = λ p h. ⊎_elim
          (λ (e : p ≡ record { node = n; star = star }). λ gone. absurd (let z : None ≡ Some row.star = sym gone ∙ ap (λ (q : Pair). q.star) e ∙ row.kept in cc (z)))
          (λ (k : In p f.actor.view.held). kept.absences p k) h;
      owed = kept.owed;
      debts = kept.debts;
    })
    (λ p h. ap (λ (l : List Node). (node_at l p.node).star) nodes ∙ ⊎_elim
    (λ (e : p ≡ record { node = n; star = star }). subst (λ (q : Pair). (node_at (set old n x) q.node).star ≡ q.star) (sym e) (star_here old n x low ∙ sym star_is))
    (λ (k : In p f.actor.view.held). star_else old n p.node x (free_node o c s sh a f found f.place f.actor n (at o c s sh a f found) free p k) ∙ (mine o c s sh a f found).stars p k) h)
    (λ j u ne there p h. ap (λ (l : List Node). (node_at l p.node).star) nodes ∙ star_else old n p.node x (free_node o c s sh a f found j u n there free p h)))

holder_gate : (nodes : List Node) (a n k : ℕ) → other_holder nodes a n ≡ Some k → (is_others nodes a n ≡ true) × (code_seen nodes n - 3 ≡ k)
holder_gate nodes a n k e = go (is_others nodes a n) e
  where
    go : (b : Bool) → cond b (Some (code_seen nodes n - 3)) None ≡ Some k → (b ≡ true) × (code_seen nodes n - 3 ≡ k)
    go true x = (refl, some_is (code_seen nodes n - 3) k x)
    go false x = absurd (cc (x))

no_holder : (nodes : List Node) (a n : ℕ) → other_holder nodes a n ≡ None → is_others nodes a n ≡ false
no_holder nodes a n e = go (is_others nodes a n) e
  where
    go : (b : Bool) → cond b (Some (code_seen nodes n - 3)) None ≡ None → b ≡ false
    go true x = absurd (cc (x))
    go false x = refl

pub lost_ignored : (s : State) (a n : ℕ) → other_holder s.nodes.items a n ≡ None → IsAct (Lost a n) s Ignored s
lost_ignored s a n none o c f sh found =
    refused o c s sh (nat_lt 2 (word_of o c n) && not (word_of o c n == held_by (number_of f.actor.view))) (lost_state c f n (word_of o c n - 3)) (Some (word_of o c n - 3))
    ((λ i. nat_lt 2 (word_is o c s sh n i) && not (word_is o c s sh n i == held_by (own o c s sh a f found i))) ∙ no_holder s.nodes.items a n none)

pub lost_taken : (s : State) (a n k : ℕ) → other_holder s.nodes.items a n ≡ Some k → IsAct (Lost a n) s (Taken (Some k)) s
lost_taken s a n k is o c f sh found =
    let g : Bool = nat_lt 2 (word_of o c n) && not (word_of o c n == held_by (number_of f.actor.view)) in
    let w : ℕ = word_of o c n - 3 in
    let held = holder_gate s.nodes.items a n k is in
    let gate : g ≡ true = (λ i. nat_lt 2 (word_is o c s sh n i) && not (word_is o c s sh n i == held_by (own o c s sh a f found i))) ∙ held.0 in
    let same : w ≡ k = ap (λ (x : ℕ). x - 3) (word_is o c s sh n) ∙ held.1 in
    let core' : IsCore o (lost_state c f n w) = core_taken o c g (lost_state c f n w) (Some w) gate (acted_core o c s sh a f found (Lost a n) refl) in
    let grown = grows_taken o c g (lost_state c f n w) (Some w) gate (acted_grows o c s sh a f found (Lost a n) refl) in
    let r = taken o c s g (lost_state c f n w) (Some w) gate (learn_shows o c s sh a f found (lost_to f.actor.view n w) core' grown refl refl refl refl) in
    (r.0, ap (λ (x : ℕ). Taken (Some x)) (sym same) ∙ r.1)
