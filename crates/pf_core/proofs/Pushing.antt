-- A copy that is owed and put.
use Rattle.std.proofs.Common.{◌≡◌, ◌≢◌, ℕ, suc, ◌+◌, ◌<◌, ◌≤◌, Bool, true, false, List, [], ◌∷◌, ◌++◌, length, map, set, refl, sym, ap, ◌∙◌, subst, inl, inr, arith}
use Rattle.std.specs.Prelude.{Option, Some, None}
use Rattle.std.specs.List.{list_any}
use lib.ListN.{get_elem?}
use Rattle.pf_model.specs.Stars.{Star}
use Rattle.pf_star_model.specs.Copies.{due_copy}
use Rattle.pf_star_model.specs.Lent.{Held as Pair, star_held}
use Rattle.pf_core_model.specs.declared.event.Event.TheVariants.{Push}
use Rattle.pf_core_model.specs.declared.event.Owed.{Owed}
use Rattle.pf_core_model.specs.declared.event.Verdict.{Verdict}
use Rattle.pf_core_model.specs.declared.event.Verdict.TheVariants.{Taken, Ignored}
use Rattle.pf_core_model.specs.declared.sharer.Sharer.{Sharer}
use Rattle.pf_core_model.specs.Lists.{In}
use Rattle.pf_core_model.specs.Sharers.{put_copy, IsSharerList}
use Rattle.pf_core_model.specs.Core.{Opening, names_of, nodes_of}
use Rattle.pf_core_model.specs.State.{Actor, CoreState, Found, found_from, list_at, log_of, is_owed, without_owed, push_state, Owes, IsCore}
use Rattle.pf_core_model.proofs.Owing.{owing, owed_is, in_without_owed, stays_owed, star_in_is}
use Rattle.pf_core.specs.declared.state.State.{State}
use Rattle.pf_core.specs.declared.tables.Node.{Node}
use Rattle.pf_core.specs.declared.tables.Seat.{Seat}
use Rattle.pf_core.specs.Tables.{node_at, seat_at, code_in, list_in, holds, star_seen, listed_node, paid_seat}
use Rattle.pf_core.specs.Gates.{can_push}
use Rattle.pf_core.specs.Shown.{ShowsSeat, ShowsState, IsAct}
use Rattle.pf_core.proofs.Kept.{names, codes_same, lists_set, list_is, at, seat, lead_is, mine, is_owed_is, held_near, pair_of, in_any, acted_core, acted_grows}
use Rattle.pf_core.proofs.Moves.{IsOf, star_same, refused, taken, core_taken, grows_taken, log_stays, put_shows}

module _ (o : Opening) (c : CoreState) (s : State) (sh : ShowsState o c s) (a chunk n : ℕ) (f : Found) (found : found_from a 0 c.actors ≡ Some f) where
  -- the node of an owed copy is held
  owed_held : can_push s.seats.items a chunk n ≡ true → In n (nodes_of f.actor.view)
  owed_held able =
      let r = in_any (is_owed chunk n) f.actor.owed (is_owed_is o c s sh a f found chunk n ∙ able) in
      ((sh.core.owes f.place f.actor (at o c s sh a f found)).of_held (owing chunk n) (subst (λ (d : Owed). In d f.actor.owed) (owed_is chunk n r.0 r.2) r.1)).0

  pub push_near : can_push s.seats.items a chunk n ≡ true → n < length s.nodes.items
  push_near able = held_near o c s sh a f found n (owed_held able)

  -- its star stands at the node
  owed_star : can_push s.seats.items a chunk n ≡ true → star_held f.actor.view.held n ≡ (node_at s.nodes.items n).star
  owed_star able = star_in_is (λ m. (node_at s.nodes.items m).star) n f.actor.view.held (λ p h. sym ((mine o c s sh a f found).stars p h)) (owed_held able)

pub push_ignored : (s : State) (a chunk n : ℕ) → can_push s.seats.items a chunk n ≡ false → IsAct (Push a chunk n) s Ignored s
push_ignored s a chunk n no_gate o c f sh found =
    refused o c s sh (list_any (is_owed chunk n) f.actor.owed) (push_state c f chunk n) None (is_owed_is o c s sh a f found chunk n ∙ no_gate)

pub push_taken : (s t : State) (a chunk n : ℕ) → can_push s.seats.items a chunk n ≡ true → IsOf s t → t.log.items ≡ s.log.items
    → t.nodes.items ≡ set s.nodes.items n (listed_node (put_copy chunk (due_copy chunk (node_at s.nodes.items n).star) (node_at s.nodes.items n).list) (node_at s.nodes.items n))
    → t.seats.items ≡ set s.seats.items a (paid_seat (without_owed chunk n (seat_at s.seats.items a).owed) (seat_at s.seats.items a)) → IsAct (Push a chunk n) s (Taken None) t
push_taken s t a chunk n able of log nodes seats o c f sh found =
    let old : List Node = s.nodes.items in
    let ta : Seat = seat_at s.seats.items a in
    let g : Bool = list_any (is_owed chunk n) f.actor.owed in
    let gate : g ≡ true = is_owed_is o c s sh a f found chunk n ∙ able in
    let core' : IsCore o (push_state c f chunk n) = core_taken o c g (push_state c f chunk n) None gate (acted_core o c s sh a f found (Push a chunk n) refl) in
    let grown = grows_taken o c g (push_state c f chunk n) None gate (acted_grows o c s sh a f found (Push a chunk n) refl) in
    let low : n < length old = push_near o c s sh a chunk n f found able in
    let list : List Sharer = put_copy chunk (due_copy chunk (node_at old n).star) (node_at old n).list in
    let x : Node = listed_node list (node_at old n) in
    let kept : ShowsSeat ta f.actor = seat o c s sh a f found in
    let b : Actor = record { view = f.actor.view; owed = without_owed chunk n f.actor.owed } in
    let lists' : List (List Sharer) = set c.lists n (put_copy chunk (due_copy chunk (star_held f.actor.view.held n)) (list_at c.lists n)) in
    taken o c t g (push_state c f chunk n) None gate
    (put_shows o c s sh a f found t c.words lists' b (paid_seat (without_owed chunk n ta.owed) ta) of core'
    (sh.words ∙ (λ i. sym (codes_same old n x refl) i ++ length (sym log i) ∷ []) ∙ (λ i. map code_in (sym nodes i) ++ length t.log.items ∷ []))
    ((λ i. set (sh.lists i) n (put_copy chunk (due_copy chunk (owed_star o c s sh a chunk n f found able i)) (list_is o c s sh n i))) ∙ lists_set old n x ∙ ap (map list_in) (sym nodes))
    (log_stays o c (push_state c f chunk n) sh.core core' grown refl ∙ sh.log ∙ sym log)
    seats (lead_is o c s sh a f found) refl
    (record {
      allowance = kept.allowance;
      held = kept.held;
      unborn = kept.unborn;
      absent = kept.absent;
      absences = kept.absences;
      owed = λ d h. let r = in_without_owed chunk n d ta.owed h in stays_owed chunk n d f.actor.owed (kept.owed d r.0) r.1;
      debts = λ d h. let r = in_without_owed chunk n d f.actor.owed h in stays_owed chunk n d ta.owed (kept.debts d r.0) r.1;
    })
    (λ p h. ap (λ (l : List Node). (node_at l p.node).star) nodes ∙ star_same old n p.node x low refl ∙ (mine o c s sh a f found).stars p h)
    (λ j u ne there p h. ap (λ (l : List Node). (node_at l p.node).star) nodes ∙ star_same old n p.node x low refl))
