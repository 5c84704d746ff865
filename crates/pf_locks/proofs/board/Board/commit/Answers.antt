use Rattle.std.proofs.Common.{◌≡◌, ◌+◌, ◌∷◌, ◌++◌, [], ℕ, List, Bool, cond, ◌==◌, true, false, sym, ap, ◌∙◌, subst, arith}
use Rattle.std.specs.Prelude.{None, vec_capacity}
use Rattle.std.specs.FinMap as fin
use Rattle.atomic_table.specs.Table.{turned}
use Rattle.pf_model.specs.declared.Entry.{Entry}
use Rattle.pf_core_model.specs.declared.view.View.{View}
use Rattle.pf_core_model.specs.Lists.{In}
use Rattle.pf_core_model.specs.Cavity.{makes_node}
use Rattle.pf_core_model.specs.Moves.{committed, unborn_by}
use Rattle.pf_core_model.specs.Core.{nodes_of}
use Rattle.pf_core_model.specs.Seats.{Knows}
use Rattle.pf_core_model.proofs.Lists.{in_times, times_in}
use Rattle.pf_core_model.proofs.Owing.{fresh_nodes}
use Rattle.pf_board_steps.specs.Plays.{Makes, fresh_at}
use Rattle.pf_locks.specs.declared.kept.Kept.{Kept}
use Rattle.pf_locks.specs.Lists.{names_in, list_in, list_of, lent_in, lent_of}
use Rattle.pf_locks.specs.Seats.{IsShaped, entry_of}
use Rattle.pf_locks.proofs.Keeping.{look_snoc}
use Rattle.pf_locks.proofs.Seating.{seated, counts_more, is_absent, won, made_away, made_none, made_one}
use Rattle.pf_locks.proofs.board.Board.commit.Goals as goal

pub add-requires-clause-absent : goal.add-requires-clause-absent
add-requires-clause-absent c =
    let v = c.args.s.now.seat.me.0 in
    let r = c.requires.seat.counts in
    let t = c.draw-ticket.result in
    let told = c.draw-ticket.ensures.told in
    ap (λ m. fin.get m t) r.entries ∙ is_absent t v.entries (λ e h k. let z = r.tickets e h in let y = r.seen in let x = told.1.0 in absurd (omega arith))

pub returns-else-makes_one-clause-seat : goal.returns-else-makes_one-clause-seat
returns-else-makes_one-clause-seat c =
    let b = c.args.self.now in
    let s = c.args.s.now in
    let v = s.seat.me.0 in
    let r = c.requires.seat in
    let t = c.draw-ticket.result in
    let op = c.args.op in
    let told = c.draw-ticket.ensures.told in
    let d : Entry = entry_of t c.args.chunk op in
    let fresh = fresh_at v (entry_of 0 c.args.chunk op) t in
    let w : View = committed v d fresh (unborn_by v.first_new d) in
    let no_it : makes_node op ≡ false = sym c.makes_one.ensures ∙ c.if-makes_one.false in
    let me : c.draw-ticket.new.seat.me ≡ (w, s.seat.me.1) = told.3 ∙ ap (λ (x : Bool). (w, cond x ((v.first_new + t, []) ∷ s.seat.me.1) s.seat.me.1)) no_it in
    let nodes : nodes_of w ≡ nodes_of v = fresh_nodes v.first_new d v.held ∙ ap (λ (l : List ℕ). l ++ nodes_of v) (made_none (v.first_new + t) op no_it) in
    seated b.table.shared.key _ w s.seat.me.1 me
    (subst (λ (l : List ℕ). IsShaped s.seat.me.1 l s.kept.items (vec_capacity s.kept)) (sym nodes) r.shape)
    (counts_more v d fresh (unborn_by v.first_new d) s.number s.workers s.numbers s.allowance s.seen s.entries _ r.counts c.requires.rich told.1.0 c.add.ensures.entries c.add.ensures.spare)
    (subst (λ (u : View). Knows b.table.shared.key u) (ap (λ m. m.0) me) told.0.0)

pub returns-then-makes_one-clause-seat : goal.returns-then-makes_one-clause-seat
returns-then-makes_one-clause-seat c =
    let b = c.args.self.now in
    let s = c.args.s.now in
    let v = s.seat.me.0 in
    let r = c.requires.seat in
    let t = c.draw-ticket.result in
    let op = c.args.op in
    let told = c.draw-ticket.ensures.told in
    let d : Entry = entry_of t c.args.chunk op in
    let fresh = fresh_at v (entry_of 0 c.args.chunk op) t in
    let w : View = committed v d fresh (unborn_by v.first_new d) in
    let n : ℕ = v.first_new + t in
    let yes_it : makes_node op ≡ true = sym c.makes_one.ensures ∙ c.if-makes_one.true in
    let drawn : c.draw-ticket.new.seat.me ≡ (w, (n, []) ∷ s.seat.me.1) = told.3 ∙ ap (λ (x : Bool). (w, cond x ((n, []) ∷ s.seat.me.1) s.seat.me.1)) yes_it in
    let view : c.turn.new.self.me.0 ≡ w = ap (λ m. m.0) c.turn.ensures.2 ∙ ap (λ m. m.0) drawn in
    let slots : c.turn.new.self.me.1 ≡ s.seat.me.1 ++ (n, []) ∷ [] = ap (λ m. m.1) c.turn.ensures.2 ∙ ap (λ m. turned m.1) drawn in
    let nodes : nodes_of w ≡ n ∷ nodes_of v = fresh_nodes v.first_new d v.held ∙ ap (λ (l : List ℕ). l ++ nodes_of v) (made_one n op yes_it) in
    let x : Kept = record { node = b.first_new + t; list = c.none.result; lent = false } in
    let named : x.node ≡ n = ap (λ (k : ℕ). k + t) (b.first_is ∙ sym r.knows.0.opening.1) in
    let makes = told.2 in
    let away = made_away v makes.mesh t makes.before makes.fresh c.requires.live in
    seated b.table.shared.key _ w (s.seat.me.1 ++ (n, []) ∷ []) (λ i. (view i, slots i))
    (subst (λ (l : List ℕ). IsShaped (s.seat.me.1 ++ (n, []) ∷ []) l c.push_reserved.new.self.items (vec_capacity c.push_reserved.new.self)) (sym nodes)
    (won n s.seat.me.1 (nodes_of v) s.kept.items _ _ _ x r.shape named away c.push_reserved.ensures.items c.push_reserved.ensures.capacity))
    (counts_more v d fresh (unborn_by v.first_new d) s.number s.workers s.numbers s.allowance s.seen s.entries _ r.counts c.requires.rich told.1.0 c.add.ensures.entries c.add.ensures.spare)
    (subst (λ (u : View). Knows b.table.shared.key u) (ap (λ m. m.0) drawn) told.0.0)

pub returns-then-makes_one-clause-told : goal.returns-then-makes_one-clause-told
returns-then-makes_one-clause-told c =
    let b = c.args.self.now in
    let s = c.args.s.now in
    let v = s.seat.me.0 in
    let r = c.requires.seat in
    let t = c.draw-ticket.result in
    let op = c.args.op in
    let told = c.draw-ticket.ensures.told in
    let d : Entry = entry_of t c.args.chunk op in
    let n : ℕ = v.first_new + t in
    let x : Kept = record { node = b.first_new + t; list = c.none.result; lent = false } in
    let named : x.node ≡ n = ap (λ (k : ℕ). k + t) (b.first_is ∙ sym r.knows.0.opening.1) in
    let makes = told.2 in
    let yes_it : makes_node op ≡ true = sym c.makes_one.ensures ∙ c.if-makes_one.true in
    let away : In x.node (names_in s.kept.items) → ⊥
    = λ h. let a = times_in x.node (names_in s.kept.items) h in let q = r.shape.names x.node in
    made_away v makes.mesh t makes.before makes.fresh c.requires.live (subst (λ (y : ℕ). In y (nodes_of v)) named (in_times x.node (nodes_of v) (omega arith))) in
    let items = c.push_reserved.ensures.items in
    let stays = ap (λ m. m.0) c.turn.ensures.2 in
    record {
      view = stays ∙ ap (λ m. m.0) told.3;
      makes = subst (λ (u : View). Makes b.table.shared.key v u d) (sym stays) makes;
      made = λ _ k. (
        ap (λ l. list_in l k) items ∙ look_snoc list_of [] s.kept.items x away k ∙ ap (λ (y : ℕ). cond (y == k) c.none.result (list_in s.kept.items k)) named ∙ ap (λ l. cond (n == k) l (list_in s.kept.items k)) c.none.ensures,
        ap (λ l. lent_in l k) items ∙ look_snoc lent_of None s.kept.items x away k ∙ ap (λ (y : ℕ). cond (y == k) None (lent_in s.kept.items k)) named,
      );
      same = λ e. absurd (let z : true ≡ false = sym yes_it ∙ e in cc (z));
    }
