use Rattle.std.proofs.Common.{◌≡◌, ◌-◌, ◌++◌, ◌∷◌, [], cond, ◌==◌, true, refl, sym, ap, ◌∙◌, subst, inr, arith}
use Rattle.std.specs.Prelude.{Some, None}
use Rattle.atomic_table.specs.Table.{rest, turned}
use Rattle.pf_core_model.specs.Sharers.{sharers_in, kept_in}
use Rattle.pf_core_model.specs.Lists.{In}
use Rattle.pf_core_model.specs.Seats.{Knows}
use Rattle.pf_core_model.specs.Moves.{locked, found_dead, found_never, lost_to}
use Rattle.pf_locks.specs.declared.kept.Kept.{Kept}
use Rattle.pf_locks.specs.Lists.{names_in, list_in, list_of, lent_of, lent_in}
use Rattle.pf_core_model.proofs.Lists.{in_times, times_in}
use Rattle.pf_locks.proofs.Keeping.{look_snoc}
use Rattle.pf_locks.proofs.Seating.{seated, counts_as, knows_as, won, none_past, same_front}
use Rattle.pf_locks.proofs.board.Board.try_lock.Goals as goal

pub returns-then-at-self-clause-told : goal.returns-then-at-self-clause-told
returns-then-at-self-clause-told c =
    let b = c.args.self.now in
    let k = c.requires.seat.knows.0 in (
      ((λ h. let z = k.neighbours h.0 c.args.n h.1 h.2 in absurd (omega (arith, b.names_are, c.if-at-self.true, z))), inr (omega (arith, b.names_are, c.if-at-self.true), refl)),
      refl,
    )

pub returns-then-at-self-clause-alone : goal.returns-then-at-self-clause-alone
returns-then-at-self-clause-alone c =
    let b = c.args.self.now in
    λ alone live. none_past b.table.shared.key c.args.s.now.seat.me.0 c.args.n (c.requires.seat.knows.1 alone) (omega (arith, b.names_are, c.if-at-self.true)) live

pub exchange-list-requires-clause-front : goal.exchange-list-requires-clause-front
exchange-list-requires-clause-front c =
    let won = c.try_word-found.ensures.told.1 (omega (arith, c.if-found-eq0.true)) in
    let list = sharers_in c.args.s.now.seat.me.0.chunks (Some won.0) in
    let e = ap (λ m. m.1) won.3 in
    (list, e ∙ ap (λ l. (c.args.n, list) ∷ l) (sym (ap rest e)))

pub returns-then-found-eq0-clause-seat : goal.returns-then-found-eq0-clause-seat
returns-then-found-eq0-clause-seat c =
    let b = c.args.self.now in
    let s = c.args.s.now in
    let v = s.seat.me.0 in
    let n = c.args.n in
    let r = c.requires.seat in
    let told = c.try_word-found.ensures.told in
    let won_ = told.1 (omega (arith, c.if-found-eq0.true)) in
    let star = won_.0 in
    let w = locked v n (Some star) in
    let hand = s.seat.me.1 ++ (n, []) ∷ [] in
    let e = won_.3 in
    let swapped = c.exchange-list.ensures.new in
    let slots : c.turn.new.self.me.1 ≡ hand
    = ap (λ m. m.1) c.turn.ensures.2 ∙ ap turned (ap (λ m. m.1) swapped) ∙ ap (λ l. rest c.try_word-found.new.seat.me.1 ++ (n, l) ∷ []) c.none.ensures ∙ ap (λ l. l ++ (n, []) ∷ []) (ap (λ m. rest m.1) e) in
    let view : c.turn.new.self.me.0 ≡ w = ap (λ m. m.0) c.turn.ensures.2 ∙ ap (λ m. m.0) swapped ∙ ap (λ m. m.0) e in
    let me : c.turn.new.self.me ≡ (w, hand) = λ i. (view i, slots i) in
    seated b.table.shared.key _ w hand me
    (won n s.seat.me.1 _ s.kept.items _ _ _ record { node = n; list = c.exchange-list.result; lent = true } r.shape refl c.requires.away c.push_reserved.ensures.items c.push_reserved.ensures.capacity)
    (counts_as v w s.number s.workers s.numbers s.allowance s.seen s.entries r.counts refl refl refl refl s.seen r.counts.seen (omega arith))
    (subst (λ u. Knows b.table.shared.key u) (ap (λ m. m.0) e) told.0.0)

pub returns-then-found-eq0-clause-told : goal.returns-then-found-eq0-clause-told
returns-then-found-eq0-clause-told c =
    let b = c.args.self.now in
    let s = c.args.s.now in
    let v = s.seat.me.0 in
    let n = c.args.n in
    let r = c.requires.seat in
    let told = c.try_word-found.ensures.told in
    let won_ = told.1 (omega (arith, c.if-found-eq0.true)) in
    let star = won_.0 in
    let w = locked v n (Some star) in
    let e = won_.3 in
    let list = sharers_in v.chunks (Some star) in
    let swapped = c.exchange-list.ensures.new in
    let view : c.turn.new.self.me.0 ≡ w = ap (λ m. m.0) c.turn.ensures.2 ∙ ap (λ m. m.0) swapped ∙ ap (λ m. m.0) e in
    let is : c.exchange-list.result ≡ list = same_front n c.exchange-list.result list (rest c.try_word-found.new.seat.me.1) s.seat.me.1 (sym c.exchange-list.ensures.old ∙ ap (λ m. m.1) e) in
    let x : Kept = record { node = n; list = c.exchange-list.result; lent = true } in
    let away : In n (names_in s.kept.items) → ⊥ = λ h. let a = times_in n (names_in s.kept.items) h in let q = r.shape.names n in c.requires.away (in_times n _ (omega (arith, a, q))) in
    let items = c.push_reserved.ensures.items in (
      omega (arith, b.names_are, c.if-at-self.false),
      (
        star,
        won_.1,
        view,
        (λ k. (
          ap (λ l. list_in l k) items ∙ look_snoc list_of [] s.kept.items x away k ∙ ap (λ l. cond (n == k) l (list_in s.kept.items k)) is,
          ap (λ l. lent_in l k) items ∙ look_snoc lent_of None s.kept.items x away k ∙ ap (λ o. cond (n == k) o (lent_in s.kept.items k)) (ap kept_in is ∙ won_.2),
        )),
      ),
    )

pub returns-then-found-eq1-clause-seat : goal.returns-then-found-eq1-clause-seat
returns-then-found-eq1-clause-seat c =
    let b = c.args.self.now in
    let s = c.args.s.now in
    let v = s.seat.me.0 in
    let n = c.args.n in
    let r = c.requires.seat in
    let told = c.try_word-found.ensures.told in
    let e = (told.2 (omega (arith, c.if-found-eq1.true))).1 in
    let w = found_dead v n in
    seated b.table.shared.key _ w s.seat.me.1 e r.shape
    (counts_as v w s.number s.workers s.numbers s.allowance s.seen s.entries r.counts refl refl refl refl s.seen r.counts.seen (omega arith))
    (knows_as b.table.shared.key c.try_word-found.new.seat.me w s.seat.me.1 e told.0.0)

pub returns-then-found-eq2-clause-seat : goal.returns-then-found-eq2-clause-seat
returns-then-found-eq2-clause-seat c =
    let b = c.args.self.now in
    let s = c.args.s.now in
    let v = s.seat.me.0 in
    let n = c.args.n in
    let r = c.requires.seat in
    let told = c.try_word-found.ensures.told in
    let e = (told.3 (omega (arith, c.if-found-eq2.true))).1 in
    let w = found_never v n in
    seated b.table.shared.key _ w s.seat.me.1 e r.shape
    (counts_as v w s.number s.workers s.numbers s.allowance s.seen s.entries r.counts refl refl refl refl s.seen r.counts.seen (omega arith))
    (knows_as b.table.shared.key c.try_word-found.new.seat.me w s.seat.me.1 e told.0.0)

pub returns-else-found-eq2-clause-seat : goal.returns-else-found-eq2-clause-seat
returns-else-found-eq2-clause-seat c =
    let b = c.args.self.now in
    let s = c.args.s.now in
    let v = s.seat.me.0 in
    let n = c.args.n in
    let r = c.requires.seat in
    let told = c.try_word-found.ensures.told in
    let e = (told.4 (omega (arith, c.if-found-eq0.false, c.if-found-eq1.false, c.if-found-eq2.false))).3 in
    let w = lost_to v n (c.try_word-found.result - 3) in
    seated b.table.shared.key _ w s.seat.me.1 e r.shape
    (counts_as v w s.number s.workers s.numbers s.allowance s.seen s.entries r.counts refl refl refl refl s.seen r.counts.seen (omega arith))
    (knows_as b.table.shared.key c.try_word-found.new.seat.me w s.seat.me.1 e told.0.0)
