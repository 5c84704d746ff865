use Rattle.std.proofs.Common.{◌≡◌, ℕ, ◌<◌, length, ap, ◌∙◌, sym, arith}
use Rattle.std.proofs.Math.Decide.{dec_lt}
use mathlib.Core.Logic.{dite}
use Rattle.std.specs.Slots.{slots_items}
use Rattle.pf_model.specs.Conforming.{IsLive}
use Rattle.pf_model.specs.Stars.{star_of}
use Rattle.pf_core_model.specs.Sharers.{sharers_in}
use Rattle.pf_core_model.specs.Core.{mesh_after}
use Rattle.pf_core_model.specs.Seats.{own_log}
use Rattle.pf_core_model.proofs.Replays.{replayed_first_new, replayed_chunks, replayed_bands, conforms_after}
use Rattle.pf_board_steps.proofs.Ends.{board_closes}
use Rattle.pf_locks.proofs.Seating.{none_past}
use Rattle.pf_locks.proofs.Taking.{under_same, list_is, sorted_copies}
use Rattle.pf_locks.specs.Closes.{copies_under, list_at, copies_below}
use Rattle.pf_locks.proofs.closing.copies_at_end.Goals as goal

pub take_all-requires-clause-room : goal.take_all-requires-clause-room
take_all-requires-clause-room c =
    let b = c.args.board in
    let o = b.table.shared.key in
    let v = c.args.s.seat.me.0 in
    let m = mesh_after o (own_log v) in
    let lists = slots_items c.close_with-closed.result.slots in
    let ends = board_closes o c.args.s.seat.id v _ lists c.requires.seat.counts.acts c.requires.alone c.requires.nothing c.close_with-closed.ensures.values.2 in
    let same : copies_under (list_at lists) b.names ≡ copies_below m b.names
    = under_same (list_at lists) (λ k. sharers_in m.chunks (star_of m k)) b.names
    (λ n low. list_is lists n _ (ends.1 n (omega (arith, b.names_are, low))) ∙ ap (λ k. sharers_in k (star_of m n)) (sym (replayed_chunks o.mesh (own_log v)))) in
    let long = ap (λ l. length l) same in
    omega (arith, long, c.requires.room)

pub returns : goal.returns
returns c =
    let b = c.args.board in
    let o = b.table.shared.key in
    let v = c.args.s.seat.me.0 in
    let m = mesh_after o (own_log v) in
    let whole = c.requires.seat.knows.1 c.requires.alone in
    let near : (n : ℕ) → IsLive m n → n < b.names = λ n live. dite (dec_lt n b.names) (λ l. l) (λ h. absurd (none_past o v n whole (omega (arith, b.names_are, h)) live)) in
    let lists = slots_items c.close_with-closed.result.slots in
    let ends = board_closes o c.args.s.seat.id v _ lists c.requires.seat.counts.acts c.requires.alone c.requires.nothing c.close_with-closed.ensures.values.2 in
    let same : copies_under (list_at lists) b.names ≡ copies_below m b.names
    = under_same (list_at lists) (λ k. sharers_in m.chunks (star_of m k)) b.names
    (λ n low. list_is lists n _ (ends.1 n (omega (arith, b.names_are, low))) ∙ ap (λ k. sharers_in k (star_of m n)) (sym (replayed_chunks o.mesh (own_log v)))) in
    record {
      first_new = b.first_is ∙ sym (replayed_first_new o.mesh (own_log v));
      bands = b.bands_are ∙ sym (replayed_bands o.mesh (own_log v));
      chunks = b.chunks_are ∙ sym (replayed_chunks o.mesh (own_log v));
      list = sorted_copies m b.names (conforms_after o (own_log v) whole.conforming whole.fresh whole.legal) near _ _ (c.take_all.ensures.items ∙ same) c.sort_copies.ensures.permutation c.sort_copies.ensures.order;
    }
