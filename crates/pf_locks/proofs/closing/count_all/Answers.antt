use Rattle.std.proofs.Common.{◌≡◌, length, sym, ap, ◌∙◌, subst, arith}
use Rattle.pf_model.specs.Stars.{star_of}
use Rattle.pf_core_model.specs.declared.view.View.{View}
use Rattle.pf_core_model.specs.Sharers.{sharers_in}
use Rattle.pf_core_model.specs.Core.{mesh_after}
use Rattle.pf_core_model.specs.Guards.{IsAlone}
use Rattle.pf_core_model.specs.Seats.{own_log}
use Rattle.pf_core_model.proofs.Replays.{replayed_chunks}
use Rattle.pf_locks.proofs.Counting.{finds_on}
use Rattle.pf_locks.proofs.Taking.{length_step}
use Rattle.pf_locks.proofs.closing.count_all.Goals as goal

pub count_at-more-requires-clause-alone : goal.count_at-more-requires-clause-alone
count_at-more-requires-clause-alone c = subst (λ (w : View). IsAlone w) (sym c.loop-n.invariant.2.2) c.requires.alone

pub loop-n-preserved : goal.loop-n-preserved
loop-n-preserved c =
    let o = c.args.board.now.table.shared.key in
    let v = c.args.s.now.seat.me.0 in
    let w = c.loop-n.s.seat.me.0 in
    let m = mesh_after o (own_log v) in
    let n = c.loop-n.n in
    let inv = c.loop-n.invariant in
    let small = c.requires.seat.knows.0.small in
    let log : own_log w ≡ own_log v = ap own_log inv.2.2 in
    let more : c.count_at-more.result ≡ length (sharers_in m.chunks (star_of m n))
    = c.count_at-more.ensures.count
    ∙ ap (λ l. length (sharers_in o.mesh.chunks (star_of (mesh_after o l) n))) log
    ∙ ap (λ k. length (sharers_in k (star_of m n))) (sym (replayed_chunks o.mesh (own_log v))) in
    let sum = length_step m n in
    (c.count_at-more.ensures.board ∙ inv.0, c.count_at-more.ensures.seat, finds_on v w c.count_at-more.new.s.seat.me.0 inv.2 c.count_at-more.ensures.stays, omega (arith, c.in_ok-many.ensures, inv.3, more, sum))
