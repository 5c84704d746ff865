use Rattle.std.proofs.Common.{◌≡◌, ℕ, ◌<◌, ap, ◌∙◌, sym, true, arith, rules}
use Rattle.std.proofs.Math.Decide.{dec_lt}
use mathlib.Core.Logic.{dite}
use Rattle.std.specs.Slots.{slots_items}
use Rattle.pf_model.specs.Conforming.{IsLive}
use Rattle.pf_model.specs.Stars.{star_of}
use Rattle.pf_core_model.specs.Sharers.{kept_in, sharers_in}
use Rattle.pf_core_model.specs.Core.{mesh_after}
use Rattle.pf_core_model.specs.Seats.{own_log}
use Rattle.pf_core_model.proofs.Replays.{replayed_first_new, replayed_chunks, replayed_bands, conforms_after}
use Rattle.pf_board_steps.proofs.Ends.{board_closes}
use Rattle.pf_locks.proofs.Seating.{none_past}
use Rattle.pf_locks.proofs.Taking.{list_is}
use Rattle.pf_locks.proofs.Gathering.{kept_of, under_alike, sites_are, tris_are}
use Rattle.pf_locks.specs.Ends.{sites_at, tris_at, kept_at}
use Rattle.pf_locks.proofs.ending.parts_at_end.Goals as goal

pub returns-clause-mesh : goal.returns-clause-mesh
returns-clause-mesh c =
    let b = c.args.board in
    let o = b.table.shared.key in
    let v = c.args.s.seat.me.0 in
    let m = mesh_after o (own_log v) in
    let whole = c.requires.seat.knows.1 c.requires.alone in
    let ok = conforms_after o (own_log v) whole.conforming whole.fresh whole.legal in
    let near : (n : ℕ) → IsLive m n → n < b.names = λ n live. dite (dec_lt n b.names) (λ l. l) (λ h. absurd (none_past o v n whole (omega (arith, b.names_are, h)) live)) in
    let lists = slots_items c.close_with-closed.result.slots in
    let ends = board_closes o c.args.s.seat.id v _ lists c.requires.seat.counts.acts c.requires.alone c.requires.nothing c.close_with-closed.ensures.values.2 in
    let star : (n : ℕ) → n < b.names → kept_at lists n ≡ star_of m n
    = λ n low. ap kept_in (list_is lists n _ (ends.1 n (omega (arith, b.names_are, low))) ∙ ap (λ k. sharers_in k (star_of m n)) (sym (replayed_chunks o.mesh (own_log v)))) ∙ kept_of m n ok in
    let enough : c.take_nodes-enough.result ≡ true = search rules in
    let sites = c.take_nodes-enough.ensures.sites enough ∙ under_alike (λ k. sites_at (kept_at lists k)) (λ k. sites_at (star_of m k)) b.names (λ k l. ap sites_at (star k l)) ∙ sites_are m b.names ok near in
    let tris = c.take_nodes-enough.ensures.tris enough ∙ under_alike (λ k. tris_at (kept_at lists k)) (λ k. tris_at (star_of m k)) b.names (λ k l. ap tris_at (star k l)) ∙ tris_are m b.names ok near in
    let first = b.first_is ∙ sym (replayed_first_new o.mesh (own_log v)) in
    let bands = b.bands_are ∙ sym (replayed_bands o.mesh (own_log v)) in
    let chunks = b.chunks_are ∙ sym (replayed_chunks o.mesh (own_log v)) in
    λ i. record { first_new = first i; sites = sites i; tris = tris i; bands = bands i; chunks = chunks i }
