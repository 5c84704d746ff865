use Rattle.std.proofs.Common.{sym, subst, ◌<◌, ◌∙◌}
use Rattle.std.specs.Prelude.{Option}
use Rattle.pf_core_model.specs.declared.event.Asked.{Asked}
use Rattle.pf_core_model.specs.Core.{Opening}
use Rattle.pf_wishes.proofs.Firsts.{first_wish_is_by_chunk}
use Rattle.pf_driver.specs.declared.looking.Look.TheVariants.{Seen}
use Rattle.pf_driver.specs.Turns.{HasAnswered, HasVisitedOne, TellsLook}
use Rattle.pf_driver.proofs.Moved.{grown_none, grown_then, visited_answered, visited_idle, on_went}
use Rattle.pf_driver.proofs.turns.start_turn.Goals as goal

pub wish_tried-requires-clause-near : goal.wish_tried-requires-clause-near
wish_tried-requires-clause-near g c =
    let m = g.H.Holder in
    let t = g.met.H.Holder in
    let h0 = c.args.h.now in
    let h1 = c.look_at.new.h in
    let k = c.in-Seen.ensures.told in
    subst (λ (o : Opening). c.in-Some.asked.chunk < o.mesh.chunks) (sym (t.same_opening h0 h1 c.look_at.ensures.same))
    (first_wish_is_by_chunk (m.opening h0).mesh.bands c.args.chunks.now k.2.0 c.in-Some.asked (m.opening h0).mesh.chunks c.requires.chunks (sym k.2.2 ∙ c.in-Some.is))

pub returns-in-Some-clause-visited : goal.returns-in-Some-clause-visited
returns-in-Some-clause-visited g c =
    let m = g.H.Holder in
    let t = g.met.H.Holder in
    let h0 = c.args.h.now in
    let h1 = c.look_at.new.h in
    let h2 = c.wish_tried.new.h in
    let q = c.in-Some.asked in
    on_went c.wish_tried.result
    (HasAnswered (m.opening h1) q (m.seen_at h1) (m.gained h1 h2) (m.entries h1) (m.entries h2))
    (HasVisitedOne c.args.chunks.now (m.opening h0) (m.seen_at h0) (m.gained h0 h2) (m.entries h0) (m.entries h2) c.args.n)
    (λ a. visited_answered c.args.chunks.now (m.opening h0) (m.seen_at h0) (m.seen_at h1) (m.gained h0 h1) (m.gained h0 h2) (m.gained h1 h2) (m.entries h0) (m.entries h1) (m.entries h2) c.args.n q
    c.look_at.ensures.kept.2
    (λ x k. t.gained_stays h0 h1 h2 x k c.wish_tried.ensures.same)
    (λ x k. t.gained_since h0 h1 h2 x c.look_at.ensures.same k)
    c.look_at.ensures.kept.0
    (subst (λ (w : Option Asked). TellsLook c.args.chunks.now (m.opening h0) (m.gained h0 h1) c.args.n (Seen w)) c.in-Some.is c.in-Seen.ensures.told)
    (subst (λ (o : Opening). HasAnswered o q (m.seen_at h1) (m.gained h1 h2) (m.entries h1) (m.entries h2)) (t.same_opening h0 h1 c.look_at.ensures.same) a))
    c.wish_tried.ensures.answered

pub returns-in-None-clause-visited : goal.returns-in-None-clause-visited
returns-in-None-clause-visited g c =
    let m = g.H.Holder in
    let h0 = c.args.h.now in
    let h1 = c.look_at.new.h in
    visited_idle c.args.chunks.now (m.opening h0) (m.seen_at h0) (m.gained h0 h1) (m.entries h0) (m.entries h1) c.args.n c.look_at.ensures.kept.0
    (subst (λ (w : Option Asked). TellsLook c.args.chunks.now (m.opening h0) (m.gained h0 h1) c.args.n (Seen w)) c.in-None.is c.in-Seen.ensures.told)

pub returns-in-Some-clause-grown : goal.returns-in-Some-clause-grown
returns-in-Some-clause-grown g c =
    let m = g.H.Holder in
    let h0 = c.args.h.now in
    let h1 = c.look_at.new.h in
    let h2 = c.wish_tried.new.h in
    let k = c.look_at.ensures.kept in
    grown_then (m.seen_at h0) (m.allowance h0) (m.entries h0) (m.seen_at h1) (m.allowance h1) (m.entries h1) (m.seen_at h2) (m.allowance h2) (m.entries h2)
    (grown_none (m.seen_at h0) (m.allowance h0) (m.entries h0) (m.seen_at h1) (m.allowance h1) (m.entries h1) k.0 k.1 k.2)
    c.wish_tried.ensures.grown
