use Rattle.std.proofs.Common.{◌≡◌, ℕ, suc, List, length, sym, ap, ◌∙◌, subst, arith}
use Rattle.std.specs.Prelude.{Option}
use Rattle.pf_model.specs.Stars.{Star}
use Rattle.pf_star_model.specs.Cavity.{needed}
use Rattle.pf_star_model.specs.Lent.{Held, star_held}
use Rattle.pf_core_model.specs.Core.{Opening}
use Rattle.pf_holder.specs.Facts.{IsNearLent}
use Rattle.pf_attempt.specs.Stages.{HoldsPart}
use Rattle.pf_cavity.specs.Need.{need_of}
use Rattle.pf_attempt.proofs.Needs.{none_needed, one_needed}
use Rattle.pf_attempt.proofs.Parts.{part_missing, part_more, part_whole}
use Rattle.pf_holder.proofs.Moved.{right_from}
use Rattle.pf_attempt.proofs.trying.cavity_held.Goals as goal

pub returns-in-Whole-clause-whole : goal.returns-in-Whole-clause-whole
returns-in-Whole-clause-whole g c = λ none.
    let m = g.H.Holder in
    let h = c.rest.h in
    let i = c.rest.invariant in
    (i.4, part_whole (m.opening h).mesh.bands (m.pairs h) c.args.chunk c.args.op i.4 (none_needed (needed (star_held (m.pairs h)) c.args.op) (c.in-Whole.ensures.value ∙ ap (λ (f : ℕ → Option Star). need_of (needed f c.args.op)) i.1)))

pub node_held-requires-clause-cavity : goal.node_held-requires-clause-cavity
node_held-requires-clause-cavity g c =
    let m = g.H.Holder in
    let h = c.rest.h in
    let i = c.rest.invariant in
    (part_missing (m.opening h) (m.pairs h) c.args.chunk c.args.op c.in-Hold.node (g.met.H.Holder.pairs_agree h) i.4 (one_needed (needed (star_held (m.pairs h)) c.args.op) c.in-Hold.node (c.in-Hold.ensures.value ∙ ap (λ (f : ℕ → Option Star). need_of (needed f c.args.op)) i.1))).cavity

pub node_held-requires-clause-near : goal.node_held-requires-clause-near
node_held-requires-clause-near g c =
    let m = g.H.Holder in
    let h = c.rest.h in
    let i = c.rest.invariant in
    subst (λ (f : ℕ → Option Star). IsNearLent f c.in-Hold.node) (sym i.1)
    (part_missing (m.opening h) (m.pairs h) c.args.chunk c.args.op c.in-Hold.node (g.met.H.Holder.pairs_agree h) i.4 (one_needed (needed (star_held (m.pairs h)) c.args.op) c.in-Hold.node (c.in-Hold.ensures.value ∙ ap (λ (f : ℕ → Option Star). need_of (needed f c.args.op)) i.1))).near

pub node_held-requires-clause-away : goal.node_held-requires-clause-away
node_held-requires-clause-away g c =
    let m = g.H.Holder in
    let h = c.rest.h in
    let i = c.rest.invariant in
    (part_missing (m.opening h) (m.pairs h) c.args.chunk c.args.op c.in-Hold.node (g.met.H.Holder.pairs_agree h) i.4 (one_needed (needed (star_held (m.pairs h)) c.args.op) c.in-Hold.node (c.in-Hold.ensures.value ∙ ap (λ (f : ℕ → Option Star). need_of (needed f c.args.op)) i.1))).out

pub node_held-requires-clause-room : goal.node_held-requires-clause-room
node_held-requires-clause-room g c =
    let m = g.H.Holder in
    let h = c.rest.h in
    let i = c.rest.invariant in
    let r = (part_missing (m.opening h) (m.pairs h) c.args.chunk c.args.op c.in-Hold.node (g.met.H.Holder.pairs_agree h) i.4 (one_needed (needed (star_held (m.pairs h)) c.args.op) c.in-Hold.node (c.in-Hold.ensures.value ∙ ap (λ (f : ℕ → Option Star). need_of (needed f c.args.op)) i.1))).room in
    omega (arith, r)

pub returns-in-Some-clause-right : goal.returns-in-Some-clause-right
returns-in-Some-clause-right g c =
    let m = g.H.Holder in
    let t = g.met.H.Holder in
    let h0 = c.args.h.now in
    let h1 = c.rest.h in
    let h2 = c.node_held.new.h in
    let i = c.rest.invariant in
    right_from (m.opening h1) (m.opening h0) c.args.chunk c.args.op (m.seen_at h1) (m.seen_at h0) (m.gained h1 h2) (m.gained h0 h2) c.in-Some.answer (t.same_opening h0 h1 i.0) i.3.2 (λ x k. t.gained_since h0 h1 h2 x i.0 k) c.in-Some.ensures.right

pub rest-smaller : goal.rest-smaller
rest-smaller g c =
    let m = g.H.Holder in
    let h = c.rest.h in
    let i = c.rest.invariant in
    let r = (part_missing (m.opening h) (m.pairs h) c.args.chunk c.args.op c.in-Hold.node (g.met.H.Holder.pairs_agree h) i.4 (one_needed (needed (star_held (m.pairs h)) c.args.op) c.in-Hold.node (c.in-Hold.ensures.value ∙ ap (λ (f : ℕ → Option Star). need_of (needed f c.args.op)) i.1))).room in
    let w = c.node_held.ensures.won c.in_default.is in
    let l : length (m.pairs c.node_held.new.h) ≡ suc (length (m.pairs h)) = ap length w.1 in
    omega (arith, r, l)

pub rest-preserved : goal.rest-preserved
rest-preserved g c =
    let m = g.H.Holder in
    let t = g.met.H.Holder in
    let h0 = c.args.h.now in
    let h = c.rest.h in
    let n = c.node_held.new.h in
    let i = c.rest.invariant in
    let x = part_missing (m.opening h) (m.pairs h) c.args.chunk c.args.op c.in-Hold.node (t.pairs_agree h) i.4 (one_needed (needed (star_held (m.pairs h)) c.args.op) c.in-Hold.node (c.in-Hold.ensures.value ∙ ap (λ (f : ℕ → Option Star). need_of (needed f c.args.op)) i.1)) in
    let e = c.node_held.ensures in
    let w = e.won c.in_default.is in (
      t.same_then h0 h n i.0 e.same,
      e.lends,
      (e.others.0 ∙ i.2.0, e.others.1 ∙ i.2.1),
      (e.kept.0 ∙ i.3.0, e.kept.1 ∙ i.3.1, (let k = i.3.2 in let l = e.kept.2 in omega (arith, k, l))),
      subst (λ (o : Opening). HoldsPart o.mesh.bands (m.pairs n) c.args.chunk c.args.op) (sym (t.same_opening h n e.same))
          (subst (λ (ps : List Held). HoldsPart (m.opening h).mesh.bands ps c.args.chunk c.args.op) (sym w.1) (part_more (m.opening h).mesh.bands (m.pairs h) c.args.chunk c.args.op c.in-Hold.node w.0 i.4 x.cavity x.out)),
    )
