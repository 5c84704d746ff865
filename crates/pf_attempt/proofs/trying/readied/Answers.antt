use Rattle.std.proofs.Common.{ℕ, List, sym, ap, ◌∙◌, subst}
use Rattle.pf_star_model.specs.Lent.{Held}
use Rattle.pf_ghost.specs.Prepared.{AreNodesApart, AreOwnersBelow, ready_of}
use Rattle.pf_attempt.proofs.Readied.{patch_is, owners_are}
use Rattle.pf_holder.proofs.Patches.{patch_apart}
use Rattle.pf_attempt.proofs.trying.readied.Goals as goal

pub prepare_owned-requires-clause-apart : goal.prepare_owned-requires-clause-apart
prepare_owned-requires-clause-apart g c =
    let m = g.H.Holder in
    let h = c.args.h.now in
    let lent = g.H.Rings.lent h in
    let told = patch_is (m.opening h) (m.pairs h) lent c.args.op c.in_ok-fresh.fresh.items c.requires.lends (g.met.H.Holder.pairs_agree h) c.requires.can c.in_ok-fresh.ensures in
    subst (λ (l : List Held). AreNodesApart l) (sym told) (patch_apart lent c.args.op)

pub prepare_owned-requires-clause-owners : goal.prepare_owned-requires-clause-owners
prepare_owned-requires-clause-owners g c =
    let m = g.H.Holder in
    let h = c.args.h.now in
    let lent = g.H.Rings.lent h in
    let told = patch_is (m.opening h) (m.pairs h) lent c.args.op c.in_ok-fresh.fresh.items c.requires.lends (g.met.H.Holder.pairs_agree h) c.requires.can c.in_ok-fresh.ensures in
    subst (λ (k : ℕ). AreOwnersBelow lent k c.in_ok-fresh.fresh.items) (sym c.chunks.ensures)
    (subst (λ (l : List Held). AreOwnersBelow lent (m.opening h).mesh.chunks l) (sym told)
    (owners_are (m.opening h) (m.pairs h) lent c.args.op c.requires.lends (g.met.H.Holder.pairs_agree h) c.requires.can))

pub returns : goal.returns
returns g c =
    let m = g.H.Holder in
    let h = c.args.h.now in
    let lent = g.H.Rings.lent h in
    let told = patch_is (m.opening h) (m.pairs h) lent c.args.op c.in_ok-fresh.fresh.items c.requires.lends (g.met.H.Holder.pairs_agree h) c.requires.can c.in_ok-fresh.ensures in
    c.in_ok-ready.ensures
    ∙ (ap (λ (k : ℕ). ready_of k c.in_ok-fresh.fresh.items) c.chunks.ensures
    ∙ ap (λ (l : List Held). ready_of (m.opening h).mesh.chunks l) told)
