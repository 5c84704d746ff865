use Rattle.std.proofs.Common.{◌+◌, ◌-◌, ◌/◌, ◌<◌, ◌≤◌, ℕ, length, subst, arith}
use Rattle.pf_star_model.specs.Lent.{Held}
use Rattle.pf_star.proofs.Places.{from-middle, before-middle}
use Rattle.pf_star.proofs.set.place.Goals as goal

pub halves-preserved-then-node-n : goal.halves-preserved-then-node-n
halves-preserved-then-node-n c =
    let low = c.halves.invariant.0 in
    let high = c.halves.invariant.1 in
    let middle = c.halves.low + (c.halves.high - c.halves.low) / 2 in
    let within : middle < length c.args.pairs.now = omega (arith, low, high) in
    let P : Held → Type 0 = λ h. h.node < c.args.n in
    let Q : ℕ → Type 0 = λ k. k < c.args.n in (
      omega (arith, low),
      high,
      before-middle c.args.pairs.now c.args.n middle c.requires c.index-pairs-middle.result within (subst P c.index-pairs-middle.is (subst Q c.node.ensures c.if-node-n.true)),
      c.halves.invariant.3,
    )

pub halves-preserved : goal.halves-preserved
halves-preserved c =
    let low = c.halves.invariant.0 in
    let high = c.halves.invariant.1 in
    let middle = c.halves.low + (c.halves.high - c.halves.low) / 2 in
    let within : middle < length c.args.pairs.now = omega (arith, low, high) in
    let P : Held → Type 0 = λ h. c.args.n ≤ h.node in
    let Q : ℕ → Type 0 = λ k. c.args.n ≤ k in (
      omega arith,
      omega (arith, within),
      c.halves.invariant.2,
      from-middle c.args.pairs.now c.args.n middle c.requires c.index-pairs-middle.result within (subst P c.index-pairs-middle.is (subst Q c.node.ensures c.if-node-n.false)),
    )
