use Rattle.std.proofs.Common.{◌+◌, ◌-◌, ◌/◌, ◌<◌, length, sym, ◌∙◌, arith}
use Rattle.pf_model.specs.declared.Tri.{Tri}
use Rattle.pf_apply.proofs.ListingLemmas.{above-middle, below-middle}
use Rattle.pf_apply.proofs.listing.rank.Goals as goal

pub loop-low-preserved-then-is_before : goal.loop-low-preserved-then-is_before
loop-low-preserved-then-is_before c =
    let none : Tri = record { a = 0; b = 0; c = 0; owner = 0 } in
    let low = c.loop-low.invariant.0 in
    let high = c.loop-low.invariant.1 in
    let within : c.loop-low.low + (c.loop-low.high - c.loop-low.low) / 2 < length c.args.tris.now = omega (arith, low, high) in (
      omega arith,
      omega (arith, within),
      c.loop-low.invariant.2,
      above-middle c.args.tris.now c.args.t _ c.requires none within (sym c.is_before.ensures ∙ c.if-is_before.true),
    )

pub loop-low-preserved : goal.loop-low-preserved
loop-low-preserved c =
    let none : Tri = record { a = 0; b = 0; c = 0; owner = 0 } in
    let low = c.loop-low.invariant.0 in
    let high = c.loop-low.invariant.1 in
    let within : c.loop-low.low + (c.loop-low.high - c.loop-low.low) / 2 < length c.args.tris.now = omega (arith, low, high) in (
      omega (arith, low),
      high,
      below-middle c.args.tris.now c.args.t _ c.requires none within (sym c.is_before.ensures ∙ c.if-is_before.false),
      c.loop-low.invariant.3,
    )
