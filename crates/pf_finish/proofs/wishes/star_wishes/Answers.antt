use Rattle.std.proofs.Common.{ap, length, arith}
use Rattle.pf_finish.proofs.Spokes.{before-read, all-before}
use Rattle.pf_finish.proofs.wishes.star_wishes.Goals as goal

pub spokes-preserved : goal.spokes-preserved
spokes-preserved c = before-read c.args.bands.now c.args.star.now c.spokes-s-items.result.now c.spokes.found.items c.rising_kept.new.found.items c.left_kept.new.found.items c.spokes.s-index _ c.spokes-s-items.ensures.value (omega arith) c.in_ok-rising_kept.ensures.kept c.in_ok-left_kept.ensures.kept c.rising_kept.ensures.grows c.left_kept.ensures.grows c.spokes.invariant

pub returns : goal.returns
returns c = all-before c.args.bands.now c.args.star.now c.spokes.found.items c.spokes.s-index (λ l. let z = ap length c.spokes-s-items.ensures.value in omega (arith, z, l)) c.spokes.invariant
