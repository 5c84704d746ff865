use Rattle.std.proofs.Common.{◌+◌, ◌-◌, ◌/◌, ◌<◌, length, arith}
use Rattle.std.specs.Prelude.{pos}
use Rattle.pf_model.specs.declared.Site.{Site}
use Rattle.pf_apply.proofs.SiteLemmas.{from-middle, before-middle}
use Rattle.pf_apply.proofs.sites.place.Goals as goal

abbrev no_site : Site
no_site = record { name = 0; at = record { x = pos 0; y = pos 0 } }

pub loop-low-preserved-then-sites-middle : goal.loop-low-preserved-then-sites-middle
loop-low-preserved-then-sites-middle c =
    let low = c.loop-low.invariant.0 in
    let high = c.loop-low.invariant.1 in
    let within : c.loop-low.low + (c.loop-low.high - c.loop-low.low) / 2 < length c.args.sites.now = omega (arith, low, high) in (
      omega (arith, low),
      high,
      before-middle c.args.sites.now c.args.n _ c.requires no_site within c.if-sites-middle.true,
      c.loop-low.invariant.3,
    )

pub loop-low-preserved : goal.loop-low-preserved
loop-low-preserved c =
    let low = c.loop-low.invariant.0 in
    let high = c.loop-low.invariant.1 in
    let within : c.loop-low.low + (c.loop-low.high - c.loop-low.low) / 2 < length c.args.sites.now = omega (arith, low, high) in (
      omega arith,
      omega (arith, within),
      c.loop-low.invariant.2,
      from-middle c.args.sites.now c.args.n _ c.requires no_site within c.if-sites-middle.false,
    )
