use Rattle.std.proofs.Common.{◌≤◌, length, arith}
use Rattle.pf_assemble.specs.Whole.{kept_sites, kept_tris}
use Rattle.pf_assemble.proofs.Loops.{made-item, made-all}
use Rattle.pf_assemble.proofs.keepers.kept_of.Goals as goal

pub loop-copy-preserved : goal.loop-copy-preserved
loop-copy-preserved c = record {
  sites = rw c.in_ok-put_kept.ensures.sites (made-item kept_sites c.loop-copy.sites.items _ c.args.list.now c.loop-copy.copy-index c.copy-item.result c.loop-copy-test.true c.copy-item.is c.loop-copy.invariant.sites);
  tris = rw c.in_ok-put_kept.ensures.tris (made-item kept_tris c.loop-copy.tris.items _ c.args.list.now c.loop-copy.copy-index c.copy-item.result c.loop-copy-test.true c.copy-item.is c.loop-copy.invariant.tris);
}

pub returns-clause-sites : goal.returns-clause-sites
returns-clause-sites c =
    let past : length c.args.list.now ≤ c.loop-copy.copy-index = omega arith in
    made-all kept_sites c.loop-copy.sites.items _ c.args.list.now c.loop-copy.copy-index past c.loop-copy.invariant.sites

pub returns-clause-tris : goal.returns-clause-tris
returns-clause-tris c =
    let past : length c.args.list.now ≤ c.loop-copy.copy-index = omega arith in
    made-all kept_tris c.loop-copy.tris.items _ c.args.list.now c.loop-copy.copy-index past c.loop-copy.invariant.tris
