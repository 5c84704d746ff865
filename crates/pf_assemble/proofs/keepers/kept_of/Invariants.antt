use Rattle.std.proofs.Common.{◌≡◌, ◌++◌, drop, flat_map}
use Rattle.pf_assemble.specs.Whole.{kept_sites, kept_tris}
use Rattle.pf_assemble.proofs.keepers.kept_of.Given as goal

-- what was put, and what the copies that are left give
abbrev pub invariant-loop-copy : goal.invariant-loop-copy
invariant-loop-copy l = record {
  sites : l.sites.items ++ flat_map kept_sites (drop l.copy-index l.list) ≡ flat_map kept_sites l.list;
  tris : l.tris.items ++ flat_map kept_tris (drop l.copy-index l.list) ≡ flat_map kept_tris l.list;
}
