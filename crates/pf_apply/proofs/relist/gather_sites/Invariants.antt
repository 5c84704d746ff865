use Rattle.std.proofs.Common.{◌≡◌, ◌≤◌, ◌++◌, drop, vec_capacity}
use Rattle.pf_apply.specs.BuildSteps.{live_sites}
use Rattle.pf_apply.proofs.relist.gather_sites.Given as goal

abbrev pub invariant-loop-node : goal.invariant-loop-node
invariant-loop-node l =
    (l.name ≡ l.node-index)
    × (vec_capacity l.fn.sites ≤ vec_capacity l.sites)
    × (l.sites.items ++ live_sites l.node-index (drop l.node-index l.nodes) ≡ live_sites 0 l.nodes)
