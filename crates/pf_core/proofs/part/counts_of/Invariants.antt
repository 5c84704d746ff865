use Rattle.std.proofs.Common.{◌≡◌, ◌+◌, ◌==◌, nat_lt, drop}
use Rattle.pf_core.specs.Part.{count_codes}
use Rattle.pf_core.proofs.part.counts_of.Given as goal

abbrev pub invariant-loop-node : goal.invariant-loop-node
invariant-loop-node l =
    (l.free + count_codes (λ w. w == 0) (drop l.node-index l.nodes) ≡ count_codes (λ w. w == 0) l.nodes)
    × ((l.held + count_codes (λ w. nat_lt 2 w) (drop l.node-index l.nodes) ≡ count_codes (λ w. nat_lt 2 w) l.nodes)
    × ((l.dead + count_codes (λ w. w == 1) (drop l.node-index l.nodes) ≡ count_codes (λ w. w == 1) l.nodes)
    × ((l.never + count_codes (λ w. w == 2) (drop l.node-index l.nodes) ≡ count_codes (λ w. w == 2) l.nodes))))
