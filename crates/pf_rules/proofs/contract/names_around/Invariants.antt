use Rattle.std.proofs.Common.{◌≡◌, ◌≤◌, ◌+◌, ◌++◌, map, take, filter, length, not}
use Rattle.pf_spokes.specs.Spokes.{has_right}
use Rattle.pf_rules.proofs.contract.names_around.Given as goal

abbrev pub invariant-loop-s : goal.invariant-loop-s
invariant-loop-s l = l.names.items ≡ map (λ s. s.right) (take l.s-index l.star)

abbrev pub invariant-loop-s-2 : goal.invariant-loop-s-2
invariant-loop-s-2 l = (l.names.items ≡ map (λ s. s.right) l.star ++ map (λ s. s.left) (filter (λ s. not (has_right s.left l.star)) (take l.s-index l.star))) × (length l.names.items ≤ length l.star + l.s-index)
