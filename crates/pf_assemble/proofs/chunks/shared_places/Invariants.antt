use Rattle.std.proofs.Common.{◌≡◌, ◌++◌, [], ◌∷◌, cond, drop, flat_map}
use Rattle.pf_assemble.specs.Placed.{star_at, has_other}
use Rattle.pf_assemble.proofs.chunks.shared_places.Given as goal

-- what was put, and what the places that are left give
abbrev pub invariant-nodes : goal.invariant-nodes
invariant-nodes l = l.list.items ++ flat_map (λ p. cond (has_other l.chunk (star_at l.stars p)) (p ∷ []) []) (drop l.place-index l.nodes) ≡ flat_map (λ p. cond (has_other l.chunk (star_at l.stars p)) (p ∷ []) []) l.nodes
