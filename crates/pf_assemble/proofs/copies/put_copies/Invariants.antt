use Rattle.std.proofs.Common.{◌≡◌, [], ◌∷◌, ◌++◌, drop, flat_map, map}
use Rattle.pf_locks.specs.Closes.{shown_copy}
use Rattle.pf_assemble.specs.Placed.{copy_at}
use Rattle.pf_assemble.proofs.copies.put_copies.Given as goal

-- what was put, and the copies that are left
abbrev pub invariant-places : goal.invariant-places
invariant-places l = map shown_copy l.list.items ++ flat_map (λ p. copy_at l.chunk l.stars p ∷ []) (drop l.place-index l.places) ≡ map shown_copy l.fn.list.items ++ flat_map (λ p. copy_at l.chunk l.stars p ∷ []) l.places
