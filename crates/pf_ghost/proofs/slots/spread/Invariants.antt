use Rattle.std.proofs.Common.{◌≡◌, ℕ, vec_len}
use Rattle.std.specs.Prelude.{Contains}
use Rattle.pf_ghost.specs.declared.ready.Listed.{Listed}
use Rattle.pf_ghost.specs.Spread.{named_node, spread_at}
use Rattle.pf_ghost.proofs.slots.spread.Given as goal

abbrev pub invariant-puts : goal.invariant-puts
invariant-puts g l =
    ((k : Listed) → Contains l.lists.items k → g.T.Slots.accepts l.to (named_node l.name k))
    × ((n : ℕ) → spread_at l.name l.lists.items (g.T.Slots.copies l.to) n ≡ spread_at l.name l.initial.lists.items (g.T.Slots.copies l.initial.to) n)
    × ((n : ℕ) → g.T.Slots.accepts l.initial.to n → g.T.Slots.accepts l.to n)
    × g.T.Slots.same l.initial.to l.to

abbrev pub decreases-puts : goal.decreases-puts
decreases-puts g l = vec_len l.lists
