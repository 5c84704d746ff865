use Rattle.std.proofs.Common.{◌≡◌, ◌<◌, length}
use Rattle.std.specs.Prelude.{All}
use Rattle.star_tests.proofs.tests.random.owners_of.Given as goal

abbrev pub invariant-loop : goal.invariant-loop
invariant-loop l = (length l.owners.items ≡ l.counter) × All (λ owner. owner < 3) l.owners.items
