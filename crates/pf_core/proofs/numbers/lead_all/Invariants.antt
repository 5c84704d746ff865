use Rattle.std.proofs.Common.{◌≡◌, ◌++◌, take, drop}
use Rattle.std.specs.Prelude.{map}
use Rattle.pf_core.specs.Tables.{led_by}
use Rattle.pf_core.proofs.numbers.lead_all.Given as goal

abbrev pub invariant-loop-k : goal.invariant-loop-k
invariant-loop-k l = l.seats.items ≡ map (led_by l.b l.a) (take l.k l.initial.seats.items) ++ drop l.k l.initial.seats.items
