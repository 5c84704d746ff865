-- By which chunk an operation is planned.
use Rattle.std.specs.Prelude.{◌≡◌, ℕ, ◌<◌}
use Rattle.pf_driver.specs.declared.planning.Plan.{Plan}
use Rattle.pf_driver.specs.declared.planning.Plan.TheVariants.{Try, Ask}

-- it is by this chunk
abbrev pub IsPlanBy : ℕ → Plan → Type 0
IsPlanBy chunk (Try asked) = asked.chunk ≡ chunk
IsPlanBy chunk (Ask asked from to place) = asked.chunk ≡ chunk
IsPlanBy chunk _ = Unit {0}

-- it is by a chunk below this number
abbrev pub IsPlanBelow : ℕ → Plan → Type 0
IsPlanBelow n (Try asked) = asked.chunk < n
IsPlanBelow n (Ask asked from to place) = asked.chunk < n
IsPlanBelow n _ = Unit {0}
