-- Where a run over the edge table stops, as the error of a replay.
use Rattle.std.specs.Prelude.{ℕ}
use Rattle.pf_apply.specs.declared.run.ApplyErr.{ApplyErr}
use Rattle.pf_apply.specs.declared.run.ApplyErr.TheVariants.{Refused, Gone as GoneNode, Memory as NoRoom}
use Rattle.pf_journal.specs.declared.run.ReplayErr.{ReplayErr}
use Rattle.pf_journal.specs.declared.run.ReplayErr.TheVariants.{At, Gone, Memory}

-- what is said where the entry with this ticket isn't applied
abbrev pub stopped_at : ℕ → ApplyErr → ReplayErr
stopped_at ticket (Refused cond) = At ticket cond
stopped_at ticket (GoneNode node) = Gone ticket node
stopped_at ticket NoRoom = Memory
