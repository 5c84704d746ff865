use Rattle.std.proofs.Common.{◌≡◌, find, drop}
use Rattle.pf_model.specs.Lengths.{holds_middle}
use Rattle.pf_rules.proofs.lengths.band_at.Given as goal

abbrev pub invariant-loop-row : goal.invariant-loop-row
invariant-loop-row l = find (holds_middle l.a l.b) (drop l.row-index l.bands) ≡ find (holds_middle l.a l.b) l.bands
