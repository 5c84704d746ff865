use Rattle.std.proofs.Common.{◌≡◌, drop}
use Rattle.std.specs.List.{list_any}
use Rattle.pf_finish.specs.Passing.{passes}
use Rattle.pf_adapt.proofs.quiet.is_quiet.Given as goal

-- the lines before this one don't pass
abbrev pub invariant-loop-line : goal.invariant-loop-line
invariant-loop-line l = list_any passes (drop l.line-index l.lines) ≡ list_any passes l.lines
