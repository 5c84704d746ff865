use Rattle.std.proofs.Common.{◌≡◌, drop}
use Rattle.std.specs.List.{list_any}
use Rattle.pf_adapt.specs.Crew.{is_memory}
use Rattle.pf_adapt.proofs.crew.lacks_memory.Given as goal

-- the jobs before this one found memory
abbrev pub invariant-jobs : goal.invariant-jobs
invariant-jobs l = list_any (λ j. is_memory j.end) (drop l.job-index l.jobs) ≡ list_any (λ j. is_memory j.end) l.jobs
