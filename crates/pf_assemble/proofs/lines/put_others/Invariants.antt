use Rattle.std.proofs.Common.{◌≡◌, ◌++◌, drop, flat_map}
use Rattle.pf_assemble.specs.Spaced.{spaced_other}
use Rattle.pf_assemble.proofs.lines.put_others.Given as goal

-- what was put, and the chunks that are left
abbrev pub invariant-loop-other : goal.invariant-loop-other
invariant-loop-other l = l.text.items ++ flat_map (spaced_other l.chunk) (drop l.other-index l.owners) ≡ l.fn.text.items ++ flat_map (spaced_other l.chunk) l.owners
