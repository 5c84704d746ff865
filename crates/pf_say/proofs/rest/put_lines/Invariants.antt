use Rattle.std.proofs.Common.{◌≡◌, ◌++◌, drop}
use Rattle.pf_say.proofs.RestLemmas.{list_text, below_heading}
use Rattle.pf_say.proofs.rest.put_lines.Given as goal

-- what was written, and the text of the lines that are left
abbrev pub invariant-loop-line : goal.invariant-loop-line
invariant-loop-line l = l.text.items ++ list_text (drop l.line-index l.lines) ≡ below_heading l.fn.lines
