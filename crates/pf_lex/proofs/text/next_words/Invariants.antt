use Rattle.std.proofs.Common.{◌≡◌, ◌+◌, ◌<◌, ◌≤◌, length}
use Rattle.pf_lex.specs.Text.{text_lines_from, lines_past_from}
use Rattle.pf_lex.proofs.text.next_words.Given as goal

abbrev pub invariant-loop-rest : goal.invariant-loop-rest
invariant-loop-rest l = record {
  left : text_lines_from l.fn.number l.fn.bytes ≡ text_lines_from l.line l.rest;
  past : lines_past_from l.line l.rest ≡ lines_past_from l.fn.number l.fn.bytes;
  numbered : 0 < l.line;
  in_range : l.line + length l.rest ≤ 268435457;
}

abbrev pub decreases-loop-rest : goal.decreases-loop-rest
decreases-loop-rest l = length l.rest
