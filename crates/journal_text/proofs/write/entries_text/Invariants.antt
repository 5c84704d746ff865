use Rattle.std.proofs.Common.{◌≡◌, ◌++◌, drop}
use Rattle.row_text.proofs.Writing.{text_of}
use Rattle.pf_model.specs.Texts.{entry_words}
use Rattle.journal_text.proofs.WriteLemmas.{below_heading}
use Rattle.journal_text.proofs.write.entries_text.Given as goal

-- what was written, and the text of the entries that are left
abbrev pub invariant-loop-entry : goal.invariant-loop-entry
invariant-loop-entry l = l.text.items ++ text_of entry_words (drop l.entry-index l.h) ≡ below_heading l.fn.h
