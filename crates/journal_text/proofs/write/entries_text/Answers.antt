use Rattle.std.proofs.Common.{◌≡◌, ◌≤◌, length, arith}
use Rattle.row_text.proofs.Writing.{written-more, written-all}
use Rattle.pf_model.specs.Texts.{entry_words}
use Rattle.journal_text.proofs.WriteLemmas.{below_heading, journal_text-end}
use Rattle.journal_text.proofs.write.entries_text.Goals as goal

pub loop-entry-preserved : goal.loop-entry-preserved
loop-entry-preserved c = rw c.in_ok-push_entry.ensures (written-more entry_words _ _ _ _ _ c.loop-entry-test.true c.loop-entry.invariant)

pub returns : goal.returns
returns c =
    let past : length c.args.h.now ≤ c.loop-entry.entry-index = omega arith in
    let written : c.loop-entry.text.items ≡ below_heading c.args.h.now = written-all entry_words _ _ _ _ past c.loop-entry.invariant in
    rw c.in_ok-push_end.ensures (journal_text-end c.loop-entry.text.items c.args.h.now written)
