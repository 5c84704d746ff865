use Rattle.journal_text.proofs.JournalReads.{journal_reads_again}
use Rattle.journal_text.proofs.laws.journal_reads_again.Goals as goal

pub returns : goal.returns
returns c = journal_reads_again
