use Rattle.table_text.proofs.PartReads.{part_reads_again}
use Rattle.table_text.proofs.laws.part_reads_again.Goals as goal

pub returns : goal.returns
returns c = part_reads_again
