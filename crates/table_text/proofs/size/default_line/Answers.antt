use Rattle.table_text.proofs.KeptLemmas.{default-holds}
use Rattle.table_text.proofs.size.default_line.Goals as goal

pub returns-clause-everywhere : goal.returns-clause-everywhere
returns-clause-everywhere c = rw c.band.ensures (default-holds c.args.name.line c.in_ok-lengths.lengths)
