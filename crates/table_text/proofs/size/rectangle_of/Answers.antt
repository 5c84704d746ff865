use Rattle.std.proofs.Common.{sym}
use Rattle.pf_lex.specs.Token.{word_of}
use Rattle.table_text.specs.Size.{corner_at}
use Rattle.table_text.proofs.KeptLemmas.{rectangle-kept}
use Rattle.table_text.proofs.size.rectangle_of.Goals as goal

pub returns : goal.returns
returns c =
    rw c.ordered_corners.ensures
    (sym (rectangle-kept (corner_at c.args.line (word_of c.args.row.xlo) (word_of c.args.row.ylo)) (corner_at c.args.line (word_of c.args.row.xhi) (word_of c.args.row.yhi)) c.in_ok-low.low c.in_ok-high.high c.in_ok-low.ensures c.in_ok-high.ensures))
