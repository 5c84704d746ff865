use Rattle.std.proofs.Common.{sym}
use Rattle.pf_lex.specs.Token.{word_of}
use Rattle.table_text.specs.Size.{whole_at}
use Rattle.table_text.proofs.KeptLemmas.{corner-kept}
use Rattle.table_text.proofs.size.corner.Goals as goal

pub returns : goal.returns
returns c =
    rw c.corner_of.ensures
    (sym (corner-kept (whole_at c.args.line (word_of c.args.x)) (whole_at c.args.line (word_of c.args.y)) c.in_ok-x.x c.in_ok-y.y c.in_ok-x.ensures c.in_ok-y.ensures))
