use Rattle.std.proofs.Common.{sym, refl, nat_lt}
use Rattle.pf_lex.specs.Token.{word_of}
use Rattle.table_text.specs.Size.{row_on, rectangle_at, length_range_at}
use Rattle.table_text.proofs.KeptLemmas.{row-kept, band_kept-may_stand}
use Rattle.table_text.proofs.size.row_of.Goals as goal

pub returns-clause-value : goal.returns-clause-value
unfolding row_on
returns-clause-value c =
    rw c.band.ensures
    (sym (row-kept (nat_lt c.args.above 1023) c.args.line c.args.others.words (rectangle_at c.args.line (word_of c.args.row.xlo) (word_of c.args.row.ylo) (word_of c.args.row.xhi) (word_of c.args.row.yhi)) (length_range_at c.args.line (word_of c.args.row.min2) (word_of c.args.row.max2)) c.in_ok-rectangle.rectangle c.in_ok-lengths.lengths c.in_ok-rectangle.ensures c.in_ok-lengths.ensures c.in_ok-end_line.ensures))

pub returns-clause-room : goal.returns-clause-room
returns-clause-room c = rw c.band.ensures (band_kept-may_stand c.args.above c.args.line c.in_ok-rectangle.rectangle c.in_ok-lengths.lengths (nat_lt c.args.above 1023) refl)
