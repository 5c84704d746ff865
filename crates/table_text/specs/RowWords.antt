-- The words of a row's line.
use Rattle.std.specs.Prelude.{List, ◌∷◌}
use Rattle.pf_lex.specs.Text.{Word}
use Rattle.pf_lex.specs.Token.{word_of}
use Rattle.table_text.specs.declared.size.RowWords.{RowWords}

-- the words of a row, before what is left on its line
abbrev pub row_words : RowWords → List Word → List Word
row_words row others = word_of row.xlo ∷ word_of row.ylo ∷ word_of row.xhi ∷ word_of row.yhi ∷ word_of row.min2 ∷ word_of row.max2 ∷ others
