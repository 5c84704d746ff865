-- The words of an entry's line.
use Rattle.std.specs.Prelude.{List, ◌∷◌}
use Rattle.pf_lex.specs.Text.{Word}
use Rattle.pf_lex.specs.Token.{word_of}
use Rattle.journal_text.specs.declared.read.EntryWords.{EntryWords}

-- the words of an entry, before what is left on its line
abbrev pub entry_words : EntryWords → List Word → List Word
entry_words entry others = word_of entry.ticket ∷ word_of entry.chunk ∷ word_of entry.kind ∷ word_of entry.a ∷ word_of entry.b ∷ others
