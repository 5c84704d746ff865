-- A token as a word, and what a call of `next` takes off a line.
use Rattle.std.specs.Prelude.{◌≡◌, Option, [], ◌∷◌, MatchOption}
use Rattle.pf_lex.specs.Text.{Word, TextLine}
use Rattle.pf_lex.specs.declared.text.Token.{Token}

-- the word that a token is
abbrev pub word_of : Token → Word
word_of token = record { text = token.text.now; column = token.column }

-- the call gave the first word that was left, and left the others; or none was left
abbrev pub TakesFirstWord : TextLine → Option Token → TextLine → Type 0
TakesFirstWord before result after = MatchOption result ((before.words ≡ []) × (after ≡ before)) (λ token. (before.words ≡ word_of token ∷ after.words) × (token.line ≡ before.line) × (after.line ≡ before.line))
