-- The older, narrower form of a command line: the command's name, its plain words, and then pairs of words, an option's name and its
-- value. That its lists of words keep their meaning, as a statement.
use Rattle.std.specs.Prelude.{◌≡◌, ◌==◌, ◌&&◌, ℕ, Bool, true, false, not, List, [], ◌∷◌, codes, nat_le, Option, Some, None, is_some, unwrap_or, Ok, Err, if◌then◌else◌}
use Rattle.std.specs.List.{list_any}
use Rattle.std.specs.Str.{bytes_eq}
use Rattle.pf_lex.specs.Number.{natural_of}
use Rattle.pf_words.specs.Grammar.{Text, Asked, adapt, replay, check, chunks, trace, command_of}

-- ---- options

-- an option: its name with its two dashes, and the least and the greatest value that it takes
pub record Choice : Type 0 where
  pub name : Text
  pub least : ℕ
  pub most : ℕ

abbrev pub workers_choice : Choice
workers_choice = record { name = codes "--workers"; least = 1; most = 64 }

abbrev pub ops_choice : Choice
ops_choice = record { name = codes "--ops"; least = 0; most = 1048576 }

abbrev pub turns_choice : Choice
turns_choice = record { name = codes "--turns"; least = 0; most = 10000000 }

abbrev pub scale_choice : Choice
scale_choice = record { name = codes "--scale"; least = 1; most = 1048576 }

-- the options of `adapt`
abbrev pub adapt_choices : List Choice
adapt_choices = workers_choice ∷ ops_choice ∷ turns_choice ∷ scale_choice ∷ []

-- those of all other commands
abbrev pub scale_choices : List Choice
scale_choices = scale_choice ∷ []

-- ---- pairs

-- the value that a word gives an option: digits alone, in its range
abbrev pub chosen : Choice → Text → Option ℕ
chosen choice word = elim (natural_of word) [ Ok value ↦ if nat_le choice.least value && nat_le value choice.most then Some value else None | Err fault ↦ None ]

-- one of the options has this name, and takes this value
abbrev pub is_choice : List Choice → Text → Text → Bool
is_choice [] name word = false
is_choice (choice ∷ choices) name word = if bytes_eq name choice.name then is_some (chosen choice word) else is_choice choices name word

-- the word is among these
abbrev pub has_word : Text → List Text → Bool
has_word word words = list_any (λ other. bytes_eq other word) words

-- the words are pairs of an option's name and its value, in any order, each option at most once
abbrev pub are_pairs : List Choice → List Text → Bool
are_pairs choices [] = true
are_pairs choices (name ∷ []) = false
are_pairs choices (name ∷ word ∷ words) = is_choice choices name word && not (has_word name words) && are_pairs choices words

-- the value that pairs give an option, if they give it one
abbrev pub value_in : Choice → List Text → Option ℕ
value_in choice [] = None
value_in choice (name ∷ []) = None
value_in choice (name ∷ word ∷ words) = if bytes_eq name choice.name then chosen choice word else value_in choice words

-- ---- commands

-- a plain word begins with no dash (45)
abbrev pub is_plain : Text → Bool
is_plain [] = true
is_plain (first ∷ others) = not (first == 45)

-- `adapt BASE OUT`, and pairs
abbrev pub paired_adapt : List Text → Option Asked
paired_adapt [] = None
paired_adapt (base ∷ []) = None
paired_adapt (base ∷ out ∷ pairs) =
    if is_plain base && is_plain out && are_pairs adapt_choices pairs
    then Some (adapt base out (unwrap_or (value_in workers_choice pairs) 4) (value_in ops_choice pairs) (unwrap_or (value_in turns_choice pairs) 1000000) (unwrap_or (value_in scale_choice pairs) 1))
    else None

-- a command with two plain words, and pairs
abbrev pub paired_two : (Text → Text → ℕ → Asked) → List Text → Option Asked
paired_two asked [] = None
paired_two asked (base ∷ []) = None
paired_two asked (base ∷ other ∷ pairs) =
    if is_plain base && is_plain other && are_pairs scale_choices pairs then Some (asked base other (unwrap_or (value_in scale_choice pairs) 1)) else None

-- a command with one plain word, and pairs
abbrev pub paired_one : (Text → ℕ → Asked) → List Text → Option Asked
paired_one asked [] = None
paired_one asked (base ∷ pairs) = if is_plain base && are_pairs scale_choices pairs then Some (asked base (unwrap_or (value_in scale_choice pairs) 1)) else None

-- what the words ask for by this form; none where they don't have it
abbrev pub paired_command_of : List Text → Option Asked
paired_command_of [] = None
paired_command_of (name ∷ words) =
    if bytes_eq name (codes "adapt") then paired_adapt words
    else if bytes_eq name (codes "replay") then paired_two replay words
    else if bytes_eq name (codes "check") then paired_one check words
    else if bytes_eq name (codes "chunks") then paired_one chunks words
    else if bytes_eq name (codes "trace") then paired_two trace words
    else None

-- words that ask for something by this form ask for the same by the grammar
abbrev pub PairsKeepTheirMeaning : Type 0
PairsKeepTheirMeaning = (words : List Text) (asked : Asked) → paired_command_of words ≡ Some asked → command_of words ≡ Some asked
