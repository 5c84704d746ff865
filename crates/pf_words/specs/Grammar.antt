-- The grammar of a command line: what its words ask for, or none where they are in no command's form.
use Rattle.std.specs.Prelude.{◌≤◌, ◌==◌, ◌&&◌, ◌++◌, ℕ, Bool, true, false, List, [], ◌∷◌, map, codes, nat_le, Option, Some, None, is_some, option_map, option_and_then, Ok, Err, if◌then◌else◌}
use Rattle.std.specs.Borrow.{Bor}
use Rattle.std.specs.List.{list_any, before_first, after_first}
use Rattle.std.specs.Str.{bytes_eq}
use Rattle.pf_lex.specs.Number.{natural_of}

abbrev pub Text : Type 0
Text = List ℕ

-- the words as texts
abbrev pub texts_of : List (Bor (List ℕ)) → List Text
texts_of words = map (λ word. word.now) words

-- ---- one word

-- what a word is: plain, `--`, an option's name and the value behind its first `=`, or none of these
pub data Kind : Type 0 where
  plain : Kind
  ends : Kind
  named : Text → Option Text → Kind
  refused : Kind

-- what follows the first `=` (61), where there is one
abbrev pub value_behind : Text → Option Text
value_behind text = if list_any (λ byte. byte == 61) text then Some (after_first (λ byte. byte == 61) text) else None

-- a word by what follows its two dashes
abbrev pub kind_of_rest : Text → Kind
kind_of_rest [] = ends
kind_of_rest (byte ∷ bytes) = named (before_first (λ byte. byte == 61) (byte ∷ bytes)) (value_behind (byte ∷ bytes))

-- `-` and what begins with no dash (45) are plain; one dash before anything else is refused
abbrev pub kind_of : Text → Kind
kind_of [] = plain
kind_of (first ∷ []) = plain
kind_of (first ∷ second ∷ rest) = if first == 45 then (if second == 45 then kind_of_rest rest else refused) else plain

-- ---- the arguments that the words give

-- each argument's name and its text, in the order in which they are given
abbrev pub Given : Type 0
Given = List (Text × Text)

-- the text of the argument of this name
abbrev pub text_of : Text → Given → Option Text
text_of name [] = None
text_of name (entry ∷ given) = if bytes_eq entry.0 name then Some entry.1 else text_of name given

-- one more argument, none of which is given twice
abbrev pub with_text : Text → Text → Given → Option Given
with_text name text given = if is_some (text_of name given) then None else Some (given ++ (name, text) ∷ [])

-- what a command takes: the names of its plain words, in order, and those of its options
pub record Form : Type 0 where
  pub plain : List Text
  pub options : List Text

-- a plain word has the first of the names that are left for plain words
abbrev pub with_plain : List Text → Text → Given → (List Text → Given → Option Given) → Option Given
with_plain [] word given next = None
with_plain (name ∷ names) word given next = option_and_then (next names) (with_text name word given)

-- behind `--` all words are plain
abbrev pub plain_from : List Text → Given → List Text → Option Given
plain_from names given [] = Some given
plain_from names given (word ∷ words) = with_plain names word given (λ left more. plain_from left more words)

-- an option's value stands behind its `=`, or is the next word
abbrev pub with_option : Bool → Text → Option Text → Given → (Option Text → Given → Option Given) → Option Given
with_option false name value given next = None
with_option true name None given next = next (Some name) given
with_option true name (Some text) given next = option_and_then (next None) (with_text name text given)

-- a word by what it is, and then the words behind it: as they are read on, or all of them plain
abbrev pub with_word : Kind → List Text → List Text → Text → Given → (List Text → Option Text → Given → Option Given) → Option Given → Option Given
with_word plain options names word given next rest = with_plain names word given (λ left more. next left None more)
with_word ends options names word given next rest = rest
with_word (named name value) options names word given next rest = with_option (list_any (λ option. bytes_eq option name) options) name value given (next names)
with_word refused options names word given next rest = None

-- the word that an option waits for is its value, where it is plain
abbrev pub with_waiting : Kind → Text → Text → Given → (Given → Option Given) → Option Given
with_waiting plain name word given next = option_and_then next (with_text name word given)
with_waiting _ name word given next = None

-- the words in turn, where the option of a name may wait for its value
abbrev pub given_from : List Text → List Text → Option Text → Given → List Text → Option Given
given_from options names None given [] = Some given
given_from options names (Some name) given [] = None
given_from options names None given (word ∷ words) =
    with_word (kind_of word) options names word given (λ left waiting more. given_from options left waiting more words) (plain_from names given words)
given_from options names (Some name) given (word ∷ words) = with_waiting (kind_of word) name word given (λ more. given_from options names None more words)

-- what the words behind the command's name give
abbrev pub given_of : Form → List Text → Option Given
given_of form words = given_from form.options form.plain None [] words

-- ---- words that are refused at once

abbrev pub refuses : Kind → Bool → Bool
refuses plain others = others
refuses ends others = false
refuses (named name value) others = others
refuses refused others = true

-- before `--` there is a word of one dash and more
abbrev pub has_refused : List Text → Bool
has_refused [] = false
has_refused (word ∷ words) = refuses (kind_of word) (has_refused words)

-- ---- values

-- one or more digits, whose value is in the range
abbrev pub number_of : ℕ → ℕ → Text → Option ℕ
number_of least most text = elim (natural_of text) [ Ok value ↦ if nat_le least value && nat_le value most then Some value else None | Err fault ↦ None ]

-- the value of an option, and what stands for it where it isn't given
abbrev pub number_or : ℕ → ℕ → ℕ → Option Text → Option ℕ
number_or otherwise least most None = Some otherwise
number_or otherwise least most (Some text) = number_of least most text

-- the value of an option that may be left open
abbrev pub number_if : ℕ → ℕ → Option Text → Option (Option ℕ)
number_if least most None = Some None
number_if least most (Some text) = option_map (λ value. Some value) (number_of least most text)

-- what coordinates are multiplied by
abbrev pub scale_of : Given → Option ℕ
scale_of given = number_or 1 1 1048576 (text_of (codes "scale") given)

-- ---- the commands

pub data Asked : Type 0 where
  adapt : (base out : Text) (workers : ℕ) (ops : Option ℕ) (turns scale : ℕ) → Asked
  replay : (base out : Text) (scale : ℕ) → Asked
  check : (base : Text) (scale : ℕ) → Asked
  chunks : (base : Text) (scale : ℕ) → Asked
  trace : (base file : Text) (scale : ℕ) → Asked
  demo : (cells : ℕ) → Asked

-- what is asked keeps its bounds: coordinates that are read are multiplied by at least 1 and at most 1,048,576, there are 1 to 64
-- workers, and a grid has 1 to 64 cells a side
abbrev pub IsBounded : Asked → Type 0
IsBounded (adapt base out workers ops turns scale) = ((1 ≤ scale) × (scale ≤ 1048576)) × ((1 ≤ workers) × (workers ≤ 64))
IsBounded (replay base out scale) = (1 ≤ scale) × (scale ≤ 1048576)
IsBounded (check base scale) = (1 ≤ scale) × (scale ≤ 1048576)
IsBounded (chunks base scale) = (1 ≤ scale) × (scale ≤ 1048576)
IsBounded (trace base file scale) = (1 ≤ scale) × (scale ≤ 1048576)
IsBounded (demo cells) = (1 ≤ cells) × (cells ≤ 64)

-- `adapt BASE OUT [--workers W] [--ops N] [--turns N] [--scale S]`
abbrev pub adapt_form : Form
adapt_form = record {
  plain = codes "base" ∷ codes "out" ∷ [];
  options = codes "workers" ∷ codes "ops" ∷ codes "turns" ∷ codes "scale" ∷ [];
}

-- `replay BASE OUT [--scale S]` and `trace BASE FILE [--scale S]`
abbrev pub two_form : Form
two_form = record { plain = codes "base" ∷ codes "other" ∷ []; options = codes "scale" ∷ [] }

-- `check BASE [--scale S]` and `chunks BASE [--scale S]`
abbrev pub one_form : Form
one_form = record { plain = codes "base" ∷ []; options = codes "scale" ∷ [] }

-- `demo N`
abbrev pub demo_form : Form
demo_form = record { plain = codes "cells" ∷ []; options = [] }

abbrev pub adapt_of : Given → Option Asked
adapt_of given = option_and_then (λ base. option_and_then (λ out. option_and_then (λ workers. option_and_then (λ ops. option_and_then (λ turns.
    option_map (λ scale. adapt base out workers ops turns scale) (scale_of given))
    (number_or 1000000 0 10000000 (text_of (codes "turns") given)))
    (number_if 0 1048576 (text_of (codes "ops") given)))
    (number_or 4 1 64 (text_of (codes "workers") given)))
    (text_of (codes "out") given))
    (text_of (codes "base") given)

abbrev pub two_of : (Text → Text → ℕ → Asked) → Given → Option Asked
two_of asked given = option_and_then (λ base. option_and_then (λ other. option_map (asked base other) (scale_of given))
    (text_of (codes "other") given))
    (text_of (codes "base") given)

abbrev pub one_of : (Text → ℕ → Asked) → Given → Option Asked
one_of asked given = option_and_then (λ base. option_map (asked base) (scale_of given)) (text_of (codes "base") given)

abbrev pub demo_of : Given → Option Asked
demo_of given = option_and_then (λ cells. option_map demo (number_of 1 64 cells)) (text_of (codes "cells") given)

-- what the words ask for; none where they are in no command's form
abbrev pub command_of : List Text → Option Asked
command_of [] = None
command_of (name ∷ words) =
    if bytes_eq name (codes "adapt") then option_and_then adapt_of (given_of adapt_form words)
    else if bytes_eq name (codes "replay") then option_and_then (two_of replay) (given_of two_form words)
    else if bytes_eq name (codes "check") then option_and_then (one_of check) (given_of one_form words)
    else if bytes_eq name (codes "chunks") then option_and_then (one_of chunks) (given_of one_form words)
    else if bytes_eq name (codes "trace") then option_and_then (two_of trace) (given_of two_form words)
    else if bytes_eq name (codes "demo") then option_and_then demo_of (given_of demo_form words)
    else None
