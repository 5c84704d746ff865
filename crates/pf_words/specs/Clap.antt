-- What `clap` makes of a command's words, by its own words.
use Rattle.std.specs.Prelude.{◌≡◌, ◌≢◌, ◌⊎◌, ◌++◌, ⊤, map, true, false, List, [], drop, Option, Some, None}
use Rattle.clap.specs.Matches.{found_of, first_value}
use Rattle.clap.specs.Simple.{App, HasMatchesOf, new_rule, new_shape}
use Rattle.clap.specs.Walk.{Rule}
use Rattle.clap.specs.Faults.{is_simple_and_free, fault_of}
use Rattle.clap.specs.declared.parser.matches.ArgMatches.{ArgMatches}
use Rattle.pf_words.specs.Grammar.{Text, Form, Given, text_of, has_refused}

-- an option with its value
abbrev pub option_rule : Text → Rule
option_rule name = record (new_rule name) { long = Some name }

-- a command of this form, without a word for help
abbrev pub form_app : Text → Form → App
form_app name form = record {
  top = record (new_shape name) { rules = map new_rule form.plain ++ map option_rule form.options; disable_help_flag = true };
  subs = [];
}

-- a form without arguments
abbrev pub no_form : Form
no_form = record { plain = []; options = [] }

-- what the command makes of the words, want of memory aside
abbrev pub Matched : App → List Text → Option ArgMatches → Type 0
Matched app words None = is_simple_and_free app ≡ true → fault_of app words ≢ []
Matched app words (Some matches) = (is_simple_and_free app ≡ true → fault_of app words ≡ []) × HasMatchesOf app words matches

-- the same, where no word is refused beforehand
abbrev pub Finds : App → List Text → Option ArgMatches → Type 0
Finds app words found = ((found ≡ None) × (has_refused (drop 1 words) ≡ true)) ⊎ ((has_refused (drop 1 words) ≡ false) × Matched app words found)

-- the matches have the arguments
abbrev pub Says : Given → ArgMatches → Type 0
Says given matches = (name : Text) → first_value (found_of matches) name ≡ text_of name given

-- there are matches where there are arguments, and they have them
abbrev pub Reads : Option Given → Option ArgMatches → Type 0
Reads None None = ⊤
Reads None (Some matches) = ⊥
Reads (Some given) None = ⊥
Reads (Some given) (Some matches) = Says given matches
