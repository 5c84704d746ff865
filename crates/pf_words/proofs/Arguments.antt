-- Arguments as the rows that `clap` keeps of them.
use Rattle.std.proofs.Common.{◌≡◌, ◌++◌, Bool, true, false, refl, ap, List, [], ◌∷◌, map, Some, None, is_some, true≢false}
use Rattle.std.specs.Str.{bytes_eq}
use Rattle.clap.specs.Values.{reading_of}
use Rattle.clap.specs.Walk.{Row, Text, has_row, first_of, with_values, without}
use Rattle.clap.specs.declared.builder.value_parser.ValueParser.TheVariants as vp
use Rattle.clap.specs.declared.parser.matches.ValueSource.TheVariants.{CommandLine}
use Rattle.pf_words.specs.Grammar.{Given, text_of}

-- the row of an argument
abbrev pub row_of : Text × Text → Row
row_of entry = record { id = entry.0; values = entry.1 ∷ []; count = None; source = Some CommandLine; reading = reading_of vp.String }

abbrev pub rows : Given → List Row
rows given = map row_of given

has_row_more : (name : Text) (entry : Text × Text) (given : Given) → has_row name (rows given) ≡ is_some (text_of name given)
    → (b : Bool) → bytes_eq entry.0 name ≡ b → has_row name (rows (entry ∷ given)) ≡ is_some (text_of name (entry ∷ given))
has_row_more name entry given same true is = rw is refl
has_row_more name entry given same false is = rw is same

-- an argument has a row exactly where it is given
pub has_row-rows : (name : Text) (given : Given) → has_row name (rows given) ≡ is_some (text_of name given)
has_row-rows name [] = refl
has_row-rows name (entry ∷ given) = has_row_more name entry given (has_row-rows name given) (bytes_eq entry.0 name) refl

first_of_more : (name : Text) (entry : Text × Text) (given : Given) → first_of name (rows given) ≡ text_of name given
    → (b : Bool) → bytes_eq entry.0 name ≡ b → first_of name (rows (entry ∷ given)) ≡ text_of name (entry ∷ given)
first_of_more name entry given same true is = rw is refl
first_of_more name entry given same false is = rw is same

-- the row says what is given
pub first_of-rows : (name : Text) (given : Given) → first_of name (rows given) ≡ text_of name given
first_of-rows name [] = refl
first_of-rows name (entry ∷ given) = first_of_more name entry given (first_of-rows name given) (bytes_eq entry.0 name) refl

-- the rows after a use with this text
abbrev pub used_rows : Text → Text → List Row → List Row
used_rows name text kept = with_values name (reading_of vp.String) CommandLine (text ∷ []) (without name kept)

used_more : (name text : Text) (entry : Text × Text) (given : Given) → (is_some (text_of name given) ≡ false → used_rows name text (rows given) ≡ rows (given ++ (name, text) ∷ []))
    → (b : Bool) → bytes_eq entry.0 name ≡ b → is_some (text_of name (entry ∷ given)) ≡ false → used_rows name text (rows (entry ∷ given)) ≡ rows (entry ∷ given ++ (name, text) ∷ [])
used_more name text entry given later true is new = absurd (true≢false (rw is at new))
used_more name text entry given later false is new = rw (is, is) (ap (λ (others : List Row). row_of entry ∷ others) (later (rw is at new)))

-- a use of an argument that isn't given yet adds its row
pub used-rows : (name text : Text) (given : Given) → is_some (text_of name given) ≡ false → used_rows name text (rows given) ≡ rows (given ++ (name, text) ∷ [])
used-rows name text [] new = refl
used-rows name text (entry ∷ given) new = used_more name text entry given (used-rows name text given) (bytes_eq entry.0 name) refl new
