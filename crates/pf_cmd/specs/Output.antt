-- What a command gives: the files that it writes, and what it says.
use Rattle.std.specs.Prelude.{◌≡◌, ℕ, List, [], ◌∷◌, false, map, Option, Some, if◌then◌else◌}
use Rattle.std.specs.Str.{bytes_eq}
use Rattle.std.specs.String.{string_bytes}
use Rattle.pf_say.specs.declared.place.Place.{Place}
use Rattle.pf_say.specs.Place.{Stems, name_of}
use Rattle.pf_cmd.specs.declared.output.OutFile.{OutFile}
use Rattle.pf_cmd.specs.declared.output.Output.{Output}

-- a text, and the file that it is for
pub record NamedText : Type 0 where
  pub place : Place
  pub name : List ℕ
  pub text : List ℕ

-- the files that are written, in order, and what is said
pub record Given : Type 0 where
  pub writes : List NamedText
  pub report : List ℕ

-- a file of the code, as a text with its name
abbrev pub named_text : OutFile → NamedText
named_text file = record { place = file.place; name = string_bytes file.name; text = file.text.items }

-- what the code has made ready, as what it gives
abbrev pub given_of : Output → Given
given_of output = record { writes = map named_text output.files.items; report = output.report.items }

-- the text of a mesh for a file of this place
abbrev pub written_to : Stems → Place → List ℕ → NamedText
written_to stems place text = record { place = place; name = name_of stems place; text = text }

-- the files by their names, with one of them written
abbrev pub with_file : NamedText → (List ℕ → Option (List ℕ)) → List ℕ → Option (List ℕ)
with_file file look name = if bytes_eq name file.name then Some file.text else look name

-- the files by their names, once these are written one after another
abbrev pub written : List NamedText → (List ℕ → Option (List ℕ)) → List ℕ → Option (List ℕ)
written [] look = look
written (file ∷ files) look = written files (with_file file look)

-- the name is that of no file of these
abbrev pub IsNoneOf : List NamedText → List ℕ → Type 0
IsNoneOf [] name = Unit {0}
IsNoneOf (file ∷ files) name = (bytes_eq name file.name ≡ false) × IsNoneOf files name
