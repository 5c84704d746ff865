-- What files hold where one of them wasn't written.
use Rattle.std.specs.Prelude.{◌≡◌, ◌≢◌, ℕ, ◌≤◌, List, [], ◌∷◌, length, take, Option, Some, ◌⊎◌}
use Rattle.pf_say.specs.declared.place.Place.{Place}
use Rattle.pf_cmd.specs.Output.{NamedText, with_file}

-- no file but this one has changed, and this one is as before or holds a prefix of its text
pub record IsCutOff (file : NamedText) (look new : List ℕ → Option (List ℕ)) : Type 0 where
  pub others : (name : List ℕ) → name ≢ file.name → new name ≡ look name
  pub itself : (new file.name ≡ look file.name) ⊎ ((n : ℕ) × (n ≤ length file.text) × (new file.name ≡ Some (take n file.text)))

-- the files before that of this place are written one after another, and that one is cut off
abbrev pub IsCutAt : List NamedText → (List ℕ → Option (List ℕ)) → (List ℕ → Option (List ℕ)) → Place → Type 0
IsCutAt [] look new place = ⊥
IsCutAt (file ∷ files) look new place = ((place ≡ file.place) × IsCutOff file look new) ⊎ IsCutAt files (with_file file look) new place
