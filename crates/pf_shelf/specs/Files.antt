-- The files of a shelf: a finite map from names to bytes, and what a call leaves of it.
use Rattle.std.specs.Prelude.{◌≡◌, ◌≢◌, ℕ, ◌≤◌, List, [], ◌∷◌, length, take, Option, Some, None, IsSome, is_some, unwrap_or, if◌then◌else◌}
use Rattle.std.specs.Str.{bytes_eq}

-- a file: the bytes of its name, and its own
pub record NamedFile : Type 0 where
  pub name : List ℕ
  pub bytes : List ℕ

abbrev pub Files : Type 0
Files = List NamedFile

-- the bytes under a name; none where the name isn't held
abbrev pub file_at : Files → List ℕ → Option (List ℕ)
file_at [] name = None
file_at (file ∷ files) name = if bytes_eq file.name name then Some file.bytes else file_at files name

-- A shelf tells its files, or nothing.
abbrev pub Tells : Option Files → Type 0
Tells told = IsSome told

-- the bytes that are told under a name; none where the name isn't held or nothing is told
abbrev pub held : Option Files → List ℕ → Option (List ℕ)
held None name = None
held (Some files) name = file_at files name

-- the same, with no bytes where there is no file
abbrev pub bytes_at : Option Files → List ℕ → List ℕ
bytes_at told name = unwrap_or (held told name) []

-- all files are as before: each name looks up the same, and the shelf still tells or still doesn't
pub record IsAsBefore (old new : Option Files) : Type 0 where
  pub tells : is_some new ≡ is_some old
  pub same : (name : List ℕ) → held new name ≡ held old name

-- no file but the named one has changed, and the shelf still tells or still doesn't
pub record ChangesOnly (name : List ℕ) (old new : Option Files) : Type 0 where
  pub tells : is_some new ≡ is_some old
  pub others : (other : List ℕ) → other ≢ name → held new other ≡ held old other

-- under the name stands a prefix of these bytes
abbrev pub HoldsPrefix : List ℕ → List ℕ → Option Files → Type 0
HoldsPrefix name bytes told = (n : ℕ) × (n ≤ length bytes) × (held told name ≡ Some (take n bytes))
