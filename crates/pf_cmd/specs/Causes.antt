-- What a reading of files leaves of a shelf, and what must have happened for it to stop.
use Rattle.std.specs.Prelude.{◌≡◌, ◌≤◌, ◌<◌, ℕ, List, [], ◌∷◌, Bool, true, false, Result, Err, ◌⊎◌}
use Rattle.pf_shelf.specs.Count.{Rose}
use Rattle.pf_shelf.specs.Files.{Tells, IsAsBefore}
use Rattle.pf_shelf.specs.Seen.{Seen}
use Rattle.pf_say.specs.declared.place.Place.{Place}
use Rattle.pf_say.specs.declared.stop.Trouble.TheVariants.{Missing, Unread, Unwritten, Memory}
use Rattle.pf_say.specs.declared.stop.Stop.{Stop}
use Rattle.pf_say.specs.declared.stop.Stop.TheVariants.{Device}
use Rattle.pf_say.specs.Place.{Stems}
use Rattle.pf_cmd.specs.Input.{HeldFiles, files_in, without}

-- the files are as before, no count has fallen, and no write has failed
pub record IsOnlyRead (old new : Seen) : Type 0 where
  pub files : IsAsBefore old.told new.told
  pub read_faults : old.read_faults ≤ new.read_faults
  pub write_faults : new.write_faults ≡ old.write_faults
  pub misses : old.misses ≤ new.misses

-- no read has failed, and no name was missed
pub record IsQuiet (old new : Seen) : Type 0 where
  pub read_faults : new.read_faults ≡ old.read_faults
  pub misses : new.misses ≡ old.misses

-- the place is one of these
abbrev pub IsAmong : Place → List Place → Type 0
IsAmong place [] = ⊥
IsAmong place (first ∷ places) = (place ≡ first) ⊎ IsAmong place places

-- Why a reading of these places stopped. A read failed: with the named file taken out, the reading stops there, as it
-- isn't held. The named file wasn't there. Memory ran out. Or the files say so.
abbrev pub IsCause : {A : Type 0} → List Place → Seen → Seen → Stems → (HeldFiles → Result A Stop) → Stop → Type 0
IsCause places old new stems reading (Device (Unread place)) = IsAmong place places × Rose old.read_faults new.read_faults × (Tells old.told → reading (without place (files_in old stems)) ≡ Err (Device (Missing place)))
IsCause places old new stems reading (Device (Missing place)) = IsAmong place places × Rose old.misses new.misses × (Tells old.told → reading (files_in old stems) ≡ Err (Device (Missing place)))
IsCause places old new stems reading (Device (Unwritten place)) = ⊥
IsCause places old new stems reading (Device Memory) = Unit {0}
IsCause places old new stems reading stop = Tells old.told → reading (files_in old stems) ≡ Err stop

-- the reason is that a read failed
abbrev pub is_unread : Stop → Bool
is_unread (Device (Unread place)) = true
is_unread stop = false

-- the reason is that a file isn't there
abbrev pub is_missing : Stop → Bool
is_missing (Device (Missing place)) = true
is_missing stop = false

-- what happened between two moments of a shelf explains why the reading stopped, and a fault that was counted is the reason
pub record Explains {A : Type 0} (places : List Place) (old new : Seen) (stems : Stems) (reading : HeldFiles → Result A Stop) (stop : Stop) : Type 0 where
  pub cause : IsCause places old new stems reading stop
  pub unread : old.read_faults < new.read_faults → is_unread stop ≡ true
  pub missing : old.misses < new.misses → is_missing stop ≡ true

-- the reason speaks of values alone, and of no file that failed
abbrev pub IsInner : Stop → Type 0
IsInner (Device (Unread place)) = ⊥
IsInner (Device (Unwritten place)) = ⊥
IsInner (Device (Missing place)) = ⊥
IsInner stop = Unit {0}
