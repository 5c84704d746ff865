-- What contracts see of a shelf in memory and of a sink in memory, and what their calls change.
use Rattle.std.specs.Prelude.{◌≡◌, ◌≢◌, ℕ, ◌+◌, ◌<◌, List, [], ◌∷◌, ◌++◌, length, Contains, Option, Some, None, Result, Ok, Err, unwrap_or, if◌then◌else◌, ◌⊎◌}
use Rattle.std.specs.Str.{bytes_eq}
use Rattle.pf_shelf.specs.Count.{raised}
use Rattle.pf_shelf.specs.Files.{Files, file_at}
use Rattle.pf_shelf.specs.Seen.{Seen, Heard}
use Rattle.pf_shelf.specs.declared.shelf.ShelfFault.{ShelfFault}
use Rattle.pf_shelf.specs.declared.shelf.ShelfFault.TheVariants.{Failed, Absent}
use Rattle.pf_shelf.specs.declared.shelf.SinkFault.{SinkFault}
use Rattle.pf_shelf.specs.declared.memory.Call.{Call}
use Rattle.pf_shelf.specs.declared.memory.Kind.{Kind}

-- how many bytes the file of a name may have
pub record NamedRoom : Type 0 where
  pub name : List ℕ
  pub room : ℕ

abbrev pub Rooms : Type 0
Rooms = List NamedRoom

-- the room of a name; none where none was made
abbrev pub room_at : Rooms → List ℕ → Option ℕ
room_at [] name = None
room_at (place ∷ rooms) name = if bytes_eq place.name name then Some place.room else room_at rooms name

-- a shelf in memory: its counts, the calls done of each kind, the calls that fail, its files and their rooms
pub record MemFiles : Type 0 where
  pub read_faults : ℕ
  pub write_faults : ℕ
  pub misses : ℕ
  pub taken : ℕ
  pub reads : ℕ
  pub creates : ℕ
  pub appends : ℕ
  pub failing : List Call
  pub files : Files
  pub rooms : Rooms

-- what contracts see of it as a shelf
abbrev pub seen_of : MemFiles → Seen
seen_of shelf = record { told = Some shelf.files; read_faults = shelf.read_faults; write_faults = shelf.write_faults; misses = shelf.misses; taken = shelf.taken }

-- the bytes under a name; empty where the name isn't held
abbrev pub file_of : Files → List ℕ → List ℕ
file_of files name = unwrap_or (file_at files name) []

-- the room of a name; 0 where none was made
abbrev pub room_of : Rooms → List ℕ → ℕ
room_of rooms name = unwrap_or (room_at rooms name) 0

-- no file but the named one has changed
abbrev pub KeepsOthers : List ℕ → Files → Files → Type 0
KeepsOthers name old new = (other : List ℕ) → other ≢ name → file_at new other ≡ file_at old other

-- no room but that of the name has changed
abbrev pub KeepsOtherRooms : List ℕ → Rooms → Rooms → Type 0
KeepsOtherRooms name old new = (other : List ℕ) → other ≢ name → room_at new other ≡ room_at old other

-- the call of this kind and number is among those that fail
abbrev pub IsListed : List Call → Kind → ℕ → Type 0
IsListed failing kind nth = Contains failing (record { kind = kind; nth = nth })

-- the name is neither held nor has room
abbrev pub HasNoPlace : Files → Rooms → List ℕ → Type 0
HasNoPlace files rooms name = (file_at files name ≡ None) × (room_at rooms name ≡ None)

-- there is no file of this name, or n more bytes would pass its room
abbrev pub HasNoRoom : Files → Rooms → List ℕ → ℕ → Type 0
HasNoRoom files rooms name n = (file_at files name ≡ None)
    ⊎ (room_of rooms name < length (file_of files name) + n)

-- after a read that gave this answer
abbrev pub after_read : MemFiles → Result ℕ ShelfFault → MemFiles
after_read shelf (Ok n) = record shelf { reads = raised shelf.reads 1; taken = raised shelf.taken n }
after_read shelf (Err Failed) = record shelf { reads = raised shelf.reads 1; read_faults = raised shelf.read_faults 1 }
after_read shelf (Err Absent) = record shelf { reads = raised shelf.reads 1; misses = raised shelf.misses 1 }

-- after a create that gave this answer, with these files
abbrev pub after_create : MemFiles → Result Unit ShelfFault → Files → MemFiles
after_create shelf (Ok _) files = record shelf { creates = raised shelf.creates 1; files = files }
after_create shelf (Err _) files = record shelf { creates = raised shelf.creates 1; write_faults = raised shelf.write_faults 1 }

-- after an append that gave this answer, with these files
abbrev pub after_append : MemFiles → Result ℕ ShelfFault → Files → MemFiles
after_append shelf (Ok _) files = record shelf { appends = raised shelf.appends 1; files = files }
after_append shelf (Err _) files = record shelf { appends = raised shelf.appends 1; write_faults = raised shelf.write_faults 1 }

-- a sink in memory: its count of faults, the calls done, the calls that fail, its text and its room
pub record MemText : Type 0 where
  pub faults : ℕ
  pub calls : ℕ
  pub failing : List ℕ
  pub text : List ℕ
  pub room : ℕ

-- what contracts see of it as a sink
abbrev pub heard_of : MemText → Heard
heard_of sink = record { told = Some sink.text; faults = sink.faults }

-- after an append of these bytes that gave this answer
abbrev pub after_say : MemText → List ℕ → Result ℕ SinkFault → MemText
after_say sink bytes (Ok _) = record sink { calls = raised sink.calls 1; text = sink.text ++ bytes }
after_say sink bytes (Err _) = record sink { calls = raised sink.calls 1; faults = raised sink.faults 1 }
