-- The places of a shelf in memory, and what contracts see of them.
use Rattle.std.specs.Prelude.{◌≡◌, ℕ, ◌≤◌, List, [], ◌∷◌, ◌≢◌, zero, suc, max, All, Some, if◌then◌else◌, vec_capacity, vec_len}
use Rattle.pf_shelf.specs.Files.{Files}
use Rattle.pf_shelf.specs.Memory.{Rooms, MemFiles, room_at, room_of, KeepsOtherRooms}
use Rattle.pf_shelf.specs.declared.places.Place.{Place}
use Rattle.pf_shelf.specs.declared.memory.MemShelf.TheInside.{Inside}

-- the files that are there
abbrev pub files_of : List Place → Files
files_of [] = []
files_of (place ∷ places) = if place.held then (record { name = place.name.items; bytes = place.bytes.items }) ∷ files_of places else files_of places

-- the room of each name
abbrev pub rooms_of : List Place → Rooms
rooms_of [] = []
rooms_of (place ∷ places) = (record { name = place.name.items; room = place.room }) ∷ rooms_of places

-- no place has this name
abbrev pub Lacks : List Place → List ℕ → Type 0
Lacks [] name = Unit {0}
Lacks (place ∷ places) name = (place.name.items ≢ name) × Lacks places name

-- the first place of this name is that one
abbrev pub IsPlaceOf : List Place → List ℕ → ℕ → Type 0
IsPlaceOf [] name i = ⊥
IsPlaceOf (place ∷ places) name zero = place.name.items ≡ name
IsPlaceOf (place ∷ places) name (suc i) = (place.name.items ≢ name) × IsPlaceOf places name i

-- no two places have one name
abbrev pub IsDistinct : List Place → Type 0
IsDistinct [] = Unit {0}
IsDistinct (place ∷ places) = Lacks places place.name.items × IsDistinct places

-- the bytes are within the room, and memory is taken for the room
pub record IsRoomy (place : Place) : Type 0 where
  pub within : vec_len place.bytes ≤ place.room
  pub reserved : place.room ≤ vec_capacity place.bytes

abbrev pub shown : Inside → MemFiles
shown a = record {
  read_faults = a.read_faults;
  write_faults = a.write_faults;
  misses = a.misses;
  taken = a.taken;
  reads = a.reads;
  creates = a.creates;
  appends = a.appends;
  failing = a.fail.items;
  files = files_of a.places.items;
  rooms = rooms_of a.places.items;
}

-- each name has one place, and each place its room
pub record IsSound (a : Inside) : Type 0 where
  pub distinct : IsDistinct a.places.items
  pub roomy : All IsRoomy a.places.items

-- the same files and rooms
pub record SamePlaces (old new : List Place) : Type 0 where
  pub files : files_of new ≡ files_of old
  pub rooms : rooms_of new ≡ rooms_of old

-- the place of the name is that one, with this room or the room that it had, and the rest is as before
pub record RoomMade (old new : List Place) (name : List ℕ) (room i : ℕ) : Type 0 where
  pub place : IsPlaceOf new name i
  pub files : files_of new ≡ files_of old
  pub made : room_at (rooms_of new) name ≡ Some (max (room_of (rooms_of old) name) room)
  pub others : KeepsOtherRooms name (rooms_of old) (rooms_of new)
