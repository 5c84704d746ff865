-- What a shelf in memory shows after one of its places has changed, or one more was made.
use Rattle.std.proofs.Common.{◌≡◌, ◌≢◌, ℕ, ◌+◌, ◌<◌, zero, suc, List, [], ◌∷◌, ◌++◌, length, take, get_or, Bool, true, false, Option, Some, None, refl, sym, ◌∙◌, ap, subst, arith, max, inl, inr, if◌then◌else◌}
use Rattle.std.proofs.Math.ListN.{set}
use Rattle.std.proofs.lemmas.Bool.{cases_lt}
use Rattle.std.proofs.lemmas.Slice.Eq.{bytes_eq-Decides}
use Rattle.std.specs.Bool.{OnTrue, OnFalse}
use Rattle.std.specs.Str.{bytes_eq}
use Rattle.std.specs.Prelude.{◌≤◌, ◌↔◌, unwrap_or, Vec, Result, Ok, Err, OnErr, IsTrue, MatchBool}
use Rattle.std.specs.Global.{Global}
use Rattle.pf_shelf.specs.Files.{NamedFile, Files, file_at}
use Rattle.pf_shelf.specs.Memory.{Rooms, room_at, KeepsOthers, HasNoRoom}
use Rattle.pf_shelf.specs.Places.{files_of, rooms_of, Lacks, IsPlaceOf, IsDistinct, RoomMade, SamePlaces}
use Rattle.pf_shelf.specs.declared.places.Place.{Place}

eq_true : (a b : List ℕ) → a ≡ b → bytes_eq a b ≡ true
eq_true a b h = (bytes_eq-Decides a b).1 h

false_unless : (t : Bool) → (t ≡ true → ⊥) → t ≡ false
false_unless true h = absurd (h refl)
false_unless false h = refl

eq_false : (a b : List ℕ) → a ≢ b → bytes_eq a b ≡ false
eq_false a b h = false_unless (bytes_eq a b) (λ t. h ((bytes_eq-Decides a b).0 t))

-- the file of a place, if it is there
abbrev pub file_in : Place → Option (List ℕ)
file_in place = if place.held then Some place.bytes.items else None

skip_held : (b : Bool) (f : NamedFile) (fs : Files) (other : List ℕ) → f.name ≢ other → file_at (if b then f ∷ fs else fs) other ≡ file_at fs other
skip_held true f fs other h = rw (eq_false f.name other h) refl
skip_held false f fs other h = refl

here_held : (b : Bool) (f : NamedFile) (fs : Files) (name : List ℕ) → f.name ≡ name → file_at fs name ≡ None → file_at (if b then f ∷ fs else fs) name ≡ (if b then Some f.bytes else None)
here_held true f fs name h none = rw (eq_true f.name name h) refl
here_held false f fs name h none = none

skip-file : (place : Place) (places : List Place) (other : List ℕ) → place.name.items ≢ other → file_at (files_of (place ∷ places)) other ≡ file_at (files_of places) other
skip-file place places other h = skip_held place.held (record { name = place.name.items; bytes = place.bytes.items }) (files_of places) other h

skip-room : (place : Place) (places : List Place) (other : List ℕ) → place.name.items ≢ other → room_at (rooms_of (place ∷ places)) other ≡ room_at (rooms_of places) other
skip-room place places other h = rw (eq_false place.name.items other h) refl

pub lacks-file : (places : List Place) (name : List ℕ) → Lacks places name → file_at (files_of places) name ≡ None
lacks-file [] name h = refl
lacks-file (place ∷ places) name h = skip-file place places name h.0 ∙ lacks-file places name h.1

pub lacks-room : (places : List Place) (name : List ℕ) → Lacks places name → room_at (rooms_of places) name ≡ None
lacks-room [] name h = refl
lacks-room (place ∷ places) name h = skip-room place places name h.0 ∙ lacks-room places name h.1

here-file : (place : Place) (places : List Place) (name : List ℕ) → place.name.items ≡ name → Lacks places place.name.items → file_at (files_of (place ∷ places)) name ≡ file_in place
here-file place places name h lacks = here_held place.held (record { name = place.name.items; bytes = place.bytes.items }) (files_of places) name h
    (let P : List ℕ → Type 0 = λ n. Lacks places n in lacks-file places name (subst P h lacks))

here-room : (place : Place) (places : List Place) (name : List ℕ) → place.name.items ≡ name → room_at (rooms_of (place ∷ places)) name ≡ Some place.room
here-room place places name h = rw (eq_true place.name.items name h) refl

-- the place of a name is one of them
pub place-below : (places : List Place) (name : List ℕ) (i : ℕ) → IsPlaceOf places name i → i < length places
place-below [] name i h = absurd h
place-below (place ∷ places) name zero h = omega arith
place-below (place ∷ places) name (suc i) h = let below : i < length places = place-below places name i h.1 in omega arith

-- the name of that place
pub place-name : (places : List Place) (name : List ℕ) (i : ℕ) (place : Place) → IsPlaceOf places name i → place ≡ get_or places i place → place.name.items ≡ name
place-name [] name i place h at = absurd h
place-name (first ∷ places) name zero place h at = ap (λ (p : Place). p.name.items) at ∙ h
place-name (first ∷ places) name (suc i) place h at = place-name places name i place h.1 at

-- the file of a name is that of its place
pub place-file : (places : List Place) (name : List ℕ) (i : ℕ) (place : Place) → IsPlaceOf places name i → IsDistinct places → place ≡ get_or places i place → file_at (files_of places) name ≡ file_in place
place-file [] name i place h distinct at = absurd h
place-file (first ∷ places) name zero place h distinct at = here-file first places name h distinct.0 ∙ ap file_in (sym at)
place-file (first ∷ places) name (suc i) place h distinct at = skip-file first places name h.0 ∙ place-file places name i place h.1 distinct.1 at

-- the room of a name is that of its place
pub place-room : (places : List Place) (name : List ℕ) (i : ℕ) (place : Place) → IsPlaceOf places name i → place ≡ get_or places i place → room_at (rooms_of places) name ≡ Some place.room
place-room [] name i place h at = absurd h
place-room (first ∷ places) name zero place h at = here-room first places name h ∙ ap (λ (p : Place). Some p.room) (sym at)
place-room (first ∷ places) name (suc i) place h at = skip-room first places name h.0 ∙ place-room places name i place h.1 at

-- A place whose name stays takes the place of the old one.

pub set-place : (places : List Place) (name : List ℕ) (i : ℕ) (new : Place) → IsPlaceOf places name i → new.name.items ≡ name → IsPlaceOf (set places i new) name i
set-place [] name i new h named = absurd h
set-place (first ∷ places) name zero new h named = named
set-place (first ∷ places) name (suc i) new h named = (h.0, set-place places name i new h.1 named)

set-lacks : (places : List Place) (i : ℕ) (new : Place) (other : List ℕ) → Lacks places other → new.name.items ≢ other → Lacks (set places i new) other
set-lacks [] i new other h differs = tt
set-lacks (first ∷ places) zero new other h differs = (differs, h.1)
set-lacks (first ∷ places) (suc i) new other h differs = (h.0, set-lacks places i new other h.1 differs)

pub set-distinct : (places : List Place) (name : List ℕ) (i : ℕ) (new : Place) → IsPlaceOf places name i → new.name.items ≡ name → IsDistinct places → IsDistinct (set places i new)
set-distinct [] name i new h named distinct = absurd h
set-distinct (first ∷ places) name zero new h named distinct =
    (let P : List ℕ → Type 0 = λ n. Lacks places n in subst P (h ∙ sym named) distinct.0, distinct.1)
set-distinct (first ∷ places) name (suc i) new h named distinct =
    (set-lacks places i new first.name.items distinct.0 (λ same. h.0 (sym same ∙ named)), set-distinct places name i new h.1 named distinct.1)

pub set-file : (places : List Place) (name : List ℕ) (i : ℕ) (new : Place) → IsPlaceOf places name i → new.name.items ≡ name → IsDistinct places → file_at (files_of (set places i new)) name ≡ file_in new
set-file [] name i new h named distinct = absurd h
set-file (first ∷ places) name zero new h named distinct =
    here-file new places name named (let P : List ℕ → Type 0 = λ n. Lacks places n in subst P (h ∙ sym named) distinct.0)
set-file (first ∷ places) name (suc i) new h named distinct =
    skip-file first (set places i new) name h.0 ∙ set-file places name i new h.1 named distinct.1

more_file : (b : Bool) (f : NamedFile) (fs gs : Files) (other : List ℕ) → file_at fs other ≡ file_at gs other → file_at (if b then f ∷ fs else fs) other ≡ file_at (if b then f ∷ gs else gs) other
more_file true f fs gs other h = rw h refl
more_file false f fs gs other h = h

pub set-file_other : (places : List Place) (name : List ℕ) (i : ℕ) (new : Place) (other : List ℕ) → IsPlaceOf places name i → new.name.items ≡ name → other ≢ name → file_at (files_of (set places i new)) other ≡ file_at (files_of places) other
set-file_other [] name i new other h named differs = absurd h
set-file_other (first ∷ places) name zero new other h named differs =
    skip-file new places other (λ same. differs (sym same ∙ named)) ∙ sym (skip-file first places other (λ same. differs (sym same ∙ h)))
set-file_other (first ∷ places) name (suc i) new other h named differs =
    more_file first.held (record { name = first.name.items; bytes = first.bytes.items }) (files_of (set places i new)) (files_of places) other (set-file_other places name i new other h.1 named differs)

pub set-room : (places : List Place) (name : List ℕ) (i : ℕ) (new : Place) → IsPlaceOf places name i → new.name.items ≡ name → room_at (rooms_of (set places i new)) name ≡ Some new.room
set-room [] name i new h named = absurd h
set-room (first ∷ places) name zero new h named = here-room new places name named
set-room (first ∷ places) name (suc i) new h named = skip-room first (set places i new) name h.0 ∙ set-room places name i new h.1 named

pub set-room_other : (places : List Place) (name : List ℕ) (i : ℕ) (new : Place) (other : List ℕ) → IsPlaceOf places name i → new.name.items ≡ name → other ≢ name → room_at (rooms_of (set places i new)) other ≡ room_at (rooms_of places) other
set-room_other [] name i new other h named differs = absurd h
set-room_other (first ∷ places) name zero new other h named differs =
    skip-room new places other (λ same. differs (sym same ∙ named)) ∙ sym (skip-room first places other (λ same. differs (sym same ∙ h)))
set-room_other (first ∷ places) name (suc i) new other h named differs = rw (set-room_other places name i new other h.1 named differs) refl

-- the files stay where the place keeps its file
pub set-files : (places : List Place) (i : ℕ) (old new : Place) → old ≡ get_or places i old → new.held ≡ old.held → new.name.items ≡ old.name.items → new.bytes.items ≡ old.bytes.items → files_of (set places i new) ≡ files_of places
set-files [] i old new at held name bytes = refl
set-files (first ∷ places) zero old new at held name bytes = rw (held, name, bytes, at) refl
set-files (first ∷ places) (suc i) old new at held name bytes = rw (set-files places i old new at held name bytes) refl

-- the rooms stay where the place keeps its room
pub set-rooms : (places : List Place) (i : ℕ) (old new : Place) → old ≡ get_or places i old → new.name.items ≡ old.name.items → new.room ≡ old.room → rooms_of (set places i new) ≡ rooms_of places
set-rooms [] i old new at name room = refl
set-rooms (first ∷ places) zero old new at name room = rw (name, room, at) refl
set-rooms (first ∷ places) (suc i) old new at name room = rw (set-rooms places i old new at name room) refl

-- A place is made at the end, for a name that has none.

push-lacks : (places : List Place) (new : Place) (other : List ℕ) → Lacks places other → new.name.items ≢ other → Lacks (places ++ new ∷ []) other
push-lacks [] new other h differs = (differs, tt)
push-lacks (first ∷ places) new other h differs = (h.0, push-lacks places new other h.1 differs)

pub push-place : (places : List Place) (name : List ℕ) (new : Place) → Lacks places name → new.name.items ≡ name → IsPlaceOf (places ++ new ∷ []) name (length places)
push-place [] name new h named = named
push-place (first ∷ places) name new h named = (h.0, push-place places name new h.1 named)

pub push-distinct : (places : List Place) (new : Place) → Lacks places new.name.items → IsDistinct places → IsDistinct (places ++ new ∷ [])
push-distinct [] new lacks distinct = (tt, tt)
push-distinct (first ∷ places) new lacks distinct =
    (push-lacks places new first.name.items distinct.0 (λ same. lacks.0 (sym same)), push-distinct places new lacks.1 distinct.1)

pub push-files : (places : List Place) (new : Place) → new.held ≡ false → files_of (places ++ new ∷ []) ≡ files_of places
push-files [] new unheld = rw unheld refl
push-files (first ∷ places) new unheld = rw (push-files places new unheld) refl

pub push-room : (places : List Place) (name : List ℕ) (new : Place) → Lacks places name → new.name.items ≡ name → room_at (rooms_of (places ++ new ∷ [])) name ≡ Some new.room
push-room [] name new h named = here-room new [] name named
push-room (first ∷ places) name new h named = skip-room first (places ++ new ∷ []) name h.0 ∙ push-room places name new h.1 named

pub push-room_other : (places : List Place) (new : Place) (other : List ℕ) → new.name.items ≢ other → room_at (rooms_of (places ++ new ∷ [])) other ≡ room_at (rooms_of places) other
push-room_other [] new other differs = skip-room new [] other differs
push-room_other (first ∷ places) new other differs = rw (push-room_other places new other differs) refl

-- The search for a name, place by place.

pub lacks-more : (places : List Place) (name : List ℕ) (i : ℕ) (place : Place) → place ≡ get_or places i place → place.name.items ≢ name → Lacks (take i places) name → Lacks (take (suc i) places) name
lacks-more [] name i place at differs h = tt
lacks-more (first ∷ places) name zero place at differs h = (λ same. differs (ap (λ (p : Place). p.name.items) at ∙ same), tt)
lacks-more (first ∷ places) name (suc i) place at differs h = (h.0, lacks-more places name i place at differs h.1)

pub lacks-place : (places : List Place) (name : List ℕ) (i : ℕ) (place : Place) → i < length places → place ≡ get_or places i place → place.name.items ≡ name → Lacks (take i places) name → IsPlaceOf places name i
lacks-place [] name i place below at same h = absurd (omega arith)
lacks-place (first ∷ places) name zero place below at same h = sym (ap (λ (p : Place). p.name.items) at) ∙ same
lacks-place (first ∷ places) name (suc i) place below at same h = (h.0, lacks-place places name i place (omega arith) at same h.1)

-- What `make_room` makes.

-- a place that was there, with more room
pub widened : (places : List Place) (name : List ℕ) (room i : ℕ) (old new : Place) → IsPlaceOf places name i → old ≡ get_or places i old → new.held ≡ old.held → new.name ≡ old.name → new.bytes.items ≡ old.bytes.items → new.room ≡ max old.room room → RoomMade places (set places i new) name room i
widened places name room i old new h at held named bytes wider =
    let items : new.name.items ≡ name = ap (λ (v : Vec ℕ Global). v.items) named ∙ place-name places name i old h at in
    record {
      place = set-place places name i new h items;
      files = set-files places i old new at held (ap (λ (v : Vec ℕ Global). v.items) named) bytes;
      made = set-room places name i new h items ∙ ap Some (wider ∙ ap (λ (o : Option ℕ). max (unwrap_or o 0) room) (sym (place-room places name i old h at)));
      others = λ other differs. set-room_other places name i new other h items differs;
    }

-- a place that is new
pub made_new : (places : List Place) (name : List ℕ) (room : ℕ) (new : Place) → Lacks places name → new.name.items ≡ name → new.room ≡ room → new.held ≡ false → RoomMade places (places ++ new ∷ []) name room (length places)
made_new places name room new lacks named with_room unheld = record {
  place = push-place places name new lacks named;
  files = push-files places new unheld;
  made = push-room places name new lacks named ∙ ap Some (with_room ∙ (let zero_max : room ≡ max 0 room = omega arith in zero_max) ∙ ap (λ (o : Option ℕ). max (unwrap_or o 0) room) (sym (lacks-room places name lacks)));
  others = λ other differs. push-room_other places new other (λ same. differs (sym same ∙ named));
}

-- where memory ran out, the places are as they were
pub not_widened : (places : List Place) (i : ℕ) (old new : Place) → old ≡ get_or places i old → new.held ≡ old.held → new.name ≡ old.name → new.bytes.items ≡ old.bytes.items → new.room ≡ old.room → SamePlaces places (set places i new)
not_widened places i old new at held named bytes room =
    let items : new.name.items ≡ old.name.items = ap (λ (v : Vec ℕ Global). v.items) named in
    record { files = set-files places i old new at held items bytes; rooms = set-rooms places i old new at items room }

-- the places stay distinct where the name stays
pub renamed-distinct : (places : List Place) (name : List ℕ) (i : ℕ) (old new : Place) → IsPlaceOf places name i → old ≡ get_or places i old → new.name ≡ old.name → IsDistinct places → IsDistinct (set places i new)
renamed-distinct places name i old new h at named distinct =
    set-distinct places name i new h (ap (λ (v : Vec ℕ Global). v.items) named ∙ place-name places name i old h at) distinct

pub on_err : {T E : Type 0} {P : Type 0} (r : Result T E) → P → OnErr r P
on_err (Ok _) p = tt
on_err (Err _) p = p

-- What a write to a file makes.

-- the file of a name has changed, and nothing else
pub record Refilled (old new : List Place) (name : List ℕ) (bytes : Option (List ℕ)) : Type 0 where
  pub file : file_at (files_of new) name ≡ bytes
  pub others : KeepsOthers name (files_of old) (files_of new)
  pub rooms : rooms_of new ≡ rooms_of old
  pub distinct : IsDistinct new

pub refilled : (places : List Place) (name : List ℕ) (i : ℕ) (old new : Place) → IsPlaceOf places name i → old ≡ get_or places i old → new.name ≡ old.name → new.room ≡ old.room → IsDistinct places → Refilled places (set places i new) name (file_in new)
refilled places name i old new h at named room distinct =
    let items : new.name.items ≡ old.name.items = ap (λ (v : Vec ℕ Global). v.items) named in
    let still : new.name.items ≡ name = items ∙ place-name places name i old h at in
    record {
      file = set-file places name i new h still distinct;
      others = λ other differs. set-file_other places name i new other h still differs;
      rooms = set-rooms places i old new at items room;
      distinct = set-distinct places name i new h still distinct;
    }

-- whether there is a file with room for n more bytes
pub room_decided : (files : Files) (rooms : Rooms) (name : List ℕ) (n : ℕ) (here : Bool) (bytes : List ℕ) (room : ℕ) (r : Bool) → file_at files name ≡ (if here then Some bytes else None) → room_at rooms name ≡ Some room → (IsTrue r ↔ ((here ≡ true) × (length bytes + n ≤ room))) → MatchBool r (¬ HasNoRoom files rooms name n) (HasNoRoom files rooms name n)
room_decided files rooms name n true bytes room true file place fits = λ refused.
    let enough : length bytes + n ≤ room = (fits.0 refl).1 in
    elim refused [ inl none ↦ cc | inr less ↦ absurd (let passed : room < length bytes + n = rw (ap (λ (o : Option ℕ). unwrap_or o 0) place, ap (λ (o : Option (List ℕ)). unwrap_or o []) file) at less in omega arith) ]
room_decided files rooms name n false bytes room true file place fits = λ refused. (let never : false ≡ true = (fits.0 refl).0 in cc)
room_decided files rooms name n true bytes room false file place fits =
    inr (rw (place, file) (elim (cases_lt room (length bytes + n)) [ inl less ↦ less | inr enough ↦ absurd (let never : false ≡ true = fits.1 (refl, enough) in cc) ]))
room_decided files rooms name n false bytes room false file place fits = inl file

-- a file that gained bytes
pub added_file : (r : Bool) (old new : Place) (bytes : List ℕ) → (IsTrue r ↔ ((old.held ≡ true) × (length old.bytes.items + length bytes ≤ old.room))) → new.held ≡ old.held → new.bytes.items ≡ (if r then old.bytes.items ++ bytes else old.bytes.items) → OnTrue r (file_in new ≡ Some (unwrap_or (file_in old) [] ++ bytes))
added_file true old new bytes fits held gained = let there : old.held ≡ true = (fits.0 refl).0 in rw (held, there, gained) refl
added_file false old new bytes fits held gained = tt

-- a file that gained none
pub unchanged_file : (r : Bool) (places : List Place) (i : ℕ) (old new : Place) (bytes : List ℕ) → old ≡ get_or places i old → new.held ≡ old.held → new.name ≡ old.name → new.bytes.items ≡ (if r then old.bytes.items ++ bytes else old.bytes.items) → OnFalse r (files_of (set places i new) ≡ files_of places)
unchanged_file true places i old new bytes at held named gained = tt
unchanged_file false places i old new bytes at held named gained = set-files places i old new at held (ap (λ (v : Vec ℕ Global). v.items) named) gained
