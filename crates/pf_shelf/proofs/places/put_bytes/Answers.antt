use Rattle.std.proofs.Common.{◌≡◌, ◌∙◌, sym, refl, ap, Some, length, max, arith}
use Rattle.std.proofs.Math.ListN.{set}
use Rattle.pf_shelf.specs.Files.{Files, file_at}
use Rattle.pf_shelf.specs.Memory.{Rooms, room_at, room_of}
use Rattle.pf_shelf.specs.Places.{rooms_of}
use Rattle.pf_shelf.proofs.PlaceLemmas.{Refilled, refilled, file_in, place-room}
use Rattle.pf_shelf.proofs.places.put_bytes.Goals as goal

written : (c : goal.After-places-1) → Refilled c.make_room.new.places.items (set c.make_room.new.places.items c.in_ok-i.i c.fill.new.place) c.args.name.now (file_in c.fill.new.place)
written c =
    refilled c.make_room.new.places.items c.args.name.now c.in_ok-i.i c.index_mut.result.now c.fill.new.place (c.in_ok-i.ensures).ok.place
    c.index_mut.ensures.value c.fill.ensures.name c.fill.ensures.room (c.in_ok-i.ensures).distinct

pub fill-requires-clause-fits : goal.fill-requires-clause-fits
fill-requires-clause-fits c =
    let made : Some (max (room_of (rooms_of c.args.places.now.items) c.args.name.now) (length c.args.bytes.now)) ≡ Some c.index_mut.result.now.room =
    sym ((c.in_ok-i.ensures).ok.made) ∙ place-room c.make_room.new.places.items c.args.name.now c.in_ok-i.i c.index_mut.result.now ((c.in_ok-i.ensures).ok.place) c.index_mut.ensures.value in
    let room : max (room_of (rooms_of c.args.places.now.items) c.args.name.now) (length c.args.bytes.now) ≡ c.index_mut.result.now.room = cc in
    omega arith

pub returns-clause-put : goal.returns-clause-put
returns-clause-put c = rw ((written c).file, c.fill.ensures.held, c.fill.ensures.bytes) refl

pub returns-clause-others : goal.returns-clause-others
returns-clause-others c = λ other differs. (written c).others other differs ∙ ap (λ (files : Files). file_at files other) ((c.in_ok-i.ensures).ok.files)

pub returns-clause-room : goal.returns-clause-room
returns-clause-room c = rw ((written c).rooms) ((c.in_ok-i.ensures).ok.made)

pub returns-clause-other_rooms : goal.returns-clause-other_rooms
returns-clause-other_rooms c = λ other differs. ap (λ (rooms : Rooms). room_at rooms other) ((written c).rooms) ∙ (c.in_ok-i.ensures).ok.others other differs

pub returns-clause-distinct : goal.returns-clause-distinct
returns-clause-distinct c = (written c).distinct
