use Rattle.std.proofs.Common.{◌≡◌, length, inl}
use Rattle.std.proofs.Math.ListN.{set}
use Rattle.pf_shelf.specs.Files.{file_at}
use Rattle.pf_shelf.specs.Places.{IsPlaceOf, Lacks, files_of, rooms_of}
use Rattle.pf_shelf.proofs.PlaceLemmas.{Refilled, refilled, file_in, place-file, place-room, lacks-file, room_decided, added_file, unchanged_file}
use Rattle.pf_shelf.proofs.places.add_bytes.Goals as goal

found : (c : goal.After-places-1) → IsPlaceOf c.args.places.now.items c.args.name.now c.in-Some.i
found c = rw (← c.deref.ensures.value) (c.in-Some.ensures).found

written : (c : goal.After-places-1) → Refilled c.args.places.now.items (set c.args.places.now.items c.in-Some.i c.add.new.place) c.args.name.now (file_in c.add.new.place)
written c =
    refilled c.args.places.now.items c.args.name.now c.in-Some.i c.index_mut.result.now c.add.new.place (found c)
    c.index_mut.ensures.value c.add.ensures.name c.add.ensures.room c.requires.distinct

file : (c : goal.After-places-1) → file_at (files_of c.args.places.now.items) c.args.name.now ≡ file_in c.index_mut.result.now
file c = place-file c.args.places.now.items c.args.name.now c.in-Some.i c.index_mut.result.now (found c) c.requires.distinct c.index_mut.ensures.value

pub returns-in-Some-clause-no_room : goal.returns-in-Some-clause-no_room
returns-in-Some-clause-no_room c =
    room_decided (files_of c.args.places.now.items) (rooms_of c.args.places.now.items) c.args.name.now (length c.args.bytes.now)
    c.index_mut.result.now.held c.index_mut.result.now.bytes.items c.index_mut.result.now.room c.add.result
    (file c) (place-room c.args.places.now.items c.args.name.now c.in-Some.i c.index_mut.result.now (found c) c.index_mut.ensures.value) c.add.ensures.fits

pub returns-in-Some-clause-added : goal.returns-in-Some-clause-added
returns-in-Some-clause-added c = rw ((written c).file, file c) (added_file c.add.result c.index_mut.result.now c.add.new.place c.args.bytes.now c.add.ensures.fits c.add.ensures.held c.add.ensures.bytes)

pub returns-in-Some-clause-others : goal.returns-in-Some-clause-others
returns-in-Some-clause-others c = (written c).others

pub returns-in-Some-clause-same : goal.returns-in-Some-clause-same
returns-in-Some-clause-same c =
    unchanged_file c.add.result c.args.places.now.items c.in-Some.i c.index_mut.result.now c.add.new.place c.args.bytes.now
    c.index_mut.ensures.value c.add.ensures.held c.add.ensures.name c.add.ensures.bytes

pub returns-in-Some-clause-rooms : goal.returns-in-Some-clause-rooms
returns-in-Some-clause-rooms c = (written c).rooms

pub returns-in-Some-clause-distinct : goal.returns-in-Some-clause-distinct
returns-in-Some-clause-distinct c = (written c).distinct

pub returns-in-None-clause-no_room : goal.returns-in-None-clause-no_room
returns-in-None-clause-no_room c =
    let lacks : Lacks c.args.places.now.items c.args.name.now = rw (← c.deref.ensures.value) (c.in-None.ensures).none in
    inl (lacks-file c.args.places.now.items c.args.name.now lacks)
