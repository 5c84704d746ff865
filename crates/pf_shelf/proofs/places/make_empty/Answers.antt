use Rattle.std.proofs.Common.{◌≡◌, refl, None}
use Rattle.std.proofs.Math.ListN.{set}
use Rattle.pf_shelf.specs.Memory.{room_at}
use Rattle.pf_shelf.specs.Places.{IsPlaceOf, Lacks, rooms_of}
use Rattle.pf_shelf.proofs.PlaceLemmas.{Refilled, refilled, file_in, place-room, lacks-file, lacks-room}
use Rattle.pf_shelf.proofs.places.make_empty.Goals as goal

found : (c : goal.After-places-1) → IsPlaceOf c.args.places.now.items c.args.name.now c.in-Some.i
found c = rw (← c.deref.ensures.value) (c.in-Some.ensures).found

written : (c : goal.After-places-1) → Refilled c.args.places.now.items (set c.args.places.now.items c.in-Some.i c.fill.new.place) c.args.name.now (file_in c.fill.new.place)
written c =
    refilled c.args.places.now.items c.args.name.now c.in-Some.i c.index_mut.result.now c.fill.new.place (found c)
    c.index_mut.ensures.value c.fill.ensures.name c.fill.ensures.room c.requires.distinct

pub returns-in-Some-clause-no_place : goal.returns-in-Some-clause-no_place
returns-in-Some-clause-no_place c = λ absent.
    let none : room_at (rooms_of c.args.places.now.items) c.args.name.now ≡ None = absent.1 in
    let some = place-room c.args.places.now.items c.args.name.now c.in-Some.i c.index_mut.result.now (found c) c.index_mut.ensures.value in
    cc

pub returns-in-Some-clause-empty : goal.returns-in-Some-clause-empty
returns-in-Some-clause-empty c = rw ((written c).file, c.fill.ensures.held, c.fill.ensures.bytes) refl

pub returns-in-Some-clause-others : goal.returns-in-Some-clause-others
returns-in-Some-clause-others c = (written c).others

pub returns-in-Some-clause-rooms : goal.returns-in-Some-clause-rooms
returns-in-Some-clause-rooms c = (written c).rooms

pub returns-in-Some-clause-distinct : goal.returns-in-Some-clause-distinct
returns-in-Some-clause-distinct c = (written c).distinct

pub returns-in-None-clause-no_place : goal.returns-in-None-clause-no_place
returns-in-None-clause-no_place c =
    let lacks : Lacks c.args.places.now.items c.args.name.now = rw (← c.deref.ensures.value) (c.in-None.ensures).none in
    (lacks-file c.args.places.now.items c.args.name.now lacks, lacks-room c.args.places.now.items c.args.name.now lacks)
