use Rattle.std.proofs.Common.{◌∙◌, sym, ap, ◌++◌, ◌∷◌, [], refl, false, length}
use Rattle.std.proofs.lemmas.List.Elements.{All-get_or}
use Rattle.pf_shelf.specs.Places.{IsPlaceOf, Lacks, IsRoomy, RoomMade}
use Rattle.pf_shelf.specs.declared.places.Place.{Place}
use Rattle.pf_shelf.proofs.PlaceLemmas.{widened, not_widened, made_new, renamed-distinct, push-distinct, place-below, on_err}
use Rattle.pf_shelf.proofs.places.make_room.Goals as goal

pub widen-requires : goal.widen-requires
widen-requires c =
    let at : IsPlaceOf c.args.places.now.items c.args.name.now c.in-Some.i = rw (← c.deref.ensures.value) (c.in-Some.ensures).found in
    rw c.index_mut.ensures.value (All-get_or IsRoomy c.args.places.now.items c.in-Some.i c.index_mut.result.now (place-below c.args.places.now.items c.args.name.now c.in-Some.i at) c.requires.roomy)

pub returns-in_err-widen-in-Some-clause-err : goal.returns-in_err-widen-in-Some-clause-err
returns-in_err-widen-in-Some-clause-err c =
    on_err c.from_residual.result (not_widened c.args.places.now.items c.in-Some.i c.index_mut.result.now c.widen.new.place c.index_mut.ensures.value
    (c.in_err-widen-in-Some.ensures).held (c.in_err-widen-in-Some.ensures).name (c.in_err-widen-in-Some.ensures).bytes (c.in_err-widen-in-Some.ensures).room)

pub returns-in_err-widen-in-Some-clause-distinct : goal.returns-in_err-widen-in-Some-clause-distinct
returns-in_err-widen-in-Some-clause-distinct c =
    let at : IsPlaceOf c.args.places.now.items c.args.name.now c.in-Some.i = rw (← c.deref.ensures.value) (c.in-Some.ensures).found in
    renamed-distinct c.args.places.now.items c.args.name.now c.in-Some.i c.index_mut.result.now c.widen.new.place at c.index_mut.ensures.value
    (c.in_err-widen-in-Some.ensures).name c.requires.distinct

pub returns-in_ok-widen-in-Some-clause-ok : goal.returns-in_ok-widen-in-Some-clause-ok
returns-in_ok-widen-in-Some-clause-ok c =
    let at : IsPlaceOf c.args.places.now.items c.args.name.now c.in-Some.i = rw (← c.deref.ensures.value) (c.in-Some.ensures).found in
    widened c.args.places.now.items c.args.name.now c.args.room c.in-Some.i c.index_mut.result.now c.widen.new.place at c.index_mut.ensures.value
    (c.in_ok-widen-in-Some.ensures).held (c.in_ok-widen-in-Some.ensures).name (c.in_ok-widen-in-Some.ensures).bytes (c.in_ok-widen-in-Some.ensures).room

pub returns-in_ok-widen-in-Some-clause-distinct : goal.returns-in_ok-widen-in-Some-clause-distinct
returns-in_ok-widen-in-Some-clause-distinct c =
    let at : IsPlaceOf c.args.places.now.items c.args.name.now c.in-Some.i = rw (← c.deref.ensures.value) (c.in-Some.ensures).found in
    renamed-distinct c.args.places.now.items c.args.name.now c.in-Some.i c.index_mut.result.now c.widen.new.place at c.index_mut.ensures.value
    (c.in_ok-widen-in-Some.ensures).name c.requires.distinct

pub returns-in_ok-push-in-None-clause-ok : goal.returns-in_ok-push-in-None-clause-ok
returns-in_ok-push-in-None-clause-ok c =
    let lacks : Lacks c.args.places.now.items c.args.name.now = rw (← c.deref.ensures.value) (c.in-None.ensures).none in
    let new : Place = record { name = c.in_ok-name-in-None.name; room = c.args.room; held = false; bytes = c.in_ok-bytes-in-None.bytes } in
    let made : RoomMade c.args.places.now.items (c.args.places.now.items ++ new ∷ []) c.args.name.now c.args.room (length c.args.places.now.items) =
    made_new c.args.places.now.items c.args.name.now c.args.room new lacks (c.in_ok-name-in-None.ensures).items refl refl in
    let lengths = sym (ap length c.deref.ensures.value) ∙ c.deref.ensures.len in
    rw ((c.in_ok-push-in-None.ensures).items, c.len-i.ensures, ← lengths) made

pub returns-in_ok-push-in-None-clause-distinct : goal.returns-in_ok-push-in-None-clause-distinct
returns-in_ok-push-in-None-clause-distinct c =
    let lacks : Lacks c.args.places.now.items c.args.name.now = rw (← c.deref.ensures.value) (c.in-None.ensures).none in
    rw ((c.in_ok-push-in-None.ensures).items) (push-distinct c.args.places.now.items _ (rw ((c.in_ok-name-in-None.ensures).items) lacks) c.requires.distinct)
