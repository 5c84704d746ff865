use Rattle.std.proofs.Common.{sym, refl}
use Rattle.pf_shelf.proofs.PlaceLemmas.{lacks-file, place-file}
use Rattle.pf_shelf.proofs.places.held_bytes.Goals as goal

pub returns-in_err-place : goal.returns-in_err-place
returns-in_err-place c = rw (c.from_residual.ensures) (sym (lacks-file c.args.places.now c.args.name.now (c.in_err-place.ensures).none))

pub returns-then-place : goal.returns-then-place
returns-then-place c =
    rw (place-file c.args.places.now c.args.name.now c.in_ok-place.field-0 c.index-places-branch.result (c.in_ok-place.ensures).found c.requires c.index-places-branch.is, c.if-place.true, c.as_slice.ensures.value) refl

pub returns-else-place : goal.returns-else-place
returns-else-place c =
    rw (place-file c.args.places.now c.args.name.now c.in_ok-place.field-0 c.index-places-branch.result (c.in_ok-place.ensures).found c.requires c.index-places-branch.is, c.if-place.false) refl
