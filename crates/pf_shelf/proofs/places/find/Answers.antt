use Rattle.std.proofs.Common.{◌≡◌, ◌∙◌, sym, true, add-one}
use Rattle.std.proofs.lemmas.Bool.Decides.{Decides-eqb}
use Rattle.std.proofs.lemmas.Slice.Eq.{slice_eq-Decides}
use Rattle.pf_shelf.proofs.PlaceLemmas.{lacks-place, lacks-more}
use Rattle.pf_shelf.proofs.places.find.Goals as goal

pub returns-then-eq-clause-found : goal.returns-then-eq-clause-found
returns-then-eq-clause-found c =
    lacks-place c.args.places.now c.args.name.now c.loop-i.i c.index-places-i.result c.loop-i-test.true c.index-places-i.is
    (sym c.as_slice.ensures.value ∙ (slice_eq-Decides Decides-eqb _ _ _ c.eq.ensures).0 c.if-eq.true)
    c.loop-i.invariant

pub loop-i-preserved : goal.loop-i-preserved
loop-i-preserved c =
    rw add-one (lacks-more c.args.places.now c.args.name.now c.loop-i.i c.index-places-i.result c.index-places-i.is
    (λ same. let equal : c.eq.result ≡ true = (slice_eq-Decides Decides-eqb _ _ _ c.eq.ensures).1 (c.as_slice.ensures.value ∙ same) in cc)
    c.loop-i.invariant)
