use Rattle.pf_rest.proofs.WalksLocated.{lead-one}
use Rattle.pf_rest.proofs.known.note_way.Goals as goal

pub loop-place-preserved : goal.loop-place-preserved
loop-place-preserved c = λ m edges t are lead is.
    c.note_end.ensures m edges t (c.loop-place.invariant m edges t are lead is) (lead-one m edges c.args.way.now t c.loop-place.place-index _ lead c.loop-place-test.true) is
