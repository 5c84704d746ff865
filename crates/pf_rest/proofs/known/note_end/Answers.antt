use Rattle.std.proofs.Common.{◌<◌, length, arith}
use Rattle.pf_rest.proofs.WalksLocated.{ends-noted}
use Rattle.pf_rest.proofs.known.note_end.Goals as goal

pub returns : goal.returns
returns c = λ m edges t are lead is.
    let within : c.args.place < length c.args.ends.now.items = omega (arith, c.if-place-len.false, c.len.ensures, c.args.ends.now.ok) in
    ends-noted m edges t c.args.ends.now.items c.args.place c.args.end within are lead is
