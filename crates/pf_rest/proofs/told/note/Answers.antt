use Rattle.std.proofs.Common.{◌<◌, length, arith}
use Rattle.pf_rest.proofs.ToldNotes.{told-more}
use Rattle.pf_rest.proofs.told.note.Goals as goal

pub returns : goal.returns
returns c = λ m edges op e are at is.
    let within : c.args.place < length c.args.told.now.items = omega (arith, c.if-place-len.false, c.len.ensures, c.args.told.now.ok) in
    told-more m edges op c.args.told.now.items c.args.place record { cond = c.args.cond } e within are at is
