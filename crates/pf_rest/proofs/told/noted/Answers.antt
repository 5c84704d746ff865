use Rattle.pf_rest.proofs.ToldNotes.{told-read}
use Rattle.pf_rest.proofs.told.noted.Goals as goal

pub returns-then-place-told : goal.returns-then-place-told
returns-then-place-told c = told-read c.args.told.now c.args.place c.if-place-told.true
