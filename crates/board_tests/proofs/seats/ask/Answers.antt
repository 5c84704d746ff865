use Rattle.std.specs.Prelude.{Some}
use Rattle.pf_model.specs.declared.Op.TheVariants.{Bisect}
use Rattle.board_tests.proofs.Lending.{noted_lends}
use Rattle.board_tests.proofs.seats.ask.Goals as goal

pub note-at-requires-clause-fails : goal.note-at-requires-clause-fails
note-at-requires-clause-fails c = (c.in-Some.cond, c.in-Some.ensures)

pub returns-in-Some-clause-lends : goal.returns-in-Some-clause-lends
returns-in-Some-clause-lends c = noted_lends c.note-at.result c.args.s.now c.note-at.new.s (Some (record { chunk = c.args.chunk; op = Bisect c.args.a c.args.b })) c.note-at.ensures.told c.note-at.ensures.kept c.requires.lends
