use Rattle.std.specs.Prelude.{None}
use Rattle.board_tests.proofs.Lending.{noted_lends}
use Rattle.board_tests.proofs.seats.count.Goals as goal

pub returns-clause-lends : goal.returns-clause-lends
returns-clause-lends c = noted_lends c.note.result c.args.s.now c.note.new.s None c.note.ensures.told c.note.ensures.kept c.requires.lends
