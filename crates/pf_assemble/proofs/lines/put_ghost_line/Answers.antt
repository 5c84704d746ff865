use Rattle.std.specs.Prelude.{codes, decimal}
use Rattle.pf_assemble.proofs.Texted.{six-words}
use Rattle.pf_assemble.proofs.lines.put_ghost_line.Goals as goal

pub returns : goal.returns
returns c =
    rw (c.in_ok-push_number-4.ensures, c.in_ok-push_word-2.ensures, c.in_ok-push_number-3.ensures, c.in_ok-push_number-2.ensures, c.in_ok-push_number.ensures, c.in_ok-push_word.ensures)
    (six-words c.args.text.now.items (codes "ghost") (decimal c.args.t.a) (decimal c.args.t.b) (decimal c.args.t.c) (codes "of") (decimal c.args.t.owner))
