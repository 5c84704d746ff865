use Rattle.std.specs.Prelude.{codes, decimal}
use Rattle.trace_text.proofs.WriteLemmas.{eight-words}
use Rattle.trace_text.proofs.write.push_nodes.Goals as goal

pub returns : goal.returns
returns c =
    rw (c.in_ok-push_number-4.ensures, c.in_ok-push_word-4.ensures, c.in_ok-push_number-3.ensures, c.in_ok-push_word-3.ensures, c.in_ok-push_number-2.ensures, c.in_ok-push_word-2.ensures, c.in_ok-push_number.ensures, c.in_ok-push_word.ensures)
    (eight-words c.args.text.now.items (codes "free") (decimal c.args.closing.free) (codes "held") (decimal c.args.closing.held) (codes "dead") (decimal c.args.closing.dead) (codes "never") (decimal c.args.closing.never))
