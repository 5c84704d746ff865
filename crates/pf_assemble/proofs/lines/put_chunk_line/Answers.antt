use Rattle.std.specs.Prelude.{codes, decimal}
use Rattle.pf_assemble.proofs.Texted.{ten-words}
use Rattle.pf_assemble.proofs.lines.put_chunk_line.Goals as goal

pub returns : goal.returns
returns c =
    rw (c.in_ok-push_number-5.ensures, c.in_ok-push_word-5.ensures, c.in_ok-push_number-4.ensures, c.in_ok-push_word-4.ensures, c.in_ok-push_number-3.ensures, c.in_ok-push_word-3.ensures, c.in_ok-push_number-2.ensures, c.in_ok-push_word-2.ensures, c.in_ok-push_number.ensures, c.in_ok-push_word.ensures)
    (ten-words c.args.text.now.items (codes "chunk") (decimal c.args.chunk) (codes "triangles") (decimal c.args.counts.triangles) (codes "nodes") (decimal c.args.counts.nodes) (codes "shared") (decimal c.args.counts.shared) (codes "ghosts") (decimal c.args.counts.ghosts))
