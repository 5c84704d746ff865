use Rattle.std.specs.Prelude.{codes, decimal, [], ◌∷◌}
use Rattle.pf_model.specs.Texts.{line_text}
use Rattle.trace_text.specs.Verdicts.{node_words}
use Rattle.trace_text.proofs.WriteLemmas.{three-lines}
use Rattle.trace_text.proofs.write.push_closing.Goals as goal

pub returns : goal.returns
returns c =
    rw (c.in_ok-push_count-2.ensures, c.in_ok-push_nodes.ensures, c.in_ok-push_count.ensures)
    (three-lines c.args.text.now.items (line_text (codes "tickets" ∷ decimal c.args.closing.tickets ∷ [])) (line_text (node_words c.args.closing)) (line_text (codes "triangles" ∷ decimal c.args.closing.triangles ∷ [])))
