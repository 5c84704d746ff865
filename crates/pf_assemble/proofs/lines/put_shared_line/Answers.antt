use Rattle.std.proofs.Common.{◌∙◌, [], ◌∷◌, ◌++◌, ◌==◌, not, ap}
use Rattle.std.specs.Prelude.{codes, decimal, unwrap_or, filter, map, flat_map}
use Rattle.pf_model.specs.Stars.{keeper_in}
use Rattle.pf_model.specs.Texts.{line_text}
use Rattle.pf_assemble.specs.Spaced.{spaced, spaced_other}
use Rattle.pf_assemble.proofs.Loops.{picked}
use Rattle.pf_assemble.proofs.Texted.{words-round}
use Rattle.pf_assemble.proofs.lines.put_shared_line.Goals as goal

pub returns : goal.returns
returns c =
    let others = filter (λ d. not (d == c.args.chunk)) c.args.owners.now in
    rw (c.in_ok-push_number-2.ensures, c.in_ok-push_word-3.ensures, c.in_ok-put_others.ensures, c.in_ok-push_word-2.ensures, c.in_ok-push_number.ensures, c.in_ok-push_word.ensures)
    (words-round c.args.text.now.items (codes "shared") (decimal c.node.result) (codes "with") others (flat_map (spaced_other c.args.chunk) c.args.owners.now) (codes "keeper") (decimal c.keeper_of.result) (picked (λ d. not (d == c.args.chunk)) spaced c.args.owners.now)
    ∙ λ i. c.args.text.now.items ++ line_text (codes "shared" ∷ decimal (c.node.ensures i) ∷ codes "with" ∷ map decimal others ++ codes "keeper" ∷ decimal ((c.keeper_of.ensures ∙ ap (λ ss. unwrap_or (keeper_in ss) 0) c.spokes.ensures.value) i) ∷ []))
