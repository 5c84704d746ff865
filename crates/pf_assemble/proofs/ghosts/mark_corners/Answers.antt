use Rattle.std.proofs.Common.{◌∙◌, ap, ◌==◌}
use Rattle.pf_assemble.specs.Rows.{marked}
use Rattle.pf_assemble.proofs.Filling.{three-corners}
use Rattle.pf_assemble.proofs.ghosts.mark_corners.Goals as goal

pub returns-clause-marked : goal.returns-clause-marked
returns-clause-marked c = λ p q h w d l.
    c.in_ok-mark-3.ensures.marked p _ (c.in_ok-mark-2.ensures.marked p _ (c.in_ok-mark.ensures.marked p q h)) w d l
    ∙ ap (marked (p w) c.args.chunk) (three-corners (c.args.t.a == w) (c.args.t.b == w) (c.args.t.c == w) (q w))
