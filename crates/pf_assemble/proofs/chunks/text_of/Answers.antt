use Rattle.std.proofs.Common.{◌∙◌, ◌++◌, ap, sym}
use Rattle.pf_assemble.specs.Listed.{part_text}
use Rattle.pf_assemble.proofs.Loops.{ranged-more}
use Rattle.pf_assemble.proofs.chunks.text_of.Goals as goal

pub chunks-preserved : goal.chunks-preserved
chunks-preserved c =
    c.in_ok-put_listed.ensures
    ∙ (ap (λ l. l ++ part_text c.args.stars.now c.args.tris.now c.args.chunks c.chunks.chunk) c.chunks.invariant
    ∙ sym (ranged-more (part_text c.args.stars.now c.args.tris.now c.args.chunks) c.chunks.chunk))
