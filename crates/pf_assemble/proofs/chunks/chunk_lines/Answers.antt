use Rattle.std.proofs.Common.{◌∙◌, flat_map}
use Rattle.std.specs.List.{range_with_len}
use Rattle.pf_assemble.specs.Listed.{part_text}
use Rattle.pf_assemble.proofs.Texted.{list-of-mesh}
use Rattle.pf_assemble.proofs.chunks.chunk_lines.Goals as goal

pub returns : goal.returns
returns c =
    c.in_ok-text.ensures
    ∙ ((λ i. flat_map (part_text (c.deref.ensures.value i) (c.tris.ensures.value i) (c.chunks.ensures.value i)) (range_with_len 0 (c.chunks.ensures.value i)))
    ∙ list-of-mesh c.args.m.now.mesh c.in_ok-stars.stars.items c.in_ok-stars.ensures)
