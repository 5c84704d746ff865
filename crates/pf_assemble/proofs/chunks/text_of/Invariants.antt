use Rattle.std.proofs.Common.{◌≡◌, flat_map}
use Rattle.std.specs.List.{range_with_len}
use Rattle.pf_assemble.specs.Listed.{part_text}
use Rattle.pf_assemble.proofs.chunks.text_of.Given as goal

-- the text of the chunks before this one
abbrev pub invariant-chunks : goal.invariant-chunks
invariant-chunks l = l.text.items ≡ flat_map (part_text l.stars l.tris l.chunks) (range_with_len 0 l.chunk)
