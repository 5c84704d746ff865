use Rattle.std.proofs.Common.{◌≡◌, ◌++◌, drop}
use Rattle.row_text.proofs.Writing.{text_of}
use Rattle.table_text.specs.Part.{owner_words, part_text_of}
use Rattle.table_text.proofs.part.owners_text.Given as goal

-- what was written, and the text of the triangles that are left
abbrev pub invariant-loop-tri : goal.invariant-loop-tri
invariant-loop-tri l = l.text.items ++ text_of owner_words (drop l.tri-index l.tris) ≡ part_text_of l.fn.tris
