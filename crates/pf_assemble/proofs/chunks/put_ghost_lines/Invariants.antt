use Rattle.std.proofs.Common.{◌≡◌, ◌++◌, drop, flat_map}
use Rattle.pf_assemble.specs.Placed.{ghost_line}
use Rattle.pf_assemble.proofs.chunks.put_ghost_lines.Given as goal

-- what was put, and the lines that are left
abbrev pub invariant-places : goal.invariant-places
invariant-places l = l.text.items ++ flat_map (ghost_line l.tris) (drop l.place-index l.places) ≡ l.fn.text.items ++ flat_map (ghost_line l.tris) l.places
