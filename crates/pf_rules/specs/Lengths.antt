-- Edges by their two names, and with their squared lengths.
use Rattle.std.specs.Prelude.{◌≡◌}
use Rattle.pf_model.specs.Mesh.{Undivided, len2_at, place_of}
use Rattle.pf_model.specs.Lengths.{Edge}
use Rattle.pf_rules.specs.declared.lengths.Measured.{Measured}
use Rattle.pf_rules.specs.declared.lengths.Placed.{Placed}
use Rattle.pf_rules.specs.declared.lengths.Span.{Span}

-- the edge
abbrev pub span_value : Span → Edge
span_value s = record { lo = s.lo; hi = s.hi }

-- the squared length is the edge's in the mesh
abbrev pub IsMeasured : Undivided → Measured → Type 0
IsMeasured m e = e.len2 ≡ len2_at m e.edge.lo e.edge.hi

-- the node stands there in the mesh
abbrev pub IsPlaced : Undivided → Placed → Type 0
IsPlaced m n = n.at ≡ place_of m n.name
