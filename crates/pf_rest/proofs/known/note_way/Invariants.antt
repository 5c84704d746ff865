use Rattle.std.proofs.Common.{List}
use Rattle.pf_model.specs.Mesh.{Undivided}
use Rattle.pf_model.specs.Lengths.{Edge}
use Rattle.pf_edge_list.specs.declared.edges.Sided.{Sided}
use Rattle.pf_rest.specs.Rest.{AreAtEnds, IsEnd, LeadTo}
use Rattle.pf_rest.proofs.known.note_way.Given as goal

-- what was noted is true
abbrev pub invariant-loop-place : goal.invariant-loop-place
invariant-loop-place l = (m : Undivided) (edges : List Sided) (t : Edge) → AreAtEnds m edges l.fn.ends.items → LeadTo m edges l.way t → IsEnd m t l.end → AreAtEnds m edges l.ends.items
