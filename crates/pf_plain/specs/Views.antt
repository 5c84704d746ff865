-- What callers see of the holder.
use Rattle.std.specs.Prelude.{List, reverse}
use Rattle.pf_model.specs.declared.Entry.{Entry}
use Rattle.pf_star_model.specs.Lent.{Held}
use Rattle.pf_core_model.specs.Core.{Opening, mesh_after}
use Rattle.pf_plain.specs.declared.plain.Plain.{Plain}
use Rattle.pf_plain.specs.Plains.{opening_of, pairs_at}

-- the mesh that it began with, and how many operations there may be
abbrev pub opening_in : Plain → Opening
opening_in h = opening_of h.mesh.mesh h.budget

-- what it committed, the latest first
abbrev pub entries_in : Plain → List Entry
entries_in h = reverse h.journal.items

-- what it holds, the latest first
abbrev pub pairs_in : Plain → List Held
pairs_in h = pairs_at (mesh_after (opening_in h) h.journal.items) h.nodes.items
