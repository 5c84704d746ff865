-- What was written is read again.
use Rattle.std.specs.Prelude.{◌≡◌, ℕ, ◌^◌, ◌<◌, ◌≤◌, List, [], ◌∷◌, length, map, Ok, if◌then◌else◌}
use Rattle.pf_lex.specs.Text.{is_nonempty}
use Rattle.pf_model.specs.declared.Tri.{Tri}
use Rattle.pf_model.specs.declared.Site.{Site}
use Rattle.pf_model.specs.Mesh.{Undivided}
use Rattle.pf_model.specs.Conforming.{IsConforming}
use Rattle.pf_model.specs.Texts.{place_among, mesh_node_text, mesh_ele_text}
use Rattle.tri_text.specs.Node.{node_read}
use Rattle.tri_text.specs.Ele.{ele_read}

-- of a mesh with at most 1,048,576 live nodes the points of these nodes are read again in order, with the base from which
-- they were numbered; where there is no live node, the base is 0
abbrev pub WrittenNodesAreReadAgain : Type 0
WrittenNodesAreReadAgain =
    (m : Undivided) (base : ℕ) → IsConforming m → base ≤ 1 → length m.sites ≤ 1048576
    → node_read 1 (mesh_node_text base m) ≡ Ok (record { base = if is_nonempty m.sites then base else 0; points = map (λ s. s.at) m.sites })

-- the corners of a triangle, each as its place among the live names
abbrev pub corner_places : List Site → Tri → List ℕ
corner_places sites t = place_among sites t.a ∷ place_among sites t.b ∷ place_among sites t.c ∷ []

-- of a mesh with at most 2,097,152 triangles the triangles are read again in order over as many vertices as there are live
-- nodes, each corner as its place among the live names
abbrev pub WrittenTrianglesAreReadAgain : Type 0
WrittenTrianglesAreReadAgain =
    (m : Undivided) (base : ℕ) → IsConforming m → base ≤ 1 → length m.sites < 2 ^ 32 → length m.tris ≤ 2097152
    → ele_read base (length m.sites) (mesh_ele_text base m) ≡ Ok (map (corner_places m.sites) m.tris)
