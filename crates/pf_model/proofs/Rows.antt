-- Worked meshes, computed on the definitions: what is built, flips and texts.
use Rattle.std.specs.Prelude.{◌≡◌, ℕ, List, [], ◌∷◌, pos, negsuc, ℤ, Some, None, Ok, Err, codes, refl}
use Rattle.std.specs.Fmt.{digits}
use Rattle.pf_geom.specs.declared.Point.{Point}
use Rattle.pf_model.specs.declared.Tri.{Tri}
use Rattle.pf_model.specs.declared.Site.{Site}
use Rattle.pf_model.specs.declared.Op.TheVariants.{Flip}
use Rattle.pf_model.specs.declared.Entry.{Entry}
use Rattle.pf_model.specs.declared.Cond.TheVariants.{NoEdge, Foreign, OnBoundary, NotConvex, NotShorter, EdgeThere}
use Rattle.pf_model.specs.declared.BuildErr.TheVariants.{BadNode, Flat, EdgeTwice}
use Rattle.pf_model.specs.Mesh.{Undivided}
use Rattle.pf_model.specs.Conditions.{first_failing}
use Rattle.pf_model.specs.Replay.{replayed, IsLegal}
use Rattle.pf_model.specs.Sums.{area2_of}
use Rattle.pf_model.specs.Build.{built, default_band}
use Rattle.pf_model.specs.Texts.{mesh_node_text, mesh_ele_text, journal_text, replay_report}

abbrev pub at : ℤ → ℤ → Point
at x y = record { x = x; y = y }

abbrev pub site : ℕ → Point → Site
site n p = record { name = n; at = p }

abbrev pub t : ℕ → ℕ → ℕ → Tri
t a b c = record { a = a; b = b; c = c; owner = 0 }

abbrev corners : ℕ → ℕ → ℕ → List ℕ
corners a b c = a ∷ b ∷ c ∷ []

abbrev pub mesh : ℕ → List Site → List Tri → Undivided
mesh n ss ts = record { first_new = n; sites = ss; tris = ts; bands = default_band ∷ []; chunks = 1 }

abbrev flip : ℕ → ℕ → ℕ → Entry
flip k a b = record { ticket = k; chunk = 0; op = Flip a b }

-- a square of side 4 with the diagonal 0 2
abbrev pub square : Undivided
square = mesh 4 (site 0 (at (pos 0) (pos 0)) ∷ site 1 (at (pos 4) (pos 0)) ∷ site 2 (at (pos 4) (pos 4)) ∷ site 3 (at (pos 0) (pos 4)) ∷ []) (t 0 1 2 ∷ t 0 2 3 ∷ [])

abbrev kite_points : List Point
kite_points = at (pos 0) (pos 0) ∷ at (pos 8) (pos 0) ∷ at (pos 4) (pos 2) ∷ at (pos 4) (negsuc 1) ∷ []

abbrev pub kite_sites : List Site
kite_sites = site 0 (at (pos 0) (pos 0)) ∷ site 1 (at (pos 8) (pos 0)) ∷ site 2 (at (pos 4) (pos 2)) ∷ site 3 (at (pos 4) (negsuc 1)) ∷ []

-- two triangles over the edge 0 1, which is longer than the line between their apexes
abbrev pub kite : Undivided
kite = mesh 4 kite_sites (t 0 1 2 ∷ t 0 3 1 ∷ [])

-- the kite flipped
abbrev pub kite_flipped : Undivided
kite_flipped = mesh 4 kite_sites (t 0 3 2 ∷ t 1 2 3 ∷ [])

kite-built : built kite_points (corners 0 1 2 ∷ corners 1 0 3 ∷ []) ≡ Ok kite
kite-built = refl

kite-passes : first_failing kite 0 (Flip 0 1) ≡ None
kite-passes = refl

kite-legal : IsLegal kite (flip 0 0 1 ∷ [])
kite-legal = (refl, refl, tt)

kite-replayed : replayed kite (flip 0 0 1 ∷ []) ≡ kite_flipped
kite-replayed = refl

kite-area : area2_of kite ≡ pos 32
kite-area = refl

kite-area_after : area2_of kite_flipped ≡ pos 32
kite-area_after = refl

kite-node : mesh_node_text 0 kite_flipped ≡ codes "4 2 0 0\n0 0 0\n1 8 0\n2 4 2\n3 4 -2\n"
unfolding digits
kite-node = refl

kite-ele : mesh_ele_text 0 kite_flipped ≡ codes "2 3 0\n0 0 3 2\n1 1 2 3\n"
unfolding digits
kite-ele = refl

kite-journal : journal_text (flip 0 0 1 ∷ []) ≡ codes "parfum journal 1\n0 0 flip 0 1\nend 1\n"
unfolding digits
kite-journal = refl

kite-report : replay_report 1 kite_flipped ≡ codes "operations 1\nnodes 4\ntriangles 2\narea2 32\n"
unfolding digits
kite-report = refl

-- numbered from 1
square-node : mesh_node_text 1 square ≡ codes "4 2 0 0\n1 0 0\n2 4 0\n3 4 4\n4 0 4\n"
unfolding digits
square-node = refl

square-ele : mesh_ele_text 1 square ≡ codes "2 3 0\n1 1 2 3\n2 1 3 4\n"
unfolding digits
square-ele = refl

-- names that are not live leave no gap in the numbers
renumbered_node : mesh_node_text 0 (mesh 4 (site 0 (at (pos 0) (pos 0)) ∷ site 2 (at (pos 8) (pos 0)) ∷ site 3 (at (pos 4) (pos 4)) ∷ []) (t 0 2 3 ∷ [])) ≡ codes "3 2 0 0\n0 0 0\n1 8 0\n2 4 4\n"
unfolding digits
renumbered_node = refl

renumbered_ele : mesh_ele_text 0 (mesh 4 (site 0 (at (pos 0) (pos 0)) ∷ site 2 (at (pos 8) (pos 0)) ∷ site 3 (at (pos 4) (pos 4)) ∷ []) (t 0 2 3 ∷ [])) ≡ codes "1 3 0\n0 0 1 2\n"
unfolding digits
renumbered_ele = refl

-- both diagonals of the square are as long
square-flip : first_failing square 0 (Flip 0 2) ≡ Some NotShorter
square-flip = refl

square-no_edge : first_failing square 0 (Flip 1 3) ≡ Some NoEdge
square-no_edge = refl

square-same_name : first_failing square 0 (Flip 2 2) ≡ Some NoEdge
square-same_name = refl

square-boundary : first_failing square 0 (Flip 0 1) ≡ Some OnBoundary
square-boundary = refl

square-foreign : first_failing square 1 (Flip 0 2) ≡ Some Foreign
square-foreign = refl

-- both apexes lie beyond the end of the edge
not_convex : first_failing (mesh 4 (site 0 (at (pos 0) (pos 0)) ∷ site 1 (at (pos 12) (pos 0)) ∷ site 2 (at (pos 14) (pos 4)) ∷ site 3 (at (pos 14) (negsuc 3)) ∷ []) (t 0 1 2 ∷ t 0 3 1 ∷ [])) 0 (Flip 0 1) ≡ Some NotConvex
not_convex = refl

-- the kite with a triangle over the edge that the flip would make
edge_there : first_failing (mesh 5 (site 0 (at (pos 0) (pos 0)) ∷ site 1 (at (pos 8) (pos 0)) ∷ site 2 (at (pos 4) (pos 2)) ∷ site 3 (at (pos 4) (negsuc 1)) ∷ site 4 (at (pos 12) (pos 0)) ∷ []) (t 0 1 2 ∷ t 0 3 1 ∷ t 2 3 4 ∷ [])) 0 (Flip 0 1) ≡ Some (EdgeThere 2 3)
edge_there = refl

-- a clockwise triangle is turned round, and a point in no triangle is dropped
turned_round : built (at (pos 0) (pos 0) ∷ at (pos 4) (pos 0) ∷ at (pos 9) (pos 9) ∷ at (pos 0) (pos 4) ∷ []) (corners 0 3 1 ∷ []) ≡ Ok (mesh 4 (site 0 (at (pos 0) (pos 0)) ∷ site 1 (at (pos 4) (pos 0)) ∷ site 3 (at (pos 0) (pos 4)) ∷ []) (t 0 1 3 ∷ []))
turned_round = refl

flat : built (at (pos 0) (pos 0) ∷ at (pos 2) (pos 0) ∷ at (pos 4) (pos 0) ∷ []) (corners 0 1 2 ∷ []) ≡ Err (Flat 0)
flat = refl

-- a corner twice has no area
corner_twice : built (at (pos 0) (pos 0) ∷ at (pos 4) (pos 0) ∷ at (pos 0) (pos 4) ∷ []) (corners 0 1 1 ∷ []) ≡ Err (Flat 0)
corner_twice = refl

edge_twice : built (at (pos 0) (pos 0) ∷ at (pos 4) (pos 0) ∷ at (pos 0) (pos 4) ∷ []) (corners 0 1 2 ∷ corners 1 2 0 ∷ []) ≡ Err (EdgeTwice 0 1)
edge_twice = refl

bad_node : built (at (pos 0) (pos 0) ∷ at (pos 4) (pos 0) ∷ at (pos 0) (pos 4) ∷ []) (corners 0 1 2 ∷ corners 8 7 0 ∷ []) ≡ Err (BadNode 1 8)
bad_node = refl

nothing : built [] [] ≡ Ok (mesh 0 [] [])
nothing = refl
