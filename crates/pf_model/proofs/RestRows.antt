-- Worked meshes, computed on the definitions: edges, boundary, cover, walks, rest lists and their texts.
use Rattle.std.specs.Prelude.{◌≡◌, [], ◌∷◌, pos, negsuc, Some, None, codes, refl}
use Rattle.std.specs.Fmt.{digits}
use Rattle.pf_model.specs.declared.Op.TheVariants.{Bisect}
use Rattle.pf_model.specs.declared.RestLine.TheVariants as line
use Rattle.pf_model.specs.declared.Cond.TheVariants.{Corner, OffBoundary, Inverts}
use Rattle.pf_model.specs.Mesh.{Undivided}
use Rattle.pf_model.specs.Lengths.{edge_of}
use Rattle.pf_model.specs.Applied.{applied}
use Rattle.pf_model.specs.Sums.{edges_of, euler_of, boundary_of, cover_of}
use Rattle.pf_model.specs.Wishes.{next_longer, terminal_of, rest_of}
use Rattle.pf_model.specs.Texts.{rest_text}
use Rattle.pf_model.proofs.Rows.{at, site, t, mesh, square, kite, kite_flipped}
use Rattle.pf_model.proofs.OperationRows.{run, sized, quartered, tent}

square-edges : edges_of square ≡ edge_of 0 1 ∷ edge_of 0 2 ∷ edge_of 0 3 ∷ edge_of 1 2 ∷ edge_of 2 3 ∷ []
square-edges = refl

square-euler : euler_of square ≡ pos 1
square-euler = refl

quartered-euler : euler_of quartered ≡ pos 1
quartered-euler = refl

empty-euler : euler_of (mesh 0 [] []) ≡ pos 0
empty-euler = refl

-- the triangle 0 1 3 apart from the triangle 2 4 5
apart-euler : euler_of (mesh 6 (site 0 (at (pos 0) (pos 0)) ∷ site 1 (at (pos 4) (pos 0)) ∷ site 2 (at (pos 9) (pos 0)) ∷ site 3 (at (pos 0) (pos 4)) ∷ site 4 (at (pos 9) (pos 9)) ∷ site 5 (at (pos 5) (pos 9)) ∷ []) (t 0 1 3 ∷ t 2 4 5 ∷ [])) ≡ pos 2
apart-euler = refl

square-boundary_edges : boundary_of square ≡ record { from = 0; to = 1 } ∷ record { from = 1; to = 2 } ∷ record { from = 2; to = 3 } ∷ record { from = 3; to = 0 } ∷ []
square-boundary_edges = refl

kite-boundary_edges : boundary_of kite ≡ record { from = 0; to = 3 } ∷ record { from = 1; to = 2 } ∷ record { from = 2; to = 0 } ∷ record { from = 3; to = 1 } ∷ []
kite-boundary_edges = refl

kite-boundary_stays : boundary_of kite_flipped ≡ boundary_of kite
kite-boundary_stays = refl

-- a point inside one triangle, one on the diagonal, one outside, and one with halves
square-cover : cover_of square (at (pos 3) (pos 1)) (pos 1) ≡ 1
square-cover = refl

square-cover_on : cover_of square (at (pos 2) (pos 2)) (pos 1) ≡ 0
square-cover_on = refl

square-cover_out : cover_of square (at (pos 5) (pos 1)) (pos 1) ≡ 0
square-cover_out = refl

square-cover_half : cover_of square (at (pos 7) (pos 5)) (pos 2) ≡ 1
square-cover_half = refl

-- triangles that overlap
overlap-cover : cover_of (mesh 5 (site 0 (at (pos 0) (pos 0)) ∷ site 1 (at (pos 8) (pos 0)) ∷ site 2 (at (pos 4) (pos 2)) ∷ site 3 (at (pos 4) (pos 0)) ∷ site 4 (at (pos 12) (pos 0)) ∷ []) (t 0 1 2 ∷ t 2 3 4 ∷ [])) (at (pos 5) (pos 1)) (pos 1) ≡ 2
overlap-cover = refl

square-terminal : terminal_of square (edge_of 0 1) ≡ edge_of 0 2
square-terminal = refl

square-terminal_itself : terminal_of square (edge_of 2 0) ≡ edge_of 0 2
square-terminal_itself = refl

-- two triangles, the second with the longer edge
abbrev stair : Undivided
stair = mesh 4 (site 0 (at (pos 0) (pos 0)) ∷ site 1 (at (pos 3) (pos 0)) ∷ site 2 (at (pos 0) (pos 4)) ∷ site 3 (at (pos 6) (pos 5)) ∷ []) (t 0 1 2 ∷ t 1 3 2 ∷ [])

stair-first : next_longer stair (edge_of 0 1) ≡ Some (edge_of 1 2)
stair-first = refl

stair-second : next_longer stair (edge_of 1 2) ≡ Some (edge_of 2 3)
stair-second = refl

stair-end : next_longer stair (edge_of 2 3) ≡ None
stair-end = refl

stair-terminal : terminal_of stair (edge_of 0 1) ≡ edge_of 2 3
stair-terminal = refl

-- both triangles at the edge 0 1 have a longer edge: the walk goes to that of the left one
abbrev spread : Undivided
spread = mesh 4 (site 0 (at (pos 0) (pos 0)) ∷ site 1 (at (pos 4) (pos 0)) ∷ site 2 (at (pos 0) (pos 5)) ∷ site 3 (at (pos 0) (negsuc 5)) ∷ []) (t 0 1 2 ∷ t 0 3 1 ∷ [])

spread-left : next_longer spread (edge_of 0 1) ≡ Some (edge_of 1 2)
spread-left = refl

spread-right : terminal_of spread (edge_of 0 3) ≡ edge_of 1 3
spread-right = refl

-- each walk ends at the diagonal
square-rest : rest_of (sized (pos 0) (pos 15) square) ≡ line.Long 0 1 0 2 None ∷ line.Long 0 2 0 2 None ∷ line.Long 0 3 0 2 None ∷ line.Long 1 2 0 2 None ∷ line.Long 2 3 0 2 None ∷ []
square-rest = refl

square-rest_one : rest_of (sized (pos 0) (pos 16) square) ≡ line.Long 0 2 0 2 None ∷ []
square-rest_one = refl

-- once the diagonal is bisected, nothing is left
bisected-rest : rest_of (applied (sized (pos 0) (pos 16) square) (run 0 (Bisect 0 2))) ≡ []
bisected-rest = refl

square-rest_none : rest_of square ≡ []
square-rest_none = refl

kite-rest : rest_of kite ≡ line.Flip 0 1 ∷ []
kite-rest = refl

-- the node on the straight side can go either way along it, and the other nodes are corners
tent-rest : rest_of (sized (pos 17) (pos 1000) tent) ≡ line.Short 0 1 (Some Corner) None ∷ line.Short 1 2 None (Some Corner) ∷ line.Short 1 3 (Some OffBoundary) (Some Corner) ∷ []
tent-rest = refl

square-rest_text : rest_text (rest_of (sized (pos 0) (pos 15) square)) ≡ codes "parfum rest 1\nlong 0 1 at 0 2 passes\nlong 0 2 at 0 2 passes\nlong 0 3 at 0 2 passes\nlong 1 2 at 0 2 passes\nlong 2 3 at 0 2 passes\nend 5\n"
unfolding digits
square-rest_text = refl

kite-rest_text : rest_text (rest_of kite) ≡ codes "parfum rest 1\nflip 0 1\nend 1\n"
unfolding digits
kite-rest_text = refl

short-rest_text : rest_text (line.Short 0 1 (Some (Inverts 2 3)) (Some (Inverts 5 6)) ∷ []) ≡ codes "parfum rest 1\nshort 0 1 inverts 2 3 inverts 5 6\nend 1\n"
unfolding digits
short-rest_text = refl

empty-rest_text : rest_text [] ≡ codes "parfum rest 1\nend 0\n"
unfolding digits
empty-rest_text = refl
