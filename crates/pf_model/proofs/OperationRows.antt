-- Worked meshes, computed on the definitions: bisections, contractions and owners.
use Rattle.std.specs.Prelude.{◌≡◌, ℕ, zero, suc, ◌*◌, List, [], ◌∷◌, pos, negsuc, ℤ, Some, None, refl}
use Rattle.pf_model.specs.declared.Tri.{Tri}
use Rattle.pf_model.specs.declared.Site.{Site}
use Rattle.pf_model.specs.declared.Op.{Op}
use Rattle.pf_model.specs.declared.Op.TheVariants.{Flip, Bisect, Contract}
use Rattle.pf_model.specs.declared.Entry.{Entry}
use Rattle.pf_model.specs.declared.Cond.TheVariants.{NoEdge, Foreign, TooShort, NotLongest, OddMidpoint, TooWide, Pinched, Corner, OffBoundary, LinkNode, Inverts, TooLong}
use Rattle.pf_model.specs.Mesh.{Undivided}
use Rattle.pf_model.specs.Ends.{gone_end}
use Rattle.pf_model.specs.Applied.{applied}
use Rattle.pf_model.specs.Conditions.{first_failing}
use Rattle.pf_model.specs.Replay.{replayed, IsLegal}
use Rattle.pf_model.specs.Sums.{area2_of}
use Rattle.pf_model.specs.Build.{default_band}
use Rattle.pf_model.proofs.Rows.{at, site, t, mesh, square, kite_sites}

-- the entry of an operation by chunk 0
abbrev pub run : ℕ → Op → Entry
run k op = record { ticket = k; chunk = 0; op = op }

-- the mesh with these bounds of squared lengths everywhere
abbrev pub sized : ℤ → ℤ → Undivided → Undivided
sized least most m = record m { bands = record default_band { min2 = least; max2 = most } ∷ [] }

-- the triangle of an owner
abbrev owned_by : ℕ → ℕ → ℕ → ℕ → Tri
owned_by owner a b c = record { a = a; b = b; c = c; owner = owner }

-- the square with the middle of its diagonal
abbrev pub quartered : Undivided
quartered =
    mesh 4
    (site 0 (at (pos 0) (pos 0)) ∷ site 1 (at (pos 4) (pos 0)) ∷ site 2 (at (pos 4) (pos 4)) ∷ site 3 (at (pos 0) (pos 4)) ∷ site 4 (at (pos 2) (pos 2)) ∷ [])
    (t 0 1 4 ∷ t 0 4 3 ∷ t 1 2 4 ∷ t 2 3 4 ∷ [])

square-bisected : applied square (run 0 (Bisect 0 2)) ≡ quartered
square-bisected = refl

square-bisected_turned : applied square (run 0 (Bisect 2 0)) ≡ quartered
square-bisected_turned = refl

square-bisect : first_failing square 0 (Bisect 2 0) ≡ None
square-bisect = refl

quartered-area : area2_of quartered ≡ pos 32
quartered-area = refl

-- the ticket counts new names from the first new one
bisected_later : (applied square (run 3 (Bisect 0 2))).tris ≡ t 0 1 7 ∷ t 0 7 3 ∷ t 1 2 7 ∷ t 2 3 7 ∷ []
bisected_later = refl

-- the new node is contracted again
square-legal : IsLegal square (run 0 (Bisect 0 2) ∷ run 1 (Contract 4 0) ∷ [])
square-legal = (refl, refl, (refl, refl, tt))

square-again : replayed square (run 0 (Bisect 0 2) ∷ run 1 (Contract 4 0) ∷ []) ≡ square
square-again = refl

square-gone : gone_end square (Contract 4 0) ≡ Some 4
square-gone = refl

square-gone_edge : first_failing square 0 (Contract 4 0) ≡ Some NoEdge
square-gone_edge = refl

-- a squared length of 32 against four times the least
square-too_short : first_failing (sized (pos 9) (pos 1000) square) 0 (Bisect 0 2) ≡ Some (TooShort 0 2)
square-too_short = refl

square-long_enough : first_failing (sized (pos 8) (pos 1000) square) 0 (Bisect 0 2) ≡ None
square-long_enough = refl

square-not_longest : first_failing square 0 (Bisect 0 1) ≡ Some (NotLongest 0 2)
square-not_longest = refl

-- the squared lengths are 9, 5 and 2, and the middle of the first isn't whole
odd_middle : first_failing (mesh 3 (site 0 (at (pos 0) (pos 0)) ∷ site 1 (at (pos 3) (pos 0)) ∷ site 2 (at (pos 1) (pos 1)) ∷ []) (t 0 1 2 ∷ [])) 0 (Bisect 0 1) ≡ Some OddMidpoint
odd_middle = refl

square-corner : first_failing square 0 (Contract 1 0) ≡ Some Corner
square-corner = refl

-- two triangles beside each other, whose common corner 1 lies on a straight side
abbrev pub tent : Undivided
tent = mesh 4 (site 0 (at (pos 0) (pos 0)) ∷ site 1 (at (pos 4) (pos 0)) ∷ site 2 (at (pos 8) (pos 0)) ∷ site 3 (at (pos 4) (pos 4)) ∷ []) (t 0 1 3 ∷ t 1 2 3 ∷ [])

-- one triangle is left
abbrev lean : Undivided
lean = mesh 4 (site 0 (at (pos 0) (pos 0)) ∷ site 2 (at (pos 8) (pos 0)) ∷ site 3 (at (pos 4) (pos 4)) ∷ []) (t 0 2 3 ∷ [])

tent-contract : first_failing tent 0 (Contract 1 0) ≡ None
tent-contract = refl

tent-contracted : applied tent (run 0 (Contract 1 0)) ≡ lean
tent-contracted = refl

tent-area : area2_of tent ≡ pos 32
tent-area = refl

lean-area : area2_of lean ≡ pos 32
lean-area = refl

tent-off_boundary : first_failing tent 0 (Contract 1 3) ≡ Some OffBoundary
tent-off_boundary = refl

tent-too_long : first_failing (sized (pos 0) (pos 63) tent) 0 (Contract 1 0) ≡ Some (TooLong 0 2)
tent-too_long = refl

tent-just_long : first_failing (sized (pos 0) (pos 64) tent) 0 (Contract 1 0) ≡ None
tent-just_long = refl

-- node 3 is a neighbour of both ends of the edge 1 2, and no triangle has all three
abbrev roof : Undivided
roof = mesh 5 (site 0 (at (pos 0) (pos 0)) ∷ site 1 (at (pos 4) (pos 0)) ∷ site 2 (at (pos 16) (pos 0)) ∷ site 3 (at (pos 4) (pos 12)) ∷ site 4 (at (pos 8) (pos 4)) ∷ []) (t 0 1 3 ∷ t 1 2 4 ∷ t 1 4 3 ∷ t 2 3 4 ∷ [])

roof-link_node : first_failing roof 0 (Contract 1 2) ≡ Some (LinkNode 3)
roof-link_node = refl

roof-contract : first_failing roof 0 (Contract 1 0) ≡ None
roof-contract = refl

roof-contracted : (applied roof (run 0 (Contract 1 0))).tris ≡ t 0 2 4 ∷ t 0 4 3 ∷ t 2 3 4 ∷ []
roof-contracted = refl

-- a dart: node 0 inside, and node 2 at the notch
abbrev dart : Undivided
dart = mesh 5 (site 0 (at (pos 4) (pos 3)) ∷ site 1 (at (pos 0) (pos 0)) ∷ site 2 (at (pos 4) (pos 1)) ∷ site 3 (at (pos 8) (pos 0)) ∷ site 4 (at (pos 4) (pos 8)) ∷ []) (t 0 1 2 ∷ t 0 2 3 ∷ t 0 3 4 ∷ t 0 4 1 ∷ [])

dart-inverts : first_failing dart 0 (Contract 0 1) ≡ Some (Inverts 2 3)
dart-inverts = refl

dart-contract : first_failing dart 0 (Contract 0 2) ≡ None
dart-contract = refl

dart-contracted : (applied dart (run 0 (Contract 0 2))).tris ≡ t 1 2 4 ∷ t 2 3 4 ∷ []
dart-contracted = refl

dart-area : area2_of dart ≡ pos 56
dart-area = refl

dart-area_after : area2_of (applied dart (run 0 (Contract 0 2))) ≡ pos 56
dart-area_after = refl

-- two triangles that meet in node 0 alone
abbrev pub bow_tie : Undivided
bow_tie = mesh 5 (site 0 (at (pos 0) (pos 0)) ∷ site 1 (at (pos 4) (pos 0)) ∷ site 2 (at (pos 4) (pos 4)) ∷ site 3 (at (negsuc 3) (pos 0)) ∷ site 4 (at (negsuc 3) (negsuc 3)) ∷ []) (t 0 1 2 ∷ t 0 3 4 ∷ [])

bow_tie-pinched : first_failing bow_tie 0 (Contract 0 1) ≡ Some Pinched
bow_tie-pinched = refl

-- nodes on a parabola, from this one on
abbrev bow : ℕ → ℕ → List Site
bow zero k = []
bow (suc n) k = site k (at (pos k) (pos (k * k))) ∷ bow n (suc k)

-- triangles at node 0 over the steps of the parabola
abbrev rays : ℕ → ℕ → List Tri
rays zero k = []
rays (suc n) k = t 0 k (suc k) ∷ rays n (suc k)

-- 61 triangles at node 0 are too many, and 60 are not
too_wide : first_failing (mesh 63 (bow 63 0) (rays 61 1)) 0 (Contract 0 1) ≡ Some TooWide
too_wide = refl

just_wide : first_failing (mesh 62 (bow 62 0) (rays 60 1)) 0 (Contract 0 1) ≡ Some Corner
just_wide = refl

-- the kite, each triangle with an owner of its own
abbrev pub kite_of_two : Undivided
kite_of_two = record (mesh 4 kite_sites (owned_by 0 0 1 2 ∷ owned_by 1 0 3 1 ∷ [])) { chunks = 2 }

two-flipped : (applied kite_of_two (run 0 (Flip 0 1))).tris ≡ owned_by 0 0 3 2 ∷ owned_by 1 1 2 3 ∷ []
two-flipped = refl

two-bisected : (applied kite_of_two (run 0 (Bisect 0 1))).tris ≡ owned_by 1 0 3 4 ∷ owned_by 0 0 4 2 ∷ owned_by 0 1 2 4 ∷ owned_by 1 1 4 3 ∷ []
two-bisected = refl

two-either : first_failing kite_of_two 1 (Bisect 0 1) ≡ None
two-either = refl

two-foreign : first_failing kite_of_two 1 (Bisect 0 2) ≡ Some Foreign
two-foreign = refl

two-foreign_contract : first_failing kite_of_two 1 (Contract 2 0) ≡ Some Foreign
two-foreign_contract = refl

-- the middle of the kite's long edge is contracted onto an apex: each triangle keeps its owner
two-contracted : (applied (applied kite_of_two (run 0 (Bisect 0 1))) (run 1 (Contract 4 2))).tris ≡ owned_by 1 0 3 2 ∷ owned_by 1 1 2 3 ∷ []
two-contracted = refl
