-- Laws of building and of the operations, as statements.
use Rattle.std.specs.Prelude.{◌≡◌, ℕ, ℤ, pos, ◌+ℤ◌, List, All, length, take, true, None, Ok}
use Rattle.pf_geom.specs.declared.Point.{Point}
use Rattle.pf_geom.specs.Plane.{IsInRange}
use Rattle.pf_model.specs.declared.Op.TheVariants.{Contract}
use Rattle.pf_model.specs.declared.Entry.{Entry}
use Rattle.pf_model.specs.Mesh.{Undivided, DirectedEdge, directed_edges_in, reversed, is_edge}
use Rattle.pf_model.specs.Conforming.{IsConforming}
use Rattle.pf_model.specs.Build.{built}
use Rattle.pf_model.specs.Applied.{IsFresh, applied}
use Rattle.pf_model.specs.Conditions.{first_failing}
use Rattle.pf_model.specs.Replay.{replayed, IsLegal, HasTickets, first_refusal}
use Rattle.pf_model.specs.Sums.{total, area2_of, cross_at, boundary_of}
use Rattle.pf_model.specs.Stars.{spokes_of, is_one_fan}
use Rattle.pf_model.specs.Fans.{IsOneFan}
use Rattle.pf_model.specs.Links.{MeetsLinkCondition}
use Rattle.pf_model.specs.Lengths.{edge_of}
use Rattle.pf_model.specs.Wishes.{IsTerminal, terminal_of}

-- the mesh that is built of points in range and triangles of three corners each, where no fault is found, is conforming
abbrev pub BuiltIsConforming : Type 0
BuiltIsConforming = (points : List Point) (tris : List (List ℕ)) (m : Undivided) → All IsInRange points → All (λ t. length t ≡ 3) tris → built points tris ≡ Ok m → IsConforming m

-- and its live names are below the first new one
abbrev pub BuiltIsFresh : Type 0
BuiltIsFresh = (points : List Point) (tris : List (List ℕ)) (m : Undivided) → built points tris ≡ Ok m → IsFresh m 0

-- a number for each directed edge that changes its sign with the edge's direction: its sum over the edges of all triangles is
-- its sum over the boundary edges
abbrev pub EdgeSumIsBoundarySum : Type 0
EdgeSumIsBoundarySum = (m : Undivided) (f : DirectedEdge → ℤ) → IsConforming m → ((e : DirectedEdge) → f e +ℤ f (reversed e) ≡ pos 0) → total (λ t. total f (directed_edges_in t)) m.tris ≡ total f (boundary_of m)

-- twice the area is the sum of the cross products of the boundary edges alone
abbrev pub AreaIsBoundarySum : Type 0
AreaIsBoundarySum = (m : Undivided) → IsConforming m → area2_of m ≡ total (cross_at m) (boundary_of m)

-- an entry that passes on a conforming mesh, whose live names are below that of its ticket, leaves a conforming mesh
abbrev pub OperationKeepsConforming : Type 0
OperationKeepsConforming = (m : Undivided) (e : Entry) → IsConforming m → IsFresh m e.ticket → first_failing m e.chunk e.op ≡ None → IsConforming (applied m e)

-- and twice the area as it was
abbrev pub OperationKeepsArea : Type 0
OperationKeepsArea = (m : Undivided) (e : Entry) → IsConforming m → IsFresh m e.ticket → first_failing m e.chunk e.op ≡ None → area2_of (applied m e) ≡ area2_of m

-- the replay of a legal journal on a conforming mesh, whose live names are below the first new one, is a conforming mesh
abbrev pub JournalKeepsConforming : Type 0
JournalKeepsConforming = (m : Undivided) (entries : List Entry) → IsConforming m → IsFresh m 0 → IsLegal m entries → IsConforming (replayed m entries)

-- and has its area
abbrev pub JournalKeepsArea : Type 0
JournalKeepsArea = (m : Undivided) (entries : List Entry) → IsConforming m → IsFresh m 0 → IsLegal m entries → area2_of (replayed m entries) ≡ area2_of m

-- a journal whose tickets count up from 0 is legal where no entry of it is refused; and where it is legal, on a conforming mesh
-- whose live names are below the first new one, none is
abbrev pub LegalIsUnrefused : Type 0
LegalIsUnrefused = (m : Undivided) (es : List Entry) → HasTickets es → (first_refusal m es ≡ None → IsLegal m es) × (IsConforming m → IsFresh m 0 → IsLegal m es → first_refusal m es ≡ None)

-- the live names of the replay of entries whose tickets count up from 0 are below the next new one, where those of the mesh are
-- below the first one
abbrev pub NamesStayFresh : Type 0
NamesStayFresh = (m : Undivided) (es : List Entry) → IsFresh m 0 → HasTickets es → IsFresh (replayed m es) (length es)

-- the first entries of a legal journal are a legal one
abbrev pub PrefixIsLegal : Type 0
PrefixIsLegal = (m : Undivided) (es : List Entry) (n : ℕ) → IsLegal m es → IsLegal m (take n es)

-- a contraction that passes on a conforming mesh meets the link condition
abbrev pub ContractionMeetsLinkCondition : Type 0
ContractionMeetsLinkCondition = (m : Undivided) (chunk u v : ℕ) → IsConforming m → first_failing m chunk (Contract u v) ≡ None → MeetsLinkCondition m.tris u v

-- the walk to longer edges, from any edge of any mesh, ends at a terminal edge
abbrev pub WalkEndsAtTerminalEdge : Type 0
WalkEndsAtTerminalEdge = (m : Undivided) (a b : ℕ) → is_edge m.tris a b ≡ true → IsTerminal m (terminal_of m (edge_of a b))

-- the spokes of a node of a conforming mesh pass the test of one fan exactly where they are one cycle or one path
abbrev pub OneFanIsCycleOrPath : Type 0
OneFanIsCycleOrPath = (m : Undivided) (n : ℕ) → IsConforming m → (is_one_fan (spokes_of m n) ≡ true → IsOneFan (spokes_of m n)) × (IsOneFan (spokes_of m n) → is_one_fan (spokes_of m n) ≡ true)
