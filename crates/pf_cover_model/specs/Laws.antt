-- Laws of crossings, cover and the Euler number, as statements.
use Rattle.std.specs.Prelude.{◌≡◌, ℤ, pos, ◌+ℤ◌, ◌<ℤ◌, List, None, false, ◌&&◌, int_lt}
use Rattle.pf_geom.specs.declared.Point.{Point}
use Rattle.pf_geom.specs.Plane.{orient_of}
use Rattle.pf_model.specs.declared.Entry.{Entry}
use Rattle.pf_model.specs.Mesh.{Undivided}
use Rattle.pf_model.specs.Conforming.{IsConforming}
use Rattle.pf_model.specs.Applied.{IsFresh, applied}
use Rattle.pf_model.specs.Conditions.{first_failing}
use Rattle.pf_model.specs.Replay.{replayed, IsLegal}
use Rattle.pf_model.specs.Sums.{cover_of, euler_of}
use Rattle.pf_cover_model.specs.Alike.{CoversAlike, KeepsFans}
use Rattle.pf_cover_model.specs.Crossings.{one_if, crossing_of, crossings_of, is_on, IsOffEdges}

-- the signed crossings of the three edges of a triangle that turns left add up to 1 about a point strictly inside, and to 0
-- about any other point on none of its edges
abbrev pub TriangleIsCrossedInside : Type 0
TriangleIsCrossedInside =
    (p a b c : Point) → pos 0 <ℤ orient_of a b c → is_on p a b ≡ false → is_on p b c ≡ false → is_on p c a ≡ false →
    crossing_of p a b +ℤ (crossing_of p b c +ℤ crossing_of p c a) ≡ one_if (int_lt (pos 0) (orient_of a b p) && (int_lt (pos 0) (orient_of b c p) && int_lt (pos 0) (orient_of c a p)))

-- how many triangles cover a point on no edge is the crossing number of the boundary about it
abbrev pub CoverIsCrossings : Type 0
CoverIsCrossings = (m : Undivided) (p : Point) (q : ℤ) → IsConforming m → pos 0 <ℤ q → IsOffEdges m p q → pos (cover_of m p q) ≡ crossings_of m p q

-- an entry that passes keeps the crossing number about every point, also one on the boundary
abbrev pub OperationKeepsCrossings : Type 0
OperationKeepsCrossings = (m : Undivided) (e : Entry) (p : Point) (q : ℤ) → IsConforming m → IsFresh m e.ticket → first_failing m e.chunk e.op ≡ None → crossings_of (applied m e) p q ≡ crossings_of m p q

-- and the cover of every point that is on no edge before and on none after
abbrev pub OperationKeepsCover : Type 0
OperationKeepsCover = (m : Undivided) (e : Entry) → IsConforming m → IsFresh m e.ticket → first_failing m e.chunk e.op ≡ None → CoversAlike m (applied m e)

-- the replay of a legal journal keeps the crossing number about every point
abbrev pub JournalKeepsCrossings : Type 0
JournalKeepsCrossings = (m : Undivided) (entries : List Entry) (p : Point) (q : ℤ) → IsConforming m → IsFresh m 0 → IsLegal m entries → crossings_of (replayed m entries) p q ≡ crossings_of m p q

-- and the cover of every point that is on no edge of the first mesh and on none of the last; edges in between may hold it
abbrev pub JournalKeepsCover : Type 0
JournalKeepsCover = (m : Undivided) (entries : List Entry) → IsConforming m → IsFresh m 0 → IsLegal m entries → CoversAlike m (replayed m entries)

-- an entry that passes keeps the Euler number
abbrev pub OperationKeepsEuler : Type 0
OperationKeepsEuler = (m : Undivided) (e : Entry) → IsConforming m → IsFresh m e.ticket → first_failing m e.chunk e.op ≡ None → euler_of (applied m e) ≡ euler_of m

-- and so does the replay of a legal journal
abbrev pub JournalKeepsEuler : Type 0
JournalKeepsEuler = (m : Undivided) (entries : List Entry) → IsConforming m → IsFresh m 0 → IsLegal m entries → euler_of (replayed m entries) ≡ euler_of m

-- an entry that passes leaves one fan at each node that is live after and had one fan, or wasn't live, before
abbrev pub OperationKeepsOneFan : Type 0
OperationKeepsOneFan = (m : Undivided) (e : Entry) → IsConforming m → IsFresh m e.ticket → first_failing m e.chunk e.op ≡ None → KeepsFans m (applied m e)

-- and so does the replay of a legal journal
abbrev pub JournalKeepsOneFan : Type 0
JournalKeepsOneFan = (m : Undivided) (entries : List Entry) → IsConforming m → IsFresh m 0 → IsLegal m entries → KeepsFans m (replayed m entries)
