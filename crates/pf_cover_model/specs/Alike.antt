-- What a mesh keeps of another one: how often the plane is covered, and fans.
use Rattle.std.specs.Prelude.{◌≡◌, ℕ, ℤ, pos, ◌<ℤ◌, true}
use Rattle.pf_geom.specs.declared.Point.{Point}
use Rattle.pf_model.specs.Mesh.{Undivided}
use Rattle.pf_model.specs.Conforming.{IsLive}
use Rattle.pf_model.specs.Stars.{spokes_of, is_one_fan}
use Rattle.pf_model.specs.Sums.{cover_of}
use Rattle.pf_cover_model.specs.Crossings.{IsOffEdges}

-- each point (x/q, y/q) on no edge of either mesh is strictly inside as many triangles of both
abbrev pub CoversAlike : Undivided → Undivided → Type 0
CoversAlike m r = (p : Point) (q : ℤ) → pos 0 <ℤ q → IsOffEdges m p q → IsOffEdges r p q → cover_of r p q ≡ cover_of m p q

-- each live node of the second mesh has one fan, if it has one in the first or isn't live there
abbrev pub KeepsFans : Undivided → Undivided → Type 0
KeepsFans m r = (n : ℕ) → IsLive r n → (IsLive m n → is_one_fan (spokes_of m n) ≡ true) → is_one_fan (spokes_of r n) ≡ true
