-- Points by the names of their nodes.
use Rattle.std.specs.Prelude.{◌≡◌, ℕ, List, unwrap_or, pos}
use Rattle.pf_geom.specs.declared.Point.{Point}
use Rattle.pf_model.specs.declared.Site.{Site}
use Rattle.pf_model.specs.Mesh.{point_of}
use Rattle.pf_model.specs.Build.{point_at}

abbrev pub origin : Point
origin = record { x = pos 0; y = pos 0 }

-- at the place of each name stands its point, and the origin where it isn't live
pub record ArePoints (points : List Point) (sites : List Site) : Type 0 where
  pub each : (n : ℕ) → point_at points n ≡ unwrap_or (point_of sites n) origin
