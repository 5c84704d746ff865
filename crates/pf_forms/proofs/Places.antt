-- Where the nodes of a mesh stand.
use Rattle.std.proofs.Common.{ℕ, List, [], ◌∷◌, Bool, true, false, cond, arith}
use Rattle.std.specs.Prelude.{◌==◌, pos, Some, Contains, unwrap_or}
use Rattle.std.proofs.lemmas.Int.{ints}
use Rattle.pf_geom.specs.Plane.{IsInRange}
use Rattle.pf_model.specs.declared.Site.{Site}
use Rattle.pf_model.specs.Mesh.{Undivided, point_of, place_of}
use Rattle.pf_model.specs.Conforming.{IsConforming}
use Rattle.pf_model.proofs.Members.{here, there}

origin-in_range : IsInRange record { x = pos 0; y = pos 0 }
origin-in_range = record { x = record { low = omega (arith, ints); high = omega (arith, ints) }; y = record { low = omega (arith, ints); high = omega (arith, ints) } }

point_of-in_range : (ss : List Site) (n : ℕ) → ((s : Site) → Contains ss s → IsInRange s.at) → IsInRange (unwrap_or (point_of ss n) record { x = pos 0; y = pos 0 })
point_of-in_range [] n all = origin-in_range
point_of-in_range (s ∷ ss) n all = go (s.name == n) (point_of-in_range ss n (λ z h. all z (there z s ss h)))
  where
    go : (b : Bool) → IsInRange (unwrap_or (point_of ss n) record { x = pos 0; y = pos 0 }) → IsInRange (unwrap_or (cond b (Some s.at) (point_of ss n)) record { x = pos 0; y = pos 0 })
    go true ih = all s (here s ss)
    go false ih = ih

pub place_of-in_range : (m : Undivided) (n : ℕ) → IsConforming m → IsInRange (place_of m n)
place_of-in_range m n ok = point_of-in_range m.sites n ok.in_range
