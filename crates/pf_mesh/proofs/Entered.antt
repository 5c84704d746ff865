-- The triangles of a mesh that are entered into a table, from the last to the first.
use Rattle.std.proofs.Common.{◌≡◌, ◌≢◌, ℕ, zero, suc, ◌+◌, ◌<◌, List, [], ◌∷◌, length, drop, get_or, sym, ◌∙◌, subst, true, false, inl, inr, Option, Some, arith, unwrap_or, pos, ap}
use Rattle.std.specs.Prelude.{All, Contains}
use Rattle.std.proofs.lemmas.List.Elements.{Contains-get_or, All-get_or}
use Rattle.pf_geom.specs.declared.Point.{Point}
use Rattle.pf_geom.specs.Plane.{IsInRange}
use Rattle.pf_model.specs.declared.Tri.{Tri}
use Rattle.pf_model.specs.declared.Site.{Site}
use Rattle.pf_model.specs.Rising.{AreDifferent}
use Rattle.pf_model.specs.Mesh.{Undivided, has_edge, point_of}
use Rattle.pf_model.specs.Build.{point_at}
use Rattle.pf_model.specs.Conforming.{IsConforming, IsLive}
use Rattle.pf_model.specs.Exchange.{AreOnce, AreSound, IsTurned, SharesNoEdge}
use Rattle.pf_model.proofs.Members.{here, there}
use Rattle.pf_model.proofs.Exchange.{bool_cases}
use Rattle.pf_model.proofs.Spokes.{rising-different}
use Rattle.pf_star_model.proofs.Shown.{point_of-name}
use Rattle.pf_edges.specs.declared.table.Node.{Node}
use Rattle.pf_edges.specs.Table.{Sides, place_at, HasSamePlaces, HasNamedCorners, ShowsTriangles}
use Rattle.pf_edges.specs.Kept.{IsKept}
use Rattle.pf_apply.proofs.MeshLemmas.{all-within, shows-from}
use Rattle.pf_sweep.specs.Points.{ArePoints, origin}
use Rattle.pf_sweep.proofs.PointsByName.{point-in_range}

sound-tail : (t : Tri) (ts : List Tri) → AreSound (t ∷ ts) → AreSound ts
sound-tail t ts s = record { turned = λ x h. s.turned x (there x t ts h); once = s.once.1; edges_once = λ x y p q h k. s.edges_once x y p q (there x t ts h) (there y t ts k) }

pub sound-drop : (k : ℕ) (ts : List Tri) → AreSound ts → AreSound (drop k ts)
sound-drop zero ts s = s
sound-drop (suc k) [] s = s
sound-drop (suc k) (t ∷ ts) s = sound-drop k ts (sound-tail t ts s)

pub first-turned : (t : Tri) (ts : List Tri) → AreSound (t ∷ ts) → IsTurned t
first-turned t ts s = s.turned t (here t ts)

pub shares-none : (t : Tri) (ts : List Tri) → AreSound (t ∷ ts) → SharesNoEdge t ts
shares-none t ts s x p q h e = elim (bool_cases (has_edge p q x)) [ inl f ↦ absurd (s.once.0 x h (s.edges_once t x p q (here t ts) (there x t ts h) e f)) | inr f ↦ f ]

once-from : (ts : List Tri) → AreDifferent ts → AreOnce ts
once-from [] d = tt
once-from (t ∷ ts) d = (d.0, once-from ts d.1)

pub mesh-sound : (m : Undivided) → IsConforming m → AreSound m.tris
mesh-sound m ok = record { turned = λ t h. (let p = ok.proper t h in record { least = p.least; least' = p.least'; apart = p.apart }); once = once-from m.tris (rising-different m.tris ok.tris_rise); edges_once = ok.edges_once }

-- the corners are names of the table
pub mesh-within : (nodes : List Node) (names : ℕ) (m : Undivided) → IsConforming m → names ≡ length nodes → All (λ s. s.name < names) m.sites → All (HasNamedCorners nodes) m.tris
mesh-within nodes names m ok e named = all-within nodes m ok live m.tris (λ t h. h)
  where
    live : (n : ℕ) → IsLive m n → n < length nodes
    live n l = let s = point_of-name m.sites n l in let a : s.0.name < names = subst (λ (w : Site). w.name < names) s.1.2 (named s.1.0 s.0 s.1.1) in let b = s.2 in omega (arith, a, b, e)

-- a table of the points, with the triangles, keeps the mesh
pub table-keeps : (sides : Sides) (nodes : List Node) (points : List Point) (m : Undivided) → IsConforming m → ArePoints points m.sites → All IsInRange points → ((n : ℕ) → place_at nodes n ≡ point_at points n) → ShowsTriangles sides nodes m.tris → IsKept sides nodes m
table-keeps sides nodes points m ok p all places s =
    record {
      conforming = ok;
      shows = shows-from sides nodes m ok s (λ n q e. places n ∙ (p.each n ∙ ap (λ o. unwrap_or o origin) e));
      in_range = record { each = λ n. subst (λ w. IsInRange w) (sym (places n)) (point-in_range points n all) };
    }

-- the names of a table stay
pub still-within : (old new : List Node) (t : Tri) → HasSamePlaces old new → HasNamedCorners old t → HasNamedCorners new t
still-within old new t s w = let n = s.names in let a = w.first in let b = w.second in let d = w.third in record { first = omega (arith, n, a); second = omega (arith, n, b); third = omega (arith, n, d) }
