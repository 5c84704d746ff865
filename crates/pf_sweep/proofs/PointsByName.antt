-- Points that are put at the places of their names.
use Rattle.std.proofs.Common.{◌≡◌, ◌≢◌, ℕ, ◌+◌, ◌<◌, ◌≤◌, List, [], ◌∷◌, length, get_or, set, refl, sym, ◌∙◌, ap, subst, Bool, true, false, cond, ◌==◌, ◌⊎◌, inl, inr, arith, Option, Some, None, unwrap_or, pos}
use Rattle.std.specs.Prelude.{All, Contains, slice_index_or}
use Rattle.std.proofs.lemmas.Bool.Decides.{nat_tests}
use Rattle.std.proofs.lemmas.Int.{ints}
use Rattle.std.proofs.lemmas.List.{get_or_past, get_or-set_same, get_or-set_other}
use Rattle.std.proofs.lemmas.List.Elements.{Contains-get_or, All-get_or}
use Rattle.pf_geom.specs.declared.Point.{Point}
use Rattle.pf_geom.specs.Plane.{IsInRange}
use Rattle.pf_model.specs.declared.Site.{Site}
use Rattle.pf_model.specs.Mesh.{point_of}
use Rattle.pf_model.specs.Build.{point_at}
use Rattle.pf_sweep.specs.Points.{ArePoints, origin}

pub origin-in_range : IsInRange origin
origin-in_range = record { x = record { low = omega (arith, ints); high = omega (arith, ints) }; y = record { low = omega (arith, ints); high = omega (arith, ints) } }

pub point-in_range : (points : List Point) (n : ℕ) → All IsInRange points → IsInRange (point_at points n)
point-in_range points n all = elim (cases_of n (length points)) [ inl l ↦ All-get_or IsInRange points n origin l all | inr l ↦ subst (λ p. IsInRange p) (sym (get_or_past points n origin l)) origin-in_range ]
  where
    cases_of : (a b : ℕ) → (a < b) ⊎ (b ≤ a)
    cases_of a b = grind arith

same_name : (a b : ℕ) → (a == b) ≡ true → a ≡ b
same_name a b e = grind (arith, nat_tests)

other_name : (a b : ℕ) → (a == b) ≡ false → b ≢ a
other_name a b e = grind (arith, nat_tests)

-- a point more, before those of the later sites
pub points-put : (points : List Point) (s : Site) (ss : List Site) → s.name < length points → ArePoints points ss → ArePoints (set points s.name s.at) (s ∷ ss)
points-put points s ss within p = record { each = λ n. go n (s.name == n) refl }
  where
    go : (n : ℕ) (b : Bool) → (s.name == n) ≡ b → point_at (set points s.name s.at) n ≡ unwrap_or (cond b (Some s.at) (point_of ss n)) origin
    go n true e = subst (λ k. point_at (set points s.name s.at) k ≡ s.at) (same_name s.name n e) (get_or-set_same points s.name s.at origin within)
    go n false e = get_or-set_other points s.name n s.at origin (other_name s.name n e) ∙ p.each n
