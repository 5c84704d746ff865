-- The names of a mesh that is built are below the first new one.
-- Assumes nothing.
use Rattle.std.proofs.Common.{◌≡◌, ℕ, suc, ◌+◌, ◌<◌, List, [], ◌∷◌, length, refl, ap, subst, Bool, true, false, cond, ◌⊎◌, inl, inr, arith}
use Rattle.std.specs.Prelude.{Contains, Option, Some, None, Result, Ok, Err, is_some, map, ◌==◌}
use Rattle.std.specs.List.{list_any}
use Rattle.std.proofs.lemmas.Bool.Decides.{nat_tests}
use Rattle.pf_geom.specs.declared.Point.{Point}
use Rattle.pf_model.specs.declared.Tri.{Tri}
use Rattle.pf_model.specs.declared.Site.{Site}
use Rattle.pf_model.specs.declared.BuildErr.{BuildErr}
use Rattle.pf_model.specs.Mesh.{Undivided, has_corner, point_of}
use Rattle.pf_model.specs.Applied.{IsFresh}
use Rattle.pf_model.specs.Build.{turned_left, first_fault, sites_from, mesh_with, built}
use Rattle.pf_model.proofs.Members.{nowhere, here, there, cases, filter-out}

-- a live name is a site's
live_site : (ss : List Site) (n : ℕ) → is_some (point_of ss n) ≡ true → (s : Site) × Contains ss s × (s.name ≡ n)
live_site [] n h = absurd (let e : false ≡ true = h in cc)
live_site (s ∷ ss) n h = go (s.name == n) refl h (λ k. live_site ss n k)
  where
    named : (a : ℕ) → (a == n) ≡ true → a ≡ n
    named a e = grind (arith, nat_tests)

    go : (b : Bool) → (s.name == n) ≡ b → is_some (cond b (Some s.at) (point_of ss n)) ≡ true → (is_some (point_of ss n) ≡ true → (r : Site) × Contains ss r × (r.name ≡ n)) → (r : Site) × Contains (s ∷ ss) r × (r.name ≡ n)
    go true e k ih = (s, here s ss, named s.name e)
    go false e k ih = let r = ih k in (r.0, there r.0 s ss r.1, r.2)

sites_from-below : (k : ℕ) (points : List Point) (s : Site) → Contains (sites_from k points) s → s.name < k + length points
sites_from-below k [] s h = absurd (nowhere s h)
sites_from-below k (p ∷ ps) s h = go (cases s record { name = k; at = p } (sites_from (suc k) ps) h) (λ r. sites_from-below (suc k) ps s r)
  where
    go : (s ≡ record { name = k; at = p }) ⊎ Contains (sites_from (suc k) ps) s → (Contains (sites_from (suc k) ps) s → s.name < suc k + length ps) → s.name < k + suc (length ps)
    go (inl e) ih = let a : s.name ≡ k = ap (λ w. w.name) e in omega (arith, a)
    go (inr r) ih = let a = ih r in omega (arith, a)

mesh_with-fresh : (points : List Point) (tris : List Tri) → IsFresh (mesh_with points tris) 0
mesh_with-fresh points tris n l =
    let s = live_site (mesh_with points tris).sites n l in
    let f = (filter-out (λ r. list_any (has_corner r.name) tris) s.0 (sites_from 0 points) s.1).0 in
    let b = sites_from-below 0 points s.0 f in
    let e = s.2 in
    omega (arith, b, e)

pub built-fresh : (points : List Point) (tris : List (List ℕ)) (m : Undivided) → built points tris ≡ Ok m → IsFresh m 0
built-fresh points tris m h = go (first_fault points [] 0 tris) h
  where
    ok_same : (x y : Undivided) → (let a : Result Undivided BuildErr = Ok x in a ≡ Ok y) → x ≡ y
    ok_same x y e = cc

    go : (f : Option BuildErr) → (let r : Result Undivided BuildErr = elim f [ Some fault ↦ Err fault | None ↦ Ok (mesh_with points (map (turned_left points) tris)) ] in r ≡ Ok m) → IsFresh m 0
    go (Some fault) k = absurd (let a : Result Undivided BuildErr = Err fault in let w : a ≡ Ok m = k in cc)
    go None k = subst (λ w. IsFresh w 0) (ok_same _ _ k) (mesh_with-fresh points (map (turned_left points) tris))

-- the first new name is the number of points
pub built-first : (points : List Point) (tris : List (List ℕ)) (m : Undivided) → built points tris ≡ Ok m → length points ≡ m.first_new
built-first points tris m h = go (first_fault points [] 0 tris) h
  where
    go : (f : Option BuildErr) → (let r : Result Undivided BuildErr = elim f [ Some fault ↦ Err fault | None ↦ Ok (mesh_with points (map (turned_left points) tris)) ] in r ≡ Ok m) → length points ≡ m.first_new
    go (Some fault) k = absurd (let a : Result Undivided BuildErr = Err fault in let w : a ≡ Ok m = k in cc)
    go None k =
        let is : mesh_with points (map (turned_left points) tris) ≡ m = cc in
        ap (λ w. w.first_new) is
