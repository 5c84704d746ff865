-- Each triangle of a mesh that is built has a place in the list that it is built of.
-- Assumes nothing of the list.
use Rattle.std.proofs.Common.{◌≡◌, ℕ, List, [], map, refl, sym, ◌∙◌, ap, subst, Bool, true, false, cond, inl, inr, arith, Option, Some, None, Result, Ok, Err, pos, ◌&&◌, ◌||◌}
use Rattle.std.specs.Prelude.{nat_lt, int_lt, slice_index}
use Rattle.std.proofs.lemmas.Bool.Decides.{nat_tests}
use Rattle.pf_geom.specs.declared.Point.{Point}
use Rattle.pf_model.specs.declared.Tri.{Tri}
use Rattle.pf_model.specs.declared.BuildErr.{BuildErr}
use Rattle.pf_model.specs.Rising.{sorted_by}
use Rattle.pf_model.specs.Mesh.{Undivided, tri_of, tri_lt}
use Rattle.pf_model.specs.Build.{listed_turn, turned_left, mesh_with, first_fault, built}
use Rattle.pf_model.specs.Tables.{stand_as, stand_round, are_corners, AreListed}
use Rattle.pf_model.proofs.Members.{nowhere, insert_all_by-cases}
use Rattle.pf_model.proofs.Kept.{any-from}
use Rattle.pf_model.proofs.Totals.{map-means}
use Rattle.pf_apply.proofs.OwnersKept.{corners_round}

module _ (c : List ℕ) where
  abbrev one : ℕ
  one = slice_index c 0

  abbrev two : ℕ
  two = slice_index c 1

  abbrev three : ℕ
  three = slice_index c 2

  stand_first : stand_as one two three c ≡ true
  stand_first = grind (arith, nat_tests)

  -- the corners from the first on, and the other way round
  in_turn : are_corners one two three c ≡ true
  in_turn = ap (λ w. (w || (stand_as two three one c || stand_as three one two c)) || stand_round two one three c) stand_first

  turned_round : are_corners one three two c ≡ true
  turned_round = or_second (stand_round one three two c) (stand_as three one two c) (stand_as one two three c) (stand_as two three one c) stand_first
    where
      or_second : (r x y z : Bool) → y ≡ true → (r || (x || (y || z))) ≡ true
      or_second true x y z e = refl
      or_second false true y z e = refl
      or_second false false y z e = ap (λ w. w || z) e

-- the least corner stands first
least_first : (p q z o : ℕ) (c : List ℕ) → are_corners p q z c ≡ true → are_corners (tri_of p q z o).a (tri_of p q z o).b (tri_of p q z o).c c ≡ true
least_first p q z o c h = go (nat_lt p q && nat_lt p z) (nat_lt q z && nat_lt q p)
  where
    holds : Tri → Type 0
    holds t = are_corners t.a t.b t.c c ≡ true

    go : (x y : Bool) → holds (cond x record { a = p; b = q; c = z; owner = o } (cond y record { a = q; b = z; c = p; owner = o } record { a = z; b = p; c = q; owner = o }))
    go true y = h
    go false true = corners_round p q z c ∙ h
    go false false = sym (corners_round z p q c) ∙ h

turned_listed : (points : List Point) (c : List ℕ) → are_corners (turned_left points c).a (turned_left points c).b (turned_left points c).c c ≡ true
turned_listed points c = go (int_lt (pos 0) (listed_turn points c))
  where
    holds : Tri → Type 0
    holds t = are_corners t.a t.b t.c c ≡ true

    go : (x : Bool) → holds (cond x (tri_of (slice_index c 0) (slice_index c 1) (slice_index c 2) 0) (tri_of (slice_index c 0) (slice_index c 2) (slice_index c 1) 0))
    go true = least_first (slice_index c 0) (slice_index c 1) (slice_index c 2) 0 c (in_turn c)
    go false = least_first (slice_index c 0) (slice_index c 2) (slice_index c 1) 0 c (turned_round c)

with_listed : (points : List Point) (tris : List (List ℕ)) → AreListed tris (sorted_by tri_lt (map (turned_left points) tris))
with_listed points tris t h = elim (insert_all_by-cases tri_lt t (map (turned_left points) tris) [] h) [
  | inl a ↦ (let r = map-means (turned_left points) tris t a in any-from (are_corners t.a t.b t.c) r.0 tris r.1 (subst (λ w. are_corners w.a w.b w.c r.0 ≡ true) r.2 (turned_listed points r.0)))
  | inr b ↦ absurd (nowhere t b)
]

pub built-listed : (points : List Point) (tris : List (List ℕ)) (m : Undivided) → built points tris ≡ Ok m → AreListed tris m.tris
built-listed points tris m h = go (first_fault points [] 0 tris) h
  where
    go : (o : Option BuildErr) → elim o as (λ _. Result Undivided BuildErr) [ Some fault ↦ Err fault | None ↦ Ok (mesh_with points (map (turned_left points) tris)) ] ≡ Ok m → AreListed tris m.tris
    go (Some fault) e = absurd (let k = e in cc)
    go None e =
        let is : mesh_with points (map (turned_left points) tris) ≡ m = cc in
        subst (λ k. AreListed tris k.tris) is (with_listed points tris)
