-- The conditions on the star of the node that goes, one after another.
use Rattle.std.proofs.Common.{◌≡◌, ℕ, ◌<◌, ◌≤◌, List, ◌∷◌, sym, ◌∙◌, ap, subst, true, false, not, arith, inl, inr}
use Rattle.std.specs.Prelude.{All, Contains, Option, Some, nat_lt, length, slice_index_or, refl}
use Rattle.std.proofs.lemmas.Bool.Decides.{nat_tests}
use Rattle.std.proofs.lemmas.List.Elements.{Contains-get_or}
use Rattle.pf_model.specs.declared.Band.{Band}
use Rattle.pf_model.specs.declared.Spoke.{Spoke}
use Rattle.pf_model.specs.declared.Side.{Side}
use Rattle.pf_model.specs.declared.Cond.TheVariants.{TooWide, Pinched}
use Rattle.pf_model.specs.Clauses.{when, first_of}
use Rattle.pf_model.specs.Mesh.{Undivided}
use Rattle.pf_model.specs.Conforming.{IsConforming}
use Rattle.pf_model.specs.Rows.{contract_rows, star_rows}
use Rattle.pf_model.specs.Stars.{Star, star_of, spokes_of, is_one_fan}
use Rattle.pf_star_model.specs.Lent.{sight_of}
use Rattle.pf_star_model.proofs.Shown.{star_parts, place-shown, spokes-placed}
use Rattle.pf_rules.specs.Star.{IsSpokePlaced}

-- too many triangles
pub too-wide : (w : Undivided) (u v : ℕ) (l r : Option Side) (us vs : List Spoke) → 60 < length us → Some TooWide ≡ first_of (contract_rows w u v l r us vs)
too-wide w u v l r us vs h = ap (λ b. first_of (when b TooWide ∷ when (not (is_one_fan us)) Pinched ∷ star_rows w u v l r us vs)) (sym (wide (length us) h))
  where
    wide : (n : ℕ) → 60 < n → nat_lt 60 n ≡ true
    wide n k = grind (arith, nat_tests)

-- few enough
few : (n : ℕ) → n ≤ 60 → nat_lt 60 n ≡ false
few n k = grind (arith, nat_tests)

-- few, and no one fan
pub pinched : (w : Undivided) (u v : ℕ) (l r : Option Side) (us vs : List Spoke) → length us ≤ 60 → is_one_fan us ≡ false → Some Pinched ≡ first_of (contract_rows w u v l r us vs)
pinched w u v l r us vs h f = λ i. first_of (when (sym (few (length us) h) i) TooWide ∷ when (not (sym f i)) Pinched ∷ star_rows w u v l r us vs)

-- few, and one fan
pub fanned : (w : Undivided) (u v : ℕ) (l r : Option Side) (us vs : List Spoke) → length us ≤ 60 → is_one_fan us ≡ true → first_of (star_rows w u v l r us vs) ≡ first_of (contract_rows w u v l r us vs)
fanned w u v l r us vs h f = λ i. first_of (when (sym (few (length us) h) i) TooWide ∷ when (not (sym f i)) Pinched ∷ star_rows w u v l r us vs)

-- the spokes of a star of a conforming mesh are where the star shows their nodes
pub star-placed : (m : Undivided) → IsConforming m → (bands : List Band) (u : ℕ) (s : Star) → star_of m u ≡ Some s → All (IsSpokePlaced (sight_of bands (Some s))) s.spokes
star-placed m ok bands u s h = λ k d within. one (slice_index_or s.spokes k d) (Contains-get_or s.spokes k d within)
  where
    one : (x : Spoke) → Contains s.spokes x → IsSpokePlaced (sight_of bands (Some s)) x
    one x i =
        let p = star_parts m u s h in
        let j : Contains (spokes_of m u) x = subst (λ ss. Contains ss x) p.spokes i in
        let at = spokes-placed m u x j in
        subst (λ o. IsSpokePlaced (sight_of bands o) x) h record { right = at.right ∙ sym (place-shown m bands u x.right p.live (inr (x, j, inl refl))); left = at.left ∙ sym (place-shown m bands u x.left p.live (inr (x, j, inr refl))) }
