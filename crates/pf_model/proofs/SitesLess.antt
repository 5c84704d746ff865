-- The points of names after one name's site is taken out: the others stay, and names still rise.
use Rattle.std.proofs.Common.{◌≡◌, ◌≢◌, ℕ, ◌<◌, List, [], ◌∷◌, refl, sym, ◌∙◌, ap, Bool, true, false, cond, arith}
use Rattle.std.specs.Prelude.{AllPairs, Some, None, ◌==◌, nat_lt, not, filter}
use Rattle.std.proofs.lemmas.Bool.Decides.{nat_tests}
use Rattle.pf_model.specs.declared.Site.{Site}
use Rattle.pf_model.specs.Mesh.{point_of}
use Rattle.pf_model.proofs.RisingLemmas.{rising-filter}

abbrev pub without_name : ℕ → List Site → List Site
without_name u ss = filter (λ s. not (s.name == u)) ss

pub point_of-without : (u k : ℕ) (ss : List Site) → k ≢ u → point_of (without_name u ss) k ≡ point_of ss k
point_of-without u k [] n = refl
point_of-without u k (s ∷ ss) n = go (s.name == u) refl (point_of-without u k ss n)
  where
    other : (a : ℕ) → (a == u) ≡ true → (a == k) ≡ false
    other a e = grind (arith, nat_tests)

    go : (b : Bool) → (s.name == u) ≡ b → point_of (without_name u ss) k ≡ point_of ss k → point_of (cond (not b) (s ∷ without_name u ss) (without_name u ss)) k ≡ cond (s.name == k) (Some s.at) (point_of ss k)
    go true e ih = ih ∙ sym (ap (λ b. cond b (Some s.at) (point_of ss k)) (other s.name e))
    go false e ih = ap (λ o. cond (s.name == k) (Some s.at) o) ih

pub point_of-gone : (u : ℕ) (ss : List Site) → point_of (without_name u ss) u ≡ None
point_of-gone u [] = refl
point_of-gone u (s ∷ ss) = go (s.name == u) refl (point_of-gone u ss)
  where
    go : (b : Bool) → (s.name == u) ≡ b → point_of (without_name u ss) u ≡ None → point_of (cond (not b) (s ∷ without_name u ss) (without_name u ss)) u ≡ None
    go true e ih = ih
    go false e ih = ap (λ b. cond b (Some s.at) (point_of (without_name u ss) u)) e ∙ ih

pub sites_rise-without : (u : ℕ) (ss : List Site) → AllPairs (λ r s. r.name < s.name) ss → AllPairs (λ r s. r.name < s.name) (without_name u ss)
sites_rise-without u ss up = λ i j d l k. means _ _ (rising-filter (λ r s. nat_lt r.name s.name) (λ s. not (s.name == u)) ss (λ i' j' d' l' k'. test _ _ (up i' j' d' l' k')) i j d l k)
  where
    test : (a b : ℕ) → a < b → nat_lt a b ≡ true
    test a b h = grind (arith, nat_tests)

    means : (a b : ℕ) → nat_lt a b ≡ true → a < b
    means a b h = grind (arith, nat_tests)
