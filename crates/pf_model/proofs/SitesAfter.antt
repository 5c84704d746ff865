-- The points of names after a site is pushed: the old ones stay, the new one is found, and names still rise.
-- Assumes that the new name is above each live name (`AreBelow`).
use Rattle.std.proofs.Common.{◌≡◌, ℕ, ◌<◌, List, [], ◌∷◌, ◌++◌, get_or, refl, sym, ap, Bool, true, false, cond, ◌⊎◌, inl, inr, arith}
use Rattle.std.specs.Prelude.{Contains, AllPairs, Option, Some, None, is_some, ◌==◌}
use Rattle.std.proofs.lemmas.Bool.Decides.{nat_tests}
use Rattle.std.proofs.lemmas.List.Elements.{Contains-get_or}
use Rattle.std.proofs.lemmas.List.Quantifiers.{all_pairs_push}
use Rattle.pf_geom.specs.declared.Point.{Point}
use Rattle.pf_model.specs.declared.Site.{Site}
use Rattle.pf_model.specs.Mesh.{point_of}
use Rattle.pf_model.proofs.Members.{nowhere, here, there, cases}

-- each live name is below n
abbrev pub AreBelow : List Site → ℕ → Type 0
AreBelow ss n = (k : ℕ) → is_some (point_of ss k) ≡ true → k < n

pub point_of-append : (ss ys : List Site) (k : ℕ) (p : Point) → point_of ss k ≡ Some p → point_of (ss ++ ys) k ≡ Some p
point_of-append [] ys k p h = absurd (let e : None ≡ Some p = h in cc)
point_of-append (s ∷ ss) ys k p h = go (s.name == k) h (λ e. point_of-append ss ys k p e)
  where
    go : (b : Bool) → cond b (Some s.at) (point_of ss k) ≡ Some p → (point_of ss k ≡ Some p → point_of (ss ++ ys) k ≡ Some p) → cond b (Some s.at) (point_of (ss ++ ys) k) ≡ Some p
    go true e ih = e
    go false e ih = ih e

pub point_of-past : (ss ys : List Site) (k : ℕ) → point_of ss k ≡ None → point_of (ss ++ ys) k ≡ point_of ys k
point_of-past [] ys k h = refl
point_of-past (s ∷ ss) ys k h = go (s.name == k) h (λ e. point_of-past ss ys k e)
  where
    go : (b : Bool) → cond b (Some s.at) (point_of ss k) ≡ None → (point_of ss k ≡ None → point_of (ss ++ ys) k ≡ point_of ys k) → cond b (Some s.at) (point_of (ss ++ ys) k) ≡ point_of ys k
    go true e ih = absurd (let k' : Some s.at ≡ None = e in cc)
    go false e ih = ih e

-- a site's name is live
pub site_is_live : (ss : List Site) (s : Site) → Contains ss s → is_some (point_of ss s.name) ≡ true
site_is_live [] s h = absurd (nowhere s h)
site_is_live (r ∷ rs) s h = go (r.name == s.name) refl (cases s r rs h) (λ x. site_is_live rs s x)
  where
    go : (b : Bool) → (r.name == s.name) ≡ b → (s ≡ r) ⊎ Contains rs s → (Contains rs s → is_some (point_of rs s.name) ≡ true) → is_some (cond b (Some r.at) (point_of rs s.name)) ≡ true
    go true e x ih = refl
    go false e (inl x) ih = absurd (same_name (r.name) (s.name) e (ap (λ w. w.name) (sym x)))
      where
        same_name : (a b : ℕ) → (a == b) ≡ false → a ≡ b → ⊥
        same_name a b h' k = grind (arith, nat_tests)
    go false e (inr x) ih = ih x

-- a point that is found is a site's
pub point_of-site : (ss : List Site) (k : ℕ) (p : Point) → point_of ss k ≡ Some p → (s : Site) × Contains ss s × (s.at ≡ p)
point_of-site [] k p h = absurd (let e : None ≡ Some p = h in cc)
point_of-site (s ∷ ss) k p h = go (s.name == k) h (λ e. point_of-site ss k p e)
  where
    some_same : {r q : Point} → Some r ≡ Some q → r ≡ q
    some_same e = cc

    go : (b : Bool) → cond b (Some s.at) (point_of ss k) ≡ Some p → (point_of ss k ≡ Some p → (r : Site) × Contains ss r × (r.at ≡ p)) → (r : Site) × Contains (s ∷ ss) r × (r.at ≡ p)
    go true e ih = (s, here s ss, some_same e)
    go false e ih = let r = ih e in (r.0, there r.0 s ss r.1, r.2)

pub fresh_not_live : (ss : List Site) (n : ℕ) → AreBelow ss n → point_of ss n ≡ None
fresh_not_live ss n f = go (point_of ss n) refl
  where
    go : (o : Option Point) → point_of ss n ≡ o → o ≡ None
    go None e = refl
    go (Some p) e = absurd (let l : n < n = f n (ap is_some e) in omega arith)

pub sites_rise_push : (ss : List Site) (n : ℕ) (at : Point) → AreBelow ss n → AllPairs (λ r s. r.name < s.name) ss → AllPairs (λ r s. r.name < s.name) (ss ++ record { name = n; at = at } ∷ [])
sites_rise_push ss n at f up = all_pairs_push (λ r s. r.name < s.name) ss record { name = n; at = at } up (λ k d l. f (get_or ss k d).name (site_is_live ss (get_or ss k d) (Contains-get_or ss k d l)))
