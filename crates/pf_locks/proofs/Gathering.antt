-- What the names of a mesh give, one after the other, is the mesh.
use Rattle.std.proofs.Common.{◌≡◌, ℕ, zero, suc, ◌<◌, Bool, true, false, cond, ◌==◌, ◌&&◌, ◌||◌, List, [], ◌∷◌, ◌++◌, refl, sym, ap, ◌∙◌, subst, ◌⊎◌, inl, inr, ⊎_elim, arith}
use Rattle.std.specs.Prelude.{Option, Some, None, Contains, nat_lt, unwrap_or, pos}
use Rattle.std.proofs.lemmas.Bool.Decides.{nat_tests}
use Rattle.std.proofs.lemmas.Bool.{and_parts, and_from}
use Rattle.std.proofs.lemmas.List.Elements.{Contains-append_left, Contains-append_right, Contains-append_cases}
use Rattle.pf_geom.specs.declared.Point.{Point}
use Rattle.pf_model.specs.declared.Site.{Site}
use Rattle.pf_model.specs.declared.Spoke.{Spoke}
use Rattle.pf_model.specs.declared.Tri.{Tri}
use Rattle.pf_model.specs.Rising.{IsRising}
use Rattle.pf_model.specs.Mesh.{Undivided, tri_of, tri_lt, place_of}
use Rattle.pf_model.specs.Conforming.{IsConforming, IsLive}
use Rattle.pf_model.specs.Stars.{Star, star_of, spokes_of, spoke_lt}
use Rattle.pf_model.proofs.Members.{nowhere, here, there, cases}
use Rattle.pf_model.proofs.RisingLemmas.{IsStrictOrder, rising-nil, rising-head, rising-tail, rising-cons, rising-same}
use Rattle.pf_model.proofs.Triangles.{least_first, tri_lt-order, tri_of-itself}
use Rattle.pf_model.proofs.Spokes.{spokes-means, spokes-has}
use Rattle.pf_model.proofs.SitesAfter.{site_is_live}
use Rattle.pf_star_model.specs.Assembled.{site_lt}
use Rattle.pf_star_model.proofs.Shown.{point_of-name, star_parts}
use Rattle.pf_star_model.proofs.Patching.{spokes-rise}
use Rattle.pf_sweep.proofs.Swept.{site-point}
use Rattle.pf_core_model.specs.Sharers.{kept_in, sharers_in}
use Rattle.pf_core_model.proofs.Sharing.{none_due, kept_is, star_shared}
use Rattle.pf_locks.specs.Ends.{site_of, is_least, tri_from, tris_from, sites_at, tris_at, under}

-- the keeper's copy of a star is the star
pub kept_of : (m : Undivided) (n : ℕ) → IsConforming m → kept_in (sharers_in m.chunks (star_of m n)) ≡ star_of m n
kept_of m n c = go (star_of m n) refl
  where
    go : (x : Option Star) → star_of m n ≡ x → kept_in (sharers_in m.chunks x) ≡ x
    go None e = ap kept_in (none_due 0 m.chunks)
    go (Some s) e = let k = star_shared m n s c e in kept_is m.chunks k.0 s k.1 k.2

-- what the names give is the same where each gives the same
pub under_alike : {X : Type 0} (f g : ℕ → List X) (n : ℕ) → ((k : ℕ) → k < n → f k ≡ g k) → under f n ≡ under g n
under_alike f g zero h = refl
under_alike {X} f g (suc n) h = ap (λ (l : List X). l ++ f n) (under_alike f g n (λ k l. h k (omega arith))) ∙ ap (λ (l : List X). under g n ++ l) (h n (omega arith))

under_means : {X : Type 0} (g : ℕ → List X) (n : ℕ) (z : X) → Contains (under g n) z → (k : ℕ) × (k < n) × Contains (g k) z
under_means g zero z h = absurd (nowhere z h)
under_means g (suc n) z h =
    ⊎_elim (λ (i : Contains (under g n) z). let r = under_means g n z i in (r.0, (let l = r.1 in omega arith), r.2)) (λ (i : Contains (g n) z). (n, omega arith, i)) (Contains-append_cases (under g n) (g n) z h)

under_has : {X : Type 0} (g : ℕ → List X) (n k : ℕ) (z : X) → k < n → Contains (g k) z → Contains (under g n) z
under_has g zero k z l h = absurd (omega arith)
under_has {X} g (suc n) k z l h =
    ⊎_elim
    (λ (e : k ≡ n). Contains-append_right (under g n) (g n) z (subst (λ (i : ℕ). Contains (g i) z) e h))
    (λ (b : k < n). Contains-append_left (under g n) (g n) z (under_has g n k z b h))
    (near k n l)
  where
    near : (a b : ℕ) → a < suc b → (a ≡ b) ⊎ (a < b)
    near a b h = grind arith

-- one rising list before another
rising_joined : {X : Type 0} (lt : X → X → Bool) (xs ys : List X) → IsRising lt xs → IsRising lt ys → ((x y : X) → Contains xs x → Contains ys y → lt x y ≡ true) → IsRising lt (xs ++ ys)
rising_joined lt [] ys up up' cross = up'
rising_joined {X} lt (x ∷ xs) ys up up' cross =
    rising-cons lt x (xs ++ ys)
    (λ z h. ⊎_elim (λ (i : Contains xs z). rising-head lt x z xs up i) (λ (i : Contains ys z). cross x z (here x xs) i) (Contains-append_cases xs ys z h))
    (rising_joined lt xs ys (rising-tail lt x xs up) up' (λ y z h i. cross y z (there y x xs h) i))

-- lists of names rise one after the other
under_rises : {X : Type 0} (lt : X → X → Bool) (name : X → ℕ) (g : ℕ → List X) → ((k : ℕ) → IsRising lt (g k)) → ((k : ℕ) (z : X) → Contains (g k) z → name z ≡ k) → ((x y : X) → name x < name y → lt x y ≡ true)
    → (n : ℕ) → IsRising lt (under g n)
under_rises lt name g up named above zero = rising-nil lt
under_rises lt name g up named above (suc n) =
    rising_joined lt (under g n) (g n) (under_rises lt name g up named above n) (up n)
    (λ x y h i. let r = under_means g n x h in let a = named r.0 x r.2 in let b = named n y i in let l = r.1 in above x y (omega arith))

alone_rises : {X : Type 0} (lt : X → X → Bool) (x : X) → IsRising lt (x ∷ [])
alone_rises lt x = rising-cons lt x [] (λ z h. absurd (nowhere z h)) (rising-nil lt)

site_order : IsStrictOrder site_lt
site_order = record { irreflexive = λ x. itself x.name; transitive = λ x y z h k. step x.name y.name z.name h k }
  where
    itself : (a : ℕ) → nat_lt a a ≡ false
    itself a = grind (arith, nat_tests)

    step : (a b c : ℕ) → nat_lt a b ≡ true → nat_lt b c ≡ true → nat_lt a c ≡ true
    step a b c h k = grind (arith, nat_tests)

test_below : (a b : ℕ) → a < b → nat_lt a b ≡ true
test_below a b h = grind (arith, nat_tests)

same_site : (r s : Site) → r.name ≡ s.name → r.at ≡ s.at → r ≡ s
same_site r s e f = λ i. record { name = e i; at = f i }

-- triangles of spokes
from_means : (n : ℕ) (ss : List Spoke) (t : Tri) → Contains (tris_from n ss) t → (s : Spoke) × Contains ss s × (is_least n s ≡ true) × (t ≡ tri_from n s)
from_means n [] t h = absurd (nowhere t h)
from_means n (s ∷ ss) t h = go (is_least n s) refl h (λ i. from_means n ss t i)
  where
    later : ((r : Spoke) × Contains ss r × (is_least n r ≡ true) × (t ≡ tri_from n r)) → (r : Spoke) × Contains (s ∷ ss) r × (is_least n r ≡ true) × (t ≡ tri_from n r)
    later r = (r.0, there r.0 s ss r.1, r.2, r.3)

    go : (b : Bool) → is_least n s ≡ b → Contains (cond b (tri_from n s ∷ tris_from n ss) (tris_from n ss)) t → (Contains (tris_from n ss) t → (r : Spoke) × Contains ss r × (is_least n r ≡ true) × (t ≡ tri_from n r))
        → (r : Spoke) × Contains (s ∷ ss) r × (is_least n r ≡ true) × (t ≡ tri_from n r)
    go true e i ih = ⊎_elim (λ (q : t ≡ tri_from n s). (s, here s ss, e, q)) (λ (j : Contains (tris_from n ss) t). later (ih j)) (cases t (tri_from n s) (tris_from n ss) i)
    go false e i ih = later (ih i)

from_has : (n : ℕ) (ss : List Spoke) (s : Spoke) → Contains ss s → is_least n s ≡ true → Contains (tris_from n ss) (tri_from n s)
from_has n [] s h e = absurd (nowhere s h)
from_has n (r ∷ rs) s h e = go (is_least n r) refl (cases s r rs h) (λ i. from_has n rs s i e)
  where
    go : (b : Bool) → is_least n r ≡ b → (s ≡ r) ⊎ Contains rs s → (Contains rs s → Contains (tris_from n rs) (tri_from n s)) → Contains (cond b (tri_from n r ∷ tris_from n rs) (tris_from n rs)) (tri_from n s)
    go true f (inl q) ih = subst (λ (x : Spoke). Contains (tri_from n r ∷ tris_from n rs) (tri_from n x)) (sym q) (here (tri_from n r) (tris_from n rs))
    go true f (inr i) ih = there (tri_from n s) (tri_from n r) (tris_from n rs) (ih i)
    go false f (inl q) ih = absurd (let z : true ≡ false = sym e ∙ ap (is_least n) q ∙ f in cc)
    go false f (inr i) ih = ih i

from_rises : (n : ℕ) (ss : List Spoke) → IsRising spoke_lt ss → IsRising tri_lt (tris_from n ss)
from_rises n [] up = rising-nil tri_lt
from_rises n (s ∷ ss) up = go (is_least n s) (from_rises n ss (rising-tail spoke_lt s ss up))
  where
    next : (a b x c y : ℕ) → nat_lt b x ≡ true → (nat_lt a a || (a == a && (nat_lt b x || (b == x && nat_lt c y)))) ≡ true
    next a b x c y h = grind (arith, nat_tests)

    above : (t : Tri) → Contains (tris_from n ss) t → tri_lt (tri_from n s) t ≡ true
    above t h =
        let r = from_means n ss t h in
        subst (λ (w : Tri). tri_lt (tri_from n s) w ≡ true) (sym r.3) (next n s.right r.0.right s.left r.0.left (rising-head spoke_lt s r.0 ss up r.1))

    go : (b : Bool) → IsRising tri_lt (tris_from n ss) → IsRising tri_lt (cond b (tri_from n s ∷ tris_from n ss) (tris_from n ss))
    go true u = rising-cons tri_lt (tri_from n s) (tris_from n ss) above u
    go false u = u

-- a triangle that begins with its least corner
starts : (n r l o : ℕ) → nat_lt n r ≡ true → nat_lt n l ≡ true → tri_of n r l o ≡ record { a = n; b = r; c = l; owner = o }
starts n r l o h k = ap (λ b. cond b (record { a = n; b = r; c = l; owner = o }) other) (and_from (nat_lt n r) (nat_lt n l) h k)
  where
    other : Tri
    other = cond (nat_lt r l && nat_lt r n) record { a = r; b = l; c = n; owner = o } record { a = l; b = n; c = r; owner = o }

module _ (m : Undivided) (names : ℕ) (ok : IsConforming m) (near : (n : ℕ) → IsLive m n → n < names) where
  -- the star of a live node
  live_star : (n : ℕ) → IsLive m n → star_of m n ≡ Some record { node = n; at = place_of m n; spokes = spokes_of m n }
  live_star n live = ap (λ (b : Bool). cond {A = Option Star} b (Some record { node = n; at = place_of m n; spokes = spokes_of m n }) None) live

  -- the point of a site is that of its name
  place_is : (z : Site) → Contains m.sites z → place_of m z.name ≡ z.at
  place_is z h = ap (λ (o : Option Point). unwrap_or o record { x = pos 0; y = pos 0 }) (site-point m.sites ok.sites_rise z h)

  site_means : (n : ℕ) (z : Site) → Contains (sites_at (star_of m n)) z → (z.name ≡ n) × Contains m.sites z
  site_means n z h = go (star_of m n) refl h
    where
      go : (x : Option Star) → star_of m n ≡ x → Contains (sites_at x) z → (z.name ≡ n) × Contains m.sites z
      go None e i = absurd (nowhere z i)
      go (Some s) e i =
          let is : z ≡ site_of s = ⊎_elim (λ (q : z ≡ site_of s). q) (λ (j : Contains [] z). absurd (nowhere z j)) (cases z (site_of s) [] i) in
          let p = star_parts m n s e in
          let r = point_of-name m.sites n p.live in
          let name : z.name ≡ n = ap (λ (w : Site). w.name) is ∙ p.node in
          let at : z.at ≡ r.0.at = ap (λ (w : Site). w.at) is ∙ p.at ∙ ap (place_of m) (sym r.2) ∙ place_is r.0 r.1 in
          (name, subst (λ (w : Site). Contains m.sites w) (sym (same_site z r.0 (name ∙ sym r.2) at)) r.1)

  site_has : (z : Site) → Contains m.sites z → Contains (sites_at (star_of m z.name)) z
  site_has z h =
      let live = site_is_live m.sites z h in
      subst (λ (o : Option Star). Contains (sites_at o) z) (sym (live_star z.name live))
      (subst (λ (w : Site). Contains (record { name = z.name; at = place_of m z.name } ∷ []) w) (same_site (record { name = z.name; at = place_of m z.name }) z refl (place_is z h)) (here (record { name = z.name; at = place_of m z.name }) []))

  sites_up : IsRising site_lt m.sites
  sites_up i j d l k = test_below _ _ (ok.sites_rise i j d l k)

  sites_alone : (k : ℕ) → IsRising site_lt (sites_at (star_of m k))
  sites_alone k = go (star_of m k)
    where
      go : (x : Option Star) → IsRising site_lt (sites_at x)
      go None = rising-nil site_lt
      go (Some s) = alone_rises site_lt (site_of s)

  pub sites_are : under (λ k. sites_at (star_of m k)) names ≡ m.sites
  sites_are =
      rising-same site_lt site_order (under (λ k. sites_at (star_of m k)) names) m.sites
      (under_rises site_lt (λ (s : Site). s.name) (λ k. sites_at (star_of m k)) sites_alone (λ k z h. (site_means k z h).0) (λ x y l. test_below x.name y.name l) names)
      sites_up
      (λ z h. let r = under_means (λ k. sites_at (star_of m k)) names z h in (site_means r.0 z r.2).1)
      (λ z h. under_has (λ k. sites_at (star_of m k)) names z.name z (near z.name (site_is_live m.sites z h)) (site_has z h))

  tri_means : (n : ℕ) (t : Tri) → Contains (tris_at (star_of m n)) t → (t.a ≡ n) × Contains m.tris t
  tri_means n t h = go (star_of m n) refl h
    where
      go : (x : Option Star) → star_of m n ≡ x → Contains (tris_at x) t → (t.a ≡ n) × Contains m.tris t
      go None e i = absurd (nowhere t i)
      go (Some s) e i =
          let p = star_parts m n s e in
          let r = from_means s.node s.spokes t i in
          let node : t.a ≡ n = ap (λ (w : Tri). w.a) r.3 ∙ p.node in
          let b = and_parts (nat_lt s.node r.0.right) (nat_lt s.node r.0.left) r.2 in
          let listed : Contains m.tris (tri_of s.node r.0.right r.0.left r.0.owner) = spokes-means m ok s.node r.0 (subst (λ (ss : List Spoke). Contains ss r.0) (p.spokes ∙ ap (spokes_of m) (sym p.node)) r.1) in
          (node, subst (λ (w : Tri). Contains m.tris w) (starts s.node r.0.right r.0.left r.0.owner b.0 b.1 ∙ sym r.3) listed)

  tri_has : (t : Tri) → Contains m.tris t → Contains (tris_at (star_of m t.a)) t
  tri_has t h =
      let p = ok.proper t h in
      let k = spokes-has m ok t.a t.b t.c t.owner (subst (λ (w : Tri). Contains m.tris w) (sym (tri_of-itself t (least_first m ok t h))) h) in
      let least : is_least t.a k.0 ≡ true = and_from (nat_lt t.a k.0.right) (nat_lt t.a k.0.left) (below t.a k.0.right t.b k.2 p.least) (below t.a k.0.left t.c k.3 p.least') in
      let same : tri_from t.a k.0 ≡ t = λ i. record { a = t.a; b = k.2 i; c = k.3 i; owner = k.4 i } in
      subst (λ (o : Option Star). Contains (tris_at o) t) (sym (live_star t.a p.first)) (subst (λ (w : Tri). Contains (tris_from t.a (spokes_of m t.a)) w) same (from_has t.a (spokes_of m t.a) k.0 k.1 least))
    where
      below : (a b y : ℕ) → b ≡ y → a < y → nat_lt a b ≡ true
      below a b y e l = grind (arith, nat_tests)

  tris_up : (k : ℕ) → IsRising tri_lt (tris_at (star_of m k))
  tris_up k = go (star_of m k) refl
    where
      go : (x : Option Star) → star_of m k ≡ x → IsRising tri_lt (tris_at x)
      go None e = rising-nil tri_lt
      go (Some s) e = from_rises s.node s.spokes (subst (λ (ss : List Spoke). IsRising spoke_lt ss) (sym (star_parts m k s e).spokes) (spokes-rise m ok k))

  lower_first : (s t : Tri) → s.a < t.a → tri_lt s t ≡ true
  lower_first s t l = test s.a s.b s.c t.a t.b t.c l
    where
      test : (a b c x y z : ℕ) → a < x → (nat_lt a x || (a == x && (nat_lt b y || (b == y && nat_lt c z)))) ≡ true
      test a b c x y z l = grind (arith, nat_tests)

  pub tris_are : under (λ k. tris_at (star_of m k)) names ≡ m.tris
  tris_are =
      rising-same tri_lt tri_lt-order (under (λ k. tris_at (star_of m k)) names) m.tris
      (under_rises tri_lt (λ (t : Tri). t.a) (λ k. tris_at (star_of m k)) tris_up (λ k z h. (tri_means k z h).0) lower_first names)
      ok.tris_rise
      (λ z h. let r = under_means (λ k. tris_at (star_of m k)) names z h in (tri_means r.0 z r.2).1)
      (λ z h. under_has (λ k. tris_at (star_of m k)) names z.a z (near z.a (ok.proper z h).first) (tri_has z h))
