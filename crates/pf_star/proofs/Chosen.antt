-- The pairs of all live nodes of a mesh, and some of them.
use Rattle.std.proofs.Common.{◌≡◌, ◌≢◌, ℕ, zero, suc, ◌+◌, ◌<◌, ◌≤◌, List, [], ◌∷◌, length, take, get_or, map, refl, sym, ◌∙◌, ap, subst, Bool, true, false, cond, ◌||◌, ◌==◌, ◌⊎◌, inl, inr, arith, Option, Some, None, is_some}
use Rattle.std.specs.Prelude.{Contains, All, AllPairs, nat_lt}
use Rattle.std.specs.List.{list_any}
use Rattle.std.proofs.lemmas.Bool.Decides.{nat_tests}
use Rattle.std.proofs.lemmas.List.Kept.{AllPairs-cons}
use Rattle.std.proofs.lemmas.List.Elements.{Contains-get_or}
use Rattle.pf_model.specs.declared.Site.{Site}
use Rattle.pf_model.specs.Mesh.{Undivided, point_of}
use Rattle.pf_model.specs.Stars.{Star, star_of}
use Rattle.pf_model.proofs.Members.{nowhere, here, there, cases}
use Rattle.pf_model.proofs.Totals.{map-in, map-means}
use Rattle.pf_star_model.specs.Lent.{Held, is_held, star_held}
use Rattle.pf_star_model.proofs.Shown.{star_parts}
use Rattle.pf_sweep.proofs.Blocks.{SitesRise, sites-head, sites-tail}
use Rattle.pf_star.specs.Sets.{AreRising, pair_of, put_held}

same_name : (a b : ℕ) → (a == b) ≡ true → a ≡ b
same_name a b e = grind (arith, nat_tests)

some_same : {a b : Star} → Some a ≡ Some b → a ≡ b
some_same e = cc

all-from : {X : Type 0} (P : X → Type 0) (xs : List X) → ((x : X) → Contains xs x → P x) → All P xs
all-from P xs h k d within = h (get_or xs k d) (Contains-get_or xs k d within)

module _ (m : Undivided) where
  -- the stars of these sites
  abbrev AreOf : List Star → List Site → Type 0
  AreOf xs ss = map (λ s. Some s) xs ≡ map (λ s. star_of m s.name) ss

  of-head : (x : Star) (xs : List Star) (s : Site) (ss : List Site) → AreOf (x ∷ xs) (s ∷ ss) → Some x ≡ star_of m s.name
  of-head x xs s ss e = cc

  of-tail : (x : Star) (xs : List Star) (s : Site) (ss : List Site) → AreOf (x ∷ xs) (s ∷ ss) → AreOf xs ss
  of-tail x xs s ss e = cc

  -- a star's node is a site
  of-site : (xs : List Star) (ss : List Site) → AreOf xs ss → (x : Star) → Contains xs x → (s : Site) × Contains ss s × (x.node ≡ s.name)
  of-site xs ss e x h =
      let r = map-means (λ s. star_of m s.name) ss (Some x) (subst (λ l. Contains l (Some x)) e (map-in (λ s. Some s) xs x h)) in
      (r.0, r.1, (star_parts m r.0.name x r.2).node)

  pub pairs-rise : (xs : List Star) (ss : List Site) → SitesRise ss → AreOf xs ss → AreRising (map pair_of xs)
  pairs-rise [] ss up e = λ i j d l k. absurd (let z : j < 0 = k in omega (arith, z))
  pairs-rise (x ∷ xs) [] up e = absurd (let z : Some x ∷ map (λ s. Some s) xs ≡ [] = e in cc)
  pairs-rise (x ∷ xs) (s ∷ ss) up e =
      AllPairs-cons (λ h k. h.node < k.node) (pair_of x) (map pair_of xs)
      (all-from (λ (k : Held). x.node < k.node) (map pair_of xs) (λ k h. let r = map-means pair_of xs k h in let t = of-site xs ss (of-tail x xs s ss e) r.0 r.1 in let n = (star_parts m s.name x (sym (of-head x xs s ss e))).node in let l = sites-head s ss up t.0 t.1 in let q = t.2 in let w : r.0.node ≡ k.node = ap (λ y. y.node) r.2 in omega (arith, n, l, q, w)))
      (pairs-rise xs ss (sites-tail s ss up) (of-tail x xs s ss e))

  held-is : (xs : List Star) (ss : List Site) → AreOf xs ss → (n : ℕ) → star_held (map pair_of xs) n ≡ cond (is_some (point_of ss n)) (star_of m n) None
  held-is [] [] e n = refl
  held-is [] (s ∷ ss) e n = absurd (let z : [] ≡ star_of m s.name ∷ map (λ r. star_of m r.name) ss = e in cc)
  held-is (x ∷ xs) [] e n = absurd (let z : Some x ∷ map (λ s. Some s) xs ≡ [] = e in cc)
  held-is (x ∷ xs) (s ∷ ss) e n = go (s.name == n) refl (held-is xs ss (of-tail x xs s ss e) n)
    where
      node : x.node ≡ s.name
      node = (star_parts m s.name x (sym (of-head x xs s ss e))).node

      go : (b : Bool) → (s.name == n) ≡ b → star_held (map pair_of xs) n ≡ cond (is_some (point_of ss n)) (star_of m n) None
          → cond (x.node == n) (Some x) (star_held (map pair_of xs) n) ≡ cond (is_some (cond b (Some s.at) (point_of ss n))) (star_of m n) None
      go true f ih = ap (λ k. cond (k == n) (Some x) (star_held (map pair_of xs) n)) node ∙ (ap (λ b. cond b (Some x) (star_held (map pair_of xs) n)) f ∙ (of-head x xs s ss e ∙ ap (star_of m) (same_name s.name n f)))
      go false f ih = ap (λ k. cond (k == n) (Some x) (star_held (map pair_of xs) n)) node ∙ (ap (λ b. cond b (Some x) (star_held (map pair_of xs) n)) f ∙ ih)

  pub all-held : (xs : List Star) → AreOf xs m.sites → (n : ℕ) → star_held (map pair_of xs) n ≡ star_of m n
  all-held xs e n = held-is xs m.sites e n ∙ twice (is_some (point_of m.sites n)) _
    where
      twice : (b : Bool) (x : Star) → cond b (cond b (Some x) None) None ≡ cond b (Some x) None
      twice true x = refl
      twice false x = refl

-- a pair that is put
pub put-means : (x : Held) (hs : List Held) (h : Held) → Contains (put_held x hs) h → (h ≡ x) ⊎ Contains hs h
put-means x [] h c = cases h x [] c
put-means x (y ∷ ys) h c = go (nat_lt x.node y.node) (y.node == x.node) c (put-means x ys h)
  where
    later : (h ≡ x) ⊎ Contains ys h → (h ≡ x) ⊎ Contains (y ∷ ys) h
    later (inl e) = inl e
    later (inr k) = inr (there h y ys k)

    go : (a b : Bool) → Contains (cond a (x ∷ y ∷ ys) (cond b (x ∷ ys) (y ∷ put_held x ys))) h → (Contains (put_held x ys) h → (h ≡ x) ⊎ Contains ys h) → (h ≡ x) ⊎ Contains (y ∷ ys) h
    go true b k ih = cases h x (y ∷ ys) k
    go false true k ih = later (cases h x ys k)
    go false false k ih = elim (cases h y (put_held x ys) k) [ inl e ↦ inr (subst (λ w. Contains (y ∷ ys) w) (sym e) (here y ys)) | inr i ↦ later (ih i) ]

pub put-holds : (x : Held) (hs : List Held) (n : ℕ) → is_held (put_held x hs) n ≡ (is_held hs n || x.node == n)
put-holds x [] n = or_none (x.node == n)
  where
    or_none : (a : Bool) → (a || false) ≡ (false || a)
    or_none true = refl
    or_none false = refl
put-holds x (y ∷ ys) n = go (nat_lt x.node y.node) (y.node == x.node) refl (put-holds x ys n)
  where
    swap : (a b : Bool) → (a || b) ≡ (b || a)
    swap true true = refl
    swap true false = refl
    swap false true = refl
    swap false false = refl

    once : (a c : Bool) → (a || c) ≡ ((a || c) || a)
    once true c = refl
    once false true = refl
    once false false = refl

    first : (a b c : Bool) → b ≡ a → (a || c) ≡ ((b || c) || a)
    first a b c e = once a c ∙ ap (λ w. (w || c) || a) (sym e)

    past : (a b c : Bool) → (a || (b || c)) ≡ ((a || b) || c)
    past true b c = refl
    past false b c = refl

    go : (a b : Bool) → (y.node == x.node) ≡ b → is_held (put_held x ys) n ≡ (is_held ys n || x.node == n)
        → is_held (cond a (x ∷ y ∷ ys) (cond b (x ∷ ys) (y ∷ put_held x ys))) n ≡ ((y.node == n || is_held ys n) || x.node == n)
    go true b e ih = swap (x.node == n) (y.node == n || is_held ys n)
    go false true e ih = first (x.node == n) (y.node == n) (is_held ys n) (ap (λ k. k == n) (same_name y.node x.node e))
    go false false e ih = ap (λ w. y.node == n || w) ih ∙ past (y.node == n) (is_held ys n) (x.node == n)
