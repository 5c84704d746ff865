-- A rising list of corners, cut site by site: each site gets those of its node.
use Rattle.std.proofs.Common.{◌≡◌, ◌≢◌, ℕ, zero, suc, ◌+◌, ◌<◌, ◌≤◌, List, [], ◌∷◌, length, refl, sym, ◌∙◌, ap, subst, Bool, true, false, cond, ◌==◌, ◌⊎◌, inl, inr, arith}
use Rattle.std.specs.Prelude.{Contains, AllPairs, filter, map, not}
use Rattle.std.proofs.lemmas.Bool.Decides.{nat_tests}
use Rattle.std.proofs.lemmas.List.Elements.{Contains-get_or}
use Rattle.pf_geom.specs.declared.Point.{Point}
use Rattle.pf_model.specs.declared.Site.{Site}
use Rattle.pf_model.specs.Rising.{IsRising}
use Rattle.pf_model.specs.Stars.{Star}
use Rattle.pf_model.proofs.Members.{nowhere, here, there, cases, filter-out}
use Rattle.pf_model.proofs.RisingLemmas.{rising-head, rising-tail, rising-filter}
use Rattle.pf_sweep.specs.declared.corners.Corner.{Corner}
use Rattle.pf_sweep.specs.Sweep.{front_at, rest_from, star_by, grouped}
use Rattle.pf_sweep.proofs.Turns.{corner_lt}

none-pass : {X : Type 0} (p : X → Bool) (xs : List X) → ((x : X) → Contains xs x → p x ≡ false) → filter p xs ≡ []
none-pass p [] h = refl
none-pass p (x ∷ xs) h = ap (λ b. cond b (x ∷ filter p xs) (filter p xs)) (h x (here x xs)) ∙ none-pass p xs (λ z k. h z (there z x xs k))

all-pass : {X : Type 0} (p : X → Bool) (xs : List X) → ((x : X) → Contains xs x → p x ≡ true) → filter p xs ≡ xs
all-pass p [] h = refl
all-pass p (x ∷ xs) h = ap (λ b. cond b (x ∷ filter p xs) (filter p xs)) (h x (here x xs)) ∙ ap (λ l. x ∷ l) (all-pass p xs (λ z k. h z (there z x xs k)))

-- past the first of another node, none has this one
module _ (n : ℕ) (c : Corner) (cs : List Corner) (up : IsRising corner_lt (c ∷ cs)) (least : n ≤ c.node) (other : (c.node == n) ≡ false) where
  past : (d : Corner) → Contains cs d → (d.node == n) ≡ false
  past d h = go c.node c.right d.node d.right n (rising-head corner_lt c d cs up h) least other
    where
      go : (a x b y k : ℕ) → corner_lt record { node = a; right = x; left = 0; owner = 0 } record { node = b; right = y; left = 0; owner = 0 } ≡ true → k ≤ a → (a == k) ≡ false → (b == k) ≡ false
      go a x b y k lt l e = grind (arith, nat_tests)

-- the nodes of these are at least n
abbrev AreFrom : ℕ → List Corner → Type 0
AreFrom n cs = (c : Corner) → Contains cs c → n ≤ c.node

front-is : (n : ℕ) (cs : List Corner) → IsRising corner_lt cs → AreFrom n cs → front_at n cs ≡ filter (λ c. c.node == n) cs
front-is n [] up from = refl
front-is n (c ∷ cs) up from = go (c.node == n) refl (front-is n cs (rising-tail corner_lt c cs up) (λ d h. from d (there d c cs h)))
  where
    go : (b : Bool) → (c.node == n) ≡ b → front_at n cs ≡ filter (λ c. c.node == n) cs → cond b (c ∷ front_at n cs) [] ≡ cond b (c ∷ filter (λ c. c.node == n) cs) (filter (λ c. c.node == n) cs)
    go true e ih = ap (λ l. c ∷ l) ih
    go false e ih = sym (none-pass (λ c. c.node == n) cs (past n c cs up (from c (here c cs)) e))

rest-is : (n : ℕ) (cs : List Corner) → IsRising corner_lt cs → AreFrom n cs → rest_from n cs ≡ filter (λ c. not (c.node == n)) cs
rest-is n [] up from = refl
rest-is n (c ∷ cs) up from = go (c.node == n) refl (rest-is n cs (rising-tail corner_lt c cs up) (λ d h. from d (there d c cs h)))
  where
    go : (b : Bool) → (c.node == n) ≡ b → rest_from n cs ≡ filter (λ c. not (c.node == n)) cs → cond b (rest_from n cs) (c ∷ cs) ≡ cond (not b) (c ∷ filter (λ c. not (c.node == n)) cs) (filter (λ c. not (c.node == n)) cs)
    go true e ih = ih
    go false e ih = ap (λ l. c ∷ l) (sym (all-pass (λ c. not (c.node == n)) cs (λ d h. ap not (past n c cs up (from c (here c cs)) e d h))))

-- those of one node, among those that aren't another's
others-of : (a b : ℕ) → a ≢ b → (cs : List Corner) → filter (λ c. c.node == b) (filter (λ c. not (c.node == a)) cs) ≡ filter (λ c. c.node == b) cs
others-of a b d [] = refl
others-of a b d (c ∷ cs) = go (c.node == a) refl (c.node == b) refl (others-of a b d cs)
  where
    both : (x : ℕ) → (x == a) ≡ true → (x == b) ≡ true → ⊥
    both x e f = grind (arith, nat_tests)

    go : (x : Bool) → (c.node == a) ≡ x → (y : Bool) → (c.node == b) ≡ y → filter (λ c. c.node == b) (filter (λ c. not (c.node == a)) cs) ≡ filter (λ c. c.node == b) cs
        → filter (λ c. c.node == b) (cond (not x) (c ∷ filter (λ c. not (c.node == a)) cs) (filter (λ c. not (c.node == a)) cs)) ≡ cond y (c ∷ filter (λ c. c.node == b) cs) (filter (λ c. c.node == b) cs)
    go true e true f ih = absurd (both c.node e f)
    go true e false f ih = ih
    go false e y f ih = ap (λ w. cond w (c ∷ filter (λ c. c.node == b) (filter (λ c. not (c.node == a)) cs)) (filter (λ c. c.node == b) (filter (λ c. not (c.node == a)) cs))) f ∙ ap (λ l. cond y (c ∷ l) l) ih

map-agrees : {X Y : Type 0} (f g : X → Y) (xs : List X) → ((x : X) → Contains xs x → f x ≡ g x) → map f xs ≡ map g xs
map-agrees f g [] e = refl
map-agrees f g (x ∷ xs) e = let a = e x (here x xs) in let b = map-agrees f g xs (λ z h. e z (there z x xs h)) in λ i. a i ∷ b i

-- the sites rise by name
abbrev pub SitesRise : List Site → Type 0
SitesRise ss = AllPairs (λ r s. r.name < s.name) ss

pub sites-head : (s : Site) (ss : List Site) → SitesRise (s ∷ ss) → (r : Site) → Contains ss r → s.name < r.name
sites-head s ss up r h = subst (λ w. s.name < w.name) h.2 (up 0 (suc h.0) r (omega arith) (let l = h.1 in omega arith))

pub sites-tail : (s : Site) (ss : List Site) → SitesRise (s ∷ ss) → SitesRise ss
sites-tail s ss up i j d l k = up (suc i) (suc j) d (omega arith) (omega arith)

-- each corner's node is the name of one of these sites
abbrev pub AreOfSites : List Site → List Corner → Type 0
AreOfSites ss cs = (c : Corner) → Contains cs c → (s : Site) × Contains ss s × (s.name ≡ c.node)

no-sites : (cs : List Corner) → AreOfSites [] cs → cs ≡ []
no-sites [] of = refl
no-sites (c ∷ cs) of = let r = of c (here c cs) in absurd (nowhere r.0 r.1)

pub grouped-is : (points : List Point) (ss : List Site) (cs : List Corner) → IsRising corner_lt cs → SitesRise ss → AreOfSites ss cs → grouped points ss cs ≡ map (λ s. star_by points s (filter (λ c. c.node == s.name) cs)) ss
grouped-is points [] cs up rise of = refl
grouped-is points (s ∷ ss) cs up rise of =
    let others : List Corner = filter (λ c. not (c.node == s.name)) cs in
    let first = front-is s.name cs up from in
    let rest = rest-is s.name cs up from in
    let later = grouped-is points ss others (rising-filter corner_lt (λ c. not (c.node == s.name)) cs up) (sites-tail s ss rise) left in
    let same = map-agrees (λ r. star_by points r (filter (λ c. c.node == r.name) others)) (λ r. star_by points r (filter (λ c. c.node == r.name) cs)) ss (λ r h. ap (star_by points r) (others-of s.name r.name (apart r h) cs)) in
    let tail = ap (grouped points ss) rest ∙ (later ∙ same) in
    λ i. star_by points s (first i) ∷ tail i
  where
    apart : (r : Site) → Contains ss r → s.name ≢ r.name
    apart r h e = let l = sites-head s ss rise r h in omega (arith, l, e)

    from : AreFrom s.name cs
    from c h = let r = of c h in elim (cases r.0 s ss r.1) [ inl e ↦ (let a : r.0.name ≡ s.name = ap (λ w. w.name) e in let b = r.2 in omega (arith, a, b)) | inr k ↦ (let l = sites-head s ss rise r.0 k in let b = r.2 in omega (arith, l, b)) ]

    left : AreOfSites ss (filter (λ c. not (c.node == s.name)) cs)
    left c h =
        let k = filter-out (λ c. not (c.node == s.name)) c cs h in
        let r = of c k.0 in
        elim (cases r.0 s ss r.1) [ inl e ↦ absurd (not_it c.node s.name (sym r.2 ∙ ap (λ w. w.name) e) k.1) | inr i ↦ (r.0, i, r.2) ]
      where
        not_it : (a b : ℕ) → a ≡ b → not (a == b) ≡ true → ⊥
        not_it a b e f = grind (arith, nat_tests)
