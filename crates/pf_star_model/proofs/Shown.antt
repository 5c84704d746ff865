-- What a star shows of a mesh: the sides of its edges, and the points of its node and neighbours.
-- Assumes `IsConforming m`.
use Rattle.std.proofs.Common.{◌≡◌, ℕ, List, [], ◌∷◌, refl, sym, ◌∙◌, ap, subst, Bool, true, false, cond, ◌⊎◌, inl, inr, arith, ◌||◌}
use Rattle.std.specs.Prelude.{Contains, Option, Some, None, is_some, unwrap_or, pos, flat_map, filter_map, ◌==◌}
use Rattle.std.proofs.lemmas.Bool.Decides.{nat_tests}
use Rattle.std.proofs.lemmas.List.Elements.{Contains-append_cases, Contains-append_left, Contains-append_right}
use Rattle.std.proofs.lemmas.Bool.{eqb-true}
use Rattle.std.proofs.Math.Bool.{or-true}
use Rattle.pf_geom.specs.declared.Point.{Point}
use Rattle.pf_model.specs.declared.Tri.{Tri}
use Rattle.pf_model.specs.declared.Site.{Site}
use Rattle.pf_model.specs.declared.Band.{Band}
use Rattle.pf_model.specs.declared.Spoke.{Spoke}
use Rattle.pf_model.specs.declared.Side.{Side}
use Rattle.pf_model.specs.Mesh.{Undivided, tri_of, apex_in, side_of, is_edge, point_of, place_of}
use Rattle.pf_model.specs.Conforming.{IsConforming, IsLive}
use Rattle.pf_model.specs.Stars.{Star, star_of, spoke_of, spoke_lt, spokes_of, is_neighbour}
use Rattle.pf_model.proofs.Members.{nowhere, here, there, cases, insert_all_by-cases}
use Rattle.pf_model.proofs.Triangles.{tri_of-owner, tri_of-edge_one, tri_of-edge_three, least_first}
use Rattle.pf_model.proofs.Turns.{AreDistinct}
use Rattle.pf_model.proofs.Kept.{side_of-found, side_of-stands}
use Rattle.pf_model.proofs.Spokes.{filter_map-out, spokes-means, spokes-has}
use Rattle.pf_model.proofs.FlipKeeps.{corners_of}
use Rattle.pf_star_model.specs.Lent.{spokes_in, side_to, side_from, spoke_sites, sites_in, sight_of}

some_same : {X : Type 0} {a b : X} → Some a ≡ Some b → a ≡ b
some_same q = cc

-- sides that are found among spokes
pub side_to-some : (n : ℕ) (ss : List Spoke) (s : Side) → side_to n ss ≡ Some s → (r : Spoke) × Contains ss r × (r.right ≡ n) × (s ≡ record { apex = r.left; owner = r.owner })
side_to-some n [] s h = absurd (let e : None ≡ Some s = h in cc)
side_to-some n (r ∷ rs) s h = go (r.right == n) refl h (λ e. side_to-some n rs s e)
  where
    go : (b : Bool) → (r.right == n) ≡ b → cond b (Some record { apex = r.left; owner = r.owner }) (side_to n rs) ≡ Some s → (side_to n rs ≡ Some s → (k : Spoke) × Contains rs k × (k.right ≡ n) × (s ≡ record { apex = k.left; owner = k.owner })) → (k : Spoke) × Contains (r ∷ rs) k × (k.right ≡ n) × (s ≡ record { apex = k.left; owner = k.owner })
    go true e f ih = (r, here r rs, eqb-true r.right n e, sym (some_same f))
    go false e f ih = let k = ih f in (k.0, there k.0 r rs k.1, k.2, k.3)

side_to-none : (n : ℕ) (ss : List Spoke) → side_to n ss ≡ None → (r : Spoke) → Contains ss r → r.right ≡ n → ⊥
side_to-none n [] h r i e = nowhere r i
side_to-none n (s ∷ ss) h r i e = go (s.right == n) refl h (cases r s ss i) (λ f k. side_to-none n ss f r k e)
  where
    differs : (a : ℕ) → (a == n) ≡ false → a ≡ n → ⊥
    differs a f g = grind (arith, nat_tests)

    go : (b : Bool) → (s.right == n) ≡ b → cond b (Some record { apex = s.left; owner = s.owner }) (side_to n ss) ≡ None → (r ≡ s) ⊎ Contains ss r → (side_to n ss ≡ None → Contains ss r → ⊥) → ⊥
    go true f g c ih = absurd (let k : Some record { apex = s.left; owner = s.owner } ≡ None = g in cc)
    go false f g (inl x) ih = differs s.right f (ap (λ w. w.right) (sym x) ∙ e)
    go false f g (inr x) ih = ih g x

pub side_from-some : (n : ℕ) (ss : List Spoke) (s : Side) → side_from n ss ≡ Some s → (r : Spoke) × Contains ss r × (r.left ≡ n) × (s ≡ record { apex = r.right; owner = r.owner })
side_from-some n [] s h = absurd (let e : None ≡ Some s = h in cc)
side_from-some n (r ∷ rs) s h = go (r.left == n) refl h (λ e. side_from-some n rs s e)
  where
    go : (b : Bool) → (r.left == n) ≡ b → cond b (Some record { apex = r.right; owner = r.owner }) (side_from n rs) ≡ Some s → (side_from n rs ≡ Some s → (k : Spoke) × Contains rs k × (k.left ≡ n) × (s ≡ record { apex = k.right; owner = k.owner })) → (k : Spoke) × Contains (r ∷ rs) k × (k.left ≡ n) × (s ≡ record { apex = k.right; owner = k.owner })
    go true e f ih = (r, here r rs, eqb-true r.left n e, sym (some_same f))
    go false e f ih = let k = ih f in (k.0, there k.0 r rs k.1, k.2, k.3)

side_from-none : (n : ℕ) (ss : List Spoke) → side_from n ss ≡ None → (r : Spoke) → Contains ss r → r.left ≡ n → ⊥
side_from-none n [] h r i e = nowhere r i
side_from-none n (s ∷ ss) h r i e = go (s.left == n) refl h (cases r s ss i) (λ f k. side_from-none n ss f r k e)
  where
    differs : (a : ℕ) → (a == n) ≡ false → a ≡ n → ⊥
    differs a f g = grind (arith, nat_tests)

    go : (b : Bool) → (s.left == n) ≡ b → cond b (Some record { apex = s.right; owner = s.owner }) (side_from n ss) ≡ None → (r ≡ s) ⊎ Contains ss r → (side_from n ss ≡ None → Contains ss r → ⊥) → ⊥
    go true f g c ih = absurd (let k : Some record { apex = s.right; owner = s.owner } ≡ None = g in cc)
    go false f g (inl x) ih = differs s.left f (ap (λ w. w.left) (sym x) ∙ e)
    go false f g (inr x) ih = ih g x

tri_of-apex_one : (a b z o : ℕ) → AreDistinct a b z → apex_in a b (tri_of a b z o) ≡ z
tri_of-apex_one a b z o d = let d1 = d.one in let d2 = d.two in let d3 = d.three in grind (arith, nat_tests)

tri_of-apex_three : (a z b o : ℕ) → AreDistinct a z b → apex_in b a (tri_of a z b o) ≡ z
tri_of-apex_three a z b o d = let d1 = d.one in let d2 = d.two in let d3 = d.three in grind (arith, nat_tests)

abbrev some_side : ℕ → ℕ → Option Side
some_side a o = Some record { apex = a; owner = o }

side_is : (a o a' o' : ℕ) → a ≡ a' → o ≡ o' → some_side a o ≡ some_side a' o'
side_is a o a' o' e f = λ i. some_side (e i) (f i)

-- the left side of an edge from a
pub side_to-shown : (m : Undivided) → IsConforming m → (a b : ℕ) → side_to b (spokes_of m a) ≡ side_of m.tris a b
side_to-shown m ok a b = go (side_to b (spokes_of m a)) refl (side_of m.tris a b) refl
  where
    go : (x : Option Side) → side_to b (spokes_of m a) ≡ x → (y : Option Side) → side_of m.tris a b ≡ y → x ≡ y
    go None e None f = refl
    go None e (Some s) f =
        let r = spokes-has m ok a b s.apex s.owner (side_of-stands m.tris (least_first m ok) a b s f) in
        absurd (side_to-none b (spokes_of m a) e r.0 r.1 r.2)
    go (Some s) e y f =
        let r = side_to-some b (spokes_of m a) s e in
        let h : Contains m.tris (tri_of a b r.0.left r.0.owner) = subst (λ w. Contains m.tris (tri_of a w r.0.left r.0.owner)) r.2 (spokes-means m ok a r.0 r.1) in
        let d = (corners_of m ok a b r.0.left r.0.owner h).distinct in
        let k = side_of-found m.tris ok.edges_once a b (tri_of a b r.0.left r.0.owner) h (tri_of-edge_one a b r.0.left r.0.owner) in
        let same = side_is _ _ _ _ (tri_of-apex_one a b r.0.left r.0.owner d) (tri_of-owner a b r.0.left r.0.owner) in
        ap (λ w. Some w) r.3 ∙ (sym same ∙ (sym k ∙ f))

-- the left side of an edge to a
pub side_from-shown : (m : Undivided) → IsConforming m → (a b : ℕ) → side_from b (spokes_of m a) ≡ side_of m.tris b a
side_from-shown m ok a b = go (side_from b (spokes_of m a)) refl (side_of m.tris b a) refl
  where
    turn : (p q z o : ℕ) → AreDistinct p q z → tri_of p q z o ≡ tri_of q z p o
    turn p q z o d = let d1 = d.one in let d2 = d.two in let d3 = d.three in grind (arith, nat_tests)

    go : (x : Option Side) → side_from b (spokes_of m a) ≡ x → (y : Option Side) → side_of m.tris b a ≡ y → x ≡ y
    go None e None f = refl
    go None e (Some s) f =
        let st = side_of-stands m.tris (least_first m ok) b a s f in
        let st' = subst (λ w. Contains m.tris w) (turn b a s.apex s.owner (corners_of m ok b a s.apex s.owner st).distinct) st in
        let r = spokes-has m ok a s.apex b s.owner st' in
        absurd (side_from-none b (spokes_of m a) e r.0 r.1 r.3)
    go (Some s) e y f =
        let r = side_from-some b (spokes_of m a) s e in
        let h : Contains m.tris (tri_of a r.0.right b r.0.owner) = subst (λ w. Contains m.tris (tri_of a r.0.right w r.0.owner)) r.2 (spokes-means m ok a r.0 r.1) in
        let d = (corners_of m ok a r.0.right b r.0.owner h).distinct in
        let k = side_of-found m.tris ok.edges_once b a (tri_of a r.0.right b r.0.owner) h (tri_of-edge_three a r.0.right b r.0.owner) in
        let same = side_is _ _ _ _ (tri_of-apex_three a r.0.right b r.0.owner d) (tri_of-owner a r.0.right b r.0.owner) in
        ap (λ w. Some w) r.3 ∙ (sym same ∙ (sym k ∙ f))

-- a neighbour is on one side or the other
neighbour-sides : (n : ℕ) (ss : List Spoke) → (is_some (side_to n ss) || is_some (side_from n ss)) ≡ is_neighbour n ss
neighbour-sides n [] = refl
neighbour-sides n (s ∷ ss) = go (s.right == n) (s.left == n) (neighbour-sides n ss)
  where
    go : (x y : Bool) → (is_some (side_to n ss) || is_some (side_from n ss)) ≡ is_neighbour n ss → (is_some (cond x (some_side s.left s.owner) (side_to n ss)) || is_some (cond y (some_side s.right s.owner) (side_from n ss))) ≡ ((x || y) || is_neighbour n ss)
    go true y ih = refl
    go false true ih = or-true (is_some (side_to n ss))
    go false false ih = ih

-- the edges of c are to its neighbours
pub edge-shown : (m : Undivided) → IsConforming m → (c d : ℕ) → is_neighbour d (spokes_of m c) ≡ is_edge m.tris c d
edge-shown m ok c d = sym (neighbour-sides d (spokes_of m c)) ∙ (ap (λ o. is_some o || is_some (side_from d (spokes_of m c))) (side_to-shown m ok c d) ∙ ap (λ o. is_some (side_of m.tris c d) || is_some o) (side_from-shown m ok c d))

-- the spokes of a star that is shown, and of an absence
pub spokes-absent : (m : Undivided) → IsConforming m → (n : ℕ) → point_of m.sites n ≡ None → spokes_of m n ≡ []
spokes-absent m ok n e = go (spokes_of m n) (λ s h. no s h)
  where
    no : (s : Spoke) → Contains (spokes_of m n) s → ⊥
    no s h =
        let l = (corners_of m ok n s.right s.left s.owner (spokes-means m ok n s h)).live_p in
        let k : false ≡ true = sym (ap is_some e) ∙ l in cc

    go : (ss : List Spoke) → ((s : Spoke) → Contains ss s → ⊥) → ss ≡ []
    go [] f = refl
    go (s ∷ ss) f = absurd (f s (here s ss))

pub spokes-shown : (m : Undivided) → IsConforming m → (n : ℕ) → spokes_in (star_of m n) ≡ spokes_of m n
spokes-shown m ok n = go (point_of m.sites n) refl
  where
    go : (o : Option Point) → point_of m.sites n ≡ o → spokes_in (cond (is_some o) (Some record { node = n; at = place_of m n; spokes = spokes_of m n }) None) ≡ spokes_of m n
    go None e = sym (spokes-absent m ok n e)
    go (Some p) e = refl

-- points: the sites of a list that all stand as in the mesh
abbrev pub StandAs : Undivided → List Site → Type 0
StandAs m ss = (s : Site) → Contains ss s → s.at ≡ place_of m s.name

pub point-stands : (m : Undivided) (ss : List Site) (n : ℕ) → StandAs m ss → ((s : Site) × Contains ss s × (s.name ≡ n)) → point_of ss n ≡ Some (place_of m n)
point-stands m [] n a i = absurd (nowhere i.0 i.1)
point-stands m (s ∷ ss) n a i = go (s.name == n) refl (cases i.0 s ss i.1) (λ k. point-stands m ss n (λ r h. a r (there r s ss h)) (i.0, k, i.2))
  where
    differs : (x : ℕ) → (x == n) ≡ false → x ≡ n → ⊥
    differs x f g = grind (arith, nat_tests)

    go : (b : Bool) → (s.name == n) ≡ b → (i.0 ≡ s) ⊎ Contains ss i.0 → (Contains ss i.0 → point_of ss n ≡ Some (place_of m n)) → cond b (Some s.at) (point_of ss n) ≡ Some (place_of m n)
    go true e c ih = ap (λ p. Some p) (a s (here s ss) ∙ ap (place_of m) (eqb-true s.name n e))
    go false e (inl x) ih = absurd (differs s.name e (ap (λ w. w.name) (sym x) ∙ i.2))
    go false e (inr x) ih = ih x

-- the points of a spoke
pub record IsPlaced (m : Undivided) (s : Spoke) : Type 0 where
  pub right : s.right_at ≡ place_of m s.right
  pub left : s.left_at ≡ place_of m s.left

spoke_of-placed : (m : Undivided) (n : ℕ) (t : Tri) (s : Spoke) → spoke_of m n t ≡ Some s → IsPlaced m s
spoke_of-placed m n t s h = go (t.a == n) (t.b == n) (t.c == n) h
  where
    s1 : Spoke
    s1 = record { right = t.b; right_at = place_of m t.b; left = t.c; left_at = place_of m t.c; owner = t.owner }

    s2 : Spoke
    s2 = record { right = t.c; right_at = place_of m t.c; left = t.a; left_at = place_of m t.a; owner = t.owner }

    s3 : Spoke
    s3 = record { right = t.a; right_at = place_of m t.a; left = t.b; left_at = place_of m t.b; owner = t.owner }

    go : (a b c : Bool) → cond a (Some s1) (cond b (Some s2) (cond c (Some s3) None)) ≡ Some s → IsPlaced m s
    go true b c k = subst (λ w. IsPlaced m w) (some_same k) record { right = refl; left = refl }
    go false true c k = subst (λ w. IsPlaced m w) (some_same k) record { right = refl; left = refl }
    go false false true k = subst (λ w. IsPlaced m w) (some_same k) record { right = refl; left = refl }
    go false false false k = absurd (let z : None ≡ Some s = k in cc)

pub spokes-placed : (m : Undivided) (n : ℕ) (s : Spoke) → Contains (spokes_of m n) s → IsPlaced m s
spokes-placed m n s h = elim (insert_all_by-cases spoke_lt s (filter_map (spoke_of m n) m.tris) [] h) [
  | inl a ↦ let r = filter_map-out (spoke_of m n) m.tris s a in spoke_of-placed m n r.0 s r.2
  | inr b ↦ absurd (nowhere s b)
]

-- the nodes that spokes show
abbrev right_site : Spoke → Site
right_site s = record { name = s.right; at = s.right_at }

abbrev left_site : Spoke → Site
left_site s = record { name = s.left; at = s.left_at }

two_sites : (s : Spoke) (x : Site) → Contains (spoke_sites s) x → (x ≡ right_site s) ⊎ (x ≡ left_site s)
two_sites s x a = elim (cases x (right_site s) (left_site s ∷ []) a) [ inl e ↦ inl e | inr k ↦ elim (cases x (left_site s) [] k) [ inl e ↦ inr e | inr z ↦ absurd (nowhere x z) ] ]

spoke_sites-means : (ss : List Spoke) (x : Site) → Contains (flat_map spoke_sites ss) x → (s : Spoke) × Contains ss s × ((x ≡ right_site s) ⊎ (x ≡ left_site s))
spoke_sites-means [] x h = absurd (nowhere x h)
spoke_sites-means (s ∷ ss) x h = elim (Contains-append_cases (spoke_sites s) (flat_map spoke_sites ss) x h) [ inl a ↦ (s, here s ss, two_sites s x a) | inr b ↦ let r = spoke_sites-means ss x b in (r.0, there r.0 s ss r.1, r.2) ]

spoke_sites-has : (f : Spoke → Site) → ((s : Spoke) → Contains (spoke_sites s) (f s)) → (ss : List Spoke) (s : Spoke) → Contains ss s → Contains (flat_map spoke_sites ss) (f s)
spoke_sites-has f each [] s h = absurd (nowhere s h)
spoke_sites-has f each (r ∷ rs) s h = elim (cases s r rs h) [
  | inl e ↦ subst (λ w. Contains (flat_map spoke_sites (r ∷ rs)) (f w)) (sym e) (Contains-append_left (spoke_sites r) (flat_map spoke_sites rs) (f r) (each r))
  | inr k ↦ Contains-append_right (spoke_sites r) (flat_map spoke_sites rs) (f s) (spoke_sites-has f each rs s k)
]

spoke_sites-right : (ss : List Spoke) (s : Spoke) → Contains ss s → Contains (flat_map spoke_sites ss) (right_site s)
spoke_sites-right ss s h = spoke_sites-has right_site (λ s. here (right_site s) (left_site s ∷ [])) ss s h

spoke_sites-left : (ss : List Spoke) (s : Spoke) → Contains ss s → Contains (flat_map spoke_sites ss) (left_site s)
spoke_sites-left ss s h = spoke_sites-has left_site (λ s. there (left_site s) (right_site s) (left_site s ∷ []) (here (left_site s) [])) ss s h

-- the sites of a star stand as in the mesh
pub sites-stand : (m : Undivided) (n : ℕ) → IsLive m n → StandAs m (sites_in (star_of m n))
sites-stand m n l = subst (λ b. StandAs m (sites_in (cond b (Some record { node = n; at = place_of m n; spokes = spokes_of m n }) None))) (sym l) all
  where
    all : StandAs m (record { name = n; at = place_of m n } ∷ flat_map spoke_sites (spokes_of m n))
    all x h = elim (cases x own (flat_map spoke_sites (spokes_of m n)) h) [
      | inl e ↦ subst (λ w. w.at ≡ place_of m w.name) (sym e) refl
      | inr k ↦ (let r = spoke_sites-means (spokes_of m n) x k in let p = spokes-placed m n r.0 r.1 in elim r.2 [ inl e ↦ subst (λ w. w.at ≡ place_of m w.name) (sym e) p.right | inr e ↦ subst (λ w. w.at ≡ place_of m w.name) (sym e) p.left ])
    ]
      where
        own : Site
        own = record { name = n; at = place_of m n }

-- the name is that of the node or of a neighbour
abbrev pub IsSeen : Undivided → ℕ → ℕ → Type 0
IsSeen m n x = (n ≡ x) ⊎ ((s : Spoke) × Contains (spokes_of m n) s × ((s.right ≡ x) ⊎ (s.left ≡ x)))

-- what a star shows stands where it stands in the mesh
pub point-shown : (m : Undivided) (n x : ℕ) → IsLive m n → IsSeen m n x → point_of (sites_in (star_of m n)) x ≡ Some (place_of m x)
point-shown m n x l i = point-stands m (sites_in (star_of m n)) x (sites-stand m n l) (subst (λ b. (s : Site) × Contains (sites_in (cond b (Some record { node = n; at = place_of m n; spokes = spokes_of m n }) None)) s × (s.name ≡ x)) (sym l) (found i))
  where
    own : Site
    own = record { name = n; at = place_of m n }

    found : IsSeen m n x → (s : Site) × Contains (own ∷ flat_map spoke_sites (spokes_of m n)) s × (s.name ≡ x)
    found (inl e) = (own, here own (flat_map spoke_sites (spokes_of m n)), e)
    found (inr r) = elim r.2 [ inl e ↦ (right_site r.0, there (right_site r.0) own (flat_map spoke_sites (spokes_of m n)) (spoke_sites-right (spokes_of m n) r.0 r.1), e) | inr e ↦ (left_site r.0, there (left_site r.0) own (flat_map spoke_sites (spokes_of m n)) (spoke_sites-left (spokes_of m n) r.0 r.1), e) ]

pub place-shown : (m : Undivided) (bands : List Band) (n x : ℕ) → IsLive m n → IsSeen m n x → place_of (sight_of bands (star_of m n)) x ≡ place_of m x
place-shown m bands n x l i = ap (λ o. unwrap_or o record { x = pos 0; y = pos 0 }) (point-shown m n x l i)

-- what a star shows is live
pub seen_live : (m : Undivided) → IsConforming m → (n x : ℕ) → IsLive m n → IsSeen m n x → IsLive m x
seen_live m ok n x l (inl e) = subst (λ w. IsLive m w) e l
seen_live m ok n x l (inr r) =
    let c = corners_of m ok n r.0.right r.0.left r.0.owner (spokes-means m ok n r.0 r.1) in
    elim r.2 [ inl e ↦ subst (λ w. IsLive m w) e c.live_q | inr e ↦ subst (λ w. IsLive m w) e c.live_z ]

-- a point that is found is a site's, and a star's sites are live
pub point_of-name : (ss : List Site) (k : ℕ) → is_some (point_of ss k) ≡ true → (s : Site) × Contains ss s × (s.name ≡ k)
point_of-name [] k h = absurd (let e : false ≡ true = h in cc)
point_of-name (s ∷ ss) k h = go (s.name == k) refl h (λ e. point_of-name ss k e)
  where
    go : (b : Bool) → (s.name == k) ≡ b → is_some (cond b (Some s.at) (point_of ss k)) ≡ true → (is_some (point_of ss k) ≡ true → (r : Site) × Contains ss r × (r.name ≡ k)) → (r : Site) × Contains (s ∷ ss) r × (r.name ≡ k)
    go true e f ih = (s, here s ss, eqb-true s.name k e)
    go false e f ih = let r = ih f in (r.0, there r.0 s ss r.1, r.2)

pub shown_live : (m : Undivided) → IsConforming m → (n k : ℕ) → is_some (point_of (sites_in (star_of m n)) k) ≡ true → IsLive m k
shown_live m ok n k h = go (is_some (point_of m.sites n)) refl h
  where
    own : Site
    own = record { name = n; at = place_of m n }

    seen : (s : Site) → Contains (own ∷ flat_map spoke_sites (spokes_of m n)) s → IsSeen m n s.name
    seen s i = elim (cases s own (flat_map spoke_sites (spokes_of m n)) i) [
      | inl e ↦ inl (sym (ap (λ w. w.name) e))
      | inr j ↦ (let r = spoke_sites-means (spokes_of m n) s j in elim r.2 [ inl e ↦ inr (r.0, r.1, inl (sym (ap (λ w. w.name) e))) | inr e ↦ inr (r.0, r.1, inr (sym (ap (λ w. w.name) e))) ])
    ]

    go : (b : Bool) → is_some (point_of m.sites n) ≡ b → is_some (point_of (sites_in (cond b (Some record { node = n; at = place_of m n; spokes = spokes_of m n }) None)) k) ≡ true → IsLive m k
    go true l f = let r = point_of-name (own ∷ flat_map spoke_sites (spokes_of m n)) k f in subst (λ w. IsLive m w) r.2 (seen_live m ok n r.0.name l (seen r.0 r.1))
    go false l f = absurd (let e : false ≡ true = f in cc)

-- the parts of a star
pub record IsStarOf (m : Undivided) (n : ℕ) (s : Star) : Type 0 where
  pub live : IsLive m n
  pub node : s.node ≡ n
  pub at : s.at ≡ place_of m n
  pub spokes : s.spokes ≡ spokes_of m n

pub star_parts : (m : Undivided) (n : ℕ) (s : Star) → star_of m n ≡ Some s → IsStarOf m n s
star_parts m n s h = go (is_some (point_of m.sites n)) refl h
  where
    whole : Star
    whole = record { node = n; at = place_of m n; spokes = spokes_of m n }

    go : (b : Bool) → is_some (point_of m.sites n) ≡ b → cond b (Some whole) None ≡ Some s → IsStarOf m n s
    go true l e = let same : whole ≡ s = some_same e in record { live = l; node = sym (ap (λ w. w.node) same); at = sym (ap (λ w. w.at) same); spokes = sym (ap (λ w. w.spokes) same) }
    go false l e = absurd (let k : None ≡ Some s = e in cc)
