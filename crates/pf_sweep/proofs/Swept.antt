-- What is swept are the stars.
-- Assumes `IsConforming m`, and that the points are those of the mesh.
use Rattle.std.proofs.Common.{◌≡◌, ◌≢◌, ℕ, suc, ◌+◌, ◌<◌, ◌≤◌, List, [], ◌∷◌, length, get_or, refl, sym, ◌∙◌, ap, subst, Bool, true, false, cond, ◌==◌, ◌&&◌, ◌||◌, ◌⊎◌, inl, inr, arith, Option, Some, None, is_some, unwrap_or, pos, zero}
use Rattle.std.specs.Prelude.{Contains, All, AllPairs, filter, filter_map, map, nat_lt}
use Rattle.std.specs.List.{IsDistinct}
use Rattle.std.specs.List.Sorted.{IsPermutation}
use Rattle.std.proofs.lemmas.Bool.Decides.{nat_tests}
use Rattle.std.proofs.lemmas.Bool.{eqb-true}
use Rattle.std.proofs.lemmas.List.Sorted.{Contains-permutation, IsPermutation-sym}
use Rattle.std.proofs.lemmas.List.Elements.{Contains-get_or}
use Rattle.std.proofs.lemmas.Map.Keys.{IsDistinct-from_apart}
use Rattle.pf_geom.specs.declared.Point.{Point}
use Rattle.pf_model.specs.declared.Tri.{Tri}
use Rattle.pf_model.specs.declared.Site.{Site}
use Rattle.pf_model.specs.declared.Spoke.{Spoke}
use Rattle.pf_model.specs.Rising.{AreDifferent, IsRising}
use Rattle.pf_model.specs.Mesh.{Undivided, point_of, place_of}
use Rattle.pf_model.specs.Build.{point_at}
use Rattle.pf_model.specs.Conforming.{IsConforming, IsLive}
use Rattle.pf_model.specs.Stars.{Star, star_of, spoke_of, spoke_lt, spokes_of}
use Rattle.pf_model.proofs.Members.{nowhere, here, there, cases, filter-in, filter-out}
use Rattle.pf_model.proofs.RisingLemmas.{rising-nil, rising-cons, rising-head, rising-tail, rising-filter}
use Rattle.pf_model.proofs.Totals.{map-in, map-means}
use Rattle.pf_model.proofs.Sorted.{different-at, sorted-from, sorted-is}
use Rattle.pf_model.proofs.Triangles.{least_first}
use Rattle.pf_model.proofs.Spokes.{different-raw, rising-different}
use Rattle.pf_model.proofs.EdgeSum.{conforming-sound, directed_edges_in-means}
use Rattle.pf_model.proofs.Exchange.{bool_cases}
use Rattle.pf_model.proofs.ContractKeeps.{flat_map-out}
use Rattle.pf_star_model.proofs.Patching.{spoke_lt-order, spokes-rise}
use Rattle.pf_star_model.proofs.Shown.{point_of-name}
use Rattle.pf_sweep.specs.declared.corners.Corner.{Corner}
use Rattle.pf_sweep.specs.Points.{ArePoints}
use Rattle.pf_sweep.specs.Sweep.{AreByRight, AreInOrder, corner_at, corners_of, grouped, spoke_by, star_by, turns_of}
use Rattle.pf_sweep.proofs.Turns.{corner_lt, corners-at, corners-rise, spokes-at}
use Rattle.pf_sweep.proofs.Blocks.{AreOfSites, SitesRise, grouped-is, sites-head, sites-tail}

-- the point of a site by its name
pub site-point : (ss : List Site) → SitesRise ss → (s : Site) → Contains ss s → point_of ss s.name ≡ Some s.at
site-point [] up s h = absurd (nowhere s h)
site-point (r ∷ rs) up s h = go (r.name == s.name) refl (cases s r rs h) (λ i. site-point rs (sites-tail r rs up) s i)
  where
    itself : (a : ℕ) → (a == a) ≡ true
    itself a = grind (arith, nat_tests)

    clash : (a b : ℕ) → (a == b) ≡ true → a < b → ⊥
    clash a b e f = grind (arith, nat_tests)

    go : (b : Bool) → (r.name == s.name) ≡ b → (s ≡ r) ⊎ Contains rs s → (Contains rs s → point_of rs s.name ≡ Some s.at) → cond b (Some r.at) (point_of rs s.name) ≡ Some s.at
    go true e (inl q) ih = ap (λ w. Some w.at) (sym q)
    go true e (inr i) ih = absurd (clash r.name s.name e (sites-head r rs up s i))
    go false e (inl q) ih = absurd (let x : true ≡ false = sym (itself r.name) ∙ (ap (λ w. r.name == w.name) (sym q) ∙ e) in cc)
    go false e (inr i) ih = ih i

module _ (m : Undivided) (ok : IsConforming m) (points : List Point) (p : ArePoints points m.sites) where
  -- the spokes of n in the triangles' order
  abbrev raw : ℕ → List Spoke
  raw n = filter_map (spoke_of m n) m.tris

  raw-is : (n : ℕ) → map (spoke_by points) (filter_map (corner_at n) m.tris) ≡ raw n
  raw-is n = spokes-at m points n p.each m.tris

  rights : (n : ℕ) → AreDifferent (map (λ s. s.right) (raw n))
  rights n = different-raw m ok n m.tris (λ t h. h) (rising-different m.tris ok.tris_rise)

  -- sorted by right, they are the star's
  abbrev right_eq : Spoke → Spoke → Bool
  right_eq r s = r.right == s.right

  right-flips : (r s : Spoke) → right_eq r s ≡ right_eq s r
  right-flips r s = go r.right s.right
    where
      go : (a b : ℕ) → (a == b) ≡ (b == a)
      go a b = grind (arith, nat_tests)

  rights-apart : (xs : List Spoke) → AreDifferent (map (λ s. s.right) xs) → (i j : ℕ) (d : Spoke) → i < j → j < length xs → right_eq (get_or xs i d) (get_or xs j d) ≡ false
  rights-apart [] o i j d l k = absurd (omega arith)
  rights-apart (x ∷ xs) o i j d l k = go i j l k (λ a b q r. rights-apart xs o.1 a b d q r)
    where
      no : (s : Spoke) → Contains xs s → right_eq x s ≡ false
      no s h = elim (bool_cases (right_eq x s)) [ inl e ↦ absurd (o.0 s.right (map-in (λ t. t.right) xs s h) (eqb-true x.right s.right e)) | inr e ↦ e ]

      go : (i j : ℕ) → i < j → j < length (x ∷ xs) → ((a b : ℕ) → a < b → b < length xs → right_eq (get_or xs a d) (get_or xs b d) ≡ false) → right_eq (get_or (x ∷ xs) i d) (get_or (x ∷ xs) j d) ≡ false
      go zero zero l k ih = absurd (omega arith)
      go zero (suc j) l k ih = no (get_or xs j d) (Contains-get_or xs j d (let w : suc j < suc (length xs) = k in omega arith))
      go (suc i) zero l k ih = absurd (omega arith)
      go (suc i) (suc j) l k ih = ih i j (omega arith) (let w : suc j < suc (length xs) = k in omega arith)

  pub spokes-sorted : (n : ℕ) (ss : List Spoke) → IsPermutation (raw n) ss → AreByRight ss → ss ≡ spokes_of m n
  spokes-sorted n ss perm order =
      sorted-from spoke_lt spoke_lt-order right_eq right-flips (raw n) ss (spokes-rise m ok n) (IsDistinct-from_apart right_eq (raw n) (rights-apart (raw n) (rights n))) perm
      (λ k d l e. up (get_or ss k d).right (get_or ss (k + 1) d).right (order k d l) e)
    where
      up : (a b : ℕ) → a ≤ b → (a == b) ≡ false → nat_lt a b ≡ true
      up a b l e = grind (arith, nat_tests)

  -- one star alone
  pub alone-is : (n : ℕ) (at : Point) (old ss : List Spoke) → point_of m.sites n ≡ Some at → old ≡ map (spoke_by points) (filter_map (corner_at n) m.tris) → IsPermutation old ss → AreByRight ss → Some record { node = n; at = at; spokes = ss } ≡ star_of m n
  alone-is n at old ss live is perm order =
      let same : ss ≡ spokes_of m n = spokes-sorted n ss (subst (λ l. IsPermutation l ss) (is ∙ raw-is n) perm) order in
      let place : at ≡ place_of m n = sym (ap (λ o. unwrap_or o record { x = pos 0; y = pos 0 }) live) in
      (λ i. Some record { node = n; at = place i; spokes = same i }) ∙ sym (ap (λ o. cond (is_some o) (Some record { node = n; at = place_of m n; spokes = spokes_of m n }) None) live)

  module _ (cs : List Corner) (perm : IsPermutation (corners_of m.tris) cs) (order : AreInOrder cs) where
    pub rise : IsRising corner_lt cs
    rise = corners-rise m.tris cs (conforming-sound m ok) perm order

    forth : (c : Corner) → Contains (corners_of m.tris) c → Contains cs c
    forth c h = Contains-permutation (corners_of m.tris) cs c perm h

    back : (c : Corner) → Contains cs c → Contains (corners_of m.tris) c
    back c h = Contains-permutation cs (corners_of m.tris) c (IsPermutation-sym (corners_of m.tris) cs perm) h

    -- those of the node n, in the triangles' order
    raw-corners : (n : ℕ) → map (spoke_by points) (filter (λ c. c.node == n) (corners_of m.tris)) ≡ raw n
    raw-corners n = ap (map (spoke_by points)) (corners-at n m.tris (least_first m ok)) ∙ raw-is n

    spokes-map : (n : ℕ) (ds : List Corner) → IsRising corner_lt ds → ((d : Corner) → Contains ds d → (d.node == n) ≡ true) → IsRising spoke_lt (map (spoke_by points) ds)
    spokes-map n [] up at = rising-nil spoke_lt
    spokes-map n (d ∷ ds) up at = rising-cons spoke_lt (spoke_by points d) (map (spoke_by points) ds) before (spokes-map n ds (rising-tail corner_lt d ds up) (λ e h. at e (there e d ds h)))
      where
        less : (a x b y : ℕ) → (a == n) ≡ true → (b == n) ≡ true → (nat_lt a b || (a == b && nat_lt x y)) ≡ true → nat_lt x y ≡ true
        less a x b y e f h = grind (arith, nat_tests)

        before : (s : Spoke) → Contains (map (spoke_by points) ds) s → spoke_lt (spoke_by points d) s ≡ true
        before s h = let r = map-means (spoke_by points) ds s h in subst (λ w. nat_lt d.right w.right ≡ true) r.2 (less d.node d.right r.0.node r.0.right (at d (here d ds)) (at r.0 (there r.0 d ds r.1)) (rising-head corner_lt d r.0 ds up r.1))

    -- the block of a node is its star's list
    block-is : (n : ℕ) → map (spoke_by points) (filter (λ c. c.node == n) cs) ≡ spokes_of m n
    block-is n =
        sorted-is spoke_lt spoke_lt-order (raw n) (map (spoke_by points) (filter (λ c. c.node == n) cs)) (spokes-rise m ok n)
        (spokes-map n (filter (λ c. c.node == n) cs) (rising-filter corner_lt (λ c. c.node == n) cs rise) (λ d h. (filter-out (λ c. c.node == n) d cs h).1))
        (λ z h. (let r = map-means (spoke_by points) (filter (λ c. c.node == n) (corners_of m.tris)) z (subst (λ l. Contains l z) (sym (raw-corners n)) h) in let k = filter-out (λ c. c.node == n) r.0 (corners_of m.tris) r.1 in subst (λ w. Contains (map (spoke_by points) (filter (λ c. c.node == n) cs)) w) r.2 (map-in (spoke_by points) (filter (λ c. c.node == n) cs) r.0 (filter-in (λ c. c.node == n) r.0 cs (forth r.0 k.0) k.1))))
        (λ z h. (let r = map-means (spoke_by points) (filter (λ c. c.node == n) cs) z h in let k = filter-out (λ c. c.node == n) r.0 cs r.1 in subst (λ l. Contains l z) (raw-corners n) (subst (λ w. Contains (map (spoke_by points) (filter (λ c. c.node == n) (corners_of m.tris))) w) r.2 (map-in (spoke_by points) (filter (λ c. c.node == n) (corners_of m.tris)) r.0 (filter-in (λ c. c.node == n) r.0 (corners_of m.tris) (back r.0 k.0) k.1)))))

    -- the node of each corner is a site
    of-sites : AreOfSites m.sites cs
    of-sites c h =
        let r = flat_map-out turns_of m.tris c (back c h) in
        let q = ok.proper r.0 r.1 in
        let live : IsLive m c.node = corner r.0 q.first q.second q.third r.2 in
        point_of-name m.sites c.node live
      where
        corner : (t : Tri) → IsLive m t.a → IsLive m t.b → IsLive m t.c → Contains (turns_of t) c → IsLive m c.node
        corner t a b d k =
            let c1 : Corner = record { node = t.a; right = t.b; left = t.c; owner = t.owner } in
            let c2 : Corner = record { node = t.b; right = t.c; left = t.a; owner = t.owner } in
            let c3 : Corner = record { node = t.c; right = t.a; left = t.b; owner = t.owner } in
            elim (cases c c1 (c2 ∷ c3 ∷ []) k) [
              | inl e ↦ subst (λ (w : Corner). IsLive m w.node) (sym e) a
              | inr k2 ↦ elim (cases c c2 (c3 ∷ []) k2) [
                | inl e ↦ subst (λ (w : Corner). IsLive m w.node) (sym e) b
                | inr k3 ↦ elim (cases c c3 [] k3) [ inl e ↦ subst (λ (w : Corner). IsLive m w.node) (sym e) d | inr n ↦ absurd (nowhere c n) ]
              ]
            ]

    star-is : (s : Site) → Contains m.sites s → Some (star_by points s (filter (λ c. c.node == s.name) cs)) ≡ star_of m s.name
    star-is s h =
        let live = site-point m.sites ok.sites_rise s h in
        let place : s.at ≡ place_of m s.name = sym (ap (λ o. unwrap_or o record { x = pos 0; y = pos 0 }) live) in
        let spokes = block-is s.name in
        (λ i. Some record { node = s.name; at = place i; spokes = spokes i }) ∙ sym (ap (λ o. cond (is_some o) (Some record { node = s.name; at = place_of m s.name; spokes = spokes_of m s.name }) None) live)

    each-star : (ss : List Site) → ((s : Site) → Contains ss s → Contains m.sites s) → map (λ s. Some s) (map (λ s. star_by points s (filter (λ c. c.node == s.name) cs)) ss) ≡ map (λ s. star_of m s.name) ss
    each-star [] sub = refl
    each-star (s ∷ ss) sub = let a = star-is s (sub s (here s ss)) in let b = each-star ss (λ r h. sub r (there r s ss h)) in λ i. a i ∷ b i

    pub swept-is : map (λ s. Some s) (grouped points m.sites cs) ≡ map (λ s. star_of m s.name) m.sites
    swept-is = ap (map (λ s. Some s)) (grouped-is points m.sites cs rise ok.sites_rise of-sites) ∙ each-star m.sites (λ s h. h)
