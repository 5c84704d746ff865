-- The stars after a bisection that passes.
-- Assumes `IsConforming m`, that each live name is below the new one, and that the stars of the ends are shown.
use Rattle.std.proofs.Common.{◌≡◌, ◌≢◌, ℕ, ◌+◌, ◌<◌, List, [], ◌∷◌, ◌++◌, refl, sym, ◌∙◌, ap, subst, Bool, true, false, cond, ◌⊎◌, inl, inr, arith}
use Rattle.std.specs.Prelude.{Contains, Option, Some, None, is_some, is_none, unwrap_or, min, max, pos, ◌==◌, nat_eq}
use Rattle.std.specs.Option.{option_map}
use Rattle.std.proofs.lemmas.Bool.Decides.{nat_tests}
use Rattle.std.proofs.lemmas.List.Elements.{Contains-append_cases, Contains-append_left, Contains-append_right}
use Rattle.std.proofs.lemmas.Bool.{or_cases}
use Rattle.pf_geom.specs.declared.Point.{Point}
use Rattle.pf_geom.specs.Plane.{middle_of}
use Rattle.pf_model.specs.declared.Tri.{Tri}
use Rattle.pf_model.specs.declared.Site.{Site}
use Rattle.pf_model.specs.declared.Op.TheVariants.{Bisect}
use Rattle.pf_model.specs.declared.Side.{Side}
use Rattle.pf_model.specs.Mesh.{Undivided, tri_of, has_edge, side_of, has_corner, point_of, place_of}
use Rattle.pf_model.specs.Conforming.{IsConforming, IsLive}
use Rattle.pf_model.specs.Applied.{IsFresh, applied, is_at_edge, halves_of, new_site}
use Rattle.pf_model.specs.Conditions.{first_failing}
use Rattle.pf_model.specs.Stars.{Star, star_of, spokes_of}
use Rattle.pf_model.proofs.Members.{nowhere, here, there, cases}
use Rattle.pf_model.proofs.Triangles.{IsLeastFirst, tri_of-corners, tri_of-apex}
use Rattle.pf_model.proofs.SitesAfter.{point_of-append, point_of-past, fresh_not_live}
use Rattle.pf_model.proofs.ReadClauses.{BisectPasses, bisect_passes, is_some-holds}
use Rattle.pf_model.proofs.Kept.{side_of-found}
use Rattle.pf_model.proofs.BisectKeeps.{bisect_keeps}
use Rattle.pf_star_model.specs.Lent.{IsShown, sites_in, sight_of}
use Rattle.pf_star_model.specs.Judged.{left_seen, right_seen}
use Rattle.pf_star_model.specs.Cavity.{apexes, cavity_of}
use Rattle.pf_star_model.specs.Patched.{spokes_after, star_after, made_star, kept_star, patched}
use Rattle.pf_star_model.proofs.Shown.{IsSeen, place-shown, point-shown, seen_live, shown_live, spokes-absent}
use Rattle.pf_star_model.proofs.Sights.{IsAlike, min_or_max}
use Rattle.pf_star_model.proofs.Judging.{IsEdgeSeen, edge_seen, shown_sorted, seen_is_shown}
use Rattle.pf_star_model.proofs.Patching.{star_with, AreAlike, alike-tri_of, IsSightOf, added-once, spokes-patched, star-patched, star-outside}

halves_of-means : (n p q : ℕ) (s : Option Side) (t : Tri) → Contains (halves_of n p q s) t → (x : Side) × (s ≡ Some x) × ((t ≡ tri_of p n x.apex x.owner) ⊎ (t ≡ tri_of n q x.apex x.owner))
halves_of-means n p q None t h = absurd (nowhere t h)
halves_of-means n p q (Some x) t h = (x, refl, elim (cases t (tri_of p n x.apex x.owner) (tri_of n q x.apex x.owner ∷ []) h) [ inl e ↦ inl e | inr k ↦ elim (cases t (tri_of n q x.apex x.owner) [] k) [ inl e ↦ inr e | inr z ↦ absurd (nowhere t z) ] ])

abbrev origin : Point
origin = record { x = pos 0; y = pos 0 }

module _ (m : Undivided) (ok : IsConforming m) (chunk a b ticket : ℕ) (fresh : IsFresh m ticket) (passes : first_failing m chunk (Bisect a b) ≡ None) where
  abbrev lo : ℕ
  lo = min a b

  abbrev hi : ℕ
  hi = max a b

  abbrev new : ℕ
  new = m.first_new + ticket

  abbrev mid : Option Point
  mid = middle_of (place_of m lo) (place_of m hi)

  abbrev put : List Tri
  put = halves_of new lo hi (side_of m.tris lo hi) ++ halves_of new hi lo (side_of m.tris hi lo)

  abbrev sites : List Site
  sites = m.sites ++ new_site new mid

  abbrev pub after : Undivided
  after = applied m record { ticket = ticket; chunk = chunk; op = Bisect a b }

  pub ok' : IsConforming after
  ok' = bisect_keeps m chunk a b ticket ok fresh passes

  at_middle : (p : Point) × BisectPasses m lo hi p
  at_middle = bisect_passes m chunk a b passes

  pub seen : IsEdgeSeen m lo hi
  seen = edge_seen m ok lo hi at_middle.1.edge

  not_live : point_of m.sites new ≡ None
  not_live = fresh_not_live m.sites new fresh

  -- points after
  place_old : (k : ℕ) → IsLive m k → IsAlike after m k
  place_old k l =
      let p = is_some-holds (point_of m.sites k) l in
      ap (λ o. unwrap_or o origin) (point_of-append m.sites (new_site new mid) k p.0 p.1 ∙ sym p.1)

  found_new : (ss : List Site) → point_of ss new ≡ None → point_of (ss ++ new_site new mid) new ≡ Some at_middle.0
  found_new ss e = point_of-past ss (new_site new mid) new e ∙ (ap (λ o. point_of (new_site new o) new) at_middle.1.middle ∙ itself new)
    where
      itself : (k : ℕ) → point_of (record { name = k; at = at_middle.0 } ∷ []) k ≡ Some at_middle.0
      itself k = let e : nat_eq k k ≡ true = grind (arith, nat_tests) in rw e refl

  -- points of the sight
  abbrev sight : Undivided
  sight = record (sight_of [] (star_of m lo)) { sites = sites_in (star_of m lo) ++ new_site new mid }

  sight_old : (x : ℕ) → IsSeen m lo x → IsAlike sight after x
  sight_old x i = ap (λ o. unwrap_or o origin) (point_of-append (sites_in (star_of m lo)) (new_site new mid) x (place_of m x) (point-shown m lo x seen.live i)) ∙ sym (place_old x (seen_live m ok lo x seen.live i))

  sight_none : point_of (sites_in (star_of m lo)) new ≡ None
  sight_none = go (point_of (sites_in (star_of m lo)) new) refl
    where
      go : (o : Option Point) → point_of (sites_in (star_of m lo)) new ≡ o → o ≡ None
      go None e = refl
      go (Some p) e = absurd (let l : new < new = fresh new (shown_live m ok lo new (ap is_some e)) in omega arith)

  sight_new : IsAlike sight after new
  sight_new = ap (λ o. unwrap_or o origin) (found_new (sites_in (star_of m lo)) sight_none ∙ sym (found_new m.sites not_live))

  pub sight_at_new : place_of sight new ≡ unwrap_or mid origin
  sight_at_new = ap (λ o. unwrap_or o origin) (found_new (sites_in (star_of m lo)) sight_none ∙ sym at_middle.1.middle)

  pub sight_at_old : (x : ℕ) → IsSeen m lo x → place_of sight x ≡ place_of m x
  sight_at_old x i = sight_old x i ∙ place_old x (seen_live m ok lo x seen.live i)

  half : (p q : ℕ) (s : Option Side) → IsSeen m lo p → IsSeen m lo q → ((x : Side) → s ≡ Some x → IsSeen m lo x.apex) → (t : Tri) → Contains (halves_of new p q s) t → AreAlike sight after t
  half p q s hp hq hs t h =
      let r = halves_of-means new p q s t h in
      elim r.2 [
        | inl e ↦ subst (λ w. AreAlike sight after w) (sym e) (alike-tri_of sight after p new r.0.apex r.0.owner (sight_old p hp) sight_new (sight_old r.0.apex (hs r.0 r.1)))
        | inr e ↦ subst (λ w. AreAlike sight after w) (sym e) (alike-tri_of sight after new q r.0.apex r.0.owner sight_new (sight_old q hq) (sight_old r.0.apex (hs r.0 r.1)))
      ]

  points : (t : Tri) → Contains put t → AreAlike sight after t
  points t h = elim (Contains-append_cases (halves_of new lo hi (side_of m.tris lo hi)) (halves_of new hi lo (side_of m.tris hi lo)) t h) [
    | inl i ↦ half lo hi (side_of m.tris lo hi) (inl refl) seen.other seen.left t i
    | inr i ↦ half hi lo (side_of m.tris hi lo) seen.other (inl refl) seen.right t i
  ]

  is_sight : IsSightOf m sites (is_at_edge lo hi) put ok ok' sight put
  is_sight =
      record {
        all = λ t h. h;
        only = λ t h. h;
        once = added-once m sites (is_at_edge lo hi) put ok ok';
        points = points;
        stay = λ t h k. (let p = ok.proper t h in record { first = place_old t.a p.first; second = place_old t.b p.second; third = place_old t.c p.third });
      }

  -- who is live after
  pub live_same : (n : ℕ) → n ≢ new → is_some (point_of sites n) ≡ is_some (point_of m.sites n)
  live_same n d = go (point_of m.sites n) refl
    where
      other : (o : Option Point) → point_of (new_site new o) n ≡ None
      other None = refl
      other (Some p) = let e : nat_eq new n ≡ false = differs n d in rw e refl
        where
          differs : (k : ℕ) → k ≢ new → nat_eq new k ≡ false
          differs k f = grind (arith, nat_tests)

      go : (o : Option Point) → point_of m.sites n ≡ o → is_some (point_of sites n) ≡ is_some o
      go (Some p) e = ap is_some (point_of-append m.sites (new_site new mid) n p e)
      go None e = ap is_some (point_of-past m.sites (new_site new mid) n e ∙ other mid)

  pub bisect_spokes : (n : ℕ) → spokes_of after n ≡ spokes_after sight (is_at_edge lo hi) put n (spokes_of m n)
  bisect_spokes n = spokes-patched m sites (is_at_edge lo hi) put ok ok' sight put is_sight n

  pub new_spokes : spokes_of m new ≡ []
  new_spokes = spokes-absent m ok new not_live

  pub bisect_star : (n : ℕ) → n ≢ new → star_of after n ≡ option_map (star_after sight (is_at_edge lo hi) put) (star_of m n)
  bisect_star n d = star-patched m sites (is_at_edge lo hi) put ok ok' sight put is_sight n (live_same n d) (λ l. place_old n l)

  -- the new node's star
  pub bisect_new : star_of after new ≡ star_with new (place_of sight new) (spokes_after sight (is_at_edge lo hi) put new [])
  bisect_new =
      ap (λ c. cond (is_some c) (star_with new (place_of after new) (spokes_of after new)) None) (found_new m.sites not_live)
      ∙ (ap (λ p. star_with new p (spokes_of after new)) (sym sight_new)
      ∙ ap (λ ss. star_with new (place_of sight new) ss) (bisect_spokes new ∙ ap (λ ss. spokes_after sight (is_at_edge lo hi) put new ss) new_spokes))

  -- by the held stars
  abbrev sight_by : Option Star → Point → Point → Undivided
  sight_by o p q = record (sight_of [] o) { sites = sites_in o ++ new_site new (middle_of p q) }

  abbrev put_by : Option Side → Option Side → List Tri
  put_by l r = halves_of new lo hi l ++ halves_of new hi lo r

  -- what is made of the sight and of the triangles that are put in
  by_lent : {X : Type 0} (f : Undivided → List Tri → X) (lent : ℕ → Option Star) → IsShown lent m a → IsShown lent m b → f (sight_by (lent lo) (place_of (sight_of [] (lent lo)) lo) (place_of (sight_of [] (lent lo)) hi)) (put_by (left_seen lent lo hi) (right_seen lent lo hi)) ≡ f sight put
  by_lent f lent ha hb =
      seen_is_shown (λ o l r. f (sight_by o (place_of (sight_of [] o) lo) (place_of (sight_of [] o) hi)) (put_by l r)) m ok lent lo hi (shown_sorted m lent a b ha hb).0
      ∙ (ap (λ p. f (sight_by (star_of m lo) p (place_of (sight_of [] (star_of m lo)) hi)) put) (place-shown m [] lo lo seen.live (inl refl))
      ∙ ap (λ p. f (sight_by (star_of m lo) (place_of m lo) p) put) (place-shown m [] lo hi seen.live seen.other))

  same_name : (k : ℕ) → (k == new) ≡ true → k ≡ new
  same_name k e = grind (arith, nat_tests)

  other_name : (k : ℕ) → (k == new) ≡ false → k ≢ new
  other_name k e = grind (arith, nat_tests)

  made_is : (lent : ℕ → Option Star) → IsShown lent m a → IsShown lent m b → (n : ℕ) → n ≡ new → Some (made_star lent new (Bisect a b)) ≡ star_of after n
  made_is lent ha hb n e = by_lent (λ w ts. star_with new (place_of w new) (spokes_after w (is_at_edge lo hi) ts new [])) lent ha hb ∙ (sym bisect_new ∙ ap (star_of after) (sym e))

  pub bisect_made : (lent : ℕ → Option Star) → IsShown lent m a → IsShown lent m b → (n : ℕ) → n ≡ new → patched lent new (Bisect a b) n ≡ star_of after n
  bisect_made lent ha hb n e = ap (λ c. cond c (Some (made_star lent new (Bisect a b))) (kept_star lent new (Bisect a b) n)) (itself n e) ∙ made_is lent ha hb n e
    where
      itself : (k : ℕ) → k ≡ new → (k == new) ≡ true
      itself k f = grind (arith, nat_tests)

  pub bisect_patched : (lent : ℕ → Option Star) → IsShown lent m a → IsShown lent m b → (n : ℕ) → IsShown lent m n → patched lent new (Bisect a b) n ≡ star_of after n
  bisect_patched lent ha hb n hn = go (n == new) refl
    where
      go : (c : Bool) → (n == new) ≡ c → cond c (Some (made_star lent new (Bisect a b))) (kept_star lent new (Bisect a b) n) ≡ star_of after n
      go true e = made_is lent ha hb n (same_name n e)
      go false e = ap (λ o. option_map (star_after (sight_by (lent lo) (place_of (sight_of [] (lent lo)) lo) (place_of (sight_of [] (lent lo)) hi)) (is_at_edge lo hi) (put_by (left_seen lent lo hi) (right_seen lent lo hi))) o) hn ∙ (by_lent (λ w ts. option_map (star_after w (is_at_edge lo hi) ts) (star_of m n)) lent ha hb ∙ sym (bisect_star n (other_name n e)))

  -- the names at what goes and comes
  abbrev IsApex : Option Side → ℕ → Type 0
  IsApex o n = (s : Side) × (o ≡ Some s) × (s.apex ≡ n)

  abbrev IsCorner : ℕ → Type 0
  IsCorner n = (lo ≡ n) ⊎ ((hi ≡ n) ⊎ (IsApex (side_of m.tris lo hi) n ⊎ IsApex (side_of m.tris hi lo) n))

  least : (t : Tri) → Contains m.tris t → IsLeastFirst t
  least t h = let p = ok.proper t h in record { least = p.least; least' = p.least'; apart = p.apart }

  at_side : (n p q : ℕ) (t : Tri) → Contains m.tris t → has_edge p q t ≡ true → has_corner n t ≡ true → (p ≡ n) ⊎ ((q ≡ n) ⊎ IsApex (side_of m.tris p q) n)
  at_side n p q t h e k =
      let same = tri_of-apex p q t (least t h) e in
      let f = side_of-found m.tris ok.edges_once p q t h e in
      elim (tri_of-corners n p q _ _ (subst (λ w. has_corner n w ≡ true) (sym same) k)) [ inl x ↦ inl x | inr y ↦ elim y [ inl x ↦ inr (inl x) | inr x ↦ inr (inr (_, f, x)) ] ]

  gone : (n : ℕ) (t : Tri) → Contains m.tris t → is_at_edge lo hi t ≡ true → has_corner n t ≡ true → IsCorner n
  gone n t h e k = elim (or_cases (has_edge lo hi t) (has_edge hi lo t) e) [ inl x ↦ one (at_side n lo hi t h x k) | inr x ↦ two (at_side n hi lo t h x k) ]
    where
      one : (lo ≡ n) ⊎ ((hi ≡ n) ⊎ IsApex (side_of m.tris lo hi) n) → IsCorner n
      one (inl x) = inl x
      one (inr (inl x)) = inr (inl x)
      one (inr (inr x)) = inr (inr (inl x))

      two : (hi ≡ n) ⊎ ((lo ≡ n) ⊎ IsApex (side_of m.tris hi lo) n) → IsCorner n
      two (inl x) = inr (inl x)
      two (inr (inl x)) = inl x
      two (inr (inr x)) = inr (inr (inr x))

  come : (n : ℕ) → n ≢ new → (t : Tri) → Contains put t → has_corner n t ≡ true → IsCorner n
  come n d t h k = elim (Contains-append_cases (halves_of new lo hi (side_of m.tris lo hi)) (halves_of new hi lo (side_of m.tris hi lo)) t h) [
    | inl i ↦ elim (part lo hi (side_of m.tris lo hi) i) [ inl x ↦ inl x | inr y ↦ elim y [ inl x ↦ inr (inl x) | inr x ↦ inr (inr (inl x)) ] ]
    | inr i ↦ elim (part hi lo (side_of m.tris hi lo) i) [ inl x ↦ inr (inl x) | inr y ↦ elim y [ inl x ↦ inl x | inr x ↦ inr (inr (inr x)) ] ]
  ]
    where
      part : (p q : ℕ) (s : Option Side) → Contains (halves_of new p q s) t → (p ≡ n) ⊎ ((q ≡ n) ⊎ IsApex s n)
      part p q s i =
          let r = halves_of-means new p q s t i in
          elim r.2 [
            | inl e ↦ first r.0 r.1 (tri_of-corners n p new r.0.apex r.0.owner (subst (λ w. has_corner n w ≡ true) e k))
            | inr e ↦ second r.0 r.1 (tri_of-corners n new q r.0.apex r.0.owner (subst (λ w. has_corner n w ≡ true) e k))
          ]
        where
          first : (x : Side) → s ≡ Some x → (p ≡ n) ⊎ ((new ≡ n) ⊎ (x.apex ≡ n)) → (p ≡ n) ⊎ ((q ≡ n) ⊎ IsApex s n)
          first x e (inl z) = inl z
          first x e (inr (inl z)) = absurd (d (sym z))
          first x e (inr (inr z)) = inr (inr (x, e, z))

          second : (x : Side) → s ≡ Some x → (new ≡ n) ⊎ ((q ≡ n) ⊎ (x.apex ≡ n)) → (p ≡ n) ⊎ ((q ≡ n) ⊎ IsApex s n)
          second x e (inl z) = absurd (d (sym z))
          second x e (inr (inl z)) = inr (inl z)
          second x e (inr (inr z)) = inr (inr (x, e, z))

  -- they are in the cavity
  pub bisect_cavity : cavity_of m chunk (Bisect a b) ≡ a ∷ b ∷ apexes (side_of m.tris lo hi) ++ apexes (side_of m.tris hi lo)
  bisect_cavity = ap (λ o. a ∷ b ∷ cond (is_none o) (apexes (side_of m.tris lo hi) ++ apexes (side_of m.tris hi lo)) []) passes

  in_cavity : (n : ℕ) → IsCorner n → Contains (a ∷ b ∷ apexes (side_of m.tris lo hi) ++ apexes (side_of m.tris hi lo)) n
  in_cavity n h = go h
    where
      more : List ℕ
      more = apexes (side_of m.tris lo hi) ++ apexes (side_of m.tris hi lo)

      end : Contains (a ∷ b ∷ more) lo × Contains (a ∷ b ∷ more) hi
      end = min_or_max (λ k. Contains (a ∷ b ∷ more) k) a b (here a (b ∷ more)) (there b a (b ∷ more) (here b more))

      apex : (o : Option Side) → IsApex o n → Contains (apexes o) n
      apex o x = subst (λ w. Contains (apexes w) n) (sym x.1) (subst (λ w. Contains (w ∷ []) n) (sym x.2) (here n []))

      go : IsCorner n → Contains (a ∷ b ∷ more) n
      go (inl x) = subst (λ k. Contains (a ∷ b ∷ more) k) x end.0
      go (inr (inl x)) = subst (λ k. Contains (a ∷ b ∷ more) k) x end.1
      go (inr (inr (inl x))) = there n a (b ∷ more) (there n b more (Contains-append_left (apexes (side_of m.tris lo hi)) (apexes (side_of m.tris hi lo)) n (apex (side_of m.tris lo hi) x)))
      go (inr (inr (inr x))) = there n a (b ∷ more) (there n b more (Contains-append_right (apexes (side_of m.tris lo hi)) (apexes (side_of m.tris hi lo)) n (apex (side_of m.tris hi lo) x)))

  pub bisect_outside : (n : ℕ) → n ≢ new → (Contains (cavity_of m chunk (Bisect a b)) n → ⊥) → star_of after n ≡ star_of m n
  bisect_outside n d out = star-outside m sites (is_at_edge lo hi) put ok ok' sight put is_sight n (live_same n d) (λ l. place_old n l) (λ t h e k. no (gone n t h e k)) (λ t h k. no (come n d t h k))
    where
      no : IsCorner n → ⊥
      no c = out (subst (λ l. Contains l n) (sym bisect_cavity) (in_cavity n c))
