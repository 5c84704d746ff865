-- The mesh of accepted triangles is conforming.
use Rattle.std.proofs.Common.{◌≡◌, ℕ, suc, ◌<◌, ◌≤◌, List, [], ◌∷◌, length, refl, sym, ◌∙◌, ap, subst, Bool, true, false, cond, filter, inl, inr, arith, Option, Some, None, is_some, unwrap_or, pos, negsuc, ℤ, ◌==◌, ◌&&◌}
use Rattle.std.specs.Prelude.{Contains, All, nat_lt, int_le, ◌<ℤ◌}
use Rattle.std.specs.List.{list_any}
use Rattle.std.proofs.lemmas.Bool.Decides.{nat_tests}
use Rattle.std.proofs.lemmas.Int.{ints}
use Rattle.std.proofs.lemmas.List.Elements.{All-tail, All-head}
use Rattle.pf_geom.specs.declared.Point.{Point}
use Rattle.pf_geom.specs.Plane.{IsInRange, IsWithin, orient_of}
use Rattle.pf_model.specs.declared.Tri.{Tri}
use Rattle.pf_model.specs.declared.Site.{Site}
use Rattle.pf_model.specs.Rising.{IsRising, sorted_by}
use Rattle.pf_model.specs.Mesh.{tri_lt, has_edge, has_corner, point_of, place_of, turn_at}
use Rattle.pf_model.specs.Conforming.{IsConforming, IsLive, HasEdgesOnce, holds}
use Rattle.pf_model.specs.Build.{sites_from, default_band, mesh_with}
use Rattle.pf_model.proofs.Members.{nowhere, here, there, cases, filter-out, insert_all_by-new, insert_all_by-cases}
use Rattle.pf_model.proofs.RisingLemmas.{AreApart, rising-nil, rising-cons, rising-filter, rising-insert_all_by}
use Rattle.pf_model.proofs.Triangles.{tri_lt-order, tri_lt-apart}
use Rattle.pf_model.proofs.Kept.{any-from, any-means, has_edge-first}
use Rattle.pf_model.specs.Exchange.{AreOnce, AreSound}
use Rattle.pf_model.proofs.Exchange.{bool_cases}
use Rattle.pf_apply.proofs.BuildLaw.{live-points}
use Rattle.pf_apply.specs.BuildSteps.{AreAccepted, points_mesh}

apart : (b : Bool) → b ≡ true → b ≡ false → ⊥
apart b e f = let k : true ≡ false = sym e ∙ f in absurd (cc)

sorted-means : (ts : List Tri) (t : Tri) → Contains (sorted_by tri_lt ts) t → Contains ts t
sorted-means ts t h = elim (insert_all_by-cases tri_lt t ts [] h) [ inl a ↦ a | inr b ↦ absurd (nowhere t b) ]

sorted-has : (ts : List Tri) (t : Tri) → Contains ts t → Contains (sorted_by tri_lt ts) t
sorted-has ts t h = insert_all_by-new tri_lt t ts [] h

apart-sound : (ts : List Tri) → AreOnce ts → HasEdgesOnce ts → AreApart tri_lt ts
apart-sound [] d once = tt
apart-sound (t ∷ ts) d once = ((λ z h. tri_lt-apart t z (bare z h)), apart-sound ts d.1 (λ r s p q a b. once r s p q (there r t ts a) (there s t ts b)))
  where
    bare : (z : Tri) → Contains ts z → has_edge t.a t.b z ≡ false
    bare z h = elim (bool_cases (has_edge t.a t.b z)) [ inl e ↦ absurd (d.0 z h (once t z t.a t.b (here t ts) (there z t ts h) (has_edge-first t) e)) | inr e ↦ e ]

pub sorted-rising : (ts : List Tri) → AreSound ts → IsRising tri_lt (sorted_by tri_lt ts)
sorted-rising ts s = rising-insert_all_by tri_lt tri_lt-order ts [] (apart-sound ts s.once s.edges_once) (λ x h z k. absurd (nowhere z k)) (rising-nil tri_lt)

-- the point of a name among sites that pass a test of their names
pub point_of-filter : (q : ℕ → Bool) (ss : List Site) (n : ℕ) → point_of (filter (λ s. q s.name) ss) n ≡ cond (q n) (point_of ss n) None
point_of-filter q [] n = go (q n)
  where
    go : (b : Bool) → None ≡ cond {A = Option Point} b None None
    go true = refl
    go false = refl
point_of-filter q (s ∷ ss) n = go (q s.name) refl (s.name == n) refl (point_of-filter q ss n)
  where
    same : (a b : ℕ) → (a == b) ≡ true → a ≡ b
    same a b e = grind (arith, nat_tests)

    go : (b : Bool) → q s.name ≡ b → (c : Bool) → (s.name == n) ≡ c → point_of (filter (λ s. q s.name) ss) n ≡ cond (q n) (point_of ss n) None → point_of (cond b (s ∷ filter (λ s. q s.name) ss) (filter (λ s. q s.name) ss)) n ≡ cond (q n) (cond (s.name == n) (Some s.at) (point_of ss n)) None
    go true e true f ih = ap (λ x. cond x (Some s.at) (point_of (filter (λ s. q s.name) ss) n)) f ∙ sym (ap (λ x. cond x (cond (s.name == n) (Some s.at) (point_of ss n)) None) (ap q (sym (same s.name n f)) ∙ e) ∙ ap (λ x. cond x (Some s.at) (point_of ss n)) f)
    go true e false f ih = ap (λ x. cond x (Some s.at) (point_of (filter (λ s. q s.name) ss) n)) f ∙ (ih ∙ sym (ap (λ x. cond (q n) (cond x (Some s.at) (point_of ss n)) None) f))
    go false e true f ih = ih ∙ (ap (λ x. cond x (point_of ss n) None) (ap q (sym (same s.name n f)) ∙ e) ∙ sym (ap (λ x. cond x (cond (s.name == n) (Some s.at) (point_of ss n)) None) (ap q (sym (same s.name n f)) ∙ e)))
    go false e false f ih = ih ∙ sym (ap (λ x. cond (q n) (cond x (Some s.at) (point_of ss n)) None) f)

-- names and points of the numbered sites
names_from : (k : ℕ) (ps : List Point) (s : Site) → Contains (sites_from k ps) s → k ≤ s.name
names_from k [] s h = absurd (nowhere s h)
names_from k (p ∷ ps) s h = elim (cases s record { name = k; at = p } (sites_from (suc k) ps) h) [ inl e ↦ (let x : s.name ≡ k = ap (λ w. w.name) e in omega arith) | inr i ↦ (let x = names_from (suc k) ps s i in omega arith) ]

abbrev site_lt : Site → Site → Bool
site_lt r s = nat_lt r.name s.name

rising_from : (k : ℕ) (ps : List Point) → IsRising site_lt (sites_from k ps)
rising_from k [] = rising-nil site_lt
rising_from k (p ∷ ps) = rising-cons site_lt record { name = k; at = p } (sites_from (suc k) ps) (λ z h. above k z.name (names_from (suc k) ps z h)) (rising_from (suc k) ps)
  where
    above : (a b : ℕ) → suc a ≤ b → nat_lt a b ≡ true
    above a b l = grind (arith, nat_tests)

in_range_from : (k : ℕ) (ps : List Point) (s : Site) → All IsInRange ps → Contains (sites_from k ps) s → IsInRange s.at
in_range_from k [] s all h = absurd (nowhere s h)
in_range_from k (p ∷ ps) s all h = elim (cases s record { name = k; at = p } (sites_from (suc k) ps) h) [ inl e ↦ subst (λ w. IsInRange w.at) (sym e) (All-head IsInRange p ps all) | inr i ↦ in_range_from (suc k) ps s (All-tail IsInRange p ps all) i ]

holds_all : (p : Point) → IsInRange p → holds default_band p ≡ true
holds_all p r = all_four _ _ _ _ (low p.x r.x) (high p.x r.x) (low p.y r.y) (high p.y r.y)
  where
    low : (z : ℤ) → IsWithin 268435456 z → int_le (negsuc 268435455) z ≡ true
    low z w = let l = w.low in grind (arith, ints)

    high : (z : ℤ) → IsWithin 268435456 z → int_le z (pos 268435456) ≡ true
    high z w = let h = w.high in grind (arith, ints)

    all_four : (a b c d : Bool) → a ≡ true → b ≡ true → c ≡ true → d ≡ true → (a && (b && (c && d))) ≡ true
    all_four true true true true ea eb ec ed = refl
    all_four false b c d ea eb ec ed = absurd (apart false ea refl)
    all_four true false c d ea eb ec ed = absurd (apart false eb refl)
    all_four true true false d ea eb ec ed = absurd (apart false ec refl)
    all_four true true true false ea eb ec ed = absurd (apart false ed refl)

module _ (points : List Point) (ts : List Tri) (all : All IsInRange points) (part : AreAccepted points ts) where
  abbrev uses : ℕ → Bool
  uses n = list_any (has_corner n) ts

  pub point_in : (n : ℕ) → point_of (mesh_with points ts).sites n ≡ cond (list_any (has_corner n) ts) (point_of (sites_from 0 points) n) None
  point_in n = point_of-filter (λ n. list_any (has_corner n) ts) (sites_from 0 points) n

  live : (n : ℕ) (t : Tri) → Contains ts t → has_corner n t ≡ true → n < length points → IsLive (mesh_with points ts) n
  live n t h e l = ap is_some (point_in n ∙ ap (λ b. cond b (point_of (sites_from 0 points) n) None) (any-from (has_corner n) t ts h e)) ∙ live-points points n l

  place : (n : ℕ) (t : Tri) → Contains ts t → has_corner n t ≡ true → place_of (mesh_with points ts) n ≡ place_of (points_mesh points) n
  place n t h e = ap (λ o. unwrap_or o record { x = pos 0; y = pos 0 }) (point_in n ∙ ap (λ b. cond b (point_of (sites_from 0 points) n) None) (any-from (has_corner n) t ts h e))

  corner_a : (t : Tri) → has_corner t.a t ≡ true
  corner_a t = grind (arith, nat_tests)

  corner_b : (t : Tri) → has_corner t.b t ≡ true
  corner_b t = grind (arith, nat_tests)

  corner_c : (t : Tri) → has_corner t.c t ≡ true
  corner_c t = grind (arith, nat_tests)

  turn : (t : Tri) → Contains ts t → turn_at (mesh_with points ts) t.a t.b t.c ≡ turn_at (points_mesh points) t.a t.b t.c
  turn t h = λ i. orient_of (place t.a t h (corner_a t) i) (place t.b t h (corner_b t) i) (place t.c t h (corner_c t) i)

  used : (n : ℕ) → IsLive (mesh_with points ts) n → list_any (has_corner n) (sorted_by tri_lt ts) ≡ true
  used n l = elim (bool_cases (list_any (has_corner n) ts)) [
    | inl e ↦ (let w = any-means (has_corner n) ts e in any-from (has_corner n) w.0 (sorted_by tri_lt ts) (sorted-has ts w.0 w.1) w.2)
    | inr e ↦ absurd (apart _ l (ap is_some (point_in n ∙ ap (λ b. cond b (point_of (sites_from 0 points) n) None) e)))
  ]

  pub built-conforms : IsConforming (mesh_with points ts)
  built-conforms =
      record {
        proper = λ t h. (let k = sorted-means ts t h in let w = part.corners t k in let s = part.sound.turned t k in record { first = live t.a t k (corner_a t) w.0; second = live t.b t k (corner_b t) w.1; third = live t.c t k (corner_c t) w.2; least = s.least; least' = s.least'; apart = s.apart });
        positive = λ t h. (let k = sorted-means ts t h in subst (λ w. pos 0 <ℤ w) (sym (turn t k)) (part.positive t k));
        edges_once = λ s t p q a b. part.sound.edges_once s t p q (sorted-means ts s a) (sorted-means ts t b);
        used = used;
        owned = λ t h. (let e = part.owned t (sorted-means ts t h) in let l : t.owner < 1 = omega arith in l);
        in_range = λ s h. in_range_from 0 points s all (filter-out (λ s. list_any (has_corner s.name) ts) s (sites_from 0 points) h).0;
        default = holds_all;
        sites_rise = λ i j d l k. less _ _ (rising-filter site_lt (λ s. list_any (has_corner s.name) ts) (sites_from 0 points) (rising_from 0 points) i j d l k);
        tris_rise = sorted-rising ts part.sound;
      }
    where
      less : (a b : ℕ) → nat_lt a b ≡ true → a < b
      less a b e = grind (arith, nat_tests)
