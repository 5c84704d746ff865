-- A mesh whose triangles have their owners by a list: it is conforming, and the edge table shows it.
-- Assumes that each triangle has a place in the list.
use Rattle.std.proofs.Common.{◌≡◌, ℕ, ◌+◌, ◌<◌, ◌≤◌, List, [], ◌∷◌, ◌++◌, length, map, take, drop, refl, sym, ◌∙◌, ap, subst, Bool, true, false, cond, Some, pos, ◌&&◌, ◌||◌, ◌==◌, arith}
use Rattle.std.specs.Prelude.{Contains, All, ◌<ℤ◌}
use Rattle.std.specs.List.{list_any}
use Rattle.std.specs.Option.{option_map}
use Rattle.std.proofs.lemmas.Bool.Decides.{nat_tests}
use Rattle.std.proofs.lemmas.List.{take_all, drop_all, append-nil, length-map}
use Rattle.std.proofs.lemmas.List.Elements.{All-head, All-tail}
use Rattle.indexmap.specs.IndexMap.{index_map_len}
use Rattle.pf_model.specs.declared.Tri.{Tri}
use Rattle.pf_model.specs.declared.Band.{Band}
use Rattle.pf_model.specs.Rising.{IsRising}
use Rattle.pf_model.specs.Mesh.{Undivided, tri_lt, has_edge, has_corner, apex_in, side_of, turn_at}
use Rattle.pf_model.specs.Conforming.{IsConforming, IsProper, HasDefault, HasEdgesOnce}
use Rattle.pf_model.specs.Tables.{stand_as, are_corners, owner_listed, owned_as, AreListed, with_tables_of}
use Rattle.pf_model.proofs.Members.{here, there}
use Rattle.pf_model.proofs.RisingLemmas.{rising-nil, rising-cons, rising-head, rising-tail}
use Rattle.pf_model.proofs.Kept.{side_of-found, has_edge-first}
use Rattle.pf_model.proofs.Totals.{map-means}
use Rattle.pf_edges.specs.declared.table.Node.{Node}
use Rattle.pf_edges.specs.Table.{Sides, side_at, ShowsTriangles}
use Rattle.pf_model.specs.Exchange.{number_at}
use Rattle.pf_edges.specs.Kept.{IsKept}
use Rattle.pf_apply.specs.Tables.{owned_side, owner_or, owned_by_table}

-- every triangle was written
pub written : (f : Tri → Tri) (old items : List Tri) (len i : ℕ) → length items ≡ length old → length old ≡ len → length old ≤ i → items ≡ map f (take i old) ++ drop i old → take len (items ++ drop (length items) old) ≡ map f old
written f old items len i e l past is =
    let all : items ≡ map f old = is ∙ ((λ k. map f (take_all i old past k) ++ drop_all i old past k) ∙ append-nil (map f old)) in
    let none : drop (length items) old ≡ [] = drop_all (length items) old (omega (arith, e)) in
    let short : length items ≤ len = omega (arith, e, l) in
    ap (λ xs. take len (items ++ xs)) none ∙ (ap (take len) (append-nil items) ∙ (take_all len items short ∙ all))

or_round : (x y z : Bool) → (x || (y || z)) ≡ (z || (x || y))
or_round true true true = refl
or_round true true false = refl
or_round true false true = refl
or_round true false false = refl
or_round false true true = refl
or_round false true false = refl
or_round false false true = refl
or_round false false false = refl

-- from whichever corner on
pub corners_round : (p q z : ℕ) (c : List ℕ) → are_corners q z p c ≡ are_corners p q z c
corners_round p q z c = λ i. or_round (stand_as q z p c) (stand_as z p q c) (stand_as p q z c) i || sym (or_round (stand_as q p z c) (stand_as p z q c) (stand_as z q p c)) i

both : (x y : Bool) → (x && y) ≡ true → (x ≡ true) × (y ≡ true)
both true y e = (refl, e)
both false y e = absurd (let k : false ≡ true = e in cc)

same : (m n : ℕ) → (m == n) ≡ true → m ≡ n
same m n e = grind (arith, nat_tests)

-- a triangle's place by one of its edges
corners_at : (p q : ℕ) (t : Tri) (c : List ℕ) → has_edge p q t ≡ true → are_corners p q (apex_in p q t) c ≡ are_corners t.a t.b t.c c
corners_at p q t c h = go (t.a == p && t.b == q) refl (t.b == p && t.c == q) refl h
  where
    go : (x : Bool) → (t.a == p && t.b == q) ≡ x → (y : Bool) → (t.b == p && t.c == q) ≡ y → (x || (y || (t.c == p && t.a == q))) ≡ true → are_corners p q (cond x t.c (cond y t.a t.b)) c ≡ are_corners t.a t.b t.c c
    go true e y f k = let w = both (t.a == p) (t.b == q) e in λ i. are_corners (sym (same t.a p w.0) i) (sym (same t.b q w.1) i) t.c c
    go false e true f k = let w = both (t.b == p) (t.c == q) f in (λ i. are_corners (sym (same t.b p w.0) i) (sym (same t.c q w.1) i) t.a c) ∙ corners_round t.a t.b t.c c
    go false e false f k = let w = both (t.c == p) (t.a == q) k in (λ i. are_corners (sym (same t.c p w.0) i) (sym (same t.a q w.1) i) t.b c) ∙ sym (corners_round t.c t.a t.b c)

owner_at : (listed : List (List ℕ)) (owners : List ℕ) (p q : ℕ) (t : Tri) → has_edge p q t ≡ true → owner_listed listed owners p q (apex_in p q t) t.owner ≡ owner_listed listed owners t.a t.b t.c t.owner
owner_at [] owners p q t h = refl
owner_at (c ∷ cs) [] p q t h = refl
owner_at (c ∷ cs) (o ∷ os) p q t h = λ i. cond (corners_at p q t c h i) o (owner_at cs os p q t h i)

module _ (listed : List (List ℕ)) (owners : List ℕ) where
  abbrev taken : Tri → Tri
  taken = owned_as listed owners

  -- the sides of the triangles with their owners
  side_of-owned : (p q : ℕ) (ts : List Tri) → option_map (owned_side listed owners p q) (side_of ts p q) ≡ side_of (map taken ts) p q
  side_of-owned p q [] = refl
  side_of-owned p q (t ∷ ts) = go (has_edge p q t) refl (side_of-owned p q ts)
    where
      go : (b : Bool) → has_edge p q t ≡ b → option_map (owned_side listed owners p q) (side_of ts p q) ≡ side_of (map taken ts) p q → option_map (owned_side listed owners p q) (cond b (Some record { apex = apex_in p q t; owner = t.owner }) (side_of ts p q)) ≡ cond b (Some record { apex = apex_in p q t; owner = owner_listed listed owners t.a t.b t.c t.owner }) (side_of (map taken ts) p q)
      go true e ih = ap (λ o. Some record { apex = apex_in p q t; owner = o }) (owner_at listed owners p q t e)
      go false e ih = ih

  number_at-owned : (n : ℕ) (ts : List Tri) → number_at n (map taken ts) ≡ number_at n ts
  number_at-owned n [] = refl
  number_at-owned n (t ∷ ts) = ap (λ k. cond (has_corner n t) 1 0 + k) (number_at-owned n ts)

  any-owned : (n : ℕ) (ts : List Tri) → list_any (has_corner n) (map taken ts) ≡ list_any (has_corner n) ts
  any-owned n [] = refl
  any-owned n (t ∷ ts) = ap (λ b. has_corner n t || b) (any-owned n ts)

  rising-owned : (ts : List Tri) → IsRising tri_lt ts → IsRising tri_lt (map taken ts)
  rising-owned [] up = rising-nil tri_lt
  rising-owned (t ∷ ts) up = rising-cons tri_lt (taken t) (map taken ts) (λ z h. let r = map-means taken ts z h in subst (λ w. tri_lt (taken t) w ≡ true) r.2 (rising-head tri_lt t r.0 ts up r.1)) (rising-owned ts (rising-tail tri_lt t ts up))

  pub shows-owned : (old new : Sides) (nodes : List Node) (ts : List Tri) → ShowsTriangles old nodes ts → ((p q : ℕ) → side_at new p q ≡ option_map (owned_side listed owners p q) (side_at old p q)) → index_map_len new ≡ index_map_len old → ShowsTriangles new nodes (map taken ts)
  shows-owned old new nodes ts s sides len =
      record {
        sides = λ p q. sides p q ∙ (ap (option_map (owned_side listed owners p q)) (s.sides p q) ∙ side_of-owned p q ts);
        counts = λ n. s.counts n ∙ sym (number_at-owned n ts);
        all = (let a = s.all in let b = length-map ts taken in omega (arith, a, b, len));
      }

  -- the triangles with the owners that the table has
  pub owned-by_table : (old new : Sides) (nodes : List Node) (ts : List Tri) → ShowsTriangles old nodes ts → HasEdgesOnce ts → ((p q : ℕ) → side_at new p q ≡ option_map (owned_side listed owners p q) (side_at old p q)) → map (owned_by_table new) ts ≡ map taken ts
  owned-by_table old new nodes ts s once sides = go ts (λ t h. h)
    where
      one : (t : Tri) → Contains ts t → owned_by_table new t ≡ taken t
      one t h =
          let found : side_at new t.a t.b ≡ Some record { apex = apex_in t.a t.b t; owner = owner_listed listed owners t.a t.b (apex_in t.a t.b t) t.owner } = sides t.a t.b ∙ ap (option_map (owned_side listed owners t.a t.b)) (s.sides t.a t.b ∙ side_of-found ts once t.a t.b t h (has_edge-first t)) in
          ap (λ o. record t { owner = o }) (ap (owner_or t.owner) found ∙ owner_at listed owners t.a t.b t (has_edge-first t))

      go : (us : List Tri) → ((t : Tri) → Contains us t → Contains ts t) → map (owned_by_table new) us ≡ map taken us
      go [] stand = refl
      go (u ∷ us) stand = λ i. one u (stand u (here u us)) i ∷ go us (λ t h. stand t (there t u us h)) i

-- an owner that is listed is below the number of chunks
owner_below : (chunks : ℕ) (listed : List (List ℕ)) (owners : List ℕ) (p q z own : ℕ) → length owners ≡ length listed → All (λ o. o < chunks) owners → list_any (are_corners p q z) listed ≡ true → owner_listed listed owners p q z own < chunks
owner_below chunks [] owners p q z own e below h = absurd (let k : false ≡ true = h in cc)
owner_below chunks (c ∷ cs) [] p q z own e below h = absurd (omega (arith, e))
owner_below chunks (c ∷ cs) (o ∷ os) p q z own e below h = go (are_corners p q z c) h (λ k. owner_below chunks cs os p q z own (omega (arith, e)) (All-tail (λ o. o < chunks) o os below) k)
  where
    go : (b : Bool) → (b || list_any (are_corners p q z) cs) ≡ true → (list_any (are_corners p q z) cs ≡ true → owner_listed cs os p q z own < chunks) → cond b o (owner_listed cs os p q z own) < chunks
    go true k ih = All-head (λ o. o < chunks) o os below
    go false k ih = ih k

module _ (listed : List (List ℕ)) (owners : List ℕ) (chunks : ℕ) (bands : List Band) (m : Undivided) where
  abbrev after : Undivided
  after = with_tables_of listed owners chunks bands m

  means : (t : Tri) → Contains after.tris t → (s : Tri) × Contains m.tris s × (owned_as listed owners s ≡ t)
  means t h = map-means (owned_as listed owners) m.tris t h

  proper : (t : Tri) → IsProper m t → IsProper after (owned_as listed owners t)
  proper t p = record { first = p.first; second = p.second; third = p.third; least = p.least; least' = p.least'; apart = p.apart }

  -- the mesh with owners and bands is conforming
  pub owned-conforming : IsConforming m → AreListed listed m.tris → length owners ≡ length listed → All (λ o. o < chunks) owners → HasDefault bands → IsConforming (with_tables_of listed owners chunks bands m)
  owned-conforming ok stand len below default =
      record {
        proper = λ t h. (let r = means t h in subst (λ w. IsProper after w) r.2 (proper r.0 (ok.proper r.0 r.1)));
        positive = λ t h. (let r = means t h in subst (λ w. pos 0 <ℤ turn_at after w.a w.b w.c) r.2 (ok.positive r.0 r.1));
        edges_once = λ s t p q hs ht ks kt. (let r = means s hs in let u = means t ht in sym r.2 ∙ (ap (owned_as listed owners) (ok.edges_once r.0 u.0 p q r.1 u.1 (subst (λ w. has_edge p q w ≡ true) (sym r.2) ks) (subst (λ w. has_edge p q w ≡ true) (sym u.2) kt)) ∙ u.2));
        used = λ k l. any-owned listed owners k m.tris ∙ ok.used k l;
        owned = λ t h. (let r = means t h in subst (λ w. w.owner < chunks) r.2 (owner_below chunks listed owners r.0.a r.0.b r.0.c r.0.owner len below (stand r.0 r.1)));
        in_range = ok.in_range;
        default = default;
        sites_rise = ok.sites_rise;
        tris_rise = rising-owned listed owners m.tris ok.tris_rise;
      }

pub kept-owned : (old new : Sides) (nodes : List Node) (listed : List (List ℕ)) (owners : List ℕ) (chunks : ℕ) (bands : List Band) (m : Undivided) → IsKept old nodes m → ((p q : ℕ) → side_at new p q ≡ option_map (owned_side listed owners p q) (side_at old p q)) → index_map_len new ≡ index_map_len old → AreListed listed m.tris → length owners ≡ length listed → All (λ o. o < chunks) owners → HasDefault bands → IsKept new nodes (with_tables_of listed owners chunks bands m)
kept-owned old new nodes listed owners chunks bands m k sides len stand same_len below default =
    record {
      conforming = owned-conforming listed owners chunks bands m k.conforming stand same_len below default;
      shows = record { triangles = shows-owned listed owners old new nodes m.tris k.shows.triangles sides len; sites = k.shows.sites };
      in_range = k.in_range;
    }
