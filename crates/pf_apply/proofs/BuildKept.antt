-- The table and the lists that build makes show the model's mesh.
use Rattle.std.proofs.Common.{◌≡◌, ◌≢◌, ℕ, ◌+◌, ◌*◌, ◌<◌, ◌≤◌, List, [], ◌∷◌, length, map, refl, sym, ◌∙◌, ap, subst, Bool, true, false, cond, ◌⊎◌, inl, inr, arith, Option, Some, None, Result, Ok, Err, unwrap_or, pos}
use Rattle.std.specs.Prelude.{Contains, All}
use Rattle.std.specs.List.{list_any}
use Rattle.std.proofs.lemmas.Int.{ints}
use Rattle.std.proofs.lemmas.List.{get_or_past}
use Rattle.std.proofs.lemmas.List.Elements.{All-get_or}
use Rattle.pf_geom.specs.declared.Point.{Point}
use Rattle.pf_geom.specs.Plane.{IsInRange}
use Rattle.pf_model.specs.declared.Tri.{Tri}
use Rattle.pf_model.specs.declared.Site.{Site}
use Rattle.pf_model.specs.declared.Band.{Band}
use Rattle.pf_model.specs.declared.BuildErr.{BuildErr}
use Rattle.pf_model.specs.Rising.{insert_all_by, sorted_by}
use Rattle.pf_model.specs.Mesh.{Undivided, tri_lt, has_corner, side_of, point_of}
use Rattle.pf_model.specs.declared.Side.{Side}
use Rattle.pf_model.specs.Conforming.{HasEdgesOnce}
use Rattle.pf_model.specs.Build.{point_at, turned_left, sites_from, mesh_with, first_fault, built, default_band}
use Rattle.pf_model.proofs.Members.{nowhere, here, there, cases, insert_all_by-new, insert_all_by-cases}
use Rattle.pf_model.proofs.Triangles.{side_of-some, side_of-none}
use Rattle.pf_model.proofs.Kept.{side_of-found}
use Rattle.pf_edges.specs.declared.table.Node.{Node}
use Rattle.pf_model.specs.Exchange.{tally, AreOnce}
use Rattle.pf_edges.specs.Table.{Sides, place_at, ShowsTriangles}
use Rattle.pf_edges.specs.Kept.{IsKept, mesh_of}
use Rattle.pf_apply.specs.BuildSteps.{earlier_from, live_sites, AreAccepted}
use Rattle.pf_model.proofs.Exchange.{side_of-absent, tally-insert, length-tally}
use Rattle.pf_apply.proofs.SitesListed.{sites-listed}
use Rattle.pf_apply.proofs.MeshLemmas.{shows-from}
use Rattle.pf_apply.proofs.BuildLaw.{place-points}
use Rattle.pf_apply.proofs.BuiltConforms.{point_in, built-conforms}

once-before : (points : List Point) (acc : List Tri) (ts : List (List ℕ)) → AreOnce (earlier_from points acc ts) → AreOnce acc
once-before points acc [] h = h
once-before points acc (t ∷ ts) h = (once-before points (turned_left points t ∷ acc) ts h).1

once-listed : (points : List Point) (acc : List Tri) (ts : List (List ℕ)) → AreOnce (earlier_from points acc ts) → AreOnce (map (turned_left points) ts) × ((x y : Tri) → Contains acc x → Contains (map (turned_left points) ts) y → x ≢ y)
once-listed points acc [] h = (tt, λ x y a b. absurd (nowhere y b))
once-listed points acc (t ∷ ts) h =
    let ih = once-listed points (turned_left points t ∷ acc) ts h in
    let first = (once-before points (turned_left points t ∷ acc) ts h).0 in (
      ((λ s k. ih.1 (turned_left points t) s (here (turned_left points t) acc) k), ih.0),
      λ x y a b. elim (cases y (turned_left points t) (map (turned_left points) ts) b) [ inl e ↦ (λ q. first x a (sym (q ∙ e))) | inr k ↦ ih.1 x y (there x (turned_left points t) acc a) k ],
    )

earlier-means : (points : List Point) (acc : List Tri) (ts : List (List ℕ)) (x : Tri) → Contains (earlier_from points acc ts) x → Contains acc x ⊎ Contains (map (turned_left points) ts) x
earlier-means points acc [] x h = inl h
earlier-means points acc (t ∷ ts) x h = elim (earlier-means points (turned_left points t ∷ acc) ts x h) [ inl a ↦ elim (cases x (turned_left points t) acc a) [ inl e ↦ inr (subst (λ w. Contains (w ∷ map (turned_left points) ts) x) e (here x (map (turned_left points) ts))) | inr b ↦ inl b ] | inr k ↦ inr (there x (turned_left points t) (map (turned_left points) ts) k) ]

earlier-has : (points : List Point) (acc : List Tri) (ts : List (List ℕ)) (x : Tri) → Contains acc x ⊎ Contains (map (turned_left points) ts) x → Contains (earlier_from points acc ts) x
earlier-has points acc [] x (inl h) = h
earlier-has points acc [] x (inr h) = absurd (nowhere x h)
earlier-has points acc (t ∷ ts) x (inl h) = earlier-has points (turned_left points t ∷ acc) ts x (inl (there x (turned_left points t) acc h))
earlier-has points acc (t ∷ ts) x (inr h) = elim (cases x (turned_left points t) (map (turned_left points) ts) h) [ inl e ↦ earlier-has points (turned_left points t ∷ acc) ts x (inl (subst (λ w. Contains (w ∷ acc) x) e (here x acc))) | inr k ↦ earlier-has points (turned_left points t ∷ acc) ts x (inr k) ]

-- the listed triangles are a part as those that were entered
pub part-listed : (points : List Point) (ts : List (List ℕ)) → AreAccepted points (earlier_from points [] ts) → AreAccepted points (map (turned_left points) ts)
part-listed points ts p =
    record {
      corners = λ t h. p.corners t (has t h);
      positive = λ t h. p.positive t (has t h);
      owned = λ t h. p.owned t (has t h);
      sound = record { turned = λ t h. p.sound.turned t (has t h); once = (once-listed points [] ts p.sound.once).0; edges_once = λ s t a b h k. p.sound.edges_once s t a b (has s h) (has t k) };
    }
  where
    has : (t : Tri) → Contains (map (turned_left points) ts) t → Contains (earlier_from points [] ts) t
    has t h = earlier-has points [] ts t (inr h)

-- sides go by members
pub side_of-same : (xs ys : List Tri) (p q : ℕ) → HasEdgesOnce xs → HasEdgesOnce ys → ((t : Tri) → Contains xs t → Contains ys t) → ((t : Tri) → Contains ys t → Contains xs t) → side_of xs p q ≡ side_of ys p q
side_of-same xs ys p q ox oy forth back = go (side_of ys p q) refl
  where
    go : (o : Option Side) → side_of ys p q ≡ o → side_of xs p q ≡ o
    go None e = side_of-absent xs p q (λ t h. side_of-none ys p q e t (forth t h))
    go (Some s) e = let r = side_of-some ys p q s e in side_of-found xs ox p q r.0 (back r.0 r.1) r.2 ∙ (sym (side_of-found ys oy p q r.0 r.1 r.2) ∙ e)

tally-earlier : (f : Tri → ℕ) (points : List Point) (acc : List Tri) (ts : List (List ℕ)) → tally f (earlier_from points acc ts) ≡ tally f acc + tally f (map (turned_left points) ts)
tally-earlier f points acc [] = omega arith
tally-earlier f points acc (t ∷ ts) = let e = tally-earlier f points (turned_left points t ∷ acc) ts in let x : tally f (earlier_from points (turned_left points t ∷ acc) ts) ≡ (f (turned_left points t) + tally f acc) + tally f (map (turned_left points) ts) = e in omega (arith, x)

tally-sorted : (f : Tri → ℕ) (ts : List Tri) → tally f (sorted_by tri_lt ts) ≡ tally f ts
tally-sorted f [] = refl
tally-sorted f (t ∷ ts) = tally-insert f t (insert_all_by tri_lt ts []) ∙ ap (λ n. f t + n) (tally-sorted f ts)

sorted-forth : (xs : List Tri) (t : Tri) → Contains xs t → Contains (sorted_by tri_lt xs) t
sorted-forth xs t h = insert_all_by-new tri_lt t xs [] h

sorted-back : (xs : List Tri) (t : Tri) → Contains (sorted_by tri_lt xs) t → Contains xs t
sorted-back xs t h = elim (insert_all_by-cases tri_lt t xs [] h) [ inl a ↦ a | inr b ↦ absurd (nowhere t b) ]

pub shows-sorted : (sides : Sides) (nodes : List Node) (points : List Point) (ts : List (List ℕ)) → AreAccepted points (earlier_from points [] ts) → ShowsTriangles sides nodes (earlier_from points [] ts) → ShowsTriangles sides nodes (sorted_by tri_lt (map (turned_left points) ts))
shows-sorted sides nodes points ts p s =
    let listed = part-listed points ts p in
    record {
      sides = λ a b. s.sides a b ∙ side_of-same (earlier_from points [] ts) (sorted_by tri_lt (map (turned_left points) ts)) a b p.sound.edges_once (λ x y c d h k. listed.sound.edges_once x y c d (sorted-back (map (turned_left points) ts) x h) (sorted-back (map (turned_left points) ts) y k)) (λ t h. elim (earlier-means points [] ts t h) [ inl n ↦ absurd (nowhere t n) | inr k ↦ sorted-forth (map (turned_left points) ts) t k ]) (λ t h. earlier-has points [] ts t (inr (sorted-back (map (turned_left points) ts) t h)));
      counts = λ n. s.counts n ∙ count (λ t. cond (has_corner n t) 1 0);
      all = s.all ∙ ap (λ n. 3 * n) (length-tally (earlier_from points [] ts) ∙ (count (λ t. 1) ∙ sym (length-tally (sorted_by tri_lt (map (turned_left points) ts)))));
    }
  where
    count : (f : Tri → ℕ) → tally f (earlier_from points [] ts) ≡ tally f (sorted_by tri_lt (map (turned_left points) ts))
    count f = let a = tally-earlier f points [] ts in let b = tally-sorted f (map (turned_left points) ts) in omega (arith, a, b)

origin_in_range : IsInRange record { x = pos 0; y = pos 0 }
origin_in_range = record { x = record { low = omega (arith, ints); high = omega (arith, ints) }; y = record { low = omega (arith, ints); high = omega (arith, ints) } }

pub point_at-in_range : (points : List Point) (n : ℕ) → All IsInRange points → IsInRange (point_at points n)
point_at-in_range points n all = elim (cases_of n (length points)) [ inl l ↦ All-get_or IsInRange points n record { x = pos 0; y = pos 0 } l all | inr l ↦ subst (λ p. IsInRange p) (sym (get_or_past points n record { x = pos 0; y = pos 0 } l)) origin_in_range ]
  where
    cases_of : (a b : ℕ) → (a < b) ⊎ (b ≤ a)
    cases_of a b = grind arith

pub built-kept : (sides : Sides) (nodes : List Node) (points : List Point) (ts : List (List ℕ)) → All IsInRange points → AreAccepted points (earlier_from points [] ts) → ShowsTriangles sides nodes (earlier_from points [] ts) → ((n : ℕ) → place_at nodes n ≡ point_at points n) → IsKept sides nodes (mesh_with points (map (turned_left points) ts))
built-kept sides nodes points ts all p s places =
    let listed = part-listed points ts p in
    let ok = built-conforms points (map (turned_left points) ts) all listed in
    record {
      conforming = ok;
      shows = shows-from sides nodes (mesh_with points (map (turned_left points) ts)) ok (shows-sorted sides nodes points ts p s) (λ n q e. places n ∙ found n q (list_any (has_corner n) (map (turned_left points) ts)) (sym (point_in points (map (turned_left points) ts) all listed n) ∙ e));
      in_range = record { each = λ n. subst (λ w. IsInRange w) (sym (places n)) (point_at-in_range points n all) };
    }
  where
    found : (n : ℕ) (q : Point) (b : Bool) → cond b (point_of (sites_from 0 points) n) None ≡ Some q → point_at points n ≡ q
    found n q true e = sym (place-points points n) ∙ ap (λ o. unwrap_or o record { x = pos 0; y = pos 0 }) e
    found n q false e = absurd (let k : None ≡ Some q = e in cc)

pub built-ok : (points : List Point) (ts : List (List ℕ)) → first_fault points [] 0 ts ≡ None → built points ts ≡ Ok (mesh_with points (map (turned_left points) ts))
built-ok points ts e = let f : Option BuildErr → Result Undivided BuildErr = λ o. elim o [ Some fault ↦ Err fault | None ↦ Ok (mesh_with points (map (turned_left points) ts)) ] in ap f e

-- the parts that build makes, as the model's mesh
pub parts-built : (sides : Sides) (nodes : List Node) (points : List Point) (ts : List (List ℕ)) (sites : List Site) (tris : List Tri) (bands : List Band) → IsKept sides nodes (mesh_with points (map (turned_left points) ts)) → sites ≡ live_sites 0 nodes → tris ≡ sorted_by tri_lt (map (turned_left points) ts) → bands ≡ default_band ∷ [] → mesh_of (length points) sites tris bands 1 ≡ mesh_with points (map (turned_left points) ts)
parts-built sides nodes points ts sites tris bands k es et eb =
    let es' : sites ≡ (mesh_with points (map (turned_left points) ts)).sites = es ∙ sites-listed sides nodes (mesh_with points (map (turned_left points) ts)) k.conforming k.shows in
    (λ i. mesh_of (length points) (es' i) (et i) (eb i) 1)
