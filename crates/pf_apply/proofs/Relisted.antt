-- The triangles that are listed from the table are those of the mesh that it shows.
use Rattle.std.proofs.Common.{◌≡◌, ℕ, suc, ◌<◌, List, [], ◌∷◌, length, refl, sym, ◌∙◌, ap, subst, Bool, true, false, cond, ◌&&◌, ◌==◌, ◌⊎◌, inl, inr, arith, Option, Some, None}
use Rattle.std.specs.Prelude.{Contains, nat_lt}
use Rattle.std.specs.List.{IsDistinct, AllByRecursion}
use Rattle.std.specs.Map.{keys_of}
use Rattle.std.proofs.lemmas.Bool.Decides.{nat_tests}
use Rattle.std.proofs.lemmas.Map.Keys.{IsDistinct-head, IsDistinct-tail}
use Rattle.std.proofs.lemmas.Map.Views.{hash_map_get_iff}
use Rattle.indexmap.specs.IndexMap.{IsUnique, get}
use Rattle.pf_model.specs.declared.Tri.{Tri}
use Rattle.pf_model.specs.Rising.{sorted_by, insert_by}
use Rattle.pf_model.specs.Mesh.{Undivided, tri_lt, tri_of, side_of}
use Rattle.pf_model.specs.declared.Side.{Side}
use Rattle.pf_model.proofs.Members.{nowhere, here, there, cases}
use Rattle.pf_model.proofs.Triangles.{IsLeastFirst}
use Rattle.pf_model.proofs.Kept.{has_edge-first, side_of-stands, side_of-found}
use Rattle.pf_edges.specs.declared.table.Edge.{Edge}
use Rattle.pf_edges.specs.declared.table.Node.{Node}
use Rattle.pf_model.specs.Exchange.{IsNone, AreOnce, AreSound}
use Rattle.pf_edges.specs.Table.{Sides, edge_eq}
use Rattle.pf_edges.specs.Kept.{IsKept}
use Rattle.pf_apply.specs.Relist.{starts_least, least_tris}
use Rattle.pf_edges.proofs.Sides.{edge_exact, edge_itself, edge_laws}
use Rattle.pf_apply.proofs.SortedIs.{sorted-is}

-- the triangle of an entry
abbrev tri_from : Edge × Side → Tri
tri_from e = record { a = e.0.from; b = e.0.to; c = e.1.apex; owner = e.1.owner }

-- what a listed triangle says of the table
gathered-means : (es : List (Edge × Side)) (t : Tri) → Contains (least_tris es) t → (e : Edge × Side) × Contains es e × (starts_least e.0 e.1 ≡ true) × (t ≡ tri_from e)
gathered-means [] t h = absurd (nowhere t h)
gathered-means (e ∷ es) t h = go (starts_least e.0 e.1) refl h (gathered-means es t)
  where
    Found : List (Edge × Side) → Type 0
    Found l = (f : Edge × Side) × Contains l f × (starts_least f.0 f.1 ≡ true) × (t ≡ tri_from f)

    later : (f : Edge × Side) × Contains es f × (starts_least f.0 f.1 ≡ true) × (t ≡ tri_from f) → (f : Edge × Side) × Contains (e ∷ es) f × (starts_least f.0 f.1 ≡ true) × (t ≡ tri_from f)
    later r = (r.0, there r.0 e es r.1, r.2, r.3)

    go : (b : Bool) → starts_least e.0 e.1 ≡ b → Contains (cond b (tri_from e ∷ least_tris es) (least_tris es)) t → (Contains (least_tris es) t → (f : Edge × Side) × Contains es f × (starts_least f.0 f.1 ≡ true) × (t ≡ tri_from f)) → (f : Edge × Side) × Contains (e ∷ es) f × (starts_least f.0 f.1 ≡ true) × (t ≡ tri_from f)
    go true s i ih = elim (cases t (tri_from e) (least_tris es) i) [ inl q ↦ (e, here e es, s, q) | inr r ↦ later (ih r) ]
    go false s i ih = later (ih i)

gathered-has : (es : List (Edge × Side)) (e : Edge × Side) → Contains es e → starts_least e.0 e.1 ≡ true → Contains (least_tris es) (tri_from e)
gathered-has [] e h s = absurd (nowhere e h)
gathered-has (f ∷ es) e h s = go (starts_least f.0 f.1) refl (cases e f es h) (λ i. gathered-has es e i s)
  where
    go : (b : Bool) → starts_least f.0 f.1 ≡ b → (e ≡ f) ⊎ Contains es e → (Contains es e → Contains (least_tris es) (tri_from e)) → Contains (cond b (tri_from f ∷ least_tris es) (least_tris es)) (tri_from e)
    go true q (inl k) ih = subst (λ x. Contains (tri_from f ∷ least_tris es) (tri_from x)) (sym k) (here (tri_from f) (least_tris es))
    go true q (inr i) ih = there (tri_from e) (tri_from f) (least_tris es) (ih i)
    go false q (inl k) ih = absurd (let z : true ≡ false = sym s ∙ (ap (λ (x : Edge × Side). starts_least x.0 x.1) k ∙ q) in cc)
    go false q (inr i) ih = ih i

-- none of the entries has the edge
other-edge : (k : Edge) (es : List (Edge × Side)) → AllByRecursion (λ y. edge_eq k y ≡ false) (keys_of es) → (f : Edge × Side) → Contains es f → edge_eq k f.0 ≡ false
other-edge k [] a f h = absurd (nowhere f h)
other-edge k (e ∷ es) a f h = elim (cases f e es h) [ inl q ↦ ap (λ (x : Edge × Side). edge_eq k x.0) q ∙ a.0 | inr i ↦ other-edge k es a.1 f i ]

-- no triangle is listed twice
gathered-once : (es : List (Edge × Side)) → IsDistinct edge_eq (keys_of es) → AreOnce (least_tris es)
gathered-once [] d = tt
gathered-once (e ∷ es) d = go (starts_least e.0 e.1) (gathered-once es (IsDistinct-tail edge_eq e.0 (keys_of es) d))
  where
    -- the entry of another triangle has another edge
    apart : IsNone (tri_from e) (least_tris es)
    apart s h q =
        let r = gathered-means es s h in
        let p = q ∙ r.3 in
        let k : e.0 ≡ r.0.0 = λ i. record { from = (p i).a; to = (p i).b } in
        let x : edge_eq e.0 r.0.0 ≡ true = ap (λ w. edge_eq e.0 w) (sym k) ∙ edge_itself e.0 in
        absurd (let z : true ≡ false = sym x ∙ other-edge e.0 es (IsDistinct-head edge_eq e.0 (keys_of es) d) r.0 r.1 in cc)

    go : (b : Bool) → AreOnce (least_tris es) → AreOnce (cond b (tri_from e ∷ least_tris es) (least_tris es))
    go true ih = (apart, ih)
    go false ih = ih

module _ (sides : Sides) (nodes : List Node) (m : Undivided) (unique : IsUnique edge_eq sides) (k : IsKept sides nodes m) where
  least_first : (t : Tri) → Contains m.tris t → IsLeastFirst t
  least_first t h = let p = k.conforming.proper t h in record { least = p.least; least' = p.least'; apart = p.apart }

  -- a listed triangle is the mesh's
  listed-stands : (t : Tri) → Contains (least_tris sides.entries) t → Contains m.tris t
  listed-stands t h =
      let r = gathered-means sides.entries t h in
      let e = r.0 in
      let found : get edge_eq sides e.0 ≡ Some e.1 = (hash_map_get_iff edge_laws edge_exact sides unique e.0 e.1).1 r.1 in
      let side : side_of m.tris e.0.from e.0.to ≡ Some (e.1) = sym (k.shows.triangles.sides e.0.from e.0.to) ∙ found in
      let stands = side_of-stands m.tris least_first e.0.from e.0.to (e.1) side in
      subst (λ x. Contains m.tris x) (turned e.0.from e.0.to e.1.apex e.1.owner r.2 ∙ sym r.3) stands
    where
      turned : (p q z o : ℕ) → (nat_lt p q && nat_lt p z) ≡ true → tri_of p q z o ≡ record { a = p; b = q; c = z; owner = o }
      turned p q z o s = ap (λ w. cond w record { a = p; b = q; c = z; owner = o } (cond (nat_lt q z && nat_lt q p) record { a = q; b = z; c = p; owner = o } record { a = z; b = p; c = q; owner = o })) s

  -- the mesh's triangles are listed
  stands-listed : (t : Tri) → Contains m.tris t → Contains (least_tris sides.entries) t
  stands-listed t h = go (get edge_eq sides record { from = t.a; to = t.b }) refl
    where
      itself : (a b c : ℕ) → (a == a && b == b) ≡ true
      itself a b c = grind (arith, nat_tests)

      least : (a b c : ℕ) → a < b → a < c → (nat_lt a b && nat_lt a c) ≡ true
      least a b c i j = grind (arith, nat_tests)

      side : side_of m.tris t.a t.b ≡ Some record { apex = t.c; owner = t.owner }
      side = side_of-found m.tris k.conforming.edges_once t.a t.b t h (has_edge-first t) ∙ ap (λ w. Some record { apex = cond w t.c (cond (t.b == t.a && t.c == t.b) t.a t.b); owner = t.owner }) (itself t.a t.b t.c)

      go : (o : Option Side) → get edge_eq sides record { from = t.a; to = t.b } ≡ o → Contains (least_tris sides.entries) t
      go None e = absurd (let z : None ≡ Some record { apex = t.c; owner = t.owner } = (sym e) ∙ (k.shows.triangles.sides t.a t.b ∙ side) in cc)
      go (Some l) e =
          let z : Some (l) ≡ Some record { apex = t.c; owner = t.owner } = (sym e) ∙ (k.shows.triangles.sides t.a t.b ∙ side) in
          let s : l ≡ record { apex = t.c; owner = t.owner } = cc in
          let apex : l.apex ≡ t.c = ap (λ (x : Side). x.apex) s in
          let owner : l.owner ≡ t.owner = ap (λ (x : Side). x.owner) s in
          let same : tri_from (record { from = t.a; to = t.b }, l) ≡ t = λ i. record { a = t.a; b = t.b; c = apex i; owner = owner i } in
          let p = k.conforming.proper t h in
          let first : starts_least record { from = t.a; to = t.b } l ≡ true = ap (λ x. nat_lt t.a t.b && nat_lt t.a x) apex ∙ least t.a t.b t.c p.least p.least' in
          subst (λ x. Contains (least_tris sides.entries) x) same (gathered-has sides.entries (record { from = t.a; to = t.b }, l) ((hash_map_get_iff edge_laws edge_exact sides unique record { from = t.a; to = t.b } l).0 e) first)

  pub gathered-sound : AreSound (least_tris sides.entries)
  gathered-sound =
      record {
        turned = λ t h. (let p = k.conforming.proper t (listed-stands t h) in record { least = p.least; least' = p.least'; apart = p.apart });
        once = gathered-once sides.entries unique;
        edges_once = λ s t p q h i. k.conforming.edges_once s t p q (listed-stands s h) (listed-stands t i);
      }

  pub gathered-sorted : sorted_by tri_lt (least_tris sides.entries) ≡ m.tris
  gathered-sorted = sym (sorted-is (least_tris sides.entries) m.tris gathered-sound k.conforming.tris_rise listed-stands stands-listed)

  pub gathered-length : length (least_tris sides.entries) ≡ length m.tris
  gathered-length = sym (inserted (least_tris sides.entries)) ∙ ap length gathered-sorted
    where
      one : (t : Tri) (ts : List Tri) → length (insert_by tri_lt t ts) ≡ suc (length ts)
      one t [] = refl
      one t (s ∷ ts) = go (tri_lt t s) (one t ts)
        where
          go : (b : Bool) → length (insert_by tri_lt t ts) ≡ suc (length ts) → length (cond b (t ∷ s ∷ ts) (s ∷ insert_by tri_lt t ts)) ≡ suc (suc (length ts))
          go true ih = refl
          go false ih = ap suc ih

      inserted : (ts : List Tri) → length (sorted_by tri_lt ts) ≡ length ts
      inserted [] = refl
      inserted (t ∷ ts) = one t (sorted_by tri_lt ts) ∙ ap suc (inserted ts)
