-- A function that changes its sign with the edge's direction: its sum over the triangles is its sum over the boundary edges.
-- Assumes of the list of triangles that its edges stand once, least corners stand first, and no triangle stands twice (`AreSound`).
use Rattle.std.proofs.Common.{◌≡◌, ◌≢◌, List, [], ◌∷◌, refl, sym, ◌∙◌, ap, subst, Bool, true, false, ◌⊎◌, inl, inr, arith}
use Rattle.std.specs.Prelude.{ℤ, pos, ◌+ℤ◌, Contains, filter, not, map, Option, Some, None, is_some}
use Rattle.std.proofs.lemmas.Int.{ints}
use Rattle.std.proofs.lemmas.Bool.Decides.{nat_tests}
use Rattle.std.proofs.lemmas.List.Elements.{Contains-append_cases, Contains-append_left, Contains-append_right}
use Rattle.pf_model.specs.declared.Tri.{Tri}
use Rattle.pf_model.specs.Rising.{AreDifferent, insert_all_by, IsRising}
use Rattle.pf_model.specs.declared.Side.{Side}
use Rattle.pf_model.specs.Mesh.{Undivided, DirectedEdge, directed_edges_in, directed_edges_of, reversed, tri_lt, has_edge, side_of}
use Rattle.pf_model.specs.Conforming.{IsConforming, HasEdgesOnce}
use Rattle.pf_model.specs.Sums.{total, directed_edge_lt, is_open}
use Rattle.pf_model.proofs.Members.{nowhere, here, there, cases, filter-in, filter-out}
use Rattle.pf_model.proofs.RisingLemmas.{IsStrictOrder, rising-head, rising-tail}
use Rattle.pf_model.proofs.Triangles.{IsLeastFirst, tri_lt-order, has_edge-means, has_edge-from, side_of-some, side_of-none}
use Rattle.pf_model.proofs.Totals.{Compares, total-flat_map, total-filter, total-same, total-map, total-opposite, total-insert_all_by, different-append, different-filter, different-map, map-means, map-in}

pub directed_edge_lt-order : IsStrictOrder directed_edge_lt
directed_edge_lt-order = record { irreflexive = λ x. grind (arith, nat_tests); transitive = λ x y z h k. grind (arith, nat_tests) }

directed_edge_same : (e f : DirectedEdge) → e.from ≡ f.from → e.to ≡ f.to → e ≡ f
directed_edge_same e f p q = λ i. record { from = p i; to = q i }

compares_raw : (e f : DirectedEdge) → (e.from ≡ f.from → e.to ≡ f.to → ⊥) → (directed_edge_lt e f ≡ true) ⊎ (directed_edge_lt f e ≡ true)
compares_raw e f n = grind (arith, nat_tests)

pub directed_edge_lt-compares : Compares directed_edge_lt
directed_edge_lt-compares e f n = compares_raw e f (λ p q. n (directed_edge_same e f p q))

pub directed_edges_in-means : (e : DirectedEdge) (t : Tri) → Contains (directed_edges_in t) e → has_edge e.from e.to t ≡ true
directed_edges_in-means e t h = has_edge-from e.from e.to t record { is = go (cases e record { from = t.a; to = t.b } (record { from = t.b; to = t.c } ∷ record { from = t.c; to = t.a } ∷ []) h) }
  where
    third : Contains (record { from = t.c; to = t.a } ∷ []) e → (t.c ≡ e.from) × (t.a ≡ e.to)
    third k = elim (cases e record { from = t.c; to = t.a } [] k) [ inl x ↦ (ap (λ w. w.from) (sym x), ap (λ w. w.to) (sym x)) | inr n ↦ absurd (nowhere e n) ]

    second : (e ≡ record { from = t.b; to = t.c }) ⊎ Contains (record { from = t.c; to = t.a } ∷ []) e → ((t.b ≡ e.from) × (t.c ≡ e.to)) ⊎ ((t.c ≡ e.from) × (t.a ≡ e.to))
    second (inl x) = inl (ap (λ w. w.from) (sym x), ap (λ w. w.to) (sym x))
    second (inr k) = inr (third k)

    go : (e ≡ record { from = t.a; to = t.b }) ⊎ Contains (record { from = t.b; to = t.c } ∷ record { from = t.c; to = t.a } ∷ []) e → ((t.a ≡ e.from) × (t.b ≡ e.to)) ⊎ (((t.b ≡ e.from) × (t.c ≡ e.to)) ⊎ ((t.c ≡ e.from) × (t.a ≡ e.to)))
    go (inl x) = inl (ap (λ w. w.from) (sym x), ap (λ w. w.to) (sym x))
    go (inr k) = inr (second (cases e record { from = t.b; to = t.c } (record { from = t.c; to = t.a } ∷ []) k))

pub directed_edges_in-from : (e : DirectedEdge) (t : Tri) → has_edge e.from e.to t ≡ true → Contains (directed_edges_in t) e
directed_edges_in-from e t h = go (has_edge-means e.from e.to t h).is
  where
    w1 : DirectedEdge
    w1 = record { from = t.a; to = t.b }

    w2 : DirectedEdge
    w2 = record { from = t.b; to = t.c }

    w3 : DirectedEdge
    w3 = record { from = t.c; to = t.a }

    at' : (w : DirectedEdge) → w.from ≡ e.from → w.to ≡ e.to → Contains (w1 ∷ w2 ∷ w3 ∷ []) w → Contains (w1 ∷ w2 ∷ w3 ∷ []) e
    at' w p q k = subst (λ x. Contains (w1 ∷ w2 ∷ w3 ∷ []) x) (directed_edge_same w e p q) k

    go : ((t.a ≡ e.from) × (t.b ≡ e.to)) ⊎ (((t.b ≡ e.from) × (t.c ≡ e.to)) ⊎ ((t.c ≡ e.from) × (t.a ≡ e.to))) → Contains (directed_edges_in t) e
    go (inl x) = at' w1 x.0 x.1 (here w1 (w2 ∷ w3 ∷ []))
    go (inr (inl x)) = at' w2 x.0 x.1 (there w2 w1 (w2 ∷ w3 ∷ []) (here w2 (w3 ∷ [])))
    go (inr (inr x)) = at' w3 x.0 x.1 (there w3 w1 (w2 ∷ w3 ∷ []) (there w3 w2 (w3 ∷ []) (here w3 [])))

pub directed_edges_of-means : (ts : List Tri) (e : DirectedEdge) → Contains (directed_edges_of ts) e → (t : Tri) × Contains ts t × (has_edge e.from e.to t ≡ true)
directed_edges_of-means [] e h = absurd (nowhere e h)
directed_edges_of-means (t ∷ ts) e h = elim (Contains-append_cases (directed_edges_in t) (directed_edges_of ts) e h) [ inl a ↦ (t, here t ts, directed_edges_in-means e t a) | inr b ↦ let r = directed_edges_of-means ts e b in (r.0, there r.0 t ts r.1, r.2) ]

pub directed_edges_of-from : (ts : List Tri) (e : DirectedEdge) (t : Tri) → Contains ts t → has_edge e.from e.to t ≡ true → Contains (directed_edges_of ts) e
directed_edges_of-from [] e t h k = absurd (nowhere t h)
directed_edges_of-from (x ∷ xs) e t h k = elim (cases t x xs h) [ inl s ↦ Contains-append_left (directed_edges_in x) (directed_edges_of xs) e (directed_edges_in-from e x (subst (λ w. has_edge e.from e.to w ≡ true) s k)) | inr r ↦ Contains-append_right (directed_edges_in x) (directed_edges_of xs) e (directed_edges_of-from xs e t r k) ]

pub record AreSound (ts : List Tri) : Type 0 where
  pub once : HasEdgesOnce ts
  pub least : (t : Tri) → Contains ts t → IsLeastFirst t
  pub different : AreDifferent ts

directed_edges_in-different : (t : Tri) → IsLeastFirst t → AreDifferent (directed_edges_in t)
directed_edges_in-different t l = (first, (second, ((λ z h. absurd (nowhere z h)), tt)))
  where
    w1 : DirectedEdge
    w1 = record { from = t.a; to = t.b }

    w2 : DirectedEdge
    w2 = record { from = t.b; to = t.c }

    w3 : DirectedEdge
    w3 = record { from = t.c; to = t.a }

    not_two : w1 ≡ w2 → ⊥
    not_two e = let a : t.a ≡ t.b = ap (λ w. w.from) e in let b = l.least in omega arith

    not_three : w1 ≡ w3 → ⊥
    not_three e = let a : t.a ≡ t.c = ap (λ w. w.from) e in let b = l.least' in omega arith

    not_last : w2 ≡ w3 → ⊥
    not_last e = l.apart (ap (λ w. w.from) e)

    second : (z : DirectedEdge) → Contains (w3 ∷ []) z → w2 ≢ z
    second z h e = elim (cases z w3 [] h) [ inl x ↦ not_last (e ∙ x) | inr n ↦ nowhere z n ]

    first : (z : DirectedEdge) → Contains (w2 ∷ w3 ∷ []) z → w1 ≢ z
    first z h e = elim (cases z w2 (w3 ∷ []) h) [ inl x ↦ not_two (e ∙ x) | inr r ↦ elim (cases z w3 [] r) [ inl x ↦ not_three (e ∙ x) | inr n ↦ nowhere z n ] ]

pub sound-tail : (t : Tri) (ts : List Tri) → AreSound (t ∷ ts) → AreSound ts
sound-tail t ts s =
    record {
      once = λ x y p q hx hy kx ky. s.once x y p q (there x t ts hx) (there y t ts hy) kx ky;
      least = λ x h. s.least x (there x t ts h);
      different = s.different.1;
    }

pub directed_edges_of-different : (ts : List Tri) → AreSound ts → AreDifferent (directed_edges_of ts)
directed_edges_of-different [] s = tt
directed_edges_of-different (t ∷ ts) s =
    different-append (directed_edges_in t) (directed_edges_of ts) (directed_edges_in-different t (s.least t (here t ts))) (directed_edges_of-different ts (sound-tail t ts s))
    (λ e h k. let r = directed_edges_of-means ts e k in s.different.0 r.0 r.1 (s.once t r.0 e.from e.to (here t ts) (there r.0 t ts r.1) (directed_edges_in-means e t h) r.2))

-- whether an edge has a triangle on its left
pub has_left : (ts : List Tri) (e : DirectedEdge) → Contains (directed_edges_of ts) e → is_some (side_of ts e.from e.to) ≡ true
has_left ts e h = go (side_of ts e.from e.to) refl
  where
    go : (o : Option Side) → side_of ts e.from e.to ≡ o → is_some o ≡ true
    go None f = absurd (let r = directed_edges_of-means ts e h in let n = side_of-none ts e.from e.to f r.0 r.1 in let k : true ≡ false = sym r.2 ∙ n in cc)
    go (Some s) f = refl

pub left_has : (ts : List Tri) (e : DirectedEdge) → is_some (side_of ts e.from e.to) ≡ true → Contains (directed_edges_of ts) e
left_has ts e h = go (side_of ts e.from e.to) refl h
  where
    go : (o : Option Side) → side_of ts e.from e.to ≡ o → is_some o ≡ true → Contains (directed_edges_of ts) e
    go None f k = absurd (let c : false ≡ true = k in cc)
    go (Some s) f k = let r = side_of-some ts e.from e.to s f in directed_edges_of-from ts e r.0 r.1 r.2

-- the edges that have triangles on both sides
abbrev pub inner_of : List Tri → List DirectedEdge
inner_of ts = filter (λ e. not (is_open ts e)) (directed_edges_of ts)

not_not : (b : Bool) → not (not b) ≡ b
not_not true = refl
not_not false = refl

inner-closed : (ts : List Tri) (e : DirectedEdge) → Contains (inner_of ts) e → Contains (inner_of ts) (reversed e)
inner-closed ts e h =
    let o = filter-out (λ w. not (is_open ts w)) e (directed_edges_of ts) h in
    let right : is_some (side_of ts e.to e.from) ≡ true = sym (not_not _) ∙ o.1 in
    filter-in (λ w. not (is_open ts w)) (reversed e) (directed_edges_of ts) (left_has ts (reversed e) right) (not_not _ ∙ has_left ts e o.0)

-- inner edges cancel
inner-cancel : (ts : List Tri) → AreSound ts → (f : DirectedEdge → ℤ) → ((e : DirectedEdge) → f e +ℤ f (reversed e) ≡ pos 0) → total f (inner_of ts) ≡ pos 0
inner-cancel ts s f opposite =
    let d = different-filter (λ w. not (is_open ts w)) (directed_edges_of ts) (directed_edges_of-different ts s) in
    let turned = total-same f directed_edge_lt directed_edge_lt-order directed_edge_lt-compares (inner_of ts) (map reversed (inner_of ts)) d (different-map reversed (λ x z e. ap reversed e) (inner_of ts) d)
    (λ z h. map-in reversed (inner_of ts) (reversed z) (inner-closed ts z h))
    (λ z h. let r = map-means reversed (inner_of ts) z h in subst (λ w. Contains (inner_of ts) w) r.2 (inner-closed ts r.0 r.1)) in
    let b = total-map f reversed (inner_of ts) in
    let c = total-opposite f (λ e. f (reversed e)) (inner_of ts) opposite in
    omega (arith, ints, turned, b, c)

-- the boundary edges of a list of triangles, rising
abbrev pub boundary_in : List Tri → List DirectedEdge
boundary_in ts = insert_all_by directed_edge_lt (filter (is_open ts) (directed_edges_of ts)) []

pub edge_sum : (ts : List Tri) → AreSound ts → (f : DirectedEdge → ℤ) → ((e : DirectedEdge) → f e +ℤ f (reversed e) ≡ pos 0) → total (λ t. total f (directed_edges_in t)) ts ≡ total f (boundary_in ts)
edge_sum ts s f opposite =
    let a = total-flat_map f directed_edges_in ts in
    let b = total-filter f (is_open ts) (directed_edges_of ts) in
    let c = inner-cancel ts s f opposite in
    let d = total-insert_all_by f directed_edge_lt (filter (is_open ts) (directed_edges_of ts)) [] in
    omega (arith, ints, a, b, c, d)

-- no triangle stands twice in a list that rises
pub rising-different : (ts : List Tri) → IsRising tri_lt ts → AreDifferent ts
rising-different [] up = tt
rising-different (t ∷ ts) up = ((λ z h e. no z (rising-head tri_lt t z ts up h) e), rising-different ts (rising-tail tri_lt t ts up))
  where
    no : (z : Tri) → tri_lt t z ≡ true → t ≡ z → ⊥
    no z k e = let a : tri_lt t t ≡ false = tri_lt-order.irreflexive t in let b : true ≡ false = sym k ∙ (ap (tri_lt t) (sym e) ∙ a) in absurd (cc)

pub conforming-sound : (m : Undivided) → IsConforming m → AreSound m.tris
conforming-sound m ok = record { once = ok.edges_once; least = λ t h. (let p = ok.proper t h in record { least = p.least; least' = p.least'; apart = p.apart }); different = rising-different m.tris ok.tris_rise }
