-- A contraction that passes keeps the Euler number: a node goes, for each side of the edge a triangle and an edge, and the edge.
-- Assumes `IsConforming m` and that `first_failing` is None.
use Rattle.std.proofs.Common.{◌≡◌, ◌≢◌, ℕ, ◌<◌, List, [], ◌∷◌, ◌++◌, refl, sym, ◌∙◌, subst, Bool, true, false, ◌⊎◌, inl, inr, arith}
use Rattle.std.specs.Prelude.{Contains, filter, map, not, nat_lt, ◌==◌, Option, Some, None, min, max, pos}
use Rattle.std.proofs.lemmas.Int.{ints}
use Rattle.std.proofs.lemmas.Bool.Decides.{nat_tests}
use Rattle.std.proofs.lemmas.List.Elements.{Contains-append_cases, Contains-append_left, Contains-append_right}
use Rattle.pf_model.specs.declared.Tri.{Tri}
use Rattle.pf_model.specs.declared.Op.TheVariants.{Contract}
use Rattle.pf_model.specs.Rising.{AreDifferent}
use Rattle.pf_model.specs.declared.Side.{Side}
use Rattle.pf_model.specs.Mesh.{Undivided, tri_of, tri_lt, has_corner, side_of, is_edge}
use Rattle.pf_model.specs.Lengths.{Edge, edge_of}
use Rattle.pf_model.specs.Conforming.{IsConforming, IsLive}
use Rattle.pf_model.specs.Applied.{is_at_edge, contracted}
use Rattle.pf_model.specs.Conditions.{first_failing, is_apex, neighbours}
use Rattle.pf_model.specs.Stars.{spokes_of, is_neighbour}
use Rattle.pf_model.specs.Sums.{euler_of}
use Rattle.pf_model.proofs.Members.{here, there, cases, filter-in, filter-out}
use Rattle.pf_model.proofs.Patch.{replaced-cases, replaced-new, replaced-kept}
use Rattle.pf_model.proofs.Spokes.{spokes-has}
use Rattle.pf_model.proofs.Totals.{total-filter, total-map, total-append, total-same, different-append, different-filter, different-map, map-means, map-in}
use Rattle.pf_model.proofs.FlipKeeps.{corners_of, opposite_apexes}
use Rattle.pf_model.proofs.EdgeSum.{conforming-sound}
use Rattle.pf_model.proofs.ContractClauses.{ContractPasses, right_is_neighbour, left_is_neighbour}
use Rattle.pf_model.proofs.ContractKeeps.{corner_at, added, after, added-means, added-has, neighbour_right, neighbour_left, after_v, before_v, contract_conforms}
use Rattle.pf_cover_model.proofs.EdgeNames.{AreSame, AreSides, same-itself, same-turned, same-back, at_edge-sides, at_edge-same, at_edge-from, is_edge-means, is_edge-from, edge_of-ends, edge_of-rises, edge_of-is}
use Rattle.pf_cover_model.proofs.EdgeLists.{count, edge_list, edge_list-different, edge_list-means, edge_list-from, euler_of-counts, count-same}
use Rattle.pf_cover_model.proofs.EdgePatch.{ends-of, IsEdgePatch, count-patched}
use Rattle.pf_cover_model.proofs.BisectEuler.{apex_list, edge_of-one, old_count, apex_list-different, apex-means, ends_live}
use Rattle.pf_cover_model.proofs.ContractCounts.{sites-rising, live-named, at_edge-corners, contract_tris, contract_sites}
use Rattle.pf_cover_model.proofs.ContractRounds.{contract_by}
use Rattle.pf_cover_model.proofs.ContractNames.{names-different, nat_lt-order, nat_lt-compares, is_without, without-from, without-means, touches, touching, no_name, one_name, is_new_to, new_to-means, new_to-from, not_new_to, known_to-v, not_turned}
use Rattle.pf_model.proofs.Triangles.{least_first}
use Rattle.pf_cover_model.proofs.EdgeNames.{not_both_values}
use Rattle.std.proofs.lemmas.Bool.{cases_eq}
use Rattle.std.proofs.lemmas.Bool.{or_cases}

module _ (m : Undivided) (ok : IsConforming m) (u v : ℕ) (p : ContractPasses m u v) where
  abbrev mesh_then : Undivided
  mesh_then = after m ok u v p

  abbrev names : List ℕ
  names = map (λ s. s.name) m.sites

  -- the neighbours of u, and those that are new to v
  abbrev nbrs : List ℕ
  nbrs = filter (λ x. is_edge m.tris u x) names

  abbrev new_nbrs : List ℕ
  new_nbrs = filter (is_new_to m v) nbrs

  abbrev new : List Edge
  new = map (edge_of v) new_nbrs

  nbrs-different : AreDifferent nbrs
  nbrs-different = different-filter (λ x. is_edge m.tris u x) names (names-different m.sites (sites-rising m.sites ok.sites_rise))

  nbrs-in : (x : ℕ) → is_edge m.tris u x ≡ true → Contains nbrs x
  nbrs-in x h = let r = is_edge-means m.tris u x h in filter-in (λ x. is_edge m.tris u x) x names (live-named m.sites x (ends_live m ok u x r.0 r.1 r.2).1) h

  nbrs-out : (x : ℕ) → Contains nbrs x → is_edge m.tris u x ≡ true
  nbrs-out x h = (filter-out (λ x. is_edge m.tris u x) x names h).1

  new_nbrs-out : (x : ℕ) → Contains new_nbrs x → (is_edge m.tris u x ≡ true) × ((x ≢ v) × (is_edge m.tris v x ≡ false))
  new_nbrs-out x h = let o = filter-out (is_new_to m v) x nbrs h in (nbrs-out x o.0, new_to-means m v x o.1)

  edge_by : (p q a b c o : ℕ) → Contains m.tris (tri_of a b c o) → AreSides p q a b c → is_edge m.tris p q ≡ true
  edge_by p q a b c o h s = is_edge-from m.tris p q (tri_of a b c o) h (at_edge-from p q a b c o s)

  then_by : (p q a b c o : ℕ) → Contains mesh_then.tris (tri_of a b c o) → AreSides p q a b c → is_edge mesh_then.tris p q ≡ true
  then_by p q a b c o h s = is_edge-from mesh_then.tris p q (tri_of a b c o) h (at_edge-from p q a b c o s)

  moved : (x y o : ℕ) → Contains m.tris (tri_of u x y o) → x ≢ v → y ≢ v → Contains mesh_then.tris (tri_of v x y o)
  moved x y o h nx ny = replaced-new tri_lt (has_corner u) (added m ok u v p) m.tris (tri_of v x y o) (added-has m ok u v p x y o h nx ny)

  -- an edge of v after: it was there, or its other end is new to v
  at_v : (z : Edge) (x : ℕ) → z.lo < z.hi → AreSame z.lo z.hi v x → is_edge m.tris u x ≡ true → x ≢ u → x ≢ v → ((is_edge m.tris z.lo z.hi ≡ true) × (is_without u z ≡ true)) ⊎ Contains new z
  at_v z x l s h nu nv = go (is_edge m.tris v x) refl
    where
      go : (b : Bool) → is_edge m.tris v x ≡ b → ((is_edge m.tris z.lo z.hi ≡ true) × (is_without u z ≡ true)) ⊎ Contains new z
      go true e =
          let r = is_edge-means m.tris v x e in
          let n = no_name z.lo z.hi v x u s (λ k. p.apart (sym k)) nu in
          inl (is_edge-from m.tris z.lo z.hi r.0 r.1 (at_edge-same z.lo z.hi v x r.0 s r.2), without-from u z n.0 n.1)
      go false e = inr (subst (λ w. Contains new w) (sym (edge_of-is z v x l s)) (map-in (edge_of v) new_nbrs x (filter-in (is_new_to m v) x nbrs (nbrs-in x h) (new_to-from m v x nv e))))

  from_moved : (z : Edge) → z.lo < z.hi → (x y o : ℕ) → Contains m.tris (tri_of u x y o) → x ≢ v → y ≢ v → AreSides z.lo z.hi v x y → ((is_edge m.tris z.lo z.hi ≡ true) × (is_without u z ≡ true)) ⊎ Contains new z
  from_moved z l x y o h nx ny s =
      let c = (corners_of m ok u x y o h).distinct in
      let xu : x ≢ u = λ e. c.one (sym e) in
      elim s.is [
        | inl a ↦ at_v z x l a (edge_by u x u x y o h record { is = inl (same-itself u x) }) xu nx
        | inr b ↦ elim b [
          | inl a ↦ (let n = no_name z.lo z.hi x y u a xu c.three in inl (edge_by z.lo z.hi u x y o h record { is = inr (inl a) }, without-from u z n.0 n.1))
          | inr a ↦ at_v z y l (same-turned a) (edge_by u y u x y o h record { is = inr (inr (same-turned (same-itself u y))) }) c.three ny
        ]
      ]

  from : (z : Edge) → z.lo < z.hi → is_edge mesh_then.tris z.lo z.hi ≡ true → ((is_edge m.tris z.lo z.hi ≡ true) × (is_without u z ≡ true)) ⊎ Contains new z
  from z l h =
      let r = is_edge-means mesh_then.tris z.lo z.hi h in
      elim (replaced-cases tri_lt (has_corner u) (added m ok u v p) m.tris r.0 r.1) [
        | inl a ↦ (let i = (added-means m ok u v p r.0 a).2 in from_moved z l i.x i.y i.o i.stands i.x_apart i.y_apart (at_edge-sides z.lo z.hi v i.x i.y i.o (subst (λ w. is_at_edge z.lo z.hi w ≡ true) i.is r.2)))
        | inr k ↦ (let c = at_edge-corners z.lo z.hi r.0 r.2 in
            inl (is_edge-from m.tris z.lo z.hi r.0 k.0 r.2, without-from u z (λ e. not_both_values (has_corner u r.0) (subst (λ w. has_corner w r.0 ≡ true) e c.0) k.1) (λ e. not_both_values (has_corner u r.0) (subst (λ w. has_corner w r.0 ≡ true) e c.1) k.1)))
      ]

  -- the side opposite to u of a triangle that goes is an edge after
  opposite : (z : Edge) (x y o : ℕ) → Contains m.tris (tri_of u x y o) → AreSame z.lo z.hi x y → is_edge mesh_then.tris z.lo z.hi ≡ true
  opposite z x y o h s = go (cases_eq x v) (cases_eq y v)
    where
      go : (x ≡ v) ⊎ (x ≢ v) → (y ≡ v) ⊎ (y ≢ v) → is_edge mesh_then.tris z.lo z.hi ≡ true
      go (inr nx) (inr ny) = then_by z.lo z.hi v x y o (moved x y o h nx ny) record { is = inr (inl s) }
      go (inl ex) (inl ey) = absurd ((corners_of m ok u x y o h).distinct.two (ex ∙ sym ey))
      go (inl ex) (inr ny) =
          let st = subst (λ w. Contains m.tris (tri_of u w y o)) ex h in
          let k = after_v m ok u v p y o st in
          let nz : k.0 ≢ v = λ e. not_turned m ok u v y o k.1 st (subst (λ w. Contains m.tris (tri_of u y w k.1)) e k.2) in
          then_by z.lo z.hi v y k.0 k.1 (moved y k.0 k.1 k.2 ny nz) record { is = inl (subst (λ w. AreSame z.lo z.hi w y) ex s) }
      go (inr nx) (inl ey) =
          let st = subst (λ w. Contains m.tris (tri_of u x w o)) ey h in
          let k = before_v m ok u v p x o st in
          let nz : k.0 ≢ v = λ e. not_turned m ok u x v o k.1 st (subst (λ w. Contains m.tris (tri_of u w x k.1)) e k.2) in
          then_by z.lo z.hi v k.0 x k.1 (moved k.0 x k.1 k.2 nz nx) record { is = inr (inr (subst (λ w. AreSame z.lo z.hi x w) ey s)) }

  old : (z : Edge) → z.lo < z.hi → is_edge m.tris z.lo z.hi ≡ true → is_without u z ≡ true → is_edge mesh_then.tris z.lo z.hi ≡ true
  old z l h k = let r = is_edge-means m.tris z.lo z.hi h in go r.0 r.1 r.2 (has_corner u r.0) refl
    where
      n : (z.lo ≢ u) × (z.hi ≢ u)
      n = without-means u z k

      no : (x y : ℕ) → AreSame z.lo z.hi x y → x ≢ u
      no x y s = elim (one_name z.lo z.hi x y s) [ inl e ↦ (λ w. n.0 (e ∙ w)) | inr e ↦ (λ w. n.1 (e ∙ w)) ]

      go : (t : Tri) → Contains m.tris t → is_at_edge z.lo z.hi t ≡ true → (b : Bool) → has_corner u t ≡ b → is_edge mesh_then.tris z.lo z.hi ≡ true
      go t i e false g = is_edge-from mesh_then.tris z.lo z.hi t (replaced-kept tri_lt (has_corner u) (added m ok u v p) m.tris t i g) e
      go t i e true g =
          let w = corner_at u v t (least_first m ok t i) g in
          let st : Contains m.tris (tri_of u w.x w.y t.owner) = subst (λ q. Contains m.tris q) (sym w.is) i in
          elim (at_edge-sides z.lo z.hi u w.x w.y t.owner (subst (λ q. is_at_edge z.lo z.hi q ≡ true) (sym w.is) e)).is [
            | inl a ↦ absurd (no u w.x a refl)
            | inr b ↦ elim b [ inl a ↦ opposite z w.x w.y t.owner st a | inr a ↦ absurd (no u w.y (same-turned a) refl) ]
          ]

  -- the triangle at u and a neighbour, as u, a, b with the neighbour as a or b
  record IsNear (x : ℕ) : Type 0 where
    a : ℕ
    b : ℕ
    o : ℕ
    stands : Contains m.tris (tri_of u a b o)
    is : (a ≡ x) ⊎ (b ≡ x)

  near : (x : ℕ) → is_edge m.tris u x ≡ true → IsNear x
  near x h =
      let r = is_edge-means m.tris u x h in
      let c = at_edge-corners u x r.0 r.2 in
      let w = corner_at u v r.0 (least_first m ok r.0 r.1) c.0 in
      let st : Contains m.tris (tri_of u w.x w.y r.0.owner) = subst (λ q. Contains m.tris q) (sym w.is) r.1 in
      let d = (corners_of m ok u w.x w.y r.0.owner st).distinct in
      let s = at_edge-sides u x u w.x w.y r.0.owner (subst (λ q. is_at_edge u x q ≡ true) (sym w.is) r.2) in
      record {
        a = w.x;
        b = w.y;
        o = r.0.owner;
        stands = st;
        is = elim s.is [
          | inl e ↦ inl (first x w.x e (λ k. d.one (sym k)))
          | inr y ↦ elim y [ inl e ↦ absurd (elim (one_of u x w.x w.y e) [ inl k ↦ d.one k | inr k ↦ d.three (sym k) ]) | inr e ↦ inr (first x w.y (same-turned e) d.three) ]
        ];
      }
    where
      first : (x y : ℕ) → AreSame u x u y → y ≢ u → y ≡ x
      first x y s n = let i = s.is in grind arith

      one_of : (p q a b : ℕ) → AreSame p q a b → (p ≡ a) ⊎ (p ≡ b)
      one_of p q a b s = let i = s.is in grind arith

  new_edge : (x : ℕ) → is_edge m.tris u x ≡ true → x ≢ v → is_edge m.tris v x ≡ false → (q r : ℕ) → AreSame q r v x → is_edge mesh_then.tris q r ≡ true
  new_edge x h nv unknown q r s = go (near x h)
    where
      go : IsNear x → is_edge mesh_then.tris q r ≡ true
      go w = elim w.is [
        | inl e ↦ (let st = subst (λ k. Contains m.tris (tri_of u k w.b w.o)) e w.stands in
            let nb : w.b ≢ v = λ k. not_both_values (is_edge m.tris v x) (edge_by v x u x w.b w.o st record { is = inr (inl (same-turned (subst (λ j. AreSame v x j x) (sym k) (same-itself v x)))) }) unknown in
            then_by q r v x w.b w.o (moved x w.b w.o st nv nb) record { is = inl s })
        | inr e ↦ (let st = subst (λ k. Contains m.tris (tri_of u w.a k w.o)) e w.stands in
            let na : w.a ≢ v = λ k. not_both_values (is_edge m.tris v x) (edge_by v x u w.a x w.o st record { is = inr (inl (subst (λ j. AreSame v x j x) (sym k) (same-itself v x))) }) unknown in
            then_by q r v w.a x w.o (moved w.a x w.o st na nv) record { is = inr (inr (same-turned s)) })
      ]

  put : (z : Edge) → Contains new z → (z.lo < z.hi) × (is_edge mesh_then.tris z.lo z.hi ≡ true)
  put z h =
      let r = map-means (edge_of v) new_nbrs z h in
      let o = new_nbrs-out r.0 r.1 in
      subst (λ w. (w.lo < w.hi) × (is_edge mesh_then.tris w.lo w.hi ≡ true)) r.2 (edge_of-rises v r.0 (λ e. o.1.0 (sym e)), new_edge r.0 o.0 o.1.0 o.1.1 (min v r.0) (max v r.0) (edge_of-ends v r.0))

  unheard : (z : Edge) → Contains new z → is_edge m.tris z.lo z.hi ≡ true → ⊥
  unheard z h k =
      let r = map-means (edge_of v) new_nbrs z h in
      let o = new_nbrs-out r.0 r.1 in
      let t = is_edge-means m.tris z.lo z.hi k in
      not_both_values (is_edge m.tris v r.0) (is_edge-from m.tris v r.0 t.0 t.1 (at_edge-same v r.0 z.lo z.hi t.0 (same-back (ends-of z v r.0 (sym r.2))) t.2)) o.1.1

  contract_edge_patch : IsEdgePatch m.tris mesh_then.tris (is_without u) new
  contract_edge_patch =
      record {
        sound = conforming-sound m ok;
        sound_after = conforming-sound mesh_then (contract_conforms m ok u v p);
        different = different-map (edge_of v) (λ a b e. edge_of-one v a b e) new_nbrs (different-filter (is_new_to m v) nbrs nbrs-different);
        unheard = unheard;
        from = from;
        old = old;
        put = put;
      }

  -- the edges of u go to its neighbours
  edges_of_u : count (filter (λ z. not (is_without u z)) (edge_list m.tris)) ≡ count (map (edge_of u) nbrs)
  edges_of_u =
      count-same (filter (λ z. not (is_without u z)) (edge_list m.tris)) (map (edge_of u) nbrs)
      (different-filter (λ z. not (is_without u z)) (edge_list m.tris) (edge_list-different m.tris (conforming-sound m ok)))
      (different-map (edge_of u) (λ a b e. edge_of-one u a b e) nbrs nbrs-different)
      forth back
    where
      forth : (z : Edge) → Contains (filter (λ z. not (is_without u z)) (edge_list m.tris)) z → Contains (map (edge_of u) nbrs) z
      forth z h =
          let o = filter-out (λ z. not (is_without u z)) z (edge_list m.tris) h in
          let r = edge_list-means m.tris (conforming-sound m ok) z o.0 in
          let t = is_edge-means m.tris z.lo z.hi r.1 in
          let go : (x : ℕ) → AreSame z.lo z.hi u x → Contains (map (edge_of u) nbrs) z = λ x s. subst (λ w. Contains (map (edge_of u) nbrs) w) (sym (edge_of-is z u x r.0 s)) (map-in (edge_of u) nbrs x (nbrs-in x (is_edge-from m.tris u x t.0 t.1 (at_edge-same u x z.lo z.hi t.0 (same-back s) t.2)))) in
          elim (touches u z o.1) [ inl e ↦ go z.hi record { is = inl (sym e, refl) } | inr e ↦ go z.lo record { is = inr (sym e, refl) } ]

      back : (z : Edge) → Contains (map (edge_of u) nbrs) z → Contains (filter (λ z. not (is_without u z)) (edge_list m.tris)) z
      back z h =
          let r = map-means (edge_of u) nbrs z h in
          let e = nbrs-out r.0 r.1 in
          let t = is_edge-means m.tris u r.0 e in
          let s = ends-of z u r.0 (sym r.2) in
          let w = near r.0 e in
          let d = (corners_of m ok u w.a w.b w.o w.stands).distinct in
          let apart : u ≢ r.0 = elim w.is [ inl k ↦ (λ j. d.one (j ∙ sym k)) | inr k ↦ (λ j. d.three (k ∙ sym j)) ] in
          let rises : z.lo < z.hi = subst (λ q. q.lo < q.hi) r.2 (edge_of-rises u r.0 apart) in
          filter-in (λ z. not (is_without u z)) z (edge_list m.tris) (edge_list-from m.tris (conforming-sound m ok) z rises (is_edge-from m.tris z.lo z.hi t.0 t.1 (at_edge-same z.lo z.hi u r.0 t.0 s t.2))) (touching u z (one_name z.lo z.hi u r.0 s))

  abbrev apexes : List ℕ
  apexes = apex_list (side_of m.tris u v) ++ apex_list (side_of m.tris v u)

  apex-in : (x : ℕ) (s : Option Side) → is_apex x s ≡ true → Contains (apex_list s) x
  apex-in x None h = absurd (let z : false ≡ true = h in cc)
  apex-in x (Some s) h = subst (λ w. Contains (s.apex ∷ []) w) (same s.apex h) (here s.apex [])
    where
      same : (a : ℕ) → (a == x) ≡ true → a ≡ x
      same a e = grind (arith, nat_tests)

  -- a common neighbour of u and v is an apex of their edge
  common : (x : ℕ) → is_edge m.tris u x ≡ true → is_edge m.tris v x ≡ true → Contains apexes x
  common x hu hv =
      elim (or_cases (is_apex x (side_of m.tris u v)) (is_apex x (side_of m.tris v u)) (p.link x near_u near_v)) [
        | inl a ↦ Contains-append_left (apex_list (side_of m.tris u v)) (apex_list (side_of m.tris v u)) x (apex-in x (side_of m.tris u v) a)
        | inr a ↦ Contains-append_right (apex_list (side_of m.tris u v)) (apex_list (side_of m.tris v u)) x (apex-in x (side_of m.tris v u) a)
      ]
    where
      near_u : Contains (neighbours (spokes_of m u)) x
      near_u = go (near x hu)
        where
          go : IsNear x → Contains (neighbours (spokes_of m u)) x
          go w =
              let s = spokes-has m ok u w.a w.b w.o w.stands in
              elim w.is [ inl e ↦ subst (λ k. Contains (neighbours (spokes_of m u)) k) (s.2 ∙ e) (right_is_neighbour (spokes_of m u) s.0 s.1) | inr e ↦ subst (λ k. Contains (neighbours (spokes_of m u)) k) (s.3 ∙ e) (left_is_neighbour (spokes_of m u) s.0 s.1) ]

      near_v : is_neighbour x (spokes_of m v) ≡ true
      near_v =
          let r = is_edge-means m.tris v x hv in
          let c = at_edge-corners v x r.0 r.2 in
          let w = corner_at v v r.0 (least_first m ok r.0 r.1) c.0 in
          let st : Contains m.tris (tri_of v w.x w.y r.0.owner) = subst (λ q. Contains m.tris q) (sym w.is) r.1 in
          let d = (corners_of m ok v w.x w.y r.0.owner st).distinct in
          let s = at_edge-sides v x v w.x w.y r.0.owner (subst (λ q. is_at_edge v x q ≡ true) (sym w.is) r.2) in
          elim s.is [
            | inl e ↦ subst (λ k. is_neighbour k (spokes_of m v) ≡ true) (first x w.x e (λ k. d.one (sym k))) (neighbour_right m ok u v p w.x w.y r.0.owner st)
            | inr y ↦ elim y [
              | inl e ↦ absurd (elim (one_of v x w.x w.y e) [ inl k ↦ d.one k | inr k ↦ d.three (sym k) ])
              | inr e ↦ subst (λ k. is_neighbour k (spokes_of m v) ≡ true) (first x w.y (same-turned e) d.three) (neighbour_left m ok u v p w.x w.y r.0.owner st)
            ]
          ]
        where
          first : (x y : ℕ) → AreSame v x v y → y ≢ v → y ≡ x
          first x y s n = let i = s.is in grind arith

          one_of : (p q a b : ℕ) → AreSame p q a b → (p ≡ a) ⊎ (p ≡ b)
          one_of p q a b s = let i = s.is in grind arith

  apex_common : (x : ℕ) → Contains apexes x → (is_edge m.tris u x ≡ true) × ((is_edge m.tris v x ≡ true) × (x ≢ v))
  apex_common x h = elim (Contains-append_cases (apex_list (side_of m.tris u v)) (apex_list (side_of m.tris v u)) x h) [
    | inl i ↦ (let a = apex-means m ok u v (side_of m.tris u v) refl x i in
        let d = (corners_of m ok u v x a.0 a.1).distinct in
        (edge_by u x u v x a.0 a.1 record { is = inr (inr (same-turned (same-itself u x))) }, (edge_by v x u v x a.0 a.1 record { is = inr (inl (same-itself v x)) }, (λ e. d.two (sym e)))))
    | inr i ↦ (let a = apex-means m ok v u (side_of m.tris v u) refl x i in
        let d = (corners_of m ok v u x a.0 a.1).distinct in
        (edge_by u x v u x a.0 a.1 record { is = inr (inl (same-itself u x)) }, (edge_by v x v u x a.0 a.1 record { is = inr (inr (same-turned (same-itself v x))) }, d.three)))
  ]

  apexes-different : AreDifferent apexes
  apexes-different =
      different-append (apex_list (side_of m.tris u v)) (apex_list (side_of m.tris v u)) (apex_list-different (side_of m.tris u v)) (apex_list-different (side_of m.tris v u))
      (λ z h k. let a = apex-means m ok u v (side_of m.tris u v) refl z h in
      let b = apex-means m ok v u (side_of m.tris v u) refl z k in
      opposite_apexes m u v z z (corners_of m ok u v z a.0 a.1).left (corners_of m ok v u z b.0 b.1).left refl)

  -- the neighbours of u that v knows are v itself and the apexes
  known_nbrs : count (filter (λ x. not (is_new_to m v x)) nbrs) ≡ count (v ∷ apexes)
  known_nbrs =
      total-same (λ x. pos 1) nat_lt nat_lt-order nat_lt-compares (filter (λ x. not (is_new_to m v x)) nbrs) (v ∷ apexes)
      (different-filter (λ x. not (is_new_to m v x)) nbrs nbrs-different)
      ((λ z h e. (apex_common z h).1.1 (sym e)), apexes-different)
      forth back
    where
      forth : (x : ℕ) → Contains (filter (λ x. not (is_new_to m v x)) nbrs) x → Contains (v ∷ apexes) x
      forth x h =
          let o = filter-out (λ x. not (is_new_to m v x)) x nbrs h in
          elim (not_new_to m v x o.1) [ inl e ↦ subst (λ w. Contains (v ∷ apexes) w) (sym e) (here v apexes) | inr k ↦ there x v apexes (common x (nbrs-out x o.0) k.1) ]

      back : (x : ℕ) → Contains (v ∷ apexes) x → Contains (filter (λ x. not (is_new_to m v x)) nbrs) x
      back x h = elim (cases x v apexes h) [
        | inl e ↦ filter-in (λ x. not (is_new_to m v x)) x nbrs (nbrs-in x (subst (λ w. is_edge m.tris u w ≡ true) (sym e) p.edge)) (known_to-v m v x (inl e))
        | inr k ↦ (let c = apex_common x k in filter-in (λ x. not (is_new_to m v x)) x nbrs (nbrs-in x c.0) (known_to-v m v x (inr c.1.0)))
      ]

  u_live : IsLive m u
  u_live = let r = is_edge-means m.tris u v p.edge in (ends_live m ok u v r.0 r.1 r.2).0

  pub contract_euler : euler_of mesh_then ≡ euler_of m
  contract_euler =
      let a = euler_of-counts m in
      let b = euler_of-counts mesh_then in
      let e = count-patched m.tris mesh_then.tris (is_without u) new contract_edge_patch in
      let f = total-filter (λ z. pos 1) (is_without u) (edge_list m.tris) in
      let g = edges_of_u in
      let i : count (map (edge_of u) nbrs) ≡ count nbrs = total-map (λ z. pos 1) (edge_of u) nbrs in
      let j : count new ≡ count new_nbrs = total-map (λ z. pos 1) (edge_of v) new_nbrs in
      let k = total-filter (λ (x : ℕ). pos 1) (is_new_to m v) nbrs in
      let l = known_nbrs in
      let n = total-append (λ (z : ℕ). pos 1) (apex_list (side_of m.tris u v)) (apex_list (side_of m.tris v u)) in
      let s = contract_sites m ok u v p u_live in
      let t = contract_tris m ok u v p in
      let l1 = old_count u v (side_of m.tris u v) in
      let l2 = old_count v u (side_of m.tris v u) in
      omega (arith, ints, a, b, e, f, g, i, j, k, l, n, s, t, l1, l2)

pub contract_keeps_euler : (m : Undivided) (chunk u v : ℕ) → IsConforming m → first_failing m chunk (Contract u v) ≡ None → euler_of (contracted m u v) ≡ euler_of m
contract_keeps_euler m chunk u v ok h = contract_by (λ k. euler_of k ≡ euler_of m) m chunk u v ok h (λ p. contract_euler m ok u v p)
