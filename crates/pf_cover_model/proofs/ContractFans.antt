-- A contraction that passes leaves one fan at each node that had one.
-- Assumes `IsConforming m` and that `first_failing` is None.
use Rattle.std.proofs.Common.{◌≡◌, ◌≢◌, ℕ, List, [], ◌∷◌, refl, sym, ◌∙◌, ap, subst, Bool, true, false, cond, ◌⊎◌, inl, inr, arith, ◌||◌}
use Rattle.std.specs.Prelude.{Contains, map, Option, Some, None, is_some, unwrap_or, ◌==◌, ℤ, pos, ◌+ℤ◌, ◌-ℤ◌}
use Rattle.std.proofs.lemmas.Int.{ints}
use Rattle.std.proofs.lemmas.Bool.Decides.{nat_tests}
use Rattle.pf_model.specs.declared.Tri.{Tri}
use Rattle.pf_model.specs.declared.Spoke.{Spoke}
use Rattle.pf_model.specs.Rising.{AreDifferent}
use Rattle.pf_model.specs.declared.Side.{Side}
use Rattle.pf_model.specs.Mesh.{Undivided, tri_of, tri_lt, has_edge, has_corner, side_of}
use Rattle.pf_model.specs.Conforming.{IsConforming}
use Rattle.pf_model.specs.Stars.{spokes_of, is_on_boundary, path_start, path_end}
use Rattle.pf_model.specs.Sums.{total}
use Rattle.pf_model.proofs.Members.{nowhere, here, there, cases}
use Rattle.pf_model.proofs.Turns.{AreDistinct}
use Rattle.pf_model.proofs.Triangles.{tri_of-corner, tri_of-edge_one, tri_of-edge_three, side_of-none}
use Rattle.pf_model.proofs.Patch.{replaced-cases, replaced-new, replaced-kept}
use Rattle.pf_model.proofs.Kept.{side_of-stands}
use Rattle.pf_model.proofs.ReadClauses.{is_some-holds}
use Rattle.pf_model.proofs.Shares.{share}
use Rattle.pf_model.proofs.Totals.{map-in}
use Rattle.pf_model.proofs.Fans.{IsRight, IsLeft, path_start-some, path_end-some}
use Rattle.pf_model.proofs.FanEnds.{ring_sum, fan_ends}
use Rattle.pf_model.proofs.Spokes.{spokes-means, spokes-has, spokes-simple, apex_same}
use Rattle.pf_model.proofs.FlipKeeps.{corners_of}
use Rattle.pf_model.proofs.ContractClauses.{ContractPasses}
use Rattle.pf_model.proofs.ContractKeeps.{corner_at, added, after, added-means, added-has, contract_conforms}
use Rattle.pf_cover_model.specs.Crossings.{one_if}
use Rattle.pf_cover_model.proofs.FanTriangles.{IsEvenAt, IsLinkedAt, IsSaid, rotations, said, from_second, even_second, even_third, linked_at-from, linked_at-carried, linked_at-one}
use Rattle.pf_cover_model.proofs.EdgeNames.{not_both_values}
use Rattle.pf_model.proofs.Triangles.{least_first}
use Rattle.std.proofs.lemmas.Bool.{cases_eq}

eq_from : (a b : ℕ) → a ≡ b → (a == b) ≡ true
eq_from a b e = grind (arith, nat_tests)

eq_not : (a b : ℕ) → a ≢ b → (a == b) ≡ false
eq_not a b n = grind (arith, nat_tests)

-- a test with another value at one name
abbrev with_at : {X : Type 0} → ℕ → X → (ℕ → X) → ℕ → X
with_at u w f x = cond (x == u) w (f x)

with-yes : {X : Type 0} (u : ℕ) (w : X) (f : ℕ → X) (x : ℕ) → x ≡ u → with_at u w f x ≡ w
with-yes u w f x e = ap (λ b. cond b w (f x)) (eq_from x u e)

with-no : {X : Type 0} (u : ℕ) (w : X) (f : ℕ → X) (x : ℕ) → x ≢ u → with_at u w f x ≡ f x
with-no u w f x n = ap (λ b. cond b w (f x)) (eq_not x u n)

-- a sum in which one summand alone isn't 0
total-none : (f : Spoke → ℤ) (ss : List Spoke) → ((t : Spoke) → Contains ss t → f t ≡ pos 0) → total f ss ≡ pos 0
total-none f [] h = refl
total-none f (s ∷ ss) h = let a = h s (here s ss) in let b = total-none f ss (λ t k. h t (there t s ss k)) in omega (arith, ints, a, b)

total-one : (f : Spoke → ℤ) (ss : List Spoke) (s : Spoke) → AreDifferent (map (λ t. t.right) ss) → Contains ss s → ((t : Spoke) → Contains ss t → t.right ≢ s.right → f t ≡ pos 0) → total f ss ≡ f s
total-one f [] s d h z = absurd (nowhere s h)
total-one f (x ∷ xs) s d h z = elim (cases s x xs h) [
  | inl e ↦ (let a = total-none f xs (λ t k. z t (there t x xs k) (λ q. d.0 t.right (map-in (λ t. t.right) xs t k) (sym (q ∙ ap (λ w. w.right) e)))) in let b = ap f e in sums (f x) (total f xs) (f s) a b)
  | inr k ↦ (let a = z x (here x xs) (λ q. d.0 s.right (map-in (λ t. t.right) xs s k) q) in let b = total-one f xs s d.1 k (λ t i. z t (there t x xs i)) in omega (arith, ints, a, b))
]
  where
    sums : (x y w : ℤ) → y ≡ pos 0 → w ≡ x → x +ℤ y ≡ w
    sums x y w a b = omega (arith, ints, a, b)

one_if-same : (b c : Bool) → one_if b -ℤ one_if c ≡ pos 0 → b ≡ c
one_if-same true true e = refl
one_if-same false false e = refl
one_if-same true false e = absurd (let z : pos 1 ≡ pos 0 = e in omega (arith, ints, z))
one_if-same false true e = absurd (let z : pos 0 -ℤ pos 1 ≡ pos 0 = e in omega (arith, ints, z))

module _ (m : Undivided) (ok : IsConforming m) (u v : ℕ) (p : ContractPasses m u v) where
  abbrev pub mesh_then : Undivided
  mesh_then = after m ok u v p

  ok_then : IsConforming mesh_then
  ok_then = contract_conforms m ok u v p

  moved : (x y o : ℕ) → Contains m.tris (tri_of u x y o) → x ≢ v → y ≢ v → Contains mesh_then.tris (tri_of v x y o)
  moved x y o h nx ny = replaced-new tri_lt (has_corner u) (added m ok u v p) m.tris (tri_of v x y o) (added-has m ok u v p x y o h nx ny)

  kept : (t : Tri) → Contains m.tris t → has_corner u t ≡ false → Contains mesh_then.tris t
  kept t h e = replaced-kept tri_lt (has_corner u) (added m ok u v p) m.tris t h e

  no_corner : (a b c o k : ℕ) → has_corner u (tri_of a b c o) ≡ false → (a ≡ k) ⊎ ((b ≡ k) ⊎ (c ≡ k)) → k ≢ u
  no_corner a b c o k e h q = not_both_values (has_corner u (tri_of a b c o)) (tri_of-corner u a b c o (subst (λ w. (a ≡ w) ⊎ ((b ≡ w) ⊎ (c ≡ w))) q h)) e

  -- a triangle at u, written from u
  record IsFromU (t : Tri) : Type 0 where
    a : ℕ
    b : ℕ
    o : ℕ
    is : t ≡ tri_of u a b o
    stands : Contains m.tris (tri_of u a b o)
    distinct : AreDistinct u a b

  from_u : (t : Tri) → Contains m.tris t → has_corner u t ≡ true → IsFromU t
  from_u t h e =
      let w = corner_at u v t (least_first m ok t h) e in
      let st : Contains m.tris (tri_of u w.x w.y t.owner) = subst (λ q. Contains m.tris q) (sym w.is) h in
      record { a = w.x; b = w.y; o = t.owner; is = sym w.is; stands = st; distinct = (corners_of m ok u w.x w.y t.owner st).distinct }

  -- at a node that is neither u nor v
  module _ (k : ℕ) (not_u : k ≢ u) (not_v : k ≢ v) (test : ℕ → Bool) (even : IsEvenAt mesh_then k test) where
    before : ℕ → Bool
    before x = with_at u (test v) test x

    at_u : (x : ℕ) → x ≡ u → before x ≡ test v
    unfolding before
    at_u x e = with-yes u (test v) test x e

    at_other : (x : ℕ) → x ≢ u → before x ≡ test x
    unfolding before
    at_other x n = with-no u (test v) test x n

    even_removed : (x y o' : ℕ) → AreDistinct k x y → IsFromU (tri_of k x y o') → before x ≡ before y
    even_removed x y o' d t = elim (rotations u t.a t.b t.o k x y o' t.distinct d t.is) [
      | inl i ↦ absurd (not_u i.0)
      | inr j ↦ elim j [
        | inl i ↦ (at_other x (λ e. t.distinct.three (sym i.1.0 ∙ e)) ∙ (elim (cases_eq t.b v) [ inl e ↦ ap test (i.1.0 ∙ e) | inr nb ↦ ap test i.1.0 ∙ even_second mesh_then ok_then k test even v t.a t.b t.o (moved t.a t.b t.o t.stands (λ e. not_v (i.0 ∙ e)) nb) i.0 ] ∙ sym (at_u y i.1.1)))
        | inr i ↦ (at_u x i.1.0 ∙ (elim (cases_eq t.a v) [ inl e ↦ ap test (sym (i.1.1 ∙ e)) | inr na ↦ even_third mesh_then ok_then k test even v t.a t.b t.o (moved t.a t.b t.o t.stands na (λ e. not_v (i.0 ∙ e))) i.0 ∙ ap test (sym i.1.1) ] ∙ sym (at_other y (λ e. t.distinct.one (sym e ∙ i.1.1)))))
      ]
    ]

    even_before : IsEvenAt m k before
    even_before x y o h = go (has_corner u (tri_of k x y o)) refl
      where
        go : (b : Bool) → has_corner u (tri_of k x y o) ≡ b → before x ≡ before y
        go false e = at_other x (no_corner k x y o x e (inr (inl refl))) ∙ (even x y o (kept (tri_of k x y o) h e) ∙ sym (at_other y (no_corner k x y o y e (inr (inr refl)))))
        go true e = even_removed x y o (corners_of m ok k x y o h).distinct (from_u (tri_of k x y o) h e)

    each : (x y o : ℕ) → Contains mesh_then.tris (tri_of k x y o) → IsSaid m k before (test x)
    each x y o h = elim (replaced-cases tri_lt (has_corner u) (added m ok u v p) m.tris (tri_of k x y o) h) [
      | inl a ↦ (let i = (added-means m ok u v p (tri_of k x y o) a).2 in by_moved i.x i.y i.o i.is i.stands)
      | inr w ↦ record { x = x; y = y; o = o; stands = w.0; says = at_other x (no_corner k x y o x w.1 (inr (inl refl))) }
    ]
      where
        by_moved : (a b o' : ℕ) → tri_of k x y o ≡ tri_of v a b o' → Contains m.tris (tri_of u a b o') → IsSaid m k before (test x)
        by_moved a b o' e st =
            let d = (corners_of m ok u a b o' st).distinct in
            let d' = (corners_of mesh_then ok_then v a b o' (subst (λ w. Contains mesh_then.tris w) e h)).distinct in
            elim (rotations v a b o' k x y o d' (corners_of mesh_then ok_then k x y o h).distinct e) [
              | inl i ↦ absurd (not_v i.0)
              | inr j ↦ elim j [
                | inl i ↦ said m ok k before even_before u a b o' st (test x) (inr (inl (i.0, inl (at_other b d.three ∙ ap test (sym i.1.0)))))
                | inr i ↦ said m ok k before even_before u a b o' st (test x) (inr (inr (i.0, inl (at_u u refl ∙ ap test (sym i.1.0)))))
              ]
            ]

  pub contract_linked : (k : ℕ) → k ≢ u → k ≢ v → IsLinkedAt m k → IsLinkedAt mesh_then k
  contract_linked k nu nv linked = linked_at-carried m mesh_then k linked (λ test even. record { before = before k nu nv test even; even = even_before k nu nv test even; each = each k nu nv test even })

  -- with triangles on both sides of the edge, u is not on the boundary
  not_boundary : (a o b o' : ℕ) → Contains m.tris (tri_of u v a o) → Contains m.tris (tri_of u b v o') → is_on_boundary (spokes_of m u) ≡ false
  not_boundary a o b o' h h' = go (is_on_boundary (spokes_of m u)) refl
    where
      right : IsRight (spokes_of m u) v
      right = let s = spokes-has m ok u v a o h in (s.0, s.1, s.2)

      left : IsLeft (spokes_of m u) v
      left = let s = spokes-has m ok u b v o' h' in (s.0, s.1, s.3)

      value : (q : Option ℕ) (w : ℕ) → q ≡ Some w → unwrap_or q 0 ≡ w
      value q w e = ap (λ r. unwrap_or r 0) e

      go : (c : Bool) → is_on_boundary (spokes_of m u) ≡ c → c ≡ false
      go false e = refl
      go true e =
          let s = is_some-holds (path_start (spokes_of m u) (spokes_of m u)) e in
          let t = fan_ends (spokes_of m u) (spokes-simple m ok u) p.fan (right.0, right.1) e in
          absurd (elim (p.onto e) [
            | inl k ↦ (path_start-some (spokes_of m u) (spokes_of m u) s.0 s.1).1 (subst (λ w. IsLeft (spokes_of m u) w) (sym (sym (value (path_start (spokes_of m u) (spokes_of m u)) s.0 s.1) ∙ k)) left)
            | inr k ↦ (path_end-some (spokes_of m u) (spokes_of m u) t.0 t.1).1 (subst (λ w. IsRight (spokes_of m u) w) (sym (sym (value (path_end (spokes_of m u) (spokes_of m u)) t.0 t.1) ∙ k)) right)
          ])

  -- at v
  module _ (test : ℕ → Bool) (even : IsEvenAt mesh_then v test) where
    -- round u, the test says the same of both apexes of the edge
    both_apexes : (a o b o' : ℕ) → Contains m.tris (tri_of u v a o) → Contains m.tris (tri_of u b v o') → test b ≡ test a
    both_apexes a o b o' h h' =
        let s = spokes-has m ok u b v o' h' in
        let sum = ring_sum (spokes_of m u) (spokes-simple m ok u) p.fan (s.0, s.1) (not_boundary a o b o' h h') value in
        let one = total-one (share value) (spokes_of m u) s.0 (spokes-simple m ok u).different s.1 (λ t i n. zero t i s.0 s.1 s.2 s.3 n) in
        let d = (corners_of m ok u b v o' h').distinct in
        let x : value s.0.right ≡ one_if (test b) = ap value s.2 ∙ with-no v (one_if (test a)) (λ k. one_if (test k)) b d.two in
        let y : value s.0.left ≡ one_if (test a) = with-yes v (one_if (test a)) (λ k. one_if (test k)) s.0.left s.3 in
        one_if-same (test b) (test a) (sums (total (share value) (spokes_of m u)) (value s.0.right) (value s.0.left) (one_if (test b)) (one_if (test a)) sum one x y)
      where
        value : ℕ → ℤ
        value = λ k. with_at v (one_if (test a)) (λ k. one_if (test k)) k

        sums : (t x y b a : ℤ) → t ≡ pos 0 → t ≡ x -ℤ y → x ≡ b → y ≡ a → b -ℤ a ≡ pos 0
        sums t x y b a e f g h = omega (arith, ints, e, f, g, h)

        less : (x y : ℤ) → x ≡ y → x -ℤ y ≡ pos 0
        less x y e = omega (arith, ints, e)

        zero : (t : Spoke) → Contains (spokes_of m u) t → (s : Spoke) → Contains (spokes_of m u) s → s.right ≡ b → s.left ≡ v → t.right ≢ s.right → share value t ≡ pos 0
        zero t i s is sr sl n = less (value t.right) (value t.left) (go (cases_eq t.right v))
          where
            st : Contains m.tris (tri_of u t.right t.left t.owner)
            st = spokes-means m ok u t i

            not_left : t.left ≢ v
            not_left e = n ((spokes-simple m ok u).one_right t s i is (e ∙ sym sl))

            at_left : value t.left ≡ one_if (test t.left)
            at_left = with-no v (one_if (test a)) (λ k. one_if (test k)) t.left not_left

            go : (t.right ≡ v) ⊎ (t.right ≢ v) → value t.right ≡ value t.left
            go (inl e) =
                let r = spokes-has m ok u v a o h in
                let same : t.left ≡ a = (spokes-simple m ok u).one_left t r.0 i r.1 (e ∙ sym r.2) ∙ r.3 in
                with-yes v (one_if (test a)) (λ k. one_if (test k)) t.right e ∙ sym (at_left ∙ ap (λ k. one_if (test k)) same)
            go (inr nr) = with-no v (one_if (test a)) (λ k. one_if (test k)) t.right nr ∙ (ap one_if (even t.right t.left t.owner (moved t.right t.left t.owner st nr not_left)) ∙ sym at_left)

    -- what the test says of the apexes of the edge
    record IsApexValue : Type 0 where
      value : Bool
      left : (a o : ℕ) → Contains m.tris (tri_of u v a o) → test a ≡ value
      right : (b o : ℕ) → Contains m.tris (tri_of u b v o) → test b ≡ value
      some : ((a : ℕ) × (o : ℕ) × Contains m.tris (tri_of u v a o)) ⊎ ((b : ℕ) × (o : ℕ) × Contains m.tris (tri_of u b v o))

    apex_value : IsApexValue
    apex_value = go (side_of m.tris u v) (side_of m.tris v u) refl refl p.edge
      where
        go : (s t : Option Side) → side_of m.tris u v ≡ s → side_of m.tris v u ≡ t → (is_some s || is_some t) ≡ true → IsApexValue
        go (Some s) t e f k =
            let st = side_of-stands m.tris (least_first m ok) u v s e in
            record {
              value = test s.apex;
              left = λ a o h. ap test (apex_same m ok u v a o v s.apex s.owner h st (ok.edges_once (tri_of u v a o) (tri_of u v s.apex s.owner) u v h st (tri_of-edge_one u v a o) (tri_of-edge_one u v s.apex s.owner))).1;
              right = λ b o h. both_apexes s.apex s.owner b o st h;
              some = inl (s.apex, s.owner, st);
            }
        go None (Some s) e f k =
            let st = from_second m ok v u s.apex s.owner (side_of-stands m.tris (least_first m ok) v u s f) in
            record {
              value = test s.apex;
              left = λ a o h. absurd (not_both_values (has_edge u v (tri_of u v a o)) (tri_of-edge_one u v a o) (side_of-none m.tris u v e (tri_of u v a o) h));
              right = λ b o h. ap test (apex_same m ok u b v o s.apex v s.owner h st (ok.edges_once (tri_of u b v o) (tri_of u s.apex v s.owner) v u h st (tri_of-edge_three u b v o) (tri_of-edge_three u s.apex v s.owner))).0;
              some = inr (s.apex, s.owner, st);
            }
        go None None e f k = absurd (let z : false ≡ true = k in cc)

    module _ (w : IsApexValue) where
      at_v : ℕ → Bool
      at_v x = with_at u w.value test x

      v_yes : (x : ℕ) → x ≡ u → at_v x ≡ w.value
      unfolding at_v
      v_yes x e = with-yes u w.value test x e

      v_no : (x : ℕ) → x ≢ u → at_v x ≡ test x
      unfolding at_v
      v_no x n = with-no u w.value test x n

      at_u' : ℕ → Bool
      at_u' x = with_at v w.value test x

      u_yes : (x : ℕ) → x ≡ v → at_u' x ≡ w.value
      unfolding at_u'
      u_yes x e = with-yes v w.value test x e

      u_no : (x : ℕ) → x ≢ v → at_u' x ≡ test x
      unfolding at_u'
      u_no x n = with-no v w.value test x n

      even_v : IsEvenAt m v at_v
      even_v x y o h = go (has_corner u (tri_of v x y o)) refl
        where
          by_u : IsFromU (tri_of v x y o) → at_v x ≡ at_v y
          by_u t = elim (rotations u t.a t.b t.o v x y o t.distinct (corners_of m ok v x y o h).distinct t.is) [
            | inl i ↦ absurd (p.apart (sym i.0))
            | inr j ↦ elim j [
              | inl i ↦ (v_no x (λ e. t.distinct.three (sym i.1.0 ∙ e)) ∙ (ap test i.1.0 ∙ (w.left t.b t.o (subst (λ r. Contains m.tris (tri_of u r t.b t.o)) (sym i.0) t.stands) ∙ sym (v_yes y i.1.1))))
              | inr i ↦ (v_yes x i.1.0 ∙ sym (v_no y (λ e. t.distinct.one (sym e ∙ i.1.1)) ∙ (ap test i.1.1 ∙ w.right t.a t.o (subst (λ r. Contains m.tris (tri_of u t.a r t.o)) (sym i.0) t.stands))))
            ]
          ]

          go : (b : Bool) → has_corner u (tri_of v x y o) ≡ b → at_v x ≡ at_v y
          go false e = v_no x (no_corner v x y o x e (inr (inl refl))) ∙ (even x y o (kept (tri_of v x y o) h e) ∙ sym (v_no y (no_corner v x y o y e (inr (inr refl)))))
          go true e = by_u (from_u (tri_of v x y o) h e)

      even_u : IsEvenAt m u at_u'
      even_u x y o h = go (cases_eq x v) (cases_eq y v)
        where
          d : AreDistinct u x y
          d = (corners_of m ok u x y o h).distinct

          go : (x ≡ v) ⊎ (x ≢ v) → (y ≡ v) ⊎ (y ≢ v) → at_u' x ≡ at_u' y
          go (inl ex) (inl ey) = absurd (d.two (ex ∙ sym ey))
          go (inl ex) (inr ny) = u_yes x ex ∙ sym (u_no y ny ∙ w.left y o (subst (λ r. Contains m.tris (tri_of u r y o)) ex h))
          go (inr nx) (inl ey) = u_no x nx ∙ (w.right x o (subst (λ r. Contains m.tris (tri_of u x r o)) ey h) ∙ sym (u_yes y ey))
          go (inr nx) (inr ny) = u_no x nx ∙ (even x y o (moved x y o h nx ny) ∙ sym (u_no y ny))

      said_v : IsSaid m v at_v w.value
      said_v = elim w.some [ inl r ↦ said m ok v at_v even_v u v r.0 r.1 r.2 w.value (inr (inl (refl, inr (v_yes u refl)))) | inr r ↦ said m ok v at_v even_v u r.0 v r.1 r.2 w.value (inr (inr (refl, inl (v_yes u refl)))) ]

      said_u : IsSaid m u at_u' w.value
      said_u = elim w.some [ inl r ↦ said m ok u at_u' even_u u v r.0 r.1 r.2 w.value (inl (refl, inl (u_yes v refl))) | inr r ↦ said m ok u at_u' even_u u r.0 v r.1 r.2 w.value (inl (refl, inr (u_yes v refl))) ]

      each_v : IsLinkedAt m v → (x y o : ℕ) → Contains mesh_then.tris (tri_of v x y o) → test x ≡ w.value
      each_v linked x y o h = elim (replaced-cases tri_lt (has_corner u) (added m ok u v p) m.tris (tri_of v x y o) h) [
        | inl a ↦ (let i = (added-means m ok u v p (tri_of v x y o) a).2 in by_moved i.x i.y i.o i.is i.stands i.x_apart i.y_apart)
        | inr k ↦ sym (v_no x (no_corner v x y o x k.1 (inr (inl refl)))) ∙ (linked at_v even_v x y o said_v.x said_v.y said_v.o k.0 said_v.stands ∙ said_v.says)
      ]
        where
          by_moved : (a b o' : ℕ) → tri_of v x y o ≡ tri_of v a b o' → Contains m.tris (tri_of u a b o') → a ≢ v → b ≢ v → test x ≡ w.value
          by_moved a b o' e st na nb =
              elim (rotations v a b o' v x y o (corners_of mesh_then ok_then v a b o' (subst (λ r. Contains mesh_then.tris r) e h)).distinct (corners_of mesh_then ok_then v x y o h).distinct e) [
                | inl i ↦ ap test i.1.0 ∙ (sym (u_no a na) ∙ (linked_at-from m ok u p.fan at_u' even_u a b o' said_u.x said_u.y said_u.o st said_u.stands ∙ said_u.says))
                | inr j ↦ elim j [ inl i ↦ absurd (na (sym i.0)) | inr i ↦ absurd (nb (sym i.0)) ]
              ]

  pub contract_linked_onto : IsLinkedAt m v → IsLinkedAt mesh_then v
  contract_linked_onto linked = linked_at-one mesh_then v (λ test even. let w = apex_value test even in (w.value, each_v test even w linked))
