-- A bisection that passes leaves one fan at each node that had one, and at the new node.
-- Assumes `IsConforming m`, that `first_failing` is None, and that each live name is below the new one (`IsFresh`).
use Rattle.std.proofs.Common.{◌≡◌, ◌≢◌, ℕ, ◌<◌, [], ◌∷◌, refl, sym, ◌∙◌, ap, subst, Bool, true, false, cond, ◌⊎◌, inl, inr, arith}
use Rattle.std.specs.Prelude.{Contains, Option, Some, None}
use Rattle.std.proofs.lemmas.List.Elements.{Contains-append_cases}
use Rattle.pf_geom.specs.declared.Point.{Point}
use Rattle.pf_geom.specs.Plane.{middle_of}
use Rattle.pf_model.specs.declared.Tri.{Tri}
use Rattle.pf_model.specs.declared.Side.{Side}
use Rattle.pf_model.specs.Mesh.{Undivided, tri_of, tri_lt, apex_in, side_of, place_of, is_edge}
use Rattle.pf_model.specs.Conforming.{IsConforming}
use Rattle.pf_model.specs.Applied.{is_at_edge, halves_of}
use Rattle.pf_model.proofs.Members.{nowhere, cases}
use Rattle.pf_model.proofs.Turns.{AreDistinct}
use Rattle.pf_model.proofs.Triangles.{tri_of-apex}
use Rattle.pf_model.proofs.Patch.{replaced-cases, replaced-kept}
use Rattle.pf_model.proofs.Kept.{side_of-stands, side_of-found}
use Rattle.pf_model.proofs.SitesAfter.{AreBelow}
use Rattle.pf_model.proofs.FlipKeeps.{corners_of}
use Rattle.pf_model.proofs.BisectKeeps.{added, after, bisect_conforms}
use Rattle.pf_cover_model.proofs.EdgeNames.{AreSame, same-itself, same-turned, same-back, at_edge-from, at_edge-cases}
use Rattle.pf_cover_model.proofs.BisectEuler.{IsCutSide, left_side, right_side, half_one, half_two}
use Rattle.pf_cover_model.proofs.FanTriangles.{IsEvenAt, IsLinkedAt, IsSaid, rotations, said, even_first, even_second, even_third, linked_at-carried, linked_at-one}
use Rattle.pf_cover_model.proofs.FlipFans.{is_lost, lost-yes, lost-no, apart_names}
use Rattle.pf_cover_model.proofs.EdgeNames.{not_both_values}
use Rattle.pf_model.proofs.Triangles.{least_first}

module _ (m : Undivided) (ok : IsConforming m) (n lo hi : ℕ) (mid : Point) (fresh : AreBelow m.sites n) (middle : middle_of (place_of m lo) (place_of m hi) ≡ Some mid) (edge : is_edge m.tris lo hi ≡ true) where
  abbrev pub mesh_then : Undivided
  mesh_then = after m ok n lo hi mid fresh middle edge

  ok_then : IsConforming mesh_then
  ok_then = bisect_conforms m ok n lo hi mid fresh middle edge

  -- a triangle that is cut, and its halves
  record IsCut (p q a o : ℕ) : Type 0 where
    ends : AreSame p q lo hi
    stands : Contains m.tris (tri_of p q a o)
    distinct : AreDistinct p q a
    apart : (a ≢ lo) × (a ≢ hi)
    one : Contains mesh_then.tris (tri_of p n a o)
    two : Contains mesh_then.tris (tri_of n q a o)

  cut_at : (p q : ℕ) → IsCutSide m ok n lo hi mid fresh middle edge p q → AreSame p q lo hi → (s : Side) → side_of m.tris p q ≡ Some s → IsCut p q s.apex s.owner
  cut_at p q w e s f =
      let st = side_of-stands m.tris (least_first m ok) p q s f in
      let d = (corners_of m ok p q s.apex s.owner st).distinct in
      record {
        ends = e;
        stands = st;
        distinct = d;
        apart = others s.apex d e;
        one = half_one m ok n lo hi mid fresh middle edge p q w s f;
        two = half_two m ok n lo hi mid fresh middle edge p q w s f;
      }
    where
      others : (a : ℕ) → AreDistinct p q a → AreSame p q lo hi → (a ≢ lo) × (a ≢ hi)
      others a d e = ((λ k. first a d e k), (λ k. second a d e k))
        where
          first : (a : ℕ) → AreDistinct p q a → AreSame p q lo hi → a ≡ lo → ⊥
          first a d e k = let i = e.is in let d2 = d.two in let d3 = d.three in grind arith

          second : (a : ℕ) → AreDistinct p q a → AreSame p q lo hi → a ≡ hi → ⊥
          second a d e k = let i = e.is in let d2 = d.two in let d3 = d.three in grind arith

  -- t is cut
  record IsCutTri (t : Tri) : Type 0 where
    p : ℕ
    q : ℕ
    a : ℕ
    o : ℕ
    is : t ≡ tri_of p q a o
    cut : IsCut p q a o

  cut_old : (t : Tri) → Contains m.tris t → is_at_edge lo hi t ≡ true → IsCutTri t
  cut_old t h g = elim (at_edge-cases lo hi t g) [
    | inl x ↦ record { p = lo; q = hi; a = apex_in lo hi t; o = t.owner; is = sym (tri_of-apex lo hi t (least_first m ok t h) x); cut = cut_at lo hi (left_side m ok n lo hi mid fresh middle edge) (same-itself lo hi) record { apex = apex_in lo hi t; owner = t.owner } (side_of-found m.tris ok.edges_once lo hi t h x) }
    | inr x ↦ record { p = hi; q = lo; a = apex_in hi lo t; o = t.owner; is = sym (tri_of-apex hi lo t (least_first m ok t h) x); cut = cut_at hi lo (right_side m ok n lo hi mid fresh middle edge) (same-turned (same-itself hi lo)) record { apex = apex_in hi lo t; owner = t.owner } (side_of-found m.tris ok.edges_once hi lo t h x) }
  ]

  -- t is a half of one that is cut
  record IsHalf (t : Tri) : Type 0 where
    p : ℕ
    q : ℕ
    a : ℕ
    o : ℕ
    is : (t ≡ tri_of p n a o) ⊎ (t ≡ tri_of n q a o)
    cut : IsCut p q a o

  half_at : (p q : ℕ) → IsCutSide m ok n lo hi mid fresh middle edge p q → AreSame p q lo hi → (s : Option Side) → side_of m.tris p q ≡ s → (t : Tri) → Contains (halves_of n p q s) t → IsHalf t
  half_at p q w e None f t h = absurd (nowhere t h)
  half_at p q w e (Some s) f t h =
      record {
        p = p;
        q = q;
        a = s.apex;
        o = s.owner;
        is = elim (cases t (tri_of p n s.apex s.owner) (tri_of n q s.apex s.owner ∷ []) h) [ inl k ↦ inl k | inr r ↦ elim (cases t (tri_of n q s.apex s.owner) [] r) [ inl k ↦ inr k | inr z ↦ absurd (nowhere t z) ] ];
        cut = cut_at p q w e s f;
      }

  half_new : (t : Tri) → Contains (added m ok n lo hi mid fresh middle edge) t → IsHalf t
  half_new t h = elim (Contains-append_cases (halves_of n lo hi (side_of m.tris lo hi)) (halves_of n hi lo (side_of m.tris hi lo)) t h) [
    | inl a ↦ half_at lo hi (left_side m ok n lo hi mid fresh middle edge) (same-itself lo hi) (side_of m.tris lo hi) refl t a
    | inr b ↦ half_at hi lo (right_side m ok n lo hi mid fresh middle edge) (same-turned (same-itself hi lo)) (side_of m.tris hi lo) refl t b
  ]

  one_distinct : (p q a o : ℕ) → IsCut p q a o → AreDistinct p n a
  one_distinct p q a o c = (corners_of mesh_then ok_then p n a o c.one).distinct

  two_distinct : (p q a o : ℕ) → IsCut p q a o → AreDistinct n q a
  two_distinct p q a o c = (corners_of mesh_then ok_then n q a o c.two).distinct

  module _ (k : ℕ) (old : k ≢ n) (test : ℕ → Bool) (even : IsEvenAt mesh_then k test) where
    before : ℕ → Bool
    before x = cond (is_lost lo hi k x) (test n) (test x)

    at_lost : (x : ℕ) → AreSame k x lo hi → before x ≡ test n
    unfolding before
    at_lost x s = ap (λ b. cond b (test n) (test x)) (lost-yes lo hi k x s)

    at_other : (x : ℕ) → (AreSame k x lo hi → ⊥) → before x ≡ test x
    unfolding before
    at_other x s = ap (λ b. cond b (test n) (test x)) (lost-no lo hi k x s)

    old_at : (k ≢ lo) × (k ≢ hi) → (x : ℕ) → before x ≡ test x
    old_at w x = at_other x (λ s. apart_names k x lo hi s (inl w))

    old_apex : (p q a o : ℕ) → IsCut p q a o → before a ≡ test a
    old_apex p q a o c = at_other a (λ s. apart_names k a lo hi s (inr c.apart))

    names : (a : ℕ) → (a ≢ lo) × (a ≢ hi) → k ≡ a → (k ≢ lo) × (k ≢ hi)
    names a w e = ((λ i. w.0 (sym e ∙ i)), (λ i. w.1 (sym e ∙ i)))

    end_first : (p q : ℕ) → AreSame p q lo hi → (x : ℕ) → k ≡ p → x ≡ q → AreSame k x lo hi
    end_first p q s x e f = subst (λ w. AreSame w x lo hi) (sym e) (subst (λ w. AreSame p w lo hi) (sym f) s)

    end_second : (p q : ℕ) → AreSame p q lo hi → (x : ℕ) → k ≡ q → x ≡ p → AreSame k x lo hi
    end_second p q s x e f = end_first q p (same-back (same-turned (same-back s))) x e f

    even_removed : (x y o' : ℕ) → AreDistinct k x y → IsCutTri (tri_of k x y o') → before x ≡ before y
    even_removed x y o' d t =
        let c = t.cut in
        elim (rotations t.p t.q t.a t.o k x y o' c.distinct d t.is) [
          | inl i ↦ at_lost x (end_first t.p t.q c.ends x i.0 i.1.0) ∙ (even_first mesh_then ok_then k test even t.p n t.a t.o c.one i.0 ∙ sym (ap before i.1.1 ∙ old_apex t.p t.q t.a t.o c))
          | inr j ↦ elim j [
            | inl i ↦ (ap before i.1.0 ∙ old_apex t.p t.q t.a t.o c) ∙ (even_second mesh_then ok_then k test even n t.q t.a t.o c.two i.0 ∙ sym (at_lost y (end_second t.p t.q c.ends y i.0 i.1.1)))
            | inr i ↦ (let w = names t.a c.apart i.0 in old_at w x ∙ (ap test i.1.0 ∙ (even_third mesh_then ok_then k test even t.p n t.a t.o c.one i.0 ∙ (even_third mesh_then ok_then k test even n t.q t.a t.o c.two i.0 ∙ sym (old_at w y ∙ ap test i.1.1)))))
          ]
        ]

    not_cut_first : (x y o : ℕ) → is_at_edge lo hi (tri_of k x y o) ≡ false → AreSame k x lo hi → ⊥
    not_cut_first x y o g s = not_both_values (is_at_edge lo hi (tri_of k x y o)) (at_edge-from lo hi k x y o record { is = inl (same-back s) }) g

    not_cut_third : (x y o : ℕ) → is_at_edge lo hi (tri_of k x y o) ≡ false → AreSame k y lo hi → ⊥
    not_cut_third x y o g s = not_both_values (is_at_edge lo hi (tri_of k x y o)) (at_edge-from lo hi k x y o record { is = inr (inr (same-turned (same-back s))) }) g

    even_before : IsEvenAt m k before
    even_before x y o h = go (is_at_edge lo hi (tri_of k x y o)) refl
      where
        go : (b : Bool) → is_at_edge lo hi (tri_of k x y o) ≡ b → before x ≡ before y
        go false g = at_other x (not_cut_first x y o g) ∙ (even x y o (replaced-kept tri_lt (is_at_edge lo hi) (added m ok n lo hi mid fresh middle edge) m.tris (tri_of k x y o) h g) ∙ sym (at_other y (not_cut_third x y o g)))
        go true g = even_removed x y o (corners_of m ok k x y o h).distinct (cut_old (tri_of k x y o) h g)

    said_half : (x y o' : ℕ) → AreDistinct k x y → IsHalf (tri_of k x y o') → IsSaid m k before (test x)
    said_half x y o' d t =
        let c = t.cut in
        elim t.is [
          | inl e ↦ elim (rotations t.p n t.a t.o k x y o' (one_distinct t.p t.q t.a t.o c) d e) [
            | inl i ↦ said m ok k before even_before t.p t.q t.a t.o c.stands (test x) (inl (i.0, inl (at_lost t.q (end_first t.p t.q c.ends t.q i.0 refl) ∙ ap test (sym i.1.0))))
            | inr j ↦ elim j [
              | inl i ↦ absurd (old i.0)
              | inr i ↦ said m ok k before even_before t.p t.q t.a t.o c.stands (test x) (inr (inr (i.0, inl (old_at (names t.a c.apart i.0) t.p ∙ ap test (sym i.1.0)))))
            ]
          ]
          | inr e ↦ elim (rotations n t.q t.a t.o k x y o' (two_distinct t.p t.q t.a t.o c) d e) [
            | inl i ↦ absurd (old i.0)
            | inr j ↦ elim j [
              | inl i ↦ said m ok k before even_before t.p t.q t.a t.o c.stands (test x) (inr (inl (i.0, inl (old_apex t.p t.q t.a t.o c ∙ ap test (sym i.1.0)))))
              | inr i ↦ said m ok k before even_before t.p t.q t.a t.o c.stands (test x) (inr (inr (i.0, inr (old_at (names t.a c.apart i.0) t.q ∙ (sym (even_third mesh_then ok_then k test even n t.q t.a t.o c.two i.0) ∙ ap test (sym i.1.0))))))
            ]
          ]
        ]

    each : (x y o : ℕ) → Contains mesh_then.tris (tri_of k x y o) → IsSaid m k before (test x)
    each x y o h = elim (replaced-cases tri_lt (is_at_edge lo hi) (added m ok n lo hi mid fresh middle edge) m.tris (tri_of k x y o) h) [
      | inl a ↦ said_half x y o (corners_of mesh_then ok_then k x y o h).distinct (half_new (tri_of k x y o) a)
      | inr w ↦ record { x = x; y = y; o = o; stands = w.0; says = at_other x (not_cut_first x y o w.1) }
    ]

  pub bisect_linked : (k : ℕ) → k ≢ n → IsLinkedAt m k → IsLinkedAt mesh_then k
  bisect_linked k old linked = linked_at-carried m mesh_then k linked (λ test even. record { before = before k old test even; even = even_before k old test even; each = each k old test even })

  module _ (test : ℕ → Bool) (even : IsEvenAt mesh_then n test) where
    apex_one : (p q a o : ℕ) → IsCut p q a o → (test a ≡ test lo) × (test q ≡ test lo)
    apex_one p q a o c =
        let x : test a ≡ test p = even_second mesh_then ok_then n test even p n a o c.one refl in
        let y : test q ≡ test a = even_first mesh_then ok_then n test even n q a o c.two refl in
        elim c.ends.is [ inl e ↦ (x ∙ ap test (sym e.0), y ∙ (x ∙ ap test (sym e.0))) | inr e ↦ (sym y ∙ ap test (sym e.0), ap test (sym e.0)) ]

    one_half : (x y o' : ℕ) → AreDistinct n x y → IsHalf (tri_of n x y o') → test x ≡ test lo
    one_half x y o' d t =
        let c = t.cut in
        let r = apex_one t.p t.q t.a t.o c in
        let d1 = one_distinct t.p t.q t.a t.o c in
        let d2 = two_distinct t.p t.q t.a t.o c in
        elim t.is [
          | inl e ↦ elim (rotations t.p n t.a t.o n x y o' d1 d e) [
            | inl i ↦ absurd (d1.one (sym i.0))
            | inr j ↦ elim j [ inl i ↦ ap test i.1.0 ∙ r.0 | inr i ↦ absurd (d1.two i.0) ]
          ]
          | inr e ↦ elim (rotations n t.q t.a t.o n x y o' d2 d e) [
            | inl i ↦ ap test i.1.0 ∙ r.1
            | inr j ↦ elim j [ inl i ↦ absurd (d2.one i.0) | inr i ↦ absurd (d2.three (sym i.0)) ]
          ]
        ]

    one_each : (x y o : ℕ) → Contains mesh_then.tris (tri_of n x y o) → test x ≡ test lo
    one_each x y o h = elim (replaced-cases tri_lt (is_at_edge lo hi) (added m ok n lo hi mid fresh middle edge) m.tris (tri_of n x y o) h) [
      | inl a ↦ one_half x y o (corners_of mesh_then ok_then n x y o h).distinct (half_new (tri_of n x y o) a)
      | inr w ↦ absurd (let l : n < n = fresh n (corners_of m ok n x y o w.0).live_p in omega (arith, l))
    ]

  pub bisect_linked_new : IsLinkedAt mesh_then n
  bisect_linked_new = linked_at-one mesh_then n (λ test even. (test lo, one_each test even))
