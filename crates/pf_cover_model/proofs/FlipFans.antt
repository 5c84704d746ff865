-- A flip that passes leaves one fan at each node that had one.
-- Assumes `IsConforming m` and that `first_failing` is None.
use Rattle.std.proofs.Common.{◌≡◌, ◌≢◌, ℕ, [], ◌∷◌, refl, sym, ◌∙◌, ap, Bool, true, false, cond, ◌⊎◌, inl, inr, arith, ◌&&◌, ◌||◌}
use Rattle.std.specs.Prelude.{Contains, ◌==◌}
use Rattle.std.proofs.lemmas.Bool.Decides.{nat_tests}
use Rattle.pf_model.specs.Mesh.{Undivided, tri_of, tri_lt}
use Rattle.pf_model.specs.Conforming.{IsConforming}
use Rattle.pf_model.specs.Applied.{is_at_edge}
use Rattle.pf_model.proofs.Members.{nowhere, here, there, cases}
use Rattle.pf_model.proofs.Turns.{AreDistinct}
use Rattle.pf_model.proofs.Patch.{replaced-cases, replaced-new, replaced-kept}
use Rattle.pf_model.proofs.FlipKeeps.{FlipFacts, removed_is, added, after, flip_conforms, corners_of}
use Rattle.pf_cover_model.proofs.EdgeNames.{AreSame, same-turned, same-back, at_edge-from}
use Rattle.pf_cover_model.proofs.FanTriangles.{IsEvenAt, IsLinkedAt, IsSaid, rotations, said, even_first, even_second, even_third, linked_at-carried}
use Rattle.pf_cover_model.proofs.EdgeNames.{not_both_values}

-- a test with another value at the lost end of an edge
abbrev pub is_lost : ℕ → ℕ → ℕ → ℕ → Bool
is_lost lo hi n x = (n == lo && x == hi) || (n == hi && x == lo)

pub lost-yes : (lo hi n x : ℕ) → AreSame n x lo hi → is_lost lo hi n x ≡ true
lost-yes lo hi n x s = let i = s.is in grind (arith, nat_tests)

pub lost-no : (lo hi n x : ℕ) → (AreSame n x lo hi → ⊥) → is_lost lo hi n x ≡ false
lost-no lo hi n x no' = go (is_lost lo hi n x) refl
  where
    means : is_lost lo hi n x ≡ true → ((lo ≡ n) × (hi ≡ x)) ⊎ ((lo ≡ x) × (hi ≡ n))
    means e = grind (arith, nat_tests)

    go : (b : Bool) → is_lost lo hi n x ≡ b → b ≡ false
    go true e = absurd (no' record { is = means e })
    go false e = refl

-- an edge with an end that is none of two names is another edge
pub apart_names : (n x lo hi : ℕ) → AreSame n x lo hi → (n ≢ lo) × (n ≢ hi) ⊎ ((x ≢ lo) × (x ≢ hi)) → ⊥
apart_names n x lo hi s k = elim k [ inl a ↦ first s a.0 a.1 | inr a ↦ second s a.0 a.1 ]
  where
    first : AreSame n x lo hi → n ≢ lo → n ≢ hi → ⊥
    first s a b = let i = s.is in grind arith

    second : AreSame n x lo hi → x ≢ lo → x ≢ hi → ⊥
    second s a b = let i = s.is in grind arith

module _ (m : Undivided) (ok : IsConforming m) (lo hi c d o1 o2 : ℕ) (f : FlipFacts m lo hi c d o1 o2) where
  abbrev pub mesh_then : Undivided
  mesh_then = after m ok lo hi c d o1 o2 f

  ok_then : IsConforming mesh_then
  ok_then = flip_conforms m ok lo hi c d o1 o2 f

  c_apart : (c ≢ lo) × (c ≢ hi)
  c_apart = (f.corners_one.distinct.three, (λ e. f.corners_one.distinct.two (sym e)))

  d_apart : (d ≢ lo) × (d ≢ hi)
  d_apart = ((λ e. f.corners_two.distinct.two (sym e)), f.corners_two.distinct.three)

  first_stands : Contains mesh_then.tris (tri_of lo d c o1)
  first_stands = replaced-new tri_lt (is_at_edge lo hi) (added m ok lo hi c d o1 o2 f) m.tris (tri_of lo d c o1) (here (tri_of lo d c o1) (tri_of hi c d o2 ∷ []))

  second_stands : Contains mesh_then.tris (tri_of hi c d o2)
  second_stands = replaced-new tri_lt (is_at_edge lo hi) (added m ok lo hi c d o1 o2 f) m.tris (tri_of hi c d o2) (there (tri_of hi c d o2) (tri_of lo d c o1) (tri_of hi c d o2 ∷ []) (here (tri_of hi c d o2) []))

  module _ (n : ℕ) (test : ℕ → Bool) (even : IsEvenAt mesh_then n test) where
    before : ℕ → Bool
    before x = cond (is_lost lo hi n x) (test c) (test x)

    at_lost : (x : ℕ) → AreSame n x lo hi → before x ≡ test c
    unfolding before
    at_lost x s = ap (λ b. cond b (test c) (test x)) (lost-yes lo hi n x s)

    at_other : (x : ℕ) → (AreSame n x lo hi → ⊥) → before x ≡ test x
    unfolding before
    at_other x k = ap (λ b. cond b (test c) (test x)) (lost-no lo hi n x k)

    one_first : n ≡ lo → test d ≡ test c
    one_first e = even_first mesh_then ok_then n test even lo d c o1 first_stands e

    one_second : n ≡ d → test c ≡ test lo
    one_second e = even_second mesh_then ok_then n test even lo d c o1 first_stands e

    one_third : n ≡ c → test lo ≡ test d
    one_third e = even_third mesh_then ok_then n test even lo d c o1 first_stands e

    two_first : n ≡ hi → test c ≡ test d
    two_first e = even_first mesh_then ok_then n test even hi c d o2 second_stands e

    two_second : n ≡ c → test d ≡ test hi
    two_second e = even_second mesh_then ok_then n test even hi c d o2 second_stands e

    two_third : n ≡ d → test hi ≡ test c
    two_third e = even_third mesh_then ok_then n test even hi c d o2 second_stands e

    c_names : n ≡ c → (n ≢ lo) × (n ≢ hi)
    c_names e = ((λ k. c_apart.0 (sym e ∙ k)), (λ k. c_apart.1 (sym e ∙ k)))

    d_names : n ≡ d → (n ≢ lo) × (n ≢ hi)
    d_names e = ((λ k. d_apart.0 (sym e ∙ k)), (λ k. d_apart.1 (sym e ∙ k)))

    old_c : before c ≡ test c
    old_c = at_other c (λ s. apart_names n c lo hi s (inr c_apart))

    old_d : before d ≡ test d
    old_d = at_other d (λ s. apart_names n d lo hi s (inr d_apart))

    old_at : (n ≢ lo) × (n ≢ hi) → (x : ℕ) → before x ≡ test x
    old_at k x = at_other x (λ s. apart_names n x lo hi s (inl k))

    even_removed : (x y o : ℕ) → AreDistinct n x y → (tri_of n x y o ≡ tri_of lo hi c o1) ⊎ (tri_of n x y o ≡ tri_of hi lo d o2) → before x ≡ before y
    even_removed x y o d' (inl e) = elim (rotations lo hi c o1 n x y o f.corners_one.distinct d' e) [
      | inl k ↦ at_lost x record { is = inl (sym k.0, sym k.1.0) } ∙ sym (ap before k.1.1 ∙ old_c)
      | inr j ↦ elim j [
        | inl k ↦ (ap before k.1.0 ∙ old_c) ∙ sym (at_lost y record { is = inr (sym k.1.1, sym k.0) })
        | inr k ↦ (let t = c_names k.0 in old_at t x ∙ (ap test k.1.0 ∙ (one_third k.0 ∙ (two_second k.0 ∙ sym (old_at t y ∙ ap test k.1.1)))))
      ]
    ]
    even_removed x y o d' (inr e) = elim (rotations hi lo d o2 n x y o f.corners_two.distinct d' e) [
      | inl k ↦ at_lost x record { is = inr (sym k.1.0, sym k.0) } ∙ (two_first k.0 ∙ sym (ap before k.1.1 ∙ old_d))
      | inr j ↦ elim j [
        | inl k ↦ (ap before k.1.0 ∙ old_d) ∙ (one_first k.0 ∙ sym (at_lost y record { is = inl (sym k.0, sym k.1.1) }))
        | inr k ↦ (let t = d_names k.0 in old_at t x ∙ (ap test k.1.0 ∙ (two_third k.0 ∙ (one_second k.0 ∙ sym (old_at t y ∙ ap test k.1.1)))))
      ]
    ]

    not_cut_first : (x y o : ℕ) → is_at_edge lo hi (tri_of n x y o) ≡ false → AreSame n x lo hi → ⊥
    not_cut_first x y o g s = not_both_values (is_at_edge lo hi (tri_of n x y o)) (at_edge-from lo hi n x y o record { is = inl (same-back s) }) g

    not_cut_third : (x y o : ℕ) → is_at_edge lo hi (tri_of n x y o) ≡ false → AreSame n y lo hi → ⊥
    not_cut_third x y o g s = not_both_values (is_at_edge lo hi (tri_of n x y o)) (at_edge-from lo hi n x y o record { is = inr (inr (same-turned (same-back s))) }) g

    even_before : IsEvenAt m n before
    even_before x y o h = go (is_at_edge lo hi (tri_of n x y o)) refl
      where
        go : (b : Bool) → is_at_edge lo hi (tri_of n x y o) ≡ b → before x ≡ before y
        go false g = at_other x (not_cut_first x y o g) ∙ (even x y o (replaced-kept tri_lt (is_at_edge lo hi) (added m ok lo hi c d o1 o2 f) m.tris (tri_of n x y o) h g) ∙ sym (at_other y (not_cut_third x y o g)))
        go true g = even_removed x y o (corners_of m ok n x y o h).distinct (removed_is m ok lo hi c d o1 o2 f (tri_of n x y o) h g)

    each : (x y o : ℕ) → Contains mesh_then.tris (tri_of n x y o) → IsSaid m n before (test x)
    each x y o h =
        elim (replaced-cases tri_lt (is_at_edge lo hi) (added m ok lo hi c d o1 o2 f) m.tris (tri_of n x y o) h) [
          | inl a ↦ elim (cases (tri_of n x y o) (tri_of lo d c o1) (tri_of hi c d o2 ∷ []) a) [
            | inl e ↦ elim (rotations lo d c o1 n x y o f.distinct_lo d' e) [
              | inl k ↦ said m ok n before even_before hi lo d o2 f.two (test x) (inr (inl (k.0, inl (old_d ∙ ap test (sym k.1.0)))))
              | inr j ↦ elim j [
                | inl k ↦ said m ok n before even_before hi lo d o2 f.two (test x) (inr (inr (k.0, inr (old_at (d_names k.0) lo ∙ (sym (one_second k.0) ∙ ap test (sym k.1.0))))))
                | inr k ↦ said m ok n before even_before lo hi c o1 f.one (test x) (inr (inr (k.0, inl (old_at (c_names k.0) lo ∙ ap test (sym k.1.0)))))
              ]
            ]
            | inr r ↦ elim (cases (tri_of n x y o) (tri_of hi c d o2) [] r) [
              | inl e ↦ elim (rotations hi c d o2 n x y o f.distinct_hi d' e) [
                | inl k ↦ said m ok n before even_before lo hi c o1 f.one (test x) (inr (inl (k.0, inl (old_c ∙ ap test (sym k.1.0)))))
                | inr j ↦ elim j [
                  | inl k ↦ said m ok n before even_before lo hi c o1 f.one (test x) (inr (inr (k.0, inr (old_at (c_names k.0) hi ∙ (sym (two_second k.0) ∙ ap test (sym k.1.0))))))
                  | inr k ↦ said m ok n before even_before hi lo d o2 f.two (test x) (inr (inr (k.0, inl (old_at (d_names k.0) hi ∙ ap test (sym k.1.0)))))
                ]
              ]
              | inr z ↦ absurd (nowhere (tri_of n x y o) z)
            ]
          ]
          | inr k ↦ record { x = x; y = y; o = o; stands = k.0; says = at_other x (not_cut_first x y o k.1) }
        ]
      where
        d' : AreDistinct n x y
        d' = (corners_of mesh_then ok_then n x y o h).distinct

  pub flip_linked : (n : ℕ) → IsLinkedAt m n → IsLinkedAt mesh_then n
  flip_linked n linked = linked_at-carried m mesh_then n linked (λ test even. record { before = before n test even; even = even_before n test even; each = each n test even })
