-- A flip that passes keeps the Euler number: one edge gives way to another.
-- Assumes `IsConforming m` and that `first_failing` is None.
use Rattle.std.proofs.Common.{◌≡◌, ◌≢◌, ℕ, ◌<◌, List, [], ◌∷◌, refl, sym, subst, Bool, true, false, ◌⊎◌, inl, inr, arith}
use Rattle.std.specs.Prelude.{Contains, not, None, min, max, pos}
use Rattle.std.proofs.lemmas.Int.{ints}
use Rattle.pf_model.specs.declared.Tri.{Tri}
use Rattle.pf_model.specs.declared.Op.TheVariants.{Flip}
use Rattle.pf_model.specs.Mesh.{Undivided, tri_of, tri_lt, has_edge, is_edge}
use Rattle.pf_model.specs.Lengths.{Edge, edge_of}
use Rattle.pf_model.specs.Conforming.{IsConforming}
use Rattle.pf_model.specs.Applied.{is_at_edge, flipped}
use Rattle.pf_model.specs.Conditions.{first_failing}
use Rattle.pf_model.specs.Sums.{euler_of}
use Rattle.pf_model.proofs.Members.{nowhere, here, there, cases}
use Rattle.pf_model.proofs.Patch.{replaced-cases, replaced-new, replaced-kept}
use Rattle.pf_model.proofs.FlipKeeps.{FlipFacts, removed_is, added, after, flip_conforms}
use Rattle.pf_model.proofs.FlipArea.{flip_total}
use Rattle.pf_model.proofs.EdgeSum.{conforming-sound}
use Rattle.pf_cover_model.proofs.EdgeNames.{AreSame, AreSides, same-turned, same-back, at_edge-sides, at_edge-same, at_edge-from, at_edge-cases, is_edge-means, is_edge-from, edge_of-ends, edge_of-rises, edge_of-is}
use Rattle.pf_cover_model.proofs.EdgeLists.{edge_list, edge_list-different, edge_list-from, euler_of-counts}
use Rattle.pf_cover_model.proofs.EdgePatch.{is_that, keeps-other, kept-other, no_same, ends-of, count-without, IsEdgePatch, count-patched}
use Rattle.pf_cover_model.proofs.FlipRounds.{flip_by}
use Rattle.pf_cover_model.proofs.EdgeNames.{not_both_values}

module _ (m : Undivided) (ok : IsConforming m) (lo hi c d o1 o2 : ℕ) (f : FlipFacts m lo hi c d o1 o2) where
  abbrev mesh_then : Undivided
  mesh_then = after m ok lo hi c d o1 o2 f

  t1 : Tri
  t1 = tri_of lo hi c o1

  abbrev keep : Edge → Bool
  keep z = not (is_that (edge_of lo hi) z)

  abbrev new : List Edge
  new = edge_of c d ∷ []

  old_edge : (z : Edge) (t : Tri) → Contains m.tris t → is_at_edge z.lo z.hi t ≡ true → (z ≢ edge_of lo hi) → ((is_edge m.tris z.lo z.hi ≡ true) × (keep z ≡ true)) ⊎ Contains new z
  old_edge z t h k n = inl (is_edge-from m.tris z.lo z.hi t h k, keeps-other (edge_of lo hi) z n)

  -- an edge with an apex is another
  other : (z : Edge) (a b : ℕ) → AreSame z.lo z.hi a b → b ≢ lo → b ≢ hi → z ≢ edge_of lo hi
  other z a b s n k e = no_same z.lo z.hi a b lo hi s (ends-of z lo hi e) n k

  c_lo : c ≢ lo
  c_lo = f.corners_one.distinct.three

  c_hi : c ≢ hi
  c_hi e = f.corners_one.distinct.two (sym e)

  d_lo : d ≢ lo
  d_lo e = f.corners_two.distinct.two (sym e)

  d_hi : d ≢ hi
  d_hi = f.corners_two.distinct.three

  is_new : (z : Edge) → z.lo < z.hi → AreSame z.lo z.hi c d → Contains new z
  is_new z l s = subst (λ w. Contains new w) (sym (edge_of-is z c d l s)) (here (edge_of c d) [])

  from_first : (z : Edge) → z.lo < z.hi → AreSides z.lo z.hi lo d c → ((is_edge m.tris z.lo z.hi ≡ true) × (keep z ≡ true)) ⊎ Contains new z
  from_first z l s = elim s.is [
    | inl x ↦ old_edge z (tri_of hi lo d o2) f.two (at_edge-from z.lo z.hi hi lo d o2 record { is = inr (inl x) }) (other z lo d x d_lo d_hi)
    | inr y ↦ elim y [
      | inl x ↦ inr (is_new z l (same-turned x))
      | inr x ↦ old_edge z (tri_of lo hi c o1) f.one (at_edge-from z.lo z.hi lo hi c o1 record { is = inr (inr x) }) (other z lo c (same-turned x) c_lo c_hi)
    ]
  ]

  from_second : (z : Edge) → z.lo < z.hi → AreSides z.lo z.hi hi c d → ((is_edge m.tris z.lo z.hi ≡ true) × (keep z ≡ true)) ⊎ Contains new z
  from_second z l s = elim s.is [
    | inl x ↦ old_edge z (tri_of lo hi c o1) f.one (at_edge-from z.lo z.hi lo hi c o1 record { is = inr (inl x) }) (other z hi c x c_lo c_hi)
    | inr y ↦ elim y [
      | inl x ↦ inr (is_new z l x)
      | inr x ↦ old_edge z (tri_of hi lo d o2) f.two (at_edge-from z.lo z.hi hi lo d o2 record { is = inr (inr x) }) (other z hi d (same-turned x) d_lo d_hi)
    ]
  ]

  from : (z : Edge) → z.lo < z.hi → is_edge mesh_then.tris z.lo z.hi ≡ true → ((is_edge m.tris z.lo z.hi ≡ true) × (keep z ≡ true)) ⊎ Contains new z
  from z l h =
      let r = is_edge-means mesh_then.tris z.lo z.hi h in
      elim (replaced-cases tri_lt (is_at_edge lo hi) (added m ok lo hi c d o1 o2 f) m.tris r.0 r.1) [
        | inl n ↦ elim (cases r.0 (tri_of lo d c o1) (tri_of hi c d o2 ∷ []) n) [
          | inl e ↦ from_first z l (at_edge-sides z.lo z.hi lo d c o1 (subst (λ w. is_at_edge z.lo z.hi w ≡ true) e r.2))
          | inr k ↦ elim (cases r.0 (tri_of hi c d o2) [] k) [ inl e ↦ from_second z l (at_edge-sides z.lo z.hi hi c d o2 (subst (λ w. is_at_edge z.lo z.hi w ≡ true) e r.2)) | inr n' ↦ absurd (nowhere r.0 n') ]
        ]
        | inr k ↦ old_edge z r.0 k.0 r.2 (λ e. not_both_values (is_at_edge lo hi r.0) (at_edge-same lo hi z.lo z.hi r.0 (same-back (ends-of z lo hi e)) r.2) k.1)
      ]

  stands_new : (t : Tri) → Contains (added m ok lo hi c d o1 o2 f) t → Contains mesh_then.tris t
  stands_new t h = replaced-new tri_lt (is_at_edge lo hi) (added m ok lo hi c d o1 o2 f) m.tris t h

  first_stands : Contains mesh_then.tris (tri_of lo d c o1)
  first_stands = stands_new (tri_of lo d c o1) (here (tri_of lo d c o1) (tri_of hi c d o2 ∷ []))

  second_stands : Contains mesh_then.tris (tri_of hi c d o2)
  second_stands = stands_new (tri_of hi c d o2) (there (tri_of hi c d o2) (tri_of lo d c o1) (tri_of hi c d o2 ∷ []) (here (tri_of hi c d o2) []))

  by_first : (z : Edge) → AreSides z.lo z.hi lo d c → is_edge mesh_then.tris z.lo z.hi ≡ true
  by_first z s = is_edge-from mesh_then.tris z.lo z.hi (tri_of lo d c o1) first_stands (at_edge-from z.lo z.hi lo d c o1 s)

  by_second : (z : Edge) → AreSides z.lo z.hi hi c d → is_edge mesh_then.tris z.lo z.hi ≡ true
  by_second z s = is_edge-from mesh_then.tris z.lo z.hi (tri_of hi c d o2) second_stands (at_edge-from z.lo z.hi hi c d o2 s)

  old : (z : Edge) → z.lo < z.hi → is_edge m.tris z.lo z.hi ≡ true → keep z ≡ true → is_edge mesh_then.tris z.lo z.hi ≡ true
  old z l h k =
      let r = is_edge-means m.tris z.lo z.hi h in
      go r.0 r.1 r.2 (is_at_edge lo hi r.0) refl
    where
      lost : AreSame z.lo z.hi lo hi → ⊥
      lost s = kept-other (edge_of lo hi) z k (edge_of-is z lo hi l s)

      go : (t : Tri) → Contains m.tris t → is_at_edge z.lo z.hi t ≡ true → (b : Bool) → is_at_edge lo hi t ≡ b → is_edge mesh_then.tris z.lo z.hi ≡ true
      go t i e false g = is_edge-from mesh_then.tris z.lo z.hi t (replaced-kept tri_lt (is_at_edge lo hi) (added m ok lo hi c d o1 o2 f) m.tris t i g) e
      go t i e true g = elim (removed_is m ok lo hi c d o1 o2 f t i g) [
        | inl x ↦ elim (at_edge-sides z.lo z.hi lo hi c o1 (subst (λ w. is_at_edge z.lo z.hi w ≡ true) x e)).is [
          | inl s ↦ absurd (lost s)
          | inr y ↦ elim y [ inl s ↦ by_second z record { is = inl s } | inr s ↦ by_first z record { is = inr (inr s) } ]
        ]
        | inr x ↦ elim (at_edge-sides z.lo z.hi hi lo d o2 (subst (λ w. is_at_edge z.lo z.hi w ≡ true) x e)).is [
          | inl s ↦ absurd (lost (same-turned s))
          | inr y ↦ elim y [ inl s ↦ by_first z record { is = inl s } | inr s ↦ by_second z record { is = inr (inr s) } ]
        ]
      ]

  put : (z : Edge) → Contains new z → (z.lo < z.hi) × (is_edge mesh_then.tris z.lo z.hi ≡ true)
  put z h = elim (cases z (edge_of c d) [] h) [ inl e ↦ subst (λ w. (w.lo < w.hi) × (is_edge mesh_then.tris w.lo w.hi ≡ true)) (sym e) (edge_of-rises c d (λ k. f.distinct_lo.two (sym k)), by_first (edge_of c d) record { is = inr (inl (same-turned (edge_of-ends c d))) }) | inr n ↦ absurd (nowhere z n) ]

  unheard : (z : Edge) → Contains new z → is_edge m.tris z.lo z.hi ≡ true → ⊥
  unheard z h k = elim (cases z (edge_of c d) [] h) [ inl e ↦ go (is_edge-means m.tris z.lo z.hi k) e | inr n ↦ absurd (nowhere z n) ]
    where
      go : (t : Tri) × Contains m.tris t × (is_at_edge z.lo z.hi t ≡ true) → z ≡ edge_of c d → ⊥
      go r e = elim (at_edge-cases c d r.0 (at_edge-same c d z.lo z.hi r.0 (same-back (ends-of z c d e)) r.2)) [ inl x ↦ not_both_values (has_edge c d r.0) x (f.none r.0 r.1) | inr x ↦ not_both_values (has_edge d c r.0) x (f.none_back r.0 r.1) ]

  flip_edge_patch : IsEdgePatch m.tris mesh_then.tris keep new
  flip_edge_patch =
      record {
        sound = conforming-sound m ok;
        sound_after = conforming-sound mesh_then (flip_conforms m ok lo hi c d o1 o2 f);
        different = ((λ z h. absurd (nowhere z h)), tt);
        unheard = unheard;
        from = from;
        old = old;
        put = put;
      }

  the_edge : Contains (edge_list m.tris) (edge_of lo hi)
  the_edge = edge_list-from m.tris (conforming-sound m ok) (edge_of lo hi) (edge_of-rises lo hi f.corners_one.distinct.one) (is_edge-from m.tris (min lo hi) (max lo hi) (tri_of lo hi c o1) f.one (at_edge-from (min lo hi) (max lo hi) lo hi c o1 record { is = inl (edge_of-ends lo hi) }))

  pub flip_euler : euler_of mesh_then ≡ euler_of m
  flip_euler =
      let a = euler_of-counts m in
      let b = euler_of-counts mesh_then in
      let e = count-patched m.tris mesh_then.tris keep new flip_edge_patch in
      let g = count-without (edge_of lo hi) (edge_list m.tris) (edge_list-different m.tris (conforming-sound m ok)) the_edge in
      let h = flip_total m ok lo hi c d o1 o2 f (λ t. pos 1) refl in
      omega (arith, ints, a, b, e, g, h)

pub flip_keeps_euler : (m : Undivided) (chunk a b : ℕ) → IsConforming m → first_failing m chunk (Flip a b) ≡ None → euler_of (flipped m (min a b) (max a b)) ≡ euler_of m
flip_keeps_euler m chunk a b ok h = flip_by (λ k. euler_of k ≡ euler_of m) m chunk a b ok h (λ l r f p. flip_euler m ok (min a b) (max a b) l.apex r.apex l.owner r.owner f)
