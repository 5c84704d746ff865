-- The triangles at an edge: sums over them are sums over its two sides.
-- Assumes `IsConforming m`.
use Rattle.std.proofs.Common.{◌≡◌, ℕ, List, [], ◌∷◌, ◌++◌, refl, sym, ◌∙◌, subst, true, inl, inr, arith}
use Rattle.std.specs.Prelude.{Contains, filter, Option, Some, None, ℤ, ◌+ℤ◌}
use Rattle.std.proofs.lemmas.List.Elements.{Contains-append_cases, Contains-append_left, Contains-append_right}
use Rattle.pf_model.specs.declared.Tri.{Tri}
use Rattle.pf_model.specs.declared.Side.{Side}
use Rattle.pf_model.specs.Mesh.{Undivided, tri_of, tri_lt, has_edge, apex_in, side_of}
use Rattle.pf_model.specs.Conforming.{IsConforming}
use Rattle.pf_model.specs.Applied.{is_at_edge}
use Rattle.pf_model.specs.Sums.{total}
use Rattle.pf_model.proofs.Members.{nowhere, here, cases}
use Rattle.pf_model.proofs.Triangles.{IsEdge, tri_of-edges, tri_of-edge_one, tri_of-apex, tri_lt-order}
use Rattle.pf_model.proofs.Kept.{side_of-stands, side_of-found}
use Rattle.pf_model.proofs.Replacement.{Parts, SharesNone, shares_none-append, shares_none-apart}
use Rattle.pf_model.proofs.Totals.{total-removed, total-append}
use Rattle.pf_model.proofs.FlipKeeps.{AreCorners, corners_of}
use Rattle.pf_cover_model.proofs.EdgeNames.{at_edge-first, at_edge-second, at_edge-cases}
use Rattle.pf_model.proofs.Triangles.{least_first}

-- the triangle left of the directed edge p to q, where there is one
abbrev pub old_of : ℕ → ℕ → Option Side → List Tri
old_of p q None = []
old_of p q (Some s) = tri_of p q s.apex s.owner ∷ []

module _ (m : Undivided) (ok : IsConforming m) (lo hi : ℕ) where
  abbrev gone : List Tri
  gone = old_of lo hi (side_of m.tris lo hi) ++ old_of hi lo (side_of m.tris hi lo)

  old-means : (p q : ℕ) (s : Option Side) → side_of m.tris p q ≡ s → (t : Tri) → Contains (old_of p q s) t → (z : ℕ) × (o : ℕ) × (t ≡ tri_of p q z o) × Contains m.tris (tri_of p q z o)
  old-means p q None e t h = absurd (nowhere t h)
  old-means p q (Some s) e t h = elim (cases t (tri_of p q s.apex s.owner) [] h) [ inl x ↦ (s.apex, s.owner, x, side_of-stands m.tris (least_first m ok) p q s e) | inr k ↦ absurd (nowhere t k) ]

  old-has : (p q : ℕ) (t : Tri) → Contains m.tris t → has_edge p q t ≡ true → Contains (old_of p q (side_of m.tris p q)) t
  old-has p q t h e =
      let f = side_of-found m.tris ok.edges_once p q t h e in
      let same = tri_of-apex p q t (least_first m ok t h) e in
      subst (λ o. Contains (old_of p q o) t) (sym f) (subst (λ w. Contains (tri_of p q (apex_in p q t) t.owner ∷ []) w) same (here (tri_of p q (apex_in p q t) t.owner) []))

  old_alone : (p q : ℕ) (s : Option Side) → SharesNone (old_of p q s)
  old_alone p q None = tt
  old_alone p q (Some s) = ((λ z h. absurd (nowhere z h)), tt)

  old_parts : (s t : Tri) → Contains (old_of lo hi (side_of m.tris lo hi)) s → Contains (old_of hi lo (side_of m.tris hi lo)) t → Parts s t
  old_parts s t hs ht x y ks kt =
      let a = old-means lo hi _ refl s hs in
      let b = old-means hi lo _ refl t ht in
      let c = corners_of m ok lo hi a.0 a.1 a.3 in
      let d = corners_of m ok hi lo b.0 b.1 b.3 in
      no a.0 b.0 c d (tri_of-edges x y lo hi a.0 a.1 (subst (λ w. has_edge x y w ≡ true) a.2 ks)) (tri_of-edges x y hi lo b.0 b.1 (subst (λ w. has_edge x y w ≡ true) b.2 kt))
    where
      no : (z w : ℕ) → AreCorners m lo hi z → AreCorners m hi lo w → IsEdge x y lo hi z → IsEdge x y hi lo w → ⊥
      no z w c d i j =
          let u = i.is in let v = j.is in
          let a1 = c.distinct.one in let a2 = c.distinct.two in let a3 = c.distinct.three in
          let b2 = d.distinct.two in let b3 = d.distinct.three in
          grind arith

  removed_total : (g : Tri → ℤ) → total g (filter (is_at_edge lo hi) m.tris) ≡ total g gone
  removed_total g =
      total-removed g tri_lt tri_lt-order (is_at_edge lo hi) gone m.tris ok.tris_rise (shares_none-apart gone (shares_none-append (old_of lo hi (side_of m.tris lo hi)) (old_of hi lo (side_of m.tris hi lo)) (old_alone lo hi (side_of m.tris lo hi)) (old_alone hi lo (side_of m.tris hi lo)) old_parts)) forth back
    where
      forth : (z : Tri) → Contains gone z → Contains m.tris z × (is_at_edge lo hi z ≡ true)
      forth z h = elim (Contains-append_cases (old_of lo hi (side_of m.tris lo hi)) (old_of hi lo (side_of m.tris hi lo)) z h) [
        | inl a ↦ (let r = old-means lo hi _ refl z a in subst (λ w. Contains m.tris w × (is_at_edge lo hi w ≡ true)) (sym r.2) (r.3, at_edge-first lo hi (tri_of lo hi r.0 r.1) (tri_of-edge_one lo hi r.0 r.1)))
        | inr b ↦ (let r = old-means hi lo _ refl z b in subst (λ w. Contains m.tris w × (is_at_edge lo hi w ≡ true)) (sym r.2) (r.3, at_edge-second lo hi (tri_of hi lo r.0 r.1) (tri_of-edge_one hi lo r.0 r.1)))
      ]

      back : (z : Tri) → Contains m.tris z → is_at_edge lo hi z ≡ true → Contains gone z
      back z h e = elim (at_edge-cases lo hi z e) [ inl x ↦ Contains-append_left (old_of lo hi (side_of m.tris lo hi)) (old_of hi lo (side_of m.tris hi lo)) z (old-has lo hi z h x) | inr x ↦ Contains-append_right (old_of lo hi (side_of m.tris lo hi)) (old_of hi lo (side_of m.tris hi lo)) z (old-has hi lo z h x) ]

  pub at_edge_total : (g : Tri → ℤ) → total g (filter (is_at_edge lo hi) m.tris) ≡ total g (old_of lo hi (side_of m.tris lo hi)) +ℤ total g (old_of hi lo (side_of m.tris hi lo))
  at_edge_total g = removed_total g ∙ total-append g (old_of lo hi (side_of m.tris lo hi)) (old_of hi lo (side_of m.tris hi lo))
