-- A bisection that passes, as an exchange of the triangles at its edge for their halves.
use Rattle.std.proofs.Common.{◌≡◌, ℕ, ◌+◌, List, [], ◌∷◌, ◌++◌, refl, sym, ◌∙◌, subst, Bool, true, false, ◌||◌, ◌⊎◌, inl, inr, arith}
use Rattle.std.specs.Prelude.{Contains, Option, Some, None, min, max}
use Rattle.std.proofs.lemmas.List.Elements.{Contains-append_cases, Contains-append_left, Contains-append_right}
use Rattle.pf_model.specs.declared.Tri.{Tri}
use Rattle.pf_model.specs.declared.Op.TheVariants.{Bisect}
use Rattle.pf_model.specs.Mesh.{Undivided, tri_of, has_edge, side_of}
use Rattle.pf_model.specs.declared.Side.{Side}
use Rattle.pf_model.specs.Conforming.{IsConforming}
use Rattle.pf_model.specs.Applied.{IsFresh, is_at_edge, halves_of, bisected}
use Rattle.pf_model.specs.Conditions.{first_failing}
use Rattle.pf_model.proofs.Members.{nowhere, here, there, cases}
use Rattle.pf_model.proofs.Triangles.{IsEdge, IsLeastFirst, tri_of-edge_one, tri_of-edges, tri_of-apex}
use Rattle.pf_model.proofs.Turns.{AreDistinct}
use Rattle.pf_model.proofs.Kept.{side_of-stands, side_of-found}
use Rattle.pf_model.proofs.FlipKeeps.{corners_of}
use Rattle.pf_model.proofs.BisectKeeps.{bisect_keeps}
use Rattle.pf_model.specs.Exchange.{AreOnce, CanExchange, exchanged, whole_of}
use Rattle.pf_rules.proofs.Replaced.{AreRemoved, exchange-is, sound-conforming}

least_first : (m : Undivided) → IsConforming m → (t : Tri) → Contains m.tris t → IsLeastFirst t
least_first m ok t h = let p = ok.proper t h in record { least = p.least; least' = p.least'; apart = p.apart }

crossed : (lo hi d : ℕ) → IsEdge lo hi hi lo d → AreDistinct hi lo d → ⊥
crossed lo hi d k n = let i = k.is in let n1 = n.one in let n2 = n.two in let n3 = n.three in grind arith

-- what the triangle left of an edge is
whole-means : (p q : ℕ) (o : Option Side) (t : Tri) → Contains (whole_of p q o) t → (s : Side) × (o ≡ Some s) × (t ≡ tri_of p q s.apex s.owner)
whole-means p q None t h = absurd (nowhere t h)
whole-means p q (Some s) t h = elim (cases t (tri_of p q s.apex s.owner) [] h) [ inl e ↦ (s, refl, e) | inr k ↦ absurd (nowhere t k) ]

whole-once : (p q : ℕ) (o : Option Side) → AreOnce (whole_of p q o)
whole-once p q None = tt
whole-once p q (Some s) = ((λ t h. absurd (nowhere t h)), tt)

once-append : (xs ys : List Tri) → AreOnce xs → AreOnce ys → ((x y : Tri) → Contains xs x → Contains ys y → x ≡ y → ⊥) → AreOnce (xs ++ ys)
once-append [] ys h k apart = k
once-append (x ∷ xs) ys h k apart =
    ((λ s i. elim (Contains-append_cases xs ys s i) [ inl a ↦ h.0 s a | inr b ↦ apart x s (here x xs) b ]), once-append xs ys h.1 k (λ a b i j. apart a b (there a x xs i) j))

-- the triangles at the edge
abbrev pub wholes_at : Undivided → ℕ → ℕ → List Tri
wholes_at m lo hi = whole_of lo hi (side_of m.tris lo hi) ++ whole_of hi lo (side_of m.tris hi lo)

module _ (m : Undivided) (ok : IsConforming m) (lo hi : ℕ) where
  stands : (p q : ℕ) (t : Tri) → Contains (whole_of p q (side_of m.tris p q)) t → Contains m.tris t × (has_edge p q t ≡ true)
  stands p q t h =
      let r = whole-means p q (side_of m.tris p q) t h in
      (subst (λ w. Contains m.tris w) (sym r.2) (side_of-stands m.tris (least_first m ok) p q r.0 r.1), subst (λ w. has_edge p q w ≡ true) (sym r.2) (tri_of-edge_one p q r.0.apex r.0.owner))

  has : (p q : ℕ) (t : Tri) → Contains m.tris t → has_edge p q t ≡ true → Contains (whole_of p q (side_of m.tris p q)) t
  has p q t h e =
      let found = side_of-found m.tris ok.edges_once p q t h e in
      subst (λ o. Contains (whole_of p q o) t) (sym found) (subst (λ w. Contains (w ∷ []) t) (sym (tri_of-apex p q t (least_first m ok t h) e)) (here t []))

  or_left : (a b : Bool) → a ≡ true → (a || b) ≡ true
  or_left a b e = rw e refl

  or_right : (a b : Bool) → b ≡ true → (a || b) ≡ true
  or_right true b e = refl
  or_right false b e = e

  or_cases : (a b : Bool) → (a || b) ≡ true → (a ≡ true) ⊎ (b ≡ true)
  or_cases true b e = inl refl
  or_cases false b e = inr e

  apart : (s t : Tri) → Contains (whole_of lo hi (side_of m.tris lo hi)) s → Contains (whole_of hi lo (side_of m.tris hi lo)) t → s ≡ t → ⊥
  apart s t h k e =
      let r = whole-means hi lo (side_of m.tris hi lo) t k in
      let edge : has_edge lo hi (tri_of hi lo r.0.apex r.0.owner) ≡ true = subst (λ w. has_edge lo hi w ≡ true) (e ∙ r.2) (stands lo hi s h).1 in
      let stand : Contains m.tris (tri_of hi lo r.0.apex r.0.owner) = subst (λ w. Contains m.tris w) r.2 (stands hi lo t k).0 in
      crossed lo hi r.0.apex (tri_of-edges lo hi hi lo r.0.apex r.0.owner edge) (corners_of m ok hi lo r.0.apex r.0.owner stand).distinct

  pub removed-at_edge : AreRemoved (is_at_edge lo hi) m.tris (wholes_at m lo hi)
  removed-at_edge =
      record {
        stand = λ t h. elim (Contains-append_cases (whole_of lo hi (side_of m.tris lo hi)) (whole_of hi lo (side_of m.tris hi lo)) t h) [ inl a ↦ (stands lo hi t a).0 | inr b ↦ (stands hi lo t b).0 ];
        passes = λ t h. elim (Contains-append_cases (whole_of lo hi (side_of m.tris lo hi)) (whole_of hi lo (side_of m.tris hi lo)) t h) [ inl a ↦ or_left (has_edge lo hi t) (has_edge hi lo t) (stands lo hi t a).1 | inr b ↦ or_right (has_edge lo hi t) (has_edge hi lo t) (stands hi lo t b).1 ];
        all = λ t h e. elim (or_cases (has_edge lo hi t) (has_edge hi lo t) e) [
          | inl a ↦ Contains-append_left (whole_of lo hi (side_of m.tris lo hi)) (whole_of hi lo (side_of m.tris hi lo)) t (has lo hi t h a)
          | inr b ↦ Contains-append_right (whole_of lo hi (side_of m.tris lo hi)) (whole_of hi lo (side_of m.tris hi lo)) t (has hi lo t h b)
        ];
        once = once-append (whole_of lo hi (side_of m.tris lo hi)) (whole_of hi lo (side_of m.tris hi lo)) (whole-once lo hi (side_of m.tris lo hi)) (whole-once hi lo (side_of m.tris hi lo)) apart;
      }

-- the halves of the triangles at the edge
abbrev pub halves_at : Undivided → ℕ → ℕ → ℕ → List Tri
halves_at m n lo hi = halves_of n lo hi (side_of m.tris lo hi) ++ halves_of n hi lo (side_of m.tris hi lo)

pub bisect-exchange : (m : Undivided) (chunk ticket a b n : ℕ) → IsConforming m → IsFresh m ticket → m.first_new + ticket ≡ n → first_failing m chunk (Bisect a b) ≡ None
    → CanExchange (wholes_at m (min a b) (max a b)) (halves_at m n (min a b) (max a b)) m.tris × (exchanged (wholes_at m (min a b) (max a b)) (halves_at m n (min a b) (max a b)) m.tris ≡ (bisected m n (min a b) (max a b)).tris)
bisect-exchange m chunk ticket a b n ok fresh name pass =
    let after : IsConforming (bisected m n (min a b) (max a b)) = subst (λ k. IsConforming (bisected m k (min a b) (max a b))) name (bisect_keeps m chunk a b ticket ok fresh pass) in
    let e = exchange-is (is_at_edge (min a b) (max a b)) m.tris (wholes_at m (min a b) (max a b)) (halves_at m n (min a b) (max a b)) (sound-conforming m ok) (removed-at_edge m ok (min a b) (max a b)) (sound-conforming _ after) after.tris_rise in
    (e.can, e.same)
