-- A contraction that passes, as an exchange of the triangles of the star for those that are moved.
-- Assumes `IsConforming m` and that `first_failing` is None.
use Rattle.std.proofs.Common.{◌≡◌, ◌≢◌, ℕ, List, [], ◌∷◌, refl, sym, ◌∙◌, subst, Bool, true, false, not, filter, map, inl, inr, arith, ◌==◌, ◌||◌}
use Rattle.std.specs.Prelude.{Contains, None, nat_lt}
use Rattle.std.proofs.lemmas.Bool.Decides.{nat_tests}
use Rattle.pf_model.specs.declared.Tri.{Tri}
use Rattle.pf_model.specs.declared.Spoke.{Spoke}
use Rattle.pf_model.specs.declared.Op.TheVariants.{Contract}
use Rattle.pf_model.specs.Rising.{IsRising}
use Rattle.pf_model.specs.Mesh.{Undivided, tri_of, tri_lt, has_edge, has_corner}
use Rattle.pf_model.specs.Conforming.{IsConforming}
use Rattle.pf_model.specs.Stars.{spoke_lt, spokes_of}
use Rattle.pf_model.specs.Conditions.{first_failing}
use Rattle.pf_model.specs.Applied.{replaced, contracted}
use Rattle.pf_model.proofs.Members.{here, there, filter-in, filter-out, insert_all_by-new, insert_all_by-old, insert_all_by-cases}
use Rattle.pf_model.proofs.RisingLemmas.{AreApart, rising-head, rising-tail, rising-filter, rising-same}
use Rattle.pf_model.proofs.Totals.{map-in, map-means}
use Rattle.pf_model.proofs.Triangles.{IsLeastFirst, tri_of-edges, tri_of-edge_one, tri_of-corner, tri_lt-order, tri_lt-apart}
use Rattle.pf_model.proofs.Kept.{has_edge-first, replaced-rising}
use Rattle.pf_model.proofs.Spokes.{spokes-means, spokes-has, apex_same}
use Rattle.pf_model.proofs.ContractClauses.{ContractPasses, contract_passes}
use Rattle.pf_model.specs.Exchange.{AreOnce, AreSound, CanExchange, exchanged}
use Rattle.pf_rules.specs.Contract.{tri_at, is_without, star_tris, moved_tris}
use Rattle.pf_rules.proofs.Replaced.{AreRemoved, exchange-is, sound-conforming}
use Rattle.pf_rules.proofs.StarSpokes.{spokes-rise}
use Rattle.pf_model.proofs.ContractKeeps as keeps

least_first : (m : Undivided) → IsConforming m → (t : Tri) → Contains m.tris t → IsLeastFirst t
least_first m ok t h = let p = ok.proper t h in record { least = p.least; least' = p.least'; apart = p.apart }

rise_apart : (a b : ℕ) → nat_lt a b ≡ true → a ≢ b
rise_apart a b h = grind (arith, nat_tests)

-- triangles of rising spokes that differ with the rights
once-map : (f : Spoke → Tri) (ss : List Spoke) → IsRising spoke_lt ss → ((r s : Spoke) → Contains ss r → Contains ss s → f r ≡ f s → r.right ≡ s.right) → AreOnce (map f ss)
once-map f [] up same = tt
once-map f (x ∷ xs) up same = (
  (λ t h e. let r = map-means f xs t h in rise_apart x.right r.0.right (rising-head spoke_lt x r.0 xs up r.1) (same x r.0 (here x xs) (there r.0 x xs r.1) (e ∙ sym r.2))),
  once-map f xs (rising-tail spoke_lt x xs up) (λ r s h k e. same r s (there r x xs h) (there s x xs k) e),
)

-- triangles that are apart
apart-list : (ts : List Tri) → AreOnce ts → ((s t : Tri) → Contains ts s → Contains ts t → has_edge s.a s.b t ≡ true → s ≡ t) → AreApart tri_lt ts
apart-list [] once edges = tt
apart-list (x ∷ xs) once edges = ((λ z h. tri_lt-apart x z (bare z h (has_edge x.a x.b z) refl)), apart-list xs once.1 (λ s t h k e. edges s t (there s x xs h) (there t x xs k) e))
  where
    bare : (z : Tri) → Contains xs z → (b : Bool) → has_edge x.a x.b z ≡ b → b ≡ false
    bare z h false e = refl
    bare z h true e = absurd (once.0 z h (edges x z (here x xs) (there z x xs h) e))

-- a spoke without v
without_means : (a b v : ℕ) → not (a == v || b == v) ≡ true → (a ≢ v) × (b ≢ v)
without_means a b v h = (first a b v h, second a b v h)
  where
    first : (a b v : ℕ) → not (a == v || b == v) ≡ true → a ≢ v
    first a b v h = grind (arith, nat_tests)

    second : (a b v : ℕ) → not (a == v || b == v) ≡ true → b ≢ v
    second a b v h = grind (arith, nat_tests)

without_from : (a b v : ℕ) → a ≢ v → b ≢ v → not (a == v || b == v) ≡ true
without_from a b v h k = grind (arith, nat_tests)

-- the first edge of the triangle at v
moved_right : (v x y o x' y' o' : ℕ) → x ≢ v → x' ≢ v → y' ≢ v → tri_of v x y o ≡ tri_of v x' y' o' → x ≡ x'
moved_right v x y o x' y' o' n n1 n2 e = let k = (tri_of-edges v x v x' y' o' (subst (λ w. has_edge v x w ≡ true) e (tri_of-edge_one v x y o))).is in grind arith

module _ (m : Undivided) (ok : IsConforming m) (u v : ℕ) (p : ContractPasses m u v) where
  abbrev removed : List Tri
  removed = star_tris u (spokes_of m u)

  abbrev new : List Tri
  new = moved_tris v (spokes_of m u)

  same_tri : (n r l o : ℕ) (s : Spoke) → s.right ≡ r → s.left ≡ l → s.owner ≡ o → tri_at n s ≡ tri_of n r l o
  same_tri n r l o s a b c = λ i. tri_of n (a i) (b i) (c i)

  removed-is : AreRemoved (has_corner u) m.tris removed
  removed-is =
      record {
        stand = λ t h. (let r = map-means (tri_at u) (spokes_of m u) t h in subst (λ w. Contains m.tris w) r.2 (spokes-means m ok u r.0 r.1));
        passes = λ t h. (let r = map-means (tri_at u) (spokes_of m u) t h in subst (λ w. has_corner u w ≡ true) r.2 (tri_of-corner u u r.0.right r.0.left r.0.owner (inl refl)));
        all = λ t h e. (let a = keeps.corner_at u v t (least_first m ok t h) e in
            let s = spokes-has m ok u a.x a.y t.owner (subst (λ w. Contains m.tris w) (sym a.is) h) in
            subst (λ w. Contains removed w) (same_tri u a.x a.y t.owner s.0 s.2 s.3 s.4 ∙ a.is) (map-in (tri_at u) (spokes_of m u) s.0 s.1));
        once = once-map (tri_at u) (spokes_of m u) (spokes-rise m ok u) (λ r s h k e. (apex_same m ok u r.right r.left r.owner s.right s.left s.owner (spokes-means m ok u r h) (spokes-means m ok u s k) e).0);
      }

  -- the moved triangles are those that are added
  new-added : (t : Tri) → Contains new t → Contains (keeps.added m ok u v p) t
  new-added t h =
      let r = map-means (tri_at v) (filter (is_without v) (spokes_of m u)) t h in
      let f = filter-out (is_without v) r.0 (spokes_of m u) r.1 in
      let n = without_means r.0.right r.0.left v f.1 in
      subst (λ w. Contains (keeps.added m ok u v p) w) r.2 (keeps.added-has m ok u v p r.0.right r.0.left r.0.owner (spokes-means m ok u r.0 f.0) n.0 n.1)

  added-new : (t : Tri) → Contains (keeps.added m ok u v p) t → Contains new t
  added-new t h =
      let r = (keeps.added-means m ok u v p t h).2 in
      let s = spokes-has m ok u r.x r.y r.o r.stands in
      let w = without_from s.0.right s.0.left v (λ e. r.x_apart (sym s.2 ∙ e)) (λ e. r.y_apart (sym s.3 ∙ e)) in
      subst (λ z. Contains new z) (same_tri v r.x r.y r.o s.0 s.2 s.3 s.4 ∙ sym r.is) (map-in (tri_at v) (filter (is_without v) (spokes_of m u)) s.0 (filter-in (is_without v) s.0 (spokes_of m u) s.1 w))

  after : IsConforming (keeps.after m ok u v p)
  after = keeps.contract_conforms m ok u v p

  new-once : AreOnce new
  new-once = once-map (tri_at v) (filter (is_without v) (spokes_of m u)) (rising-filter spoke_lt (is_without v) (spokes_of m u) (spokes-rise m ok u)) same
    where
      same : (r s : Spoke) → Contains (filter (is_without v) (spokes_of m u)) r → Contains (filter (is_without v) (spokes_of m u)) s → tri_at v r ≡ tri_at v s → r.right ≡ s.right
      same r s h k e =
          let a = without_means r.right r.left v (filter-out (is_without v) r (spokes_of m u) h).1 in
          let b = without_means s.right s.left v (filter-out (is_without v) s (spokes_of m u) k).1 in
          moved_right v r.right r.left r.owner s.right s.left s.owner a.0 b.0 b.1 e

  new-rise : IsRising tri_lt (replaced (has_corner u) new m.tris)
  new-rise =
      replaced-rising (has_corner u) new m.tris ok.tris_rise
      (apart-list new new-once (λ s t h k e. after.edges_once s t s.a s.b (stands s h) (stands t k) (has_edge-first s) e))
      (λ s t a b h k i j. keeps.contract_meets m ok u v p s t a b (new-added s h) k i j)
    where
      stands : (t : Tri) → Contains new t → Contains (keeps.after m ok u v p).tris t
      stands t h = insert_all_by-new tri_lt t (keeps.added m ok u v p) (filter (λ t. not (has_corner u t)) m.tris) (new-added t h)

  new-same : replaced (has_corner u) new m.tris ≡ (keeps.after m ok u v p).tris
  new-same = rising-same tri_lt tri_lt-order (replaced (has_corner u) new m.tris) (keeps.after m ok u v p).tris new-rise after.tris_rise forth back
    where
      forth : (t : Tri) → Contains (replaced (has_corner u) new m.tris) t → Contains (keeps.after m ok u v p).tris t
      forth t h = elim (insert_all_by-cases tri_lt t new (filter (λ t. not (has_corner u t)) m.tris) h) [ inl a ↦ insert_all_by-new tri_lt t (keeps.added m ok u v p) (filter (λ t. not (has_corner u t)) m.tris) (new-added t a) | inr b ↦ insert_all_by-old tri_lt t (keeps.added m ok u v p) (filter (λ t. not (has_corner u t)) m.tris) b ]

      back : (t : Tri) → Contains (keeps.after m ok u v p).tris t → Contains (replaced (has_corner u) new m.tris) t
      back t h = elim (insert_all_by-cases tri_lt t (keeps.added m ok u v p) (filter (λ t. not (has_corner u t)) m.tris) h) [ inl a ↦ insert_all_by-new tri_lt t new (filter (λ t. not (has_corner u t)) m.tris) (added-new t a) | inr b ↦ insert_all_by-old tri_lt t new (filter (λ t. not (has_corner u t)) m.tris) b ]

  pub contract-exchanges : CanExchange removed new m.tris × (exchanged removed new m.tris ≡ (contracted m u v).tris)
  contract-exchanges =
      let e = exchange-is (has_corner u) m.tris removed new (sound-conforming m ok) removed-is (subst (λ l. AreSound l) (sym new-same) (sound-conforming (keeps.after m ok u v p) after)) new-rise in
      (e.can, e.same ∙ new-same)

pub contract-exchange : (m : Undivided) (chunk u v : ℕ) → IsConforming m → first_failing m chunk (Contract u v) ≡ None
    → CanExchange (star_tris u (spokes_of m u)) (moved_tris v (spokes_of m u)) m.tris × (exchanged (star_tris u (spokes_of m u)) (moved_tris v (spokes_of m u)) m.tris ≡ (contracted m u v).tris)
contract-exchange m chunk u v ok pass = contract-exchanges m ok u v (contract_passes m chunk u v pass)
