-- A flip that passes, as an exchange of two triangles for two.
use Rattle.std.proofs.Common.{◌≡◌, ℕ, List, [], ◌∷◌, sym, ◌∙◌, subst, inl, inr, true, arith}
use Rattle.std.specs.Prelude.{Contains, Some, None, min, max}
use Rattle.pf_model.specs.declared.Tri.{Tri}
use Rattle.pf_model.specs.declared.Op.TheVariants.{Flip}
use Rattle.pf_model.specs.Mesh.{Undivided, tri_of, has_edge, side_of}
use Rattle.pf_model.specs.declared.Side.{Side}
use Rattle.pf_model.specs.Conforming.{IsConforming}
use Rattle.pf_model.specs.Applied.{replaced, is_at_edge, flip_added, flipped}
use Rattle.pf_model.specs.Conditions.{first_failing}
use Rattle.pf_model.proofs.Members.{nowhere, here, there, cases}
use Rattle.pf_model.proofs.Triangles.{IsEdge, tri_of-edge_one, tri_of-edges}
use Rattle.pf_model.proofs.Turns.{AreDistinct}
use Rattle.pf_model.proofs.ReadClauses.{FlipPasses, flip_passes}
use Rattle.pf_model.proofs.FlipKeeps.{FlipFacts, flip_facts, removed_one, removed_two, removed_is, flip_conforms}
use Rattle.pf_model.specs.Exchange.{CanExchange, exchanged, two_of, turned_of}
use Rattle.pf_rules.proofs.Replaced.{AreRemoved, exchange-is, sound-conforming}

crossed : (lo hi d : ℕ) → IsEdge lo hi hi lo d → AreDistinct hi lo d → ⊥
crossed lo hi d k n = let i = k.is in let n1 = n.one in let n2 = n.two in let n3 = n.three in grind arith

pub flip-exchange : (m : Undivided) (chunk a b : ℕ) (l r : Side) → IsConforming m → first_failing m chunk (Flip a b) ≡ None → side_of m.tris (min a b) (max a b) ≡ Some l → side_of m.tris (max a b) (min a b) ≡ Some r
    → CanExchange (two_of (min a b) (max a b) l r) (turned_of (min a b) (max a b) l r) m.tris × (exchanged (two_of (min a b) (max a b) l r) (turned_of (min a b) (max a b) l r) m.tris ≡ (flipped m (min a b) (max a b)).tris)
flip-exchange m chunk a b l r ok pass el er = go (flip_passes m chunk a b pass).1
  where
    lo : ℕ
    lo = min a b

    hi : ℕ
    hi = max a b

    same_some : (x y : Side) → side_of m.tris (min a b) (max a b) ≡ Some x → side_of m.tris (min a b) (max a b) ≡ Some y → x ≡ y
    same_some x y e f = let k : Some x ≡ Some y = sym e ∙ f in cc

    same_some' : (x y : Side) → side_of m.tris (max a b) (min a b) ≡ Some x → side_of m.tris (max a b) (min a b) ≡ Some y → x ≡ y
    same_some' x y e f = let k : Some x ≡ Some y = sym e ∙ f in cc

    go : (x y : Side) × FlipPasses m (min a b) (max a b) x y → CanExchange (two_of (min a b) (max a b) l r) (turned_of (min a b) (max a b) l r) m.tris × (exchanged (two_of (min a b) (max a b) l r) (turned_of (min a b) (max a b) l r) m.tris ≡ (flipped m (min a b) (max a b)).tris)
    go x =
        let p1 : FlipPasses m (min a b) (max a b) l x.1 = subst (λ s. FlipPasses m (min a b) (max a b) s x.1) (same_some x.0 l x.2.left el) x.2 in
        let p : FlipPasses m (min a b) (max a b) l r = subst (λ s. FlipPasses m (min a b) (max a b) l s) (same_some' x.1 r x.2.right er) p1 in
        let f = flip_facts m ok (min a b) (max a b) l r p in
        let after = flip_conforms m ok (min a b) (max a b) l.apex r.apex l.owner r.owner f in
        let e = exchange-is (is_at_edge (min a b) (max a b)) m.tris (two_of (min a b) (max a b) l r) (turned_of (min a b) (max a b) l r) (sound-conforming m ok) (out f) (sound-conforming _ after) after.tris_rise in
        (e.can, e.same ∙ sym (added (side_of m.tris (min a b) (max a b)) (side_of m.tris (max a b) (min a b)) el er))
      where
        added : (o q : _) → o ≡ Some l → q ≡ Some r → replaced (is_at_edge (min a b) (max a b)) (flip_added (min a b) (max a b) o q) m.tris ≡ replaced (is_at_edge (min a b) (max a b)) (turned_of (min a b) (max a b) l r) m.tris
        added o q e f = (λ i. replaced (is_at_edge (min a b) (max a b)) (flip_added (min a b) (max a b) (e i) (f i)) m.tris)

        out : FlipFacts m (min a b) (max a b) l.apex r.apex l.owner r.owner → AreRemoved (is_at_edge (min a b) (max a b)) m.tris (two_of (min a b) (max a b) l r)
        out f =
            let one = tri_of (min a b) (max a b) l.apex l.owner in
            let two = tri_of (max a b) (min a b) r.apex r.owner in
            record {
              stand = λ t h. elim (cases t (tri_of (min a b) (max a b) l.apex l.owner) (tri_of (max a b) (min a b) r.apex r.owner ∷ []) h) [ inl e ↦ subst (λ w. Contains m.tris w) (sym e) f.one | inr k ↦ elim (cases t (tri_of (max a b) (min a b) r.apex r.owner) [] k) [ inl e ↦ subst (λ w. Contains m.tris w) (sym e) f.two | inr n ↦ absurd (nowhere t n) ] ];
              passes = λ t h. elim (cases t (tri_of (min a b) (max a b) l.apex l.owner) (tri_of (max a b) (min a b) r.apex r.owner ∷ []) h) [ inl e ↦ subst (λ w. is_at_edge (min a b) (max a b) w ≡ true) (sym e) (removed_one m ok (min a b) (max a b) l.apex r.apex l.owner r.owner f) | inr k ↦ elim (cases t (tri_of (max a b) (min a b) r.apex r.owner) [] k) [ inl e ↦ subst (λ w. is_at_edge (min a b) (max a b) w ≡ true) (sym e) (removed_two m ok (min a b) (max a b) l.apex r.apex l.owner r.owner f) | inr n ↦ absurd (nowhere t n) ] ];
              all = λ t h k. elim (removed_is m ok (min a b) (max a b) l.apex r.apex l.owner r.owner f t h k) [ inl e ↦ subst (λ w. Contains (two_of (min a b) (max a b) l r) w) (sym e) (here one (two ∷ [])) | inr e ↦ subst (λ w. Contains (two_of (min a b) (max a b) l r) w) (sym e) (there two one (two ∷ []) (here two [])) ];
              once = ((λ s h e. elim (cases s (tri_of (max a b) (min a b) r.apex r.owner) [] h) [ inl q ↦ differ f (e ∙ q) | inr n ↦ absurd (nowhere s n) ]), ((λ s h e. absurd (nowhere s h)), tt));
            }
          where
            differ : FlipFacts m (min a b) (max a b) l.apex r.apex l.owner r.owner → tri_of (min a b) (max a b) l.apex l.owner ≡ tri_of (max a b) (min a b) r.apex r.owner → ⊥
            differ f e =
                let k = tri_of-edges (min a b) (max a b) (max a b) (min a b) r.apex r.owner (subst (λ w. has_edge (min a b) (max a b) w ≡ true) e (tri_of-edge_one (min a b) (max a b) l.apex l.owner)) in
                crossed (min a b) (max a b) r.apex k f.corners_two.distinct

-- the same, by names and lists that are equal to these
pub flip-exchange-named : (m : Undivided) (chunk a b lo hi : ℕ) (l r : Side) (removed new : List Tri) → min a b ≡ lo → max a b ≡ hi → IsConforming m → first_failing m chunk (Flip a b) ≡ None → side_of m.tris lo hi ≡ Some l → side_of m.tris hi lo ≡ Some r → two_of lo hi l r ≡ removed → turned_of lo hi l r ≡ new
    → CanExchange removed new m.tris × (exchanged removed new m.tris ≡ (flipped m (min a b) (max a b)).tris)
flip-exchange-named m chunk a b lo hi l r removed new elo ehi ok pass el er eg en =
    let P : ℕ → Type 0 = λ x. side_of m.tris x hi ≡ Some l → side_of m.tris hi x ≡ Some r → CanExchange (two_of x hi l r) (turned_of x hi l r) m.tris × (exchanged (two_of x hi l r) (turned_of x hi l r) m.tris ≡ after) in
    let Q : ℕ → Type 0 = λ y. side_of m.tris (min a b) y ≡ Some l → side_of m.tris y (min a b) ≡ Some r → CanExchange (two_of (min a b) y l r) (turned_of (min a b) y l r) m.tris × (exchanged (two_of (min a b) y l r) (turned_of (min a b) y l r) m.tris ≡ after) in
    let h = subst P elo (subst Q ehi (flip-exchange m chunk a b l r ok pass)) el er in
    let R : List Tri → Type 0 = λ g. CanExchange g (turned_of lo hi l r) m.tris × (exchanged g (turned_of lo hi l r) m.tris ≡ after) in
    let S : List Tri → Type 0 = λ n. CanExchange removed n m.tris × (exchanged removed n m.tris ≡ after) in
    subst S en (subst R eg h)
  where
    after : List Tri
    after = (flipped m (min a b) (max a b)).tris
