-- A contraction that passes meets the link condition.
-- Assumes `IsConforming m` and that `first_failing` is None.
use Rattle.std.proofs.Common.{◌≡◌, ℕ, refl, sym, ◌∙◌, ap, subst, Bool, true, false, ◌⊎◌, inl, inr, arith, ◌&&◌}
use Rattle.std.specs.Prelude.{Contains, not, Option, Some, None, is_some, unwrap_or, ℤ, pos, ◌+ℤ◌, ◌<ℤ◌}
use Rattle.std.proofs.lemmas.Int.{ints}
use Rattle.std.proofs.lemmas.Bool.{not-true, or_cases}
use Rattle.pf_model.specs.declared.Spoke.{Spoke}
use Rattle.pf_model.specs.declared.Op.TheVariants.{Contract}
use Rattle.pf_model.specs.declared.Side.{Side}
use Rattle.pf_model.specs.Mesh.{Undivided, tri_of, side_of, turn_at, place_of}
use Rattle.pf_model.specs.Conforming.{IsConforming}
use Rattle.pf_model.specs.Conditions.{first_failing, is_apex, neighbours}
use Rattle.pf_model.specs.Stars.{spokes_of, is_boundary_edge, is_neighbour, is_on_boundary, path_start, path_end}
use Rattle.pf_model.specs.Links.{HasTriangle, IsLinkEdge, IsLinkVertex, IsOpposite, MeetsLinkCondition}
use Rattle.pf_model.proofs.Triangles.{tri_of-edge_one, tri_of-turned, side_of-none, least_first}
use Rattle.pf_model.proofs.Turns.{AreDistinct, orient_of-faces}
use Rattle.pf_model.proofs.Kept.{side_of-stands}
use Rattle.pf_model.proofs.ReadClauses.{is_some-holds, is_some-none, and-true}
use Rattle.pf_model.proofs.Fans.{IsRight, IsLeft, path_start-some, path_end-some}
use Rattle.pf_model.proofs.FanEnds.{fan_start, fan_end, fan_ends}
use Rattle.pf_model.proofs.Spokes.{spokes-means, spokes-has, spokes-simple, apex_same}
use Rattle.pf_model.proofs.ContractClauses.{ContractPasses, contract_passes, right_is_neighbour, left_is_neighbour}
use Rattle.pf_model.proofs.FlipKeeps.{corners_of}
use Rattle.pf_model.proofs.ContractKeeps.{apex_stands, neighbour_right, neighbour_left, after_v, before_v}

not_both : (b : Bool) → b ≡ true → b ≡ false → ⊥
not_both b e f = let y : true ≡ false = sym e ∙ f in cc

module _ (m : Undivided) (ok : IsConforming m) (u v : ℕ) (p : ContractPasses m u v) where
  -- the triangle a, b, c stands
  abbrev Has : ℕ → ℕ → ℕ → Type 0
  Has a b c = HasTriangle m.tris a b c

  turned : {a b c : ℕ} → HasTriangle m.tris a b c → HasTriangle m.tris b c a
  turned {a} {b} {c} h = let d = (corners_of m ok a b c h.owner h.stands).distinct in record { owner = h.owner; stands = subst (λ t. Contains m.tris t) (tri_of-turned a b c h.owner d.one d.two d.three) h.stands }

  -- two triangles with one directed edge have one third corner
  one_apex : {a b c d : ℕ} → HasTriangle m.tris a b c → HasTriangle m.tris a b d → c ≡ d
  one_apex {a} {b} {c} {d} h k = (apex_same m ok a b c h.owner b d k.owner h.stands k.stands (ok.edges_once (tri_of a b c h.owner) (tri_of a b d k.owner) a b h.stands k.stands (tri_of-edge_one a b c h.owner) (tri_of-edge_one a b d k.owner))).1

  distinct : {a b c : ℕ} → HasTriangle m.tris a b c → AreDistinct a b c
  distinct {a} {b} {c} h = (corners_of m ok a b c h.owner h.stands).distinct

  positive : {a b c : ℕ} → HasTriangle m.tris a b c → pos 0 <ℤ turn_at m a b c
  positive {a} {b} {c} h = (corners_of m ok a b c h.owner h.stands).left

  -- a boundary edge has a triangle, and its reverse none
  boundary_has : (a b : ℕ) → is_boundary_edge m.tris a b ≡ true → (z : ℕ) × HasTriangle m.tris a b z
  boundary_has a b h = let e = and-true _ _ h in let s = is_some-holds (side_of m.tris a b) e.0 in (s.0.apex, record { owner = s.0.owner; stands = side_of-stands m.tris (least_first m ok) a b s.0 s.1 })

  boundary_not : (a b z : ℕ) → is_boundary_edge m.tris a b ≡ true → Has b a z → ⊥
  boundary_not a b z h k =
      let e = and-true _ _ h in
      let n = side_of-none m.tris b a (is_some-none (side_of m.tris b a) (not-true _ e.1)) (tri_of b a z k.owner) k.stands in
      not_both _ (tri_of-edge_one b a z k.owner) n

  is_boundary_from : (a b z : ℕ) → Has a b z → ((w : ℕ) → Has b a w → ⊥) → is_boundary_edge m.tris a b ≡ true
  is_boundary_from a b z h n = both (side_of m.tris a b) (side_of m.tris b a) refl refl
    where
      both : (x y : Option Side) → side_of m.tris a b ≡ x → side_of m.tris b a ≡ y → (is_some x && not (is_some y)) ≡ true
      both x (Some s) e f = absurd (n s.apex record { owner = s.owner; stands = side_of-stands m.tris (least_first m ok) b a s f })
      both (Some s) None e f = refl
      both None None e f = absurd (let k = side_of-none m.tris a b e (tri_of a b z h.owner) h.stands in let y : true ≡ false = sym (tri_of-edge_one a b z h.owner) ∙ k in cc)

  -- a common neighbour is an apex
  apex : (x : ℕ) → ((z : ℕ) × Has u x z) ⊎ ((z : ℕ) × Has u z x) → ((z : ℕ) × Has v x z) ⊎ ((z : ℕ) × Has v z x) → Has u v x ⊎ Has v u x
  apex x a b =
      elim (or_cases (is_apex x (side_of m.tris u v)) (is_apex x (side_of m.tris v u)) (p.link x (of_u a) (of_v b))) [ inl k ↦ inl (let r = apex_stands m ok u v p u v x k in record { owner = r.0; stands = r.1 }) | inr k ↦ inr (let r = apex_stands m ok u v p v u x k in record { owner = r.0; stands = r.1 }) ]
    where
      of_u : ((z : ℕ) × Has u x z) ⊎ ((z : ℕ) × Has u z x) → Contains (neighbours (spokes_of m u)) x
      of_u (inl k) = let s = spokes-has m ok u x k.0 k.1.owner k.1.stands in subst (λ w. Contains (neighbours (spokes_of m u)) w) s.2 (right_is_neighbour (spokes_of m u) s.0 s.1)
      of_u (inr k) = let s = spokes-has m ok u k.0 x k.1.owner k.1.stands in subst (λ w. Contains (neighbours (spokes_of m u)) w) s.3 (left_is_neighbour (spokes_of m u) s.0 s.1)

      of_v : ((z : ℕ) × Has v x z) ⊎ ((z : ℕ) × Has v z x) → is_neighbour x (spokes_of m v) ≡ true
      of_v (inl k) = neighbour_right m ok u v p x k.0 k.1.owner k.1.stands
      of_v (inr k) = neighbour_left m ok u v p k.0 x k.1.owner k.1.stands

  -- no edge of two further names is in both links
  not_same : (a b : ℕ) → Has u a b → Has v a b → ⊥
  not_same a b h k = p.apart (one_apex (turned h) (turned k))

  not_other : (a b : ℕ) → Has u a b → Has v b a → ⊥
  not_other a b h k = go (apex a (inl (b, h)) (inr (b, k))) (apex b (inr (a, h)) (inl (a, k)))
    where
      go : Has u v a ⊎ Has v u a → Has u v b ⊎ Has v u b → ⊥
      go (inr x) y = (distinct k).one (one_apex (turned x) h)
      go (inl x) (inl y) = (distinct k).three (one_apex (turned (turned h)) (turned (turned y)))
      go (inl x) (inr y) =
          let f = orient_of-faces (place_of m u) (place_of m v) (place_of m a) (place_of m b) in
          four (positive h) (positive k) (positive x) (positive y) f
        where
          four : {i j l n : ℤ} → pos 0 <ℤ i → pos 0 <ℤ j → pos 0 <ℤ l → pos 0 <ℤ n → i +ℤ j +ℤ l +ℤ n ≡ pos 0 → ⊥
          four a' b' c' d' e' = omega (arith, ints, a', b', c', d', e')

  -- no boundary edges of u and of v end at one name
  at_u : (x : ℕ) → (is_boundary_edge m.tris u x ≡ true) ⊎ (is_boundary_edge m.tris x u ≡ true) → ((z : ℕ) × Has u x z) ⊎ ((z : ℕ) × Has u z x)
  at_u x (inl h) = inl (boundary_has u x h)
  at_u x (inr h) = let k = boundary_has x u h in inr (k.0, turned k.1)

  at_v : (x : ℕ) → (is_boundary_edge m.tris v x ≡ true) ⊎ (is_boundary_edge m.tris x v ≡ true) → ((z : ℕ) × Has v x z) ⊎ ((z : ℕ) × Has v z x)
  at_v x (inl h) = inl (boundary_has v x h)
  at_v x (inr h) = let k = boundary_has x v h in inr (k.0, turned k.1)

  as_tri : (a b c o : ℕ) → Contains m.tris (tri_of a b c o) → HasTriangle m.tris a b c
  as_tri a b c o h = record { owner = o; stands = h }

  no_ends : (x : ℕ) → (is_boundary_edge m.tris u x ≡ true) ⊎ (is_boundary_edge m.tris x u ≡ true) → (is_boundary_edge m.tris v x ≡ true) ⊎ (is_boundary_edge m.tris x v ≡ true) → ⊥
  no_ends x a b = go (apex x (at_u x a) (at_v x b)) a
    where
      go : Has u v x ⊎ Has v u x → (is_boundary_edge m.tris u x ≡ true) ⊎ (is_boundary_edge m.tris x u ≡ true) → ⊥
      go (inl h) (inl k) = boundary_not u x v k (turned (turned h))
      go (inl h) (inr k) = let z = after_v m ok u v p x h.owner h.stands in boundary_not x u z.0 k record { owner = z.1; stands = z.2 }
      go (inr h) (inl k) = let h' = turned h in let z = before_v m ok u v p x h'.owner h'.stands in boundary_not u x z.0 k (turned (turned (as_tri u z.0 x z.1 z.2)))
      go (inr h) (inr k) = boundary_not x u v k (turned h)

  link_edges : (x y : Option ℕ) → IsLinkEdge m.tris u x y → IsLinkEdge m.tris v x y → ⊥
  link_edges (Some a) (Some b) (inl h) (inl k) = not_same a b h k
  link_edges (Some a) (Some b) (inl h) (inr k) = not_other a b h k
  link_edges (Some a) (Some b) (inr h) (inl k) = not_other b a h k
  link_edges (Some a) (Some b) (inr h) (inr k) = not_same b a h k
  link_edges (Some a) None (inl h) (inl k) = no_ends a (inr h) (inr k)
  link_edges (Some a) None (inl h) (inr k) = no_ends a (inr h) (inl k)
  link_edges (Some a) None (inr h) (inl k) = no_ends a (inl h) (inr k)
  link_edges (Some a) None (inr h) (inr k) = no_ends a (inl h) (inl k)
  link_edges None (Some b) (inl h) (inl k) = no_ends b (inl h) (inl k)
  link_edges None (Some b) (inl h) (inr k) = no_ends b (inl h) (inr k)
  link_edges None (Some b) (inr h) (inl k) = no_ends b (inr h) (inl k)
  link_edges None (Some b) (inr h) (inr k) = no_ends b (inr h) (inr k)
  link_edges None None (inl h) k = absurd h
  link_edges None None (inr h) k = absurd h

  -- a further corner of a link is a neighbour
  near : (n a : ℕ) (y : Option ℕ) → IsLinkEdge m.tris n (Some a) y → ((z : ℕ) × Has n a z) ⊎ ((z : ℕ) × Has n z a)
  near n a (Some b) (inl h) = inl (b, h)
  near n a (Some b) (inr h) = inr (b, h)
  near n a None (inl h) = let k = boundary_has a n h in inr (k.0, turned k.1)
  near n a None (inr h) = inl (boundary_has n a h)

  -- a node whose link has the extra vertex is on the boundary
  on_boundary : (y : Option ℕ) → IsLinkEdge m.tris u None y → is_on_boundary (spokes_of m u) ≡ true
  on_boundary None (inl h) = absurd h
  on_boundary None (inr h) = absurd h
  on_boundary (Some b) (inl h) =
      let k = boundary_has u b h in
      let s = spokes-has m ok u b k.0 k.1.owner k.1.stands in
      (fan_start (spokes_of m u) (spokes-simple m ok u) p.fan b (s.0, s.1, s.2) (λ l. boundary_not u b l.0.right h (turned (turned (as_tri u l.0.right b l.0.owner (subst (λ w. Contains m.tris (tri_of u l.0.right w l.0.owner)) l.2 (spokes-means m ok u l.0 l.1))))))).0
  on_boundary (Some b) (inr h) =
      let k = boundary_has b u h in
      let k' = turned k.1 in
      let s = spokes-has m ok u k.0 b k'.owner k'.stands in
      (fan_end (spokes_of m u) (spokes-simple m ok u) p.fan b (s.0, s.1, s.3) (λ l. boundary_not b u l.0.left h (as_tri u b l.0.left l.0.owner (subst (λ w. Contains m.tris (tri_of u w l.0.left l.0.owner)) l.2 (spokes-means m ok u l.0 l.1))))).0

  extra_opposite : (y : Option ℕ) → IsLinkEdge m.tris u None y → IsOpposite m.tris u v None
  extra_opposite y h = elim (p.onto on) [ inl e ↦ at_start (path_start (spokes_of m u) (spokes_of m u)) refl e | inr e ↦ at_stop e ]
    where
      on : is_on_boundary (spokes_of m u) ≡ true
      on = on_boundary y h

      has_right : (l : IsRight (spokes_of m u) v) → Has u v l.0.left
      has_right l = as_tri u v l.0.left l.0.owner (subst (λ w. Contains m.tris (tri_of u w l.0.left l.0.owner)) l.2 (spokes-means m ok u l.0 l.1))

      has_left : (l : IsLeft (spokes_of m u) v) → Has u l.0.right v
      has_left l = as_tri u l.0.right v l.0.owner (subst (λ w. Contains m.tris (tri_of u l.0.right w l.0.owner)) l.2 (spokes-means m ok u l.0 l.1))

      right_from : (w : ℕ) → Has u v w → IsRight (spokes_of m u) v
      right_from w k = let s = spokes-has m ok u v w k.owner k.stands in (s.0, s.1, s.2)

      left_from : (w : ℕ) → Has u w v → IsLeft (spokes_of m u) v
      left_from w k = let s = spokes-has m ok u w v k.owner k.stands in (s.0, s.1, s.3)

      at_start : (a : Option ℕ) → path_start (spokes_of m u) (spokes_of m u) ≡ a → unwrap_or (path_start (spokes_of m u) (spokes_of m u)) 0 ≡ v → IsOpposite m.tris u v None
      at_start None f e = absurd (let k : false ≡ true = sym (ap is_some f) ∙ on in cc)
      at_start (Some q) f e =
          let g = path_start-some (spokes_of m u) (spokes_of m u) q f in
          let same : q ≡ v = sym (ap (λ o. unwrap_or o 0) f) ∙ e in
          let r : IsRight (spokes_of m u) v = subst (λ w. IsRight (spokes_of m u) w) same g.0 in
          inr (is_boundary_from u v r.0.left (has_right r) (λ w k. g.1 (subst (λ w'. IsLeft (spokes_of m u) w') (sym same) (left_from w (turned k)))))

      at_stop : unwrap_or (path_end (spokes_of m u) (spokes_of m u)) 0 ≡ v → IsOpposite m.tris u v None
      at_stop e =
          let q = fan_ends (spokes_of m u) (spokes-simple m ok u) p.fan some_spoke on in
          let g = path_end-some (spokes_of m u) (spokes_of m u) q.0 q.1 in
          let same : q.0 ≡ v = sym (ap (λ o. unwrap_or o 0) q.1) ∙ e in
          let l : IsLeft (spokes_of m u) v = subst (λ w. IsLeft (spokes_of m u) w) same g.0 in
          inl (is_boundary_from v u l.0.right (turned (turned (has_left l))) (λ w k. g.1 (subst (λ w'. IsRight (spokes_of m u) w') (sym same) (right_from w k))))
        where
          some_spoke : (s : Spoke) × Contains (spokes_of m u) s
          some_spoke = from y h
            where
              from : (y : Option ℕ) → IsLinkEdge m.tris u None y → (s : Spoke) × Contains (spokes_of m u) s
              from None (inl h) = absurd h
              from None (inr h) = absurd h
              from (Some b) (inl h) = let k = boundary_has u b h in let s = spokes-has m ok u b k.0 k.1.owner k.1.stands in (s.0, s.1)
              from (Some b) (inr h) = let k = boundary_has b u h in let k' = turned k.1 in let s = spokes-has m ok u k.0 b k'.owner k'.stands in (s.0, s.1)

  link_vertices : (x : Option ℕ) → IsLinkVertex m.tris u x → IsLinkVertex m.tris v x → IsOpposite m.tris u v x
  link_vertices None h k = extra_opposite h.0 h.1
  link_vertices (Some a) h k = apex a (near u a h.0 h.1) (near v a k.0 k.1)

  link_opposites : (x : Option ℕ) → IsOpposite m.tris u v x → IsLinkVertex m.tris u x × IsLinkVertex m.tris v x
  link_opposites (Some a) (inl h) = ((Some v, inr h), (Some u, inl (turned h)))
  link_opposites (Some a) (inr h) = ((Some v, inl (turned h)), (Some u, inr h))
  link_opposites None (inl h) = ((Some v, inr h), (Some u, inl h))
  link_opposites None (inr h) = ((Some v, inl h), (Some u, inr h))

-- a contraction that passes meets the link condition
pub contract_meets_links : (m : Undivided) (chunk u v : ℕ) → IsConforming m → first_failing m chunk (Contract u v) ≡ None → MeetsLinkCondition m.tris u v
contract_meets_links m chunk u v ok h =
    let p = contract_passes m chunk u v h in
    record { vertices = link_vertices m ok u v p; opposites = link_opposites m ok u v p; edges = link_edges m ok u v p }
