-- The stars after a flip that passes.
-- Assumes `IsConforming m`, and that the stars of the ends are shown.
use Rattle.std.proofs.Common.{◌≡◌, ℕ, List, [], ◌∷◌, ◌++◌, refl, sym, ◌∙◌, ap, subst, true, cond, ◌⊎◌, inl, inr, ◌||◌}
use Rattle.std.specs.Prelude.{Contains, Option, Some, None, is_some, is_none, min, max}
use Rattle.std.specs.Option.{option_map}
use Rattle.pf_model.specs.declared.Tri.{Tri}
use Rattle.pf_model.specs.declared.Op.TheVariants.{Flip}
use Rattle.pf_model.specs.declared.Cond.{Cond}
use Rattle.pf_model.specs.declared.Side.{Side}
use Rattle.pf_model.specs.Mesh.{Undivided, tri_of, side_of, has_corner}
use Rattle.pf_model.specs.Conforming.{IsConforming}
use Rattle.pf_model.specs.Applied.{applied, is_at_edge, flip_added}
use Rattle.pf_model.specs.Conditions.{first_failing}
use Rattle.pf_model.specs.Stars.{Star, star_of}
use Rattle.pf_model.proofs.Members.{nowhere, here, there, cases}
use Rattle.pf_model.proofs.Triangles.{tri_of-corners}
use Rattle.pf_model.proofs.ReadClauses.{FlipPasses, flip_passes}
use Rattle.pf_model.proofs.FlipKeeps.{FlipFacts, flip_facts, flip_keeps, removed_is}
use Rattle.pf_star_model.specs.Lent.{IsShown, sight_of}
use Rattle.pf_star_model.specs.Judged.{left_seen, right_seen, ends_failing}
use Rattle.pf_star_model.specs.Cavity.{apexes, cavity_of}
use Rattle.pf_star_model.specs.Patched.{star_after, patched}
use Rattle.pf_star_model.proofs.Sights.{min_or_max}
use Rattle.pf_star_model.proofs.Judging.{IsEdgeSeen, edge_seen, alike, shown_sorted, seen_is_shown, or_else, flip_failing}
use Rattle.pf_star_model.proofs.Patching.{AreAlike, alike-tri_of, IsSightOf, added-once, star-patched, star-outside}

-- a member of what a flip puts in
flip_added-means : (lo hi : ℕ) (l r : Option Side) (t : Tri) → Contains (flip_added lo hi l r) t → (x y : Side) × (l ≡ Some x) × (r ≡ Some y) × ((t ≡ tri_of lo y.apex x.apex x.owner) ⊎ (t ≡ tri_of hi x.apex y.apex y.owner))
flip_added-means lo hi None r t h = absurd (nowhere t h)
flip_added-means lo hi (Some x) None t h = absurd (nowhere t h)
flip_added-means lo hi (Some x) (Some y) t h = (x, y, refl, refl, elim (cases t (tri_of lo y.apex x.apex x.owner) (tri_of hi x.apex y.apex y.owner ∷ []) h) [ inl e ↦ inl e | inr k ↦ elim (cases t (tri_of hi x.apex y.apex y.owner) [] k) [ inl e ↦ inr e | inr z ↦ absurd (nowhere t z) ] ])

module _ (m : Undivided) (ok : IsConforming m) (chunk a b ticket : ℕ) (passes : first_failing m chunk (Flip a b) ≡ None) where
  abbrev lo : ℕ
  lo = min a b

  abbrev hi : ℕ
  hi = max a b

  abbrev put : List Tri
  put = flip_added lo hi (side_of m.tris lo hi) (side_of m.tris hi lo)

  abbrev pub after : Undivided
  after = applied m record { ticket = ticket; chunk = chunk; op = Flip a b }

  ok' : IsConforming after
  ok' = flip_keeps m chunk a b ticket ok passes

  pub sides : (l r : Side) × FlipPasses m lo hi l r
  sides = (flip_passes m chunk a b passes).1

  seen : IsEdgeSeen m lo hi
  seen = edge_seen m ok lo hi (ap (λ o. is_some o || is_some (side_of m.tris hi lo)) sides.2.left)

  abbrev sight : Undivided
  sight = sight_of [] (star_of m lo)

  points : (t : Tri) → Contains put t → AreAlike sight after t
  points t h =
      let r = flip_added-means lo hi (side_of m.tris lo hi) (side_of m.tris hi lo) t h in
      let plo = alike m ok [] lo seen.live lo (inl refl) in
      let phi = alike m ok [] lo seen.live hi seen.other in
      let pl = alike m ok [] lo seen.live r.0.apex (seen.left r.0 r.2) in
      let pr = alike m ok [] lo seen.live r.1.apex (seen.right r.1 r.3) in
      elim r.4 [
        | inl e ↦ subst (λ w. AreAlike sight after w) (sym e) (alike-tri_of sight after lo r.1.apex r.0.apex r.0.owner plo pr pl)
        | inr e ↦ subst (λ w. AreAlike sight after w) (sym e) (alike-tri_of sight after hi r.0.apex r.1.apex r.1.owner phi pl pr)
      ]

  is_sight : IsSightOf m m.sites (is_at_edge lo hi) put ok ok' sight put
  is_sight =
      record {
        all = λ t h. h;
        only = λ t h. h;
        once = added-once m m.sites (is_at_edge lo hi) put ok ok';
        points = points;
        stay = λ t h k. record { first = refl; second = refl; third = refl };
      }

  pub flip_star : (n : ℕ) → star_of after n ≡ option_map (star_after sight (is_at_edge lo hi) put) (star_of m n)
  flip_star n = star-patched m m.sites (is_at_edge lo hi) put ok ok' sight put is_sight n refl (λ l. refl)

  pub flip_patched : (lent : ℕ → Option Star) (new : ℕ) → IsShown lent m a → IsShown lent m b → (n : ℕ) → IsShown lent m n → patched lent new (Flip a b) n ≡ star_of after n
  flip_patched lent new ha hb n hn =
      ap (λ o. option_map (star_after (sight_of [] (lent lo)) (is_at_edge lo hi) (flip_added lo hi (left_seen lent lo hi) (right_seen lent lo hi))) o) hn
      ∙ (seen_is_shown (λ o l r. option_map (star_after (sight_of [] o) (is_at_edge lo hi) (flip_added lo hi l r)) (star_of m n)) m ok lent lo hi (shown_sorted m lent a b ha hb).0
      ∙ sym (flip_star n))

  -- the four corners
  facts : FlipFacts m lo hi sides.0.apex sides.1.apex sides.0.owner sides.1.owner
  facts = flip_facts m ok lo hi sides.0 sides.1 sides.2

  -- the names at what goes and comes
  abbrev IsCorner : ℕ → Type 0
  IsCorner n = (lo ≡ n) ⊎ ((hi ≡ n) ⊎ ((sides.0.apex ≡ n) ⊎ (sides.1.apex ≡ n)))

  gone : (n : ℕ) (t : Tri) → Contains m.tris t → is_at_edge lo hi t ≡ true → has_corner n t ≡ true → IsCorner n
  gone n t h e k = elim (removed_is m ok lo hi sides.0.apex sides.1.apex sides.0.owner sides.1.owner facts t h e) [
    | inl x ↦ one (tri_of-corners n lo hi sides.0.apex sides.0.owner (subst (λ w. has_corner n w ≡ true) x k))
    | inr x ↦ two (tri_of-corners n hi lo sides.1.apex sides.1.owner (subst (λ w. has_corner n w ≡ true) x k))
  ]
    where
      one : (lo ≡ n) ⊎ ((hi ≡ n) ⊎ (sides.0.apex ≡ n)) → IsCorner n
      one (inl x) = inl x
      one (inr (inl x)) = inr (inl x)
      one (inr (inr x)) = inr (inr (inl x))

      two : (hi ≡ n) ⊎ ((lo ≡ n) ⊎ (sides.1.apex ≡ n)) → IsCorner n
      two (inl x) = inr (inl x)
      two (inr (inl x)) = inl x
      two (inr (inr x)) = inr (inr (inr x))

  come : (n : ℕ) (t : Tri) → Contains put t → has_corner n t ≡ true → IsCorner n
  come n t h k =
      let r = flip_added-means lo hi (Some sides.0) (Some sides.1) t (subst (λ o. Contains (flip_added lo hi o (Some sides.1)) t) sides.2.left (subst (λ o. Contains (flip_added lo hi (side_of m.tris lo hi) o) t) sides.2.right h)) in
      elim r.4 [
        | inl x ↦ one r.0 r.1 r.2 r.3 (tri_of-corners n lo r.1.apex r.0.apex r.0.owner (subst (λ w. has_corner n w ≡ true) x k))
        | inr x ↦ two r.0 r.1 r.2 r.3 (tri_of-corners n hi r.0.apex r.1.apex r.1.owner (subst (λ w. has_corner n w ≡ true) x k))
      ]
    where
      apex_same : (x y : Side) → Some x ≡ Some y → x.apex ≡ y.apex
      apex_same x y e = let f : x ≡ y = cc in ap (λ s. s.apex) f

      one : (x y : Side) → Some sides.0 ≡ Some x → Some sides.1 ≡ Some y → (lo ≡ n) ⊎ ((y.apex ≡ n) ⊎ (x.apex ≡ n)) → IsCorner n
      one x y e f (inl z) = inl z
      one x y e f (inr (inl z)) = inr (inr (inr (apex_same sides.1 y f ∙ z)))
      one x y e f (inr (inr z)) = inr (inr (inl (apex_same sides.0 x e ∙ z)))

      two : (x y : Side) → Some sides.0 ≡ Some x → Some sides.1 ≡ Some y → (hi ≡ n) ⊎ ((x.apex ≡ n) ⊎ (y.apex ≡ n)) → IsCorner n
      two x y e f (inl z) = inr (inl z)
      two x y e f (inr (inl z)) = inr (inr (inl (apex_same sides.0 x e ∙ z)))
      two x y e f (inr (inr z)) = inr (inr (inr (apex_same sides.1 y f ∙ z)))

  -- they are in the cavity
  abbrev cavity : List ℕ
  cavity = a ∷ b ∷ sides.0.apex ∷ sides.1.apex ∷ []

  pub flip_cavity : cavity_of m chunk (Flip a b) ≡ cavity
  flip_cavity =
      ap (λ o. a ∷ b ∷ cond (is_none o) (apexes (side_of m.tris lo hi) ++ apexes (side_of m.tris hi lo)) []) (first_none (ends_failing m chunk a b) _ (sym (flip_failing m chunk a b) ∙ passes))
      ∙ (ap (λ o. a ∷ b ∷ apexes o ++ apexes (side_of m.tris hi lo)) sides.2.left ∙ ap (λ o. a ∷ b ∷ sides.0.apex ∷ apexes o) sides.2.right)
    where
      first_none : (o d : Option Cond) → or_else o d ≡ None → o ≡ None
      first_none None d h = refl
      first_none (Some c) d h = absurd (let e : Some c ≡ None = h in cc)

  in_cavity : (n : ℕ) → IsCorner n → Contains cavity n
  in_cavity n h = go h
    where
      end : Contains cavity lo × Contains cavity hi
      end = min_or_max (λ k. Contains cavity k) a b (here a (b ∷ sides.0.apex ∷ sides.1.apex ∷ [])) (there b a (b ∷ sides.0.apex ∷ sides.1.apex ∷ []) (here b (sides.0.apex ∷ sides.1.apex ∷ [])))

      go : IsCorner n → Contains cavity n
      go (inl x) = subst (λ k. Contains cavity k) x end.0
      go (inr (inl x)) = subst (λ k. Contains cavity k) x end.1
      go (inr (inr (inl x))) = subst (λ k. Contains cavity k) x (there sides.0.apex a (b ∷ sides.0.apex ∷ sides.1.apex ∷ []) (there sides.0.apex b (sides.0.apex ∷ sides.1.apex ∷ []) (here sides.0.apex (sides.1.apex ∷ []))))
      go (inr (inr (inr x))) = subst (λ k. Contains cavity k) x (there sides.1.apex a (b ∷ sides.0.apex ∷ sides.1.apex ∷ []) (there sides.1.apex b (sides.0.apex ∷ sides.1.apex ∷ []) (there sides.1.apex sides.0.apex (sides.1.apex ∷ []) (here sides.1.apex []))))

  pub flip_outside : (n : ℕ) → (Contains (cavity_of m chunk (Flip a b)) n → ⊥) → star_of after n ≡ star_of m n
  flip_outside n out = star-outside m m.sites (is_at_edge lo hi) put ok ok' sight put is_sight n refl (λ l. refl) (λ t h e k. no (gone n t h e k)) (λ t h k. no (come n t h k))
    where
      no : IsCorner n → ⊥
      no c = out (subst (λ l. Contains l n) (sym flip_cavity) (in_cavity n c))
