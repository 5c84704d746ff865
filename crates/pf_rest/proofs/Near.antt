-- Neighbours that are close to their node.
use Rattle.std.proofs.Common.{◌≡◌, ℕ, ◌<◌, List, [], ◌∷◌, length, refl, sym, ◌∙◌, ap, subst, Bool, true, false, cond, ◌||◌, ◌==◌, ◌⊎◌, inl, inr, suc, ◌+◌, arith, Some, None}
use Rattle.std.specs.Prelude.{ℤ, pos, negsuc, ◌+ℤ◌, ◌-ℤ◌, ◌*ℤ◌, ◌≤ℤ◌, int_le, int_lt, find, slice_index_or, unwrap_or}
use Rattle.std.specs.List.{list_any}
use Rattle.std.proofs.lemmas.Int.{ints}
use Rattle.std.proofs.lemmas.Bool.Decides.{nat_tests}
use Rattle.std.proofs.lemmas.List.{get_or_default}
use Rattle.std.proofs.lemmas.List.Elements.{All-tail}
use Rattle.pf_geom.specs.declared.Point.{Point}
use Rattle.pf_geom.specs.Plane.{len2_of}
use Rattle.pf_geom.proofs.Polynomials.{Expression, of, ◌⊕◌, ◌⊖◌, ◌⊗◌, same}
use Rattle.pf_geom.proofs.Orientations.{squares}
use Rattle.pf_model.specs.declared.Band.{Band}
use Rattle.pf_model.specs.declared.Spoke.{Spoke}
use Rattle.pf_model.specs.Mesh.{Undivided, place_of, len2_at}
use Rattle.pf_model.specs.Lengths.{holds_middle}
use Rattle.pf_rules.specs.Contract.{AreAround, AreClose}
use Rattle.pf_edges.specs.declared.table.Node.{Node}
use Rattle.pf_rest.specs.Rest.{IsLimit, is_reached}
use Rattle.pf_edges.specs.Table.{Sides, Shows, point_or_origin}
use Rattle.pf_rules.proofs.Names.{names-neighbours}

-- the two sides of a parallelogram, squared, and its two diagonals
abbrev sum_square : ℤ → ℤ → ℤ → Expression
sum_square u v x = ((of v ⊕ of x) ⊖ (of u ⊕ of u)) ⊗ ((of v ⊕ of x) ⊖ (of u ⊕ of u))

parallelogram : (u v x : Point)
    → (len2_of u v +ℤ len2_of u v) +ℤ (len2_of u x +ℤ len2_of u x)
    ≡ len2_of v x +ℤ ((v.x +ℤ x.x -ℤ (u.x +ℤ u.x)) *ℤ (v.x +ℤ x.x -ℤ (u.x +ℤ u.x)) +ℤ (v.y +ℤ x.y -ℤ (u.y +ℤ u.y)) *ℤ (v.y +ℤ x.y -ℤ (u.y +ℤ u.y)))
parallelogram u v x =
    same ((squares u v ⊕ squares u v) ⊕ (squares u x ⊕ squares u x)) (squares v x ⊕ (sum_square u.x v.x x.x ⊕ sum_square u.y v.y x.y)) (omega arith)

square-not_negative : (z : ℤ) → pos 0 ≤ℤ (z *ℤ z)
square-not_negative (pos n) = omega (arith, ints)
square-not_negative (negsuc n) = omega (arith, ints)

le_holds : (x y : ℤ) → int_le x y ≡ true → x ≤ℤ y
le_holds x y h = grind (arith, ints)

not_below : (x y : ℤ) → y ≤ℤ x → int_lt x y ≡ false
not_below x y h = grind (arith, ints)

-- two points that are close to a third are no further apart than the limit
apart_within : (u v x : Point) (limit : ℤ) → is_reached u v limit ≡ true → is_reached u x limit ≡ true → len2_of v x ≤ℤ limit
apart_within u v x limit h k =
    let s = v.x +ℤ x.x -ℤ (u.x +ℤ u.x) in
    let t = v.y +ℤ x.y -ℤ (u.y +ℤ u.y) in
    add (len2_of u v) (len2_of u x) (len2_of v x) (s *ℤ s) (t *ℤ t) limit (le_holds _ _ h) (le_holds _ _ k) (square-not_negative s) (square-not_negative t) (parallelogram u v x)
  where
    add : (a b c p q l : ℤ) → (pos 4 *ℤ a) ≤ℤ l → (pos 4 *ℤ b) ≤ℤ l → pos 0 ≤ℤ p → pos 0 ≤ℤ q → (a +ℤ a) +ℤ (b +ℤ b) ≡ c +ℤ (p +ℤ q) → c ≤ℤ l
    add a b c p q l f g i j e = omega (arith, ints, f, g, i, j, e)

-- a length within the limit is above that of no band
within-all : (p : Band → Bool) (bands : List Band) (limit length2 : ℤ) → IsLimit bands limit → length2 ≤ℤ limit → (let above : Bool = elim (find p bands) [ None ↦ false | Some row ↦ int_lt row.max2 length2 ] in above ≡ false)
within-all p [] limit length2 all h = refl
within-all p (row ∷ bands) limit length2 all h = go (p row) (within-all p bands limit length2 (All-tail (λ r. int_le limit r.max2 ≡ true) row bands all) h)
  where
    first : int_lt row.max2 length2 ≡ false
    first = not_below row.max2 length2 (through (le_holds limit row.max2 (all 0 row (omega arith))))
      where
        through : limit ≤ℤ row.max2 → length2 ≤ℤ row.max2
        through k = omega (arith, ints, h, k)

    go : (b : Bool) → (let above : Bool = elim (find p bands) [ None ↦ false | Some row ↦ int_lt row.max2 length2 ] in above ≡ false)
        → (let above : Bool = elim (cond b (Some row) (find p bands)) [ None ↦ false | Some row ↦ int_lt row.max2 length2 ] in above ≡ false)
    go true ih = first
    go false ih = ih

-- so no edge between neighbours that are close to a point is too long
pub close-none : (m : Undivided) (us : List Spoke) (names : List ℕ) (u : Point) (limit : ℤ) → IsLimit m.bands limit → AreAround us names
    → ((x : ℕ) → list_any (λ y. y == x) names ≡ true → is_reached u (place_of m x) limit ≡ true) → AreClose m us
close-none m us names u limit bands around near v x hv hx =
    within-all (holds_middle (place_of m v) (place_of m x)) m.bands limit (len2_at m v x) bands
    (apart_within u (place_of m v) (place_of m x) limit (near v (names-neighbours us names around v ∙ hv)) (near x (names-neighbours us names around x ∙ hx)))

-- one node more is close
pub close-more : (at : Point) (place : ℕ → Point) (names : List ℕ) (limit : ℤ) (i e : ℕ) → i < length names → is_reached at (place (slice_index_or names i e)) limit ≡ true
    → ((k d : ℕ) → k < i → is_reached at (place (slice_index_or names k d)) limit ≡ true) → (k d : ℕ) → k < i + 1 → is_reached at (place (slice_index_or names k d)) limit ≡ true
close-more at place names limit i e within one before k d l = go (cases_of k i l)
  where
    cases_of : (a b : ℕ) → a < b + 1 → (a < b) ⊎ (a ≡ b)
    cases_of a b h = grind arith

    go : (k < i) ⊎ (k ≡ i) → is_reached at (place (slice_index_or names k d)) limit ≡ true
    go (inl h) = before k d h
    go (inr h) = subst (λ j. is_reached at (place (slice_index_or names j d)) limit ≡ true) (sym h) (subst (λ n. is_reached at (place n) limit ≡ true) (get_or_default names i e d within) one)

-- what holds at each place holds of each name
named-at : (p : ℕ → Bool) (names : List ℕ) → ((k d : ℕ) → k < length names → p (slice_index_or names k d) ≡ true) → (x : ℕ) → list_any (λ y. y == x) names ≡ true → p x ≡ true
named-at p [] h x e = absurd (let k : false ≡ true = e in cc)
named-at p (y ∷ ys) h x e = go (y == x) refl e (named-at p ys (λ k d l. h (suc k) d (omega arith)) x)
  where
    same_name : (a b : ℕ) → (a == b) ≡ true → a ≡ b
    same_name a b q = grind (arith, nat_tests)

    go : (b : Bool) → (y == x) ≡ b → (b || list_any (λ z. z == x) ys) ≡ true → (list_any (λ z. z == x) ys ≡ true → p x ≡ true) → p x ≡ true
    go true q k ih = subst (λ z. p z ≡ true) (same_name y x q) (h 0 y (omega arith))
    go false q k ih = ih k

-- where each of the names is close
pub close-shown : (sides : Sides) (nodes : List Node) (m : Undivided) (us : List Spoke) (names : List ℕ) (u : Point) (limit : ℤ) → Shows sides nodes m → IsLimit m.bands limit → AreAround us names
    → ((k d : ℕ) → k < length names → is_reached u (point_or_origin nodes (slice_index_or names k d)) limit ≡ true) → AreClose m us
close-shown sides nodes m us names u limit s bands around near =
    close-none m us names u limit bands around
    (named-at (λ x. is_reached u (place_of m x) limit) names (λ k d l. subst (λ p. is_reached u p limit ≡ true) (place-shown (slice_index_or names k d)) (near k d l)))
  where
    place-shown : (n : ℕ) → point_or_origin nodes n ≡ place_of m n
    place-shown n = ap (λ o. unwrap_or o record { x = pos 0; y = pos 0 }) (s.sites n)
