-- Orientations of names: turned round, of names that are not distinct, edges' cross products, the faces of a tetrahedron.
use Rattle.std.proofs.Common.{◌≡◌, ◌≢◌, ℕ, refl, sym, subst, Bool, true, false, cond, arith}
use Rattle.std.specs.Prelude.{ℤ, pos, ◌+ℤ◌, ◌-ℤ◌, ◌<ℤ◌, nat_lt, ◌&&◌}
use Rattle.std.proofs.lemmas.Int.{ints}
use Rattle.pf_geom.specs.declared.Point.{Point}
use Rattle.pf_geom.specs.Plane.{orient_of}
use Rattle.pf_model.specs.declared.Tri.{Tri}
use Rattle.pf_model.specs.Mesh.{Undivided, tri_of, turn_at, place_of}
use Rattle.pf_model.specs.Sums.{cross_of}
use Rattle.pf_geom.proofs.Polynomials.{Expression, of, ◌⊕◌, ◌⊖◌, ◌⊗◌, same}
use Rattle.pf_geom.proofs.Orientations.{turn, orient_of-turned, orient_of-twice}

pub turn_at-turned : (m : Undivided) (p q z : ℕ) → turn_at m p q z ≡ turn_at m q z p
turn_at-turned m p q z = orient_of-turned (place_of m p) (place_of m q) (place_of m z)

-- the turn of a triangle written least corner first
pub turn_at-tri_of : (m : Undivided) (p q z o : ℕ) → turn_at m (tri_of p q z o).a (tri_of p q z o).b (tri_of p q z o).c ≡ turn_at m p q z
turn_at-tri_of m p q z o = go (nat_lt p q && nat_lt p z) (nat_lt q z && nat_lt q p)
  where
    of' : Tri → ℤ
    of' t = turn_at m t.a t.b t.c

    go : (b c : Bool) → (let t : Tri = cond b record { a = p; b = q; c = z; owner = o } (cond c record { a = q; b = z; c = p; owner = o } record { a = z; b = p; c = q; owner = o }) in turn_at m t.a t.b t.c) ≡ turn_at m p q z
    go true c = refl
    go false true = sym (turn_at-turned m p q z)
    go false false = turn_at-turned m z p q

-- a triangle that turns left has distinct corners
pub record AreDistinct (p q z : ℕ) : Type 0 where
  pub one : p ≢ q
  pub two : q ≢ z
  pub three : z ≢ p

apart_from_turn : (m : Undivided) (p q z : ℕ) → pos 0 <ℤ turn_at m p q z → p ≢ q
apart_from_turn m p q z h e =
    let f : pos 0 <ℤ turn_at m p p z = subst (λ w. pos 0 <ℤ turn_at m p w z) (sym e) h in
    let g : turn_at m p p z ≡ pos 0 = orient_of-twice (place_of m p) (place_of m z) in
    let k : pos 0 <ℤ pos 0 = subst (λ w. pos 0 <ℤ w) g f in
    omega (arith, ints, k)

pub distinct_from_turn : (m : Undivided) (p q z : ℕ) → pos 0 <ℤ turn_at m p q z → AreDistinct p q z
distinct_from_turn m p q z h =
    let h2 : pos 0 <ℤ turn_at m q z p = subst (λ w. pos 0 <ℤ w) (turn_at-turned m p q z) h in
    let h3 : pos 0 <ℤ turn_at m z p q = subst (λ w. pos 0 <ℤ w) (turn_at-turned m q z p) h2 in
    record { one = apart_from_turn m p q z h; two = apart_from_turn m q z p h2; three = apart_from_turn m z p q h3 }

abbrev cross : Point → Point → Expression
cross a b = (of a.x ⊗ of b.y) ⊖ (of b.x ⊗ of a.y)

-- an orientation is a sum over its three edges
pub orient_of-edges : (a b c : Point) → orient_of a b c ≡ cross_of a b +ℤ cross_of b c +ℤ cross_of c a
orient_of-edges a b c = same (turn a b c) (cross a b ⊕ cross b c ⊕ cross c a) (omega arith)

-- which changes its sign with the edge's direction
pub cross_of-swapped : (a b : Point) → cross_of a b +ℤ cross_of b a ≡ pos 0
cross_of-swapped a b = same (cross a b ⊕ cross b a) (of (pos 0)) (omega arith)

-- two triangles over one edge differ by what belongs to its two ends
pub orient_of-over : (u v x y : Point) → orient_of u x y ≡ orient_of v x y +ℤ ((cross_of u x -ℤ cross_of v x) -ℤ (cross_of u y -ℤ cross_of v y))
orient_of-over u v x y = same (turn u x y) (turn v x y ⊕ ((cross u x ⊖ cross v x) ⊖ (cross u y ⊖ cross v y))) (omega arith)

-- the four faces of a tetrahedron
pub orient_of-faces : (u v a b : Point) → orient_of u a b +ℤ orient_of v b a +ℤ orient_of u v a +ℤ orient_of v u b ≡ pos 0
orient_of-faces u v a b = same (turn u a b ⊕ turn v b a ⊕ turn u v a ⊕ turn v u b) (of (pos 0)) (omega arith)
