-- The squared length of an edge, from the points of its ends in either order.
use Rattle.std.proofs.Common.{◌≡◌, ℕ, sym, ◌∙◌, ap, ◌⊎◌, inl, inr, arith}
use Rattle.std.specs.Prelude.{ℤ, min, max}
use Rattle.pf_geom.specs.declared.Point.{Point}
use Rattle.pf_geom.specs.Plane.{len2_of}
use Rattle.pf_model.specs.Mesh.{Undivided, place_of, len2_at}
use Rattle.pf_model.specs.Lengths.{Edge, edge_of}

pub measured-between : (m : Undivided) (a b : ℕ) (p q : Point) (e : Edge) (l : ℤ) → p ≡ place_of m a → q ≡ place_of m b → l ≡ len2_of p q → l ≡ len2_of q p → e ≡ edge_of a b → l ≡ len2_at m e.lo e.hi
measured-between m a b p q e l x y f g h = go (either a b)
  where
    either : (i j : ℕ) → ((min i j ≡ i) × (max i j ≡ j)) ⊎ ((min i j ≡ j) × (max i j ≡ i))
    either i j = grind arith

    go : ((min a b ≡ a) × (max a b ≡ b)) ⊎ ((min a b ≡ b) × (max a b ≡ a)) → l ≡ len2_at m e.lo e.hi
    go (inl k) = f ∙ (λ i. len2_of ((x ∙ ap (place_of m) (sym (ap (λ w. w.lo) h ∙ k.0))) i) ((y ∙ ap (place_of m) (sym (ap (λ w. w.hi) h ∙ k.1))) i))
    go (inr k) = g ∙ (λ i. len2_of ((y ∙ ap (place_of m) (sym (ap (λ w. w.lo) h ∙ k.0))) i) ((x ∙ ap (place_of m) (sym (ap (λ w. w.hi) h ∙ k.1))) i))
