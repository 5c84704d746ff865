-- The sides of the edge table after owners are written.
-- Assumes nothing.
use Rattle.std.proofs.Common.{◌≡◌, ℕ, refl, sym, ◌∙◌, ap, subst, Bool, true, false, cond, Option, Some, None, ◌&&◌, ◌||◌, ◌==◌, arith}
use Rattle.std.specs.Option.{option_map}
use Rattle.std.proofs.lemmas.Bool.Decides.{nat_tests}
use Rattle.indexmap.specs.IndexMap.{Updates}
use Rattle.pf_model.specs.declared.Side.{Side}
use Rattle.pf_model.specs.Tables.{stand_round, are_corners}
use Rattle.pf_edges.specs.Table.{Sides, edge_eq, side_at}
use Rattle.pf_apply.specs.Tables.{three, owned_if}
use Rattle.pf_edges.proofs.Sides.{side_at-updates}

same : (m n : ℕ) → (m == n) ≡ true → m ≡ n
same m n e = grind (arith, nat_tests)

-- no owner is written
stays : (owner : ℕ) (o : Option Side) → option_map (λ s. owned_if false owner s) o ≡ o
stays owner None = refl
stays owner (Some s) = refl

-- one entry is written, whose owner changes where its third corner is the apex
pub owned-one : (m n : Sides) (p q apex owner : ℕ) (left w : Side) → Updates edge_eq m n record { from = p; to = q } (Some w) → side_at m p q ≡ Some (left) → w ≡ owned_if (apex == left.apex) owner (left) → (a b : ℕ) → side_at n a b ≡ option_map (λ s. owned_if (p == a && (q == b && apex == s.apex)) owner s) (side_at m a b)
owned-one m n p q apex owner left w u at is a b = side_at-updates m n p q (Some w) u a b ∙ go (p == a) refl (q == b) refl
  where
    go : (x : Bool) → (p == a) ≡ x → (y : Bool) → (q == b) ≡ y → cond (x && y) (Some (w)) (side_at m a b) ≡ option_map (λ s. owned_if (x && (y && apex == s.apex)) owner s) (side_at m a b)
    go true e true f =
        let at' : side_at m a b ≡ Some (left) = subst (λ k. side_at m k b ≡ Some (left)) (same p a e) (subst (λ k. side_at m p k ≡ Some (left)) (same q b f) at) in
        ap (λ s. Some s) is ∙ sym (ap (option_map (λ s. owned_if (apex == s.apex) owner s)) at')
    go true e false f = sym (stays owner (side_at m a b))
    go false e y f = sym (stays owner (side_at m a b))

-- of the three tests the last is written last
by_three : (x y z : Bool) (owner old : ℕ) → cond z owner (cond y owner (cond x owner old)) ≡ cond (x || (z || y)) owner old
by_three true true true owner old = refl
by_three true true false owner old = refl
by_three true false true owner old = refl
by_three true false false owner old = refl
by_three false true true owner old = refl
by_three false true false owner old = refl
by_three false false true owner old = refl
by_three false false false owner old = refl

by_two : (x y : Bool) (owner old : ℕ) → cond y owner (cond x owner old) ≡ cond (x || y) owner old
by_two true true owner old = refl
by_two true false owner old = refl
by_two false true owner old = refl
by_two false false owner old = refl

-- the three tests in another order
and_round : (x y z : Bool) → (x && (y && z)) ≡ (y && (z && x))
and_round true true true = refl
and_round true true false = refl
and_round true false z = refl
and_round false true true = refl
and_round false true false = refl
and_round false false z = refl

and_swap : (x y z : Bool) → (x && (y && z)) ≡ (y && (x && z))
and_swap true true z = refl
and_swap true false z = refl
and_swap false true z = refl
and_swap false false z = refl

or_swap : (x y z : Bool) → (x || (y || z)) ≡ (x || (z || y))
or_swap true y z = refl
or_swap false true true = refl
or_swap false true false = refl
or_swap false false true = refl
or_swap false false false = refl

-- the three sides of a triangle are written
pub owned-round : (p q z owner a b : ℕ) (o : Option Side) → option_map (λ s. owned_if (z == a && (p == b && q == s.apex)) owner s) (option_map (λ s. owned_if (q == a && (z == b && p == s.apex)) owner s) (option_map (λ s. owned_if (p == a && (q == b && z == s.apex)) owner s) o)) ≡ option_map (λ s. owned_if (stand_round a b s.apex (three p q z)) owner s) o
owned-round p q z owner a b None = refl
owned-round p q z owner a b (Some s) = ap (λ w. Some record { apex = s.apex; owner = w }) (by_three (p == a && (q == b && z == s.apex)) (q == a && (z == b && p == s.apex)) (z == a && (p == b && q == s.apex)) owner s.owner ∙ (λ i. cond ((p == a && (q == b && z == s.apex)) || (and_round (z == a) (p == b) (q == s.apex) i || sym (and_round (p == s.apex) (q == a) (z == b)) i)) owner s.owner))

-- the sides of both directions are written
pub owned-both : (p q z owner a b : ℕ) (o : Option Side) → option_map (λ s. owned_if (stand_round a b s.apex (three q p z)) owner s) (option_map (λ s. owned_if (stand_round a b s.apex (three p q z)) owner s) o) ≡ option_map (λ s. owned_if (are_corners a b s.apex (three p q z)) owner s) o
owned-both p q z owner a b None = refl
owned-both p q z owner a b (Some s) = ap (λ w. Some record { apex = s.apex; owner = w }) (by_two (stand_round a b s.apex (three p q z)) (stand_round a b s.apex (three q p z)) owner s.owner ∙ ap (λ t. cond (stand_round a b s.apex (three p q z) || t) owner s.owner) swapped)
  where
    swapped : stand_round a b s.apex (three q p z) ≡ stand_round b a s.apex (three p q z)
    swapped = (λ i. and_swap (q == a) (p == b) (z == s.apex) i || (and_swap (q == b) (p == s.apex) (z == a) i || and_swap (q == s.apex) (p == a) (z == b) i)) ∙ or_swap (p == b && (q == a && z == s.apex)) (p == s.apex && (q == b && z == a)) (p == a && (q == s.apex && z == b))
