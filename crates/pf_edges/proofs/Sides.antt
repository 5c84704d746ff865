-- The sides of the edge table after an entry is put in or taken out, and the laws of its keys.
-- Assumes nothing.
use Rattle.std.proofs.Common.{◌≡◌, ℕ, refl, ap, Bool, true, false, cond, Option, Some, None, is_some, arith, ◌&&◌, ◌==◌}
use Rattle.std.specs.Cmp.{IsEquivalence}
use Rattle.std.proofs.lemmas.Bool.Decides.{nat_tests}
use Rattle.indexmap.specs.IndexMap.{Updates, get}
use Rattle.pf_edges.specs.declared.table.Edge.{Edge}
use Rattle.pf_model.specs.declared.Side.{Side}
use Rattle.pf_edges.specs.Table.{Sides, edge_eq, side_at}

-- the sides after one entry is changed
pub side_at-updates : (m n : Sides) (p q : ℕ) (w : Option Side) → Updates edge_eq m n record { from = p; to = q } w → (a b : ℕ) → side_at n a b ≡ cond (p == a && q == b) w (side_at m a b)
side_at-updates m n p q w u a b =
    u.0 record { from = a; to = b }

-- there is an entry where there is a side
pub is_some-side_at : (m : Sides) (p q : ℕ) → is_some (get edge_eq m record { from = p; to = q }) ≡ is_some (side_at m p q)
is_some-side_at m p q = go (get edge_eq m record { from = p; to = q })
  where
    go : (o : Option Side) → is_some o ≡ is_some (o)
    go None = refl
    go (Some x) = refl

same_name : (a b : ℕ) → (a == b) ≡ true → a ≡ b
same_name a b e = grind (arith, nat_tests)

pub same_ends : (p q a b : ℕ) → (p == a && q == b) ≡ true → (p ≡ a) × (q ≡ b)
same_ends p q a b h = go (p == a) (q == b) refl refl h
  where
    go : (x y : Bool) → (p == a) ≡ x → (q == b) ≡ y → (x && y) ≡ true → (p ≡ a) × (q ≡ b)
    go true true i j k = (same_name p a i, same_name q b j)
    go true false i j k = absurd (let z : false ≡ true = k in cc)
    go false y i j k = absurd (let z : false ≡ true = k in cc)

pub edge_exact : (e f : Edge) → edge_eq e f ≡ true → e ≡ f
edge_exact e f h = let s = same_ends e.from e.to f.from f.to h in λ i. record { from = s.0 i; to = s.1 i }

pub edge_itself : (e : Edge) → edge_eq e e ≡ true
edge_itself e = grind (arith, nat_tests)

pub edge_laws : IsEquivalence edge_eq
edge_laws = record { refl = edge_itself; symm = flips; congr = λ x y z h. ap (λ w. edge_eq w z) (edge_exact x y h) }
  where
    flip : (a b : ℕ) → (a == b) ≡ (b == a)
    flip a b = grind (arith, nat_tests)

    flips : (x y : Edge) → edge_eq x y ≡ edge_eq y x
    flips x y = λ i. flip x.from y.from i && flip x.to y.to i
