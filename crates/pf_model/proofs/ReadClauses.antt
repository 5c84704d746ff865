-- Reading conditions: where no clause comes, each test was false. A flip, and a bisection, that passes, as one record each.
use Rattle.std.proofs.Common.{◌≡◌, ◌≢◌, ℕ, ◌≤◌, List, ◌∷◌, refl, subst, Bool, true, false, ◌⊎◌, inl, inr, arith, ◌&&◌, ◌||◌}
use Rattle.std.specs.Prelude.{ℤ, pos, ◌<ℤ◌, ◌*ℤ◌, int_lt, not, Option, Some, None, is_some, min, max, ◌==◌}
use Rattle.pf_model.specs.declared.Tri.{Tri}
use Rattle.pf_model.specs.declared.Cond.TheVariants.{NoEdge, Foreign, OnBoundary, NotConvex, NotShorter, EdgeThere, TooShort, OddMidpoint}
use Rattle.std.proofs.lemmas.Int.{ints}
use Rattle.std.proofs.lemmas.Bool.{eqb-false}
use Rattle.pf_model.specs.declared.Op.TheVariants.{Flip, Bisect}
use Rattle.pf_geom.specs.declared.Point.{Point}
use Rattle.pf_geom.specs.Plane.{middle_of}
use Rattle.pf_model.specs.declared.Side.{Side}
use Rattle.pf_model.specs.Mesh.{Undivided, is_edge, side_of, place_of, turn_at, len2_at}
use Rattle.pf_model.specs.Clauses.{when, first_of}
use Rattle.pf_model.specs.Conditions.{first_failing, is_positive, flip_clauses_at, is_owned, not_longest}
use Rattle.pf_model.specs.Lengths.{min2_of}

pub when-none : {X : Type 0} (b : Bool) (c : X) → when b c ≡ None → b ≡ false
when-none true c h = absurd (let e : Some c ≡ None = h in cc)
when-none false c h = refl

pub first_of-none : {X : Type 0} (c : Option X) (cs : List (Option X)) → first_of (c ∷ cs) ≡ None → (c ≡ None) × (first_of cs ≡ None)
first_of-none None cs h = (refl, h)
first_of-none (Some c) cs h = absurd (let e : Some c ≡ None = h in cc)

pub is_some-holds : {X : Type 0} (o : Option X) → is_some o ≡ true → (x : X) × (o ≡ Some x)
is_some-holds None h = absurd (let e : false ≡ true = h in cc)
is_some-holds (Some x) h = (x, refl)

pub is_some-none : {X : Type 0} (o : Option X) → is_some o ≡ false → o ≡ None
is_some-none None h = refl
is_some-none (Some x) h = absurd (let e : true ≡ false = h in cc)

pub not-false : (b : Bool) → not b ≡ false → b ≡ true
not-false true h = refl
not-false false h = absurd (let e : true ≡ false = h in cc)

pub and-true : (a b : Bool) → (a && b) ≡ true → (a ≡ true) × (b ≡ true)
and-true true b h = (refl, h)
and-true false b h = absurd (let e : false ≡ true = h in cc)

pub or-false : (a b : Bool) → (a || b) ≡ false → (a ≡ false) × (b ≡ false)
or-false true b h = absurd (let e : true ≡ false = h in cc)
or-false false b h = (refl, h)

pub int_lt-holds : (x y : ℤ) → int_lt x y ≡ true → x <ℤ y
int_lt-holds x y h = grind (arith, ints)

pub is_positive-holds : (z : ℤ) → is_positive z ≡ true → pos 0 <ℤ z
is_positive-holds z h = int_lt-holds (pos 0) z h

-- a flip of the edge lo, hi passes, whose left side is l and right side r
pub record FlipPasses (m : Undivided) (lo hi : ℕ) (l r : Side) : Type 0 where
  pub left : side_of m.tris lo hi ≡ Some l
  pub right : side_of m.tris hi lo ≡ Some r
  pub convex_lo : pos 0 <ℤ turn_at m lo r.apex l.apex
  pub convex_hi : pos 0 <ℤ turn_at m hi l.apex r.apex
  pub shorter : len2_at m l.apex r.apex <ℤ len2_at m lo hi
  pub no_edge : side_of m.tris l.apex r.apex ≡ None
  pub no_edge_back : side_of m.tris r.apex l.apex ≡ None

flip_passes_at : (m : Undivided) (lo hi : ℕ) (l r : Side) → side_of m.tris lo hi ≡ Some l → side_of m.tris hi lo ≡ Some r → first_of (flip_clauses_at m lo hi (Some l) (Some r)) ≡ None → FlipPasses m lo hi l r
flip_passes_at m lo hi l r el er h =
    let two = first_of-none (when (not (is_positive (turn_at m lo r.apex l.apex) && is_positive (turn_at m hi l.apex r.apex))) NotConvex) _ h in
    let three = first_of-none (when (not (int_lt (len2_at m l.apex r.apex) (len2_at m lo hi))) NotShorter) _ two.1 in
    let four = first_of-none (when (is_edge m.tris l.apex r.apex) (EdgeThere l.apex r.apex)) _ three.1 in
    let convex = and-true _ _ (not-false _ (when-none _ _ two.0)) in
    let apart = or-false _ _ (when-none _ _ four.0) in
    record {
      left = el;
      right = er;
      convex_lo = is_positive-holds _ convex.0;
      convex_hi = is_positive-holds _ convex.1;
      shorter = int_lt-holds _ _ (not-false _ (when-none _ _ three.0));
      no_edge = is_some-none _ apart.0;
      no_edge_back = is_some-none _ apart.1;
    }

-- the sides of a flip that passes
pub flip_passes : (m : Undivided) (chunk a b : ℕ) → first_failing m chunk (Flip a b) ≡ None → (a ≢ b) × ((l r : Side) × FlipPasses m (min a b) (max a b) l r)
flip_passes m chunk a b h =
    let lo = min a b in
    let hi = max a b in
    let one = first_of-none (when (a == b || not (is_edge m.tris a b)) NoEdge) _ h in
    let two = first_of-none (when (not (is_owned chunk (side_of m.tris a b) || is_owned chunk (side_of m.tris b a))) Foreign) _ one.1 in
    let differ = or-false (a == b) _ (when-none _ _ one.0) in
    let three = first_of-none (when (not (is_some (side_of m.tris lo hi) && is_some (side_of m.tris hi lo))) OnBoundary) _ two.1 in
    let both = and-true _ _ (not-false _ (when-none _ _ three.0)) in
    let l = is_some-holds _ both.0 in
    let r = is_some-holds _ both.1 in
    let t1 : first_of (flip_clauses_at m lo hi (Some l.0) (side_of m.tris hi lo)) ≡ None = subst (λ o. first_of (flip_clauses_at m lo hi o (side_of m.tris hi lo)) ≡ None) l.1 two.1 in
    let t2 : first_of (flip_clauses_at m lo hi (Some l.0) (Some r.0)) ≡ None = subst (λ o. first_of (flip_clauses_at m lo hi (Some l.0) o) ≡ None) r.1 t1 in
    (eqb-false a b differ.0, (l.0, r.0, flip_passes_at m lo hi l.0 r.0 l.1 r.1 t2))

-- a bisection of the edge a, b passes, whose middle is p. Its other conditions speak of lengths alone
pub record BisectPasses (m : Undivided) (lo hi : ℕ) (p : Point) : Type 0 where
  pub middle : middle_of (place_of m lo) (place_of m hi) ≡ Some p
  pub edge : is_edge m.tris lo hi ≡ true

is_edge-back : (ts : List Tri) (a b : ℕ) → is_edge ts a b ≡ true → is_edge ts b a ≡ true
is_edge-back ts a b h = or_back (is_some (side_of ts a b)) (is_some (side_of ts b a)) h
  where
    or_back : (x y : Bool) → (x || y) ≡ true → (y || x) ≡ true
    or_back true true e = refl
    or_back true false e = refl
    or_back false true e = refl
    or_back false false e = e

-- an edge by its lower and its higher name
pub is_edge-sorted : (ts : List Tri) (a b : ℕ) → is_edge ts a b ≡ true → is_edge ts (min a b) (max a b) ≡ true
is_edge-sorted ts a b h = go (dec_le a b)
  where
    dec_le : (x y : ℕ) → (x ≤ y) ⊎ (y ≤ x)
    dec_le x y = grind arith

    go : (a ≤ b) ⊎ (b ≤ a) → is_edge ts (min a b) (max a b) ≡ true
    go (inl l) = let e : min a b ≡ a = omega arith in let f : max a b ≡ b = omega arith in rw (e, f) h
    go (inr l) = let e : min a b ≡ b = omega arith in let f : max a b ≡ a = omega arith in rw (e, f) (is_edge-back ts a b h)

pub bisect_passes : (m : Undivided) (chunk a b : ℕ) → first_failing m chunk (Bisect a b) ≡ None → (p : Point) × BisectPasses m (min a b) (max a b) p
bisect_passes m chunk a b h =
    let lo = min a b in
    let hi = max a b in
    let one = first_of-none (when (a == b || not (is_edge m.tris a b)) NoEdge) _ h in
    let two = first_of-none (when (not (is_owned chunk (side_of m.tris a b) || is_owned chunk (side_of m.tris b a))) Foreign) _ one.1 in
    let differ = or-false (a == b) _ (when-none _ _ one.0) in
    let edge = is_edge-sorted m.tris a b (not-false _ differ.1) in
    let three = first_of-none (when (int_lt (len2_at m lo hi) (pos 4 *ℤ min2_of m lo hi)) (TooShort lo hi)) _ two.1 in
    let four = first_of-none (not_longest m lo hi (side_of m.tris lo hi)) _ three.1 in
    let five = first_of-none (not_longest m hi lo (side_of m.tris hi lo)) _ four.1 in
    let six = first_of-none (when (not (is_some (middle_of (place_of m lo) (place_of m hi)))) OddMidpoint) _ five.1 in
    let p = is_some-holds _ (not-false _ (when-none _ _ six.0)) in
    (p.0, record { middle = p.1; edge = edge })
