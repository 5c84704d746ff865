-- Edges by their two names, in either order, and the triangles at them.
use Rattle.std.proofs.Common.{◌≡◌, ◌≢◌, ℕ, ◌<◌, ◌≤◌, List, refl, sym, ◌∙◌, ap, subst, Bool, true, false, ◌⊎◌, inl, inr, arith, ◌||◌}
use Rattle.std.specs.Prelude.{Contains, Option, Some, None, is_some, min, max}
use Rattle.pf_model.specs.declared.Tri.{Tri}
use Rattle.pf_model.specs.declared.Side.{Side}
use Rattle.pf_model.specs.Mesh.{tri_of, has_edge, side_of, is_edge}
use Rattle.pf_model.specs.Lengths.{Edge, edge_of}
use Rattle.pf_model.specs.Applied.{is_at_edge}
use Rattle.pf_model.proofs.Triangles.{IsEdge, tri_of-edges, tri_of-edge_one, tri_of-edge_two, tri_of-edge_three, side_of-some, side_of-none}
use Rattle.pf_model.proofs.ReadClauses.{is_some-holds}
use Rattle.std.proofs.lemmas.Bool.{or_cases}

pub not_both_values : (b : Bool) → b ≡ true → b ≡ false → ⊥
not_both_values b e f = absurd (let k : true ≡ false = sym e ∙ f in cc)

-- p, q are a, b in one order or the other
pub record AreSame (p q a b : ℕ) : Type 0 where
  pub is : ((a ≡ p) × (b ≡ q)) ⊎ ((a ≡ q) × (b ≡ p))

pub same-itself : (p q : ℕ) → AreSame p q p q
same-itself p q = record { is = inl (refl, refl) }

pub same-turned : {p q a b : ℕ} → AreSame p q a b → AreSame p q b a
same-turned h = record { is = elim h.is [ inl x ↦ inr (x.1, x.0) | inr x ↦ inl (x.1, x.0) ] }

pub same-back : {p q a b : ℕ} → AreSame p q a b → AreSame a b p q
same-back h = record { is = elim h.is [ inl x ↦ inl (sym x.0, sym x.1) | inr x ↦ inr (sym x.1, sym x.0) ] }

-- p, q are two corners of the triangle a, b, c
pub record AreSides (p q a b c : ℕ) : Type 0 where
  pub is : AreSame p q a b ⊎ (AreSame p q b c ⊎ AreSame p q c a)

or-first : (a b : Bool) → a ≡ true → (a || b) ≡ true
or-first a b e = ap (λ x. x || b) e

or-second : (a b : Bool) → b ≡ true → (a || b) ≡ true
or-second true b e = refl
or-second false b e = e

pub at_edge-first : (p q : ℕ) (t : Tri) → has_edge p q t ≡ true → is_at_edge p q t ≡ true
at_edge-first p q t h = or-first (has_edge p q t) (has_edge q p t) h

pub at_edge-second : (p q : ℕ) (t : Tri) → has_edge q p t ≡ true → is_at_edge p q t ≡ true
at_edge-second p q t h = or-second (has_edge p q t) (has_edge q p t) h

pub at_edge-cases : (p q : ℕ) (t : Tri) → is_at_edge p q t ≡ true → (has_edge p q t ≡ true) ⊎ (has_edge q p t ≡ true)
at_edge-cases p q t h = or_cases (has_edge p q t) (has_edge q p t) h

pub at_edge-sides : (p q a b c o : ℕ) → is_at_edge p q (tri_of a b c o) ≡ true → AreSides p q a b c
at_edge-sides p q a b c o h = elim (at_edge-cases p q (tri_of a b c o) h) [ inl x ↦ one (tri_of-edges p q a b c o x) | inr x ↦ two (tri_of-edges q p a b c o x) ]
  where
    one : IsEdge p q a b c → AreSides p q a b c
    one e = record { is = elim e.is [ inl x ↦ inl record { is = inl x } | inr y ↦ elim y [ inl x ↦ inr (inl record { is = inl x }) | inr x ↦ inr (inr record { is = inl x }) ] ] }

    two : IsEdge q p a b c → AreSides p q a b c
    two e = record { is = elim e.is [ inl x ↦ inl record { is = inr x } | inr y ↦ elim y [ inl x ↦ inr (inl record { is = inr x }) | inr x ↦ inr (inr record { is = inr x }) ] ] }

-- a test of an edge, by the same names
pub at_edge-same : (p q a b : ℕ) (t : Tri) → AreSame p q a b → is_at_edge a b t ≡ true → is_at_edge p q t ≡ true
at_edge-same p q a b t s h = elim s.is [
  | inl x ↦ subst (λ w. is_at_edge p w t ≡ true) x.1 (subst (λ w. is_at_edge w b t ≡ true) x.0 h)
  | inr x ↦ elim (at_edge-cases a b t h) [
    | inl y ↦ at_edge-second p q t (subst (λ w. has_edge q w t ≡ true) x.1 (subst (λ w. has_edge w b t ≡ true) x.0 y))
    | inr y ↦ at_edge-first p q t (subst (λ w. has_edge p w t ≡ true) x.0 (subst (λ w. has_edge w a t ≡ true) x.1 y))
  ]
]

pub at_edge-from : (p q a b c o : ℕ) → AreSides p q a b c → is_at_edge p q (tri_of a b c o) ≡ true
at_edge-from p q a b c o h = elim h.is [
  | inl x ↦ at_edge-same p q a b (tri_of a b c o) x (at_edge-first a b (tri_of a b c o) (tri_of-edge_one a b c o))
  | inr y ↦ elim y [
    | inl x ↦ at_edge-same p q b c (tri_of a b c o) x (at_edge-first b c (tri_of a b c o) (tri_of-edge_two a b c o))
    | inr x ↦ at_edge-same p q c a (tri_of a b c o) x (at_edge-first c a (tri_of a b c o) (tri_of-edge_three a b c o))
  ]
]

-- an edge of the mesh is one of a triangle
pub is_edge-means : (ts : List Tri) (p q : ℕ) → is_edge ts p q ≡ true → (t : Tri) × Contains ts t × (is_at_edge p q t ≡ true)
is_edge-means ts p q h = elim (or_cases (is_some (side_of ts p q)) (is_some (side_of ts q p)) h) [
  | inl x ↦ (let s = is_some-holds _ x in let r = side_of-some ts p q s.0 s.1 in (r.0, r.1, at_edge-first p q r.0 r.2))
  | inr x ↦ (let s = is_some-holds _ x in let r = side_of-some ts q p s.0 s.1 in (r.0, r.1, at_edge-second p q r.0 r.2))
]

some_side : (ts : List Tri) (p q : ℕ) (t : Tri) → Contains ts t → has_edge p q t ≡ true → is_some (side_of ts p q) ≡ true
some_side ts p q t h k = go (side_of ts p q) refl
  where
    go : (o : Option Side) → side_of ts p q ≡ o → is_some o ≡ true
    go None e = absurd (let n = side_of-none ts p q e t h in let z : true ≡ false = sym k ∙ n in cc)
    go (Some s) e = refl

pub is_edge-from : (ts : List Tri) (p q : ℕ) (t : Tri) → Contains ts t → is_at_edge p q t ≡ true → is_edge ts p q ≡ true
is_edge-from ts p q t h k = elim (at_edge-cases p q t k) [
  | inl x ↦ or-first (is_some (side_of ts p q)) (is_some (side_of ts q p)) (some_side ts p q t h x)
  | inr x ↦ or-second (is_some (side_of ts p q)) (is_some (side_of ts q p)) (some_side ts q p t h x)
]

-- an edge by its names
pub edge-same : (e f : Edge) → e.lo ≡ f.lo → e.hi ≡ f.hi → e ≡ f
edge-same e f p q = λ i. record { lo = p i; hi = q i }

pub edge_of-ends : (a b : ℕ) → AreSame (edge_of a b).lo (edge_of a b).hi a b
edge_of-ends a b = go (dec_le a b)
  where
    dec_le : (x y : ℕ) → (x ≤ y) ⊎ (y ≤ x)
    dec_le x y = grind arith

    go : (a ≤ b) ⊎ (b ≤ a) → AreSame (min a b) (max a b) a b
    go (inl l) = let e : a ≡ min a b = omega arith in let f : b ≡ max a b = omega arith in record { is = inl (e, f) }
    go (inr l) = let e : b ≡ min a b = omega arith in let f : a ≡ max a b = omega arith in record { is = inr (f, e) }

pub edge_of-rises : (a b : ℕ) → a ≢ b → (edge_of a b).lo < (edge_of a b).hi
edge_of-rises a b n = go (dec a b)
  where
    dec : (x y : ℕ) → (x ≡ y) ⊎ ((x < y) ⊎ (y < x))
    dec x y = grind arith

    go : (a ≡ b) ⊎ ((a < b) ⊎ (b < a)) → min a b < max a b
    go (inl e) = absurd (n e)
    go (inr (inl l)) = omega arith
    go (inr (inr l)) = omega arith

-- an edge whose names rise is the edge of these names
pub edge_of-is : (z : Edge) (a b : ℕ) → z.lo < z.hi → AreSame z.lo z.hi a b → z ≡ edge_of a b
edge_of-is z a b l s = elim s.is [
  | inl x ↦ (let e = x.0 in let f = x.1 in edge-same z (edge_of a b) (first z.lo z.hi a b l e f) (second z.lo z.hi a b l e f))
  | inr x ↦ (let e = x.0 in let f = x.1 in edge-same z (edge_of a b) (first' z.lo z.hi a b l e f) (second' z.lo z.hi a b l e f))
]
  where
    first : (x y a b : ℕ) → x < y → a ≡ x → b ≡ y → x ≡ min a b
    first x y a b l e f = omega arith

    second : (x y a b : ℕ) → x < y → a ≡ x → b ≡ y → y ≡ max a b
    second x y a b l e f = omega arith

    first' : (x y a b : ℕ) → x < y → a ≡ y → b ≡ x → x ≡ min a b
    first' x y a b l e f = omega arith

    second' : (x y a b : ℕ) → x < y → a ≡ y → b ≡ x → y ≡ max a b
    second' x y a b l e f = omega arith
