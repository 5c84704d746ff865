-- The names of edges at the node that goes in a contraction, and its neighbours that are new to the other end.
use Rattle.std.proofs.Common.{◌≡◌, ◌≢◌, ℕ, List, [], ◌∷◌, refl, sym, ◌∙◌, ap, subst, Bool, true, false, ◌⊎◌, inl, inr, ◌&&◌, ◌||◌, arith}
use Rattle.std.specs.Prelude.{Contains, map, not, nat_lt, ◌==◌, ℤ, pos, ◌+ℤ◌, ◌<ℤ◌}
use Rattle.std.proofs.lemmas.Int.{ints}
use Rattle.std.proofs.lemmas.Bool.Decides.{nat_tests}
use Rattle.pf_geom.proofs.Orientations.{orient_of-swapped}
use Rattle.pf_model.specs.declared.Site.{Site}
use Rattle.pf_model.specs.Rising.{AreDifferent, IsRising}
use Rattle.pf_model.specs.Mesh.{Undivided, tri_of, place_of, turn_at, is_edge}
use Rattle.pf_model.specs.Lengths.{Edge}
use Rattle.pf_model.specs.Conforming.{IsConforming}
use Rattle.pf_model.proofs.RisingLemmas.{IsStrictOrder, rising-head, rising-tail}
use Rattle.pf_model.proofs.Turns.{turn_at-turned}
use Rattle.pf_model.proofs.Totals.{Compares, map-means}
use Rattle.pf_model.proofs.FlipKeeps.{corners_of}
use Rattle.pf_cover_model.proofs.EdgeNames.{AreSame}
use Rattle.pf_cover_model.proofs.ContractCounts.{site_lt}
use Rattle.std.proofs.lemmas.Bool.{cases_eq}
use Rattle.pf_cover_model.proofs.EdgeNames.{not_both_values}

pub names-different : (ss : List Site) → IsRising site_lt ss → AreDifferent (map (λ s. s.name) ss)
names-different [] up = tt
names-different (s ∷ ss) up = (first, names-different ss (rising-tail site_lt s ss up))
  where
    below : (a b : ℕ) → nat_lt a b ≡ true → a ≢ b
    below a b h = grind (arith, nat_tests)

    first : (z : ℕ) → Contains (map (λ s. s.name) ss) z → s.name ≢ z
    first z h e = let r = map-means (λ s. s.name) ss z h in below s.name r.0.name (rising-head site_lt s r.0 ss up r.1) (e ∙ sym r.2)

pub nat_lt-order : IsStrictOrder nat_lt
nat_lt-order = record { irreflexive = λ x. grind (arith, nat_tests); transitive = λ x y z h k. grind (arith, nat_tests) }

pub nat_lt-compares : Compares nat_lt
nat_lt-compares a b n = grind (arith, nat_tests)

-- u is none of the edge's names
abbrev pub is_without : ℕ → Edge → Bool
is_without u z = not (z.lo == u || z.hi == u)

pub without-from : (u : ℕ) (z : Edge) → z.lo ≢ u → z.hi ≢ u → is_without u z ≡ true
without-from u z a b = test z.lo z.hi a b
  where
    test : (p q : ℕ) → p ≢ u → q ≢ u → not (p == u || q == u) ≡ true
    test p q a b = grind (arith, nat_tests)

pub without-means : (u : ℕ) (z : Edge) → is_without u z ≡ true → (z.lo ≢ u) × (z.hi ≢ u)
without-means u z h = test z.lo z.hi h
  where
    test : (p q : ℕ) → not (p == u || q == u) ≡ true → (p ≢ u) × (q ≢ u)
    test p q k = ((λ e. first p q k e), (λ e. second p q k e))
      where
        first : (p q : ℕ) → not (p == u || q == u) ≡ true → p ≡ u → ⊥
        first p q k e = grind (arith, nat_tests)

        second : (p q : ℕ) → not (p == u || q == u) ≡ true → q ≡ u → ⊥
        second p q k e = grind (arith, nat_tests)

pub touches : (u : ℕ) (z : Edge) → not (is_without u z) ≡ true → (z.lo ≡ u) ⊎ (z.hi ≡ u)
touches u z h = test z.lo z.hi h
  where
    test : (p q : ℕ) → not (not (p == u || q == u)) ≡ true → (p ≡ u) ⊎ (q ≡ u)
    test p q k = grind (arith, nat_tests)

pub touching : (u : ℕ) (z : Edge) → (z.lo ≡ u) ⊎ (z.hi ≡ u) → not (is_without u z) ≡ true
touching u z h = test z.lo z.hi h
  where
    test : (p q : ℕ) → (p ≡ u) ⊎ (q ≡ u) → not (not (p == u || q == u)) ≡ true
    test p q k = grind (arith, nat_tests)

-- an edge of one name that has two other names
pub no_name : (p q a b u : ℕ) → AreSame p q a b → a ≢ u → b ≢ u → (p ≢ u) × (q ≢ u)
no_name p q a b u s n k = ((λ e. first p q s e), (λ e. second p q s e))
  where
    first : (p q : ℕ) → AreSame p q a b → p ≡ u → ⊥
    first p q s e = let i = s.is in grind arith

    second : (p q : ℕ) → AreSame p q a b → q ≡ u → ⊥
    second p q s e = let i = s.is in grind arith

pub one_name : (p q a b : ℕ) → AreSame p q a b → (p ≡ a) ⊎ (q ≡ a)
one_name p q a b s = let i = s.is in grind arith

-- a neighbour that is new to v
abbrev pub is_new_to : Undivided → ℕ → ℕ → Bool
is_new_to m v x = not (x == v) && not (is_edge m.tris v x)

pub new_to-means : (m : Undivided) (v x : ℕ) → is_new_to m v x ≡ true → (x ≢ v) × (is_edge m.tris v x ≡ false)
new_to-means m v x h = go x (is_edge m.tris v x) h
  where
    go : (x : ℕ) (b : Bool) → (not (x == v) && not b) ≡ true → (x ≢ v) × (b ≡ false)
    go x b k = ((λ e. first x b k e), second x b k)
      where
        first : (x : ℕ) (b : Bool) → (not (x == v) && not b) ≡ true → x ≡ v → ⊥
        first x true k e = grind (arith, nat_tests)
        first x false k e = grind (arith, nat_tests)

        second : (x : ℕ) (b : Bool) → (not (x == v) && not b) ≡ true → b ≡ false
        second x true k = grind (arith, nat_tests)
        second x false k = refl

pub new_to-from : (m : Undivided) (v x : ℕ) → x ≢ v → is_edge m.tris v x ≡ false → is_new_to m v x ≡ true
new_to-from m v x n e = ap (λ b. not (x == v) && not b) e ∙ test x n
  where
    test : (x : ℕ) → x ≢ v → (not (x == v) && true) ≡ true
    test x n = grind (arith, nat_tests)

pub not_new_to : (m : Undivided) (v x : ℕ) → not (is_new_to m v x) ≡ true → (x ≡ v) ⊎ ((x ≢ v) × (is_edge m.tris v x ≡ true))
not_new_to m v x h = elim (cases_eq x v) [ inl e ↦ inl e | inr n ↦ inr (n, go n (is_edge m.tris v x) refl) ]
  where
    clash : (b : Bool) → not b ≡ true → b ≡ true → ⊥
    clash true h f = absurd (let w : false ≡ true = h in cc)
    clash false h f = absurd (let w : false ≡ true = f in cc)

    go : x ≢ v → (b : Bool) → is_edge m.tris v x ≡ b → b ≡ true
    go n true e = refl
    go n false e = absurd (clash (is_new_to m v x) h (new_to-from m v x n e))

pub known_to-v : (m : Undivided) (v x : ℕ) → (x ≡ v) ⊎ (is_edge m.tris v x ≡ true) → not (is_new_to m v x) ≡ true
known_to-v m v x h = go (is_new_to m v x) refl
  where
    go : (b : Bool) → is_new_to m v x ≡ b → not b ≡ true
    go false e = refl
    go true e = let r = new_to-means m v x e in absurd (elim h [ inl k ↦ r.0 k | inr k ↦ not_both_values (is_edge m.tris v x) k r.1 ])

-- two triangles at u on one edge turn against each other
pub not_turned : (m : Undivided) → IsConforming m → (u x y o o' : ℕ) → Contains m.tris (tri_of u x y o) → Contains m.tris (tri_of u y x o') → ⊥
not_turned m ok u x y o o' h k =
    let a = (corners_of m ok u x y o h).left in
    let b = (corners_of m ok u y x o' k).left in
    let b' = subst (λ w. pos 0 <ℤ w) (turn_at-turned m u y x ∙ turn_at-turned m y x u) b in
    against (turn_at m u x y) (turn_at m x u y) a b' (orient_of-swapped (place_of m u) (place_of m x) (place_of m y))
  where
    against : (i j : ℤ) → pos 0 <ℤ i → pos 0 <ℤ j → i +ℤ j ≡ pos 0 → ⊥
    against i j a b s = omega (arith, ints, a, b, s)
