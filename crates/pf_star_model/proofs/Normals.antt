-- An operation as it is asked, and in its normal form.
use Rattle.std.proofs.Common.{◌≡◌, ℕ, Bool, true, false, cond, ◌||◌, List, [], ◌∷◌, ◌++◌, refl, subst, ◌⊎◌, inl, inr, arith}
use Rattle.std.specs.Prelude.{◌≤◌, Contains, Option, is_some, is_none, min, max, map, not, nat_lt, ◌==◌}
use Rattle.std.specs.Option.{option_map}
use Rattle.std.proofs.lemmas.Bool.Decides.{nat_tests}
use Rattle.std.proofs.lemmas.List.Elements.{Contains-append_cases, Contains-append_left, Contains-append_right}
use Rattle.pf_model.specs.declared.Side.{Side}
use Rattle.pf_model.specs.declared.Band.{Band}
use Rattle.pf_model.specs.declared.Tri.{Tri}
use Rattle.pf_model.specs.declared.Op.{Op}
use Rattle.pf_model.specs.declared.Op.TheVariants.{Flip, Bisect, Contract}
use Rattle.pf_model.specs.declared.Cond.{Cond}
use Rattle.pf_model.specs.declared.Cond.TheVariants.{NoEdge, Foreign}
use Rattle.pf_model.specs.Clauses.{when, first_of}
use Rattle.pf_model.specs.Ends.{normal_of}
use Rattle.pf_model.specs.Mesh.{Undivided, side_of, place_of}
use Rattle.pf_model.specs.Applied.{is_at_edge, flip_added, halves_of, new_site}
use Rattle.pf_model.specs.Stars.{Star, is_neighbour}
use Rattle.pf_model.specs.Rows.{edge_rows, flip_rows, there_row, bisect_rows, is_owned, apex_or}
use Rattle.pf_model.specs.Conditions.{edge_clauses, flip_clauses, bisect_clauses, first_failing}
use Rattle.pf_model.proofs.Members.{here, there, cases}
use Rattle.pf_model.proofs.RisingLemmas.{rising-same}
use Rattle.pf_star_model.specs.Lent.{Held, spokes_in, sight_of}
use Rattle.pf_star_model.specs.Judged.{left_seen, right_seen, judged, ends_failing}
use Rattle.pf_star_model.specs.Cavity.{apexes, cavity_of, cavity_seen}
use Rattle.pf_star_model.specs.Patched.{middle_seen, spokes_after, star_after, patched, risen, changed_by, patch_of}
use Rattle.pf_star_model.proofs.Names.{nat_lt-order, risen-rise, risen-means, risen-has}
use Rattle.pf_star_model.proofs.Patching.{star_with}

-- the lesser and the greater of two are the two, one way or the other
either_way : (a b : ℕ) (P : ℕ → ℕ → Type 0) → P a b → P b a → P (min a b) (max a b)
either_way a b P one two = go (order a b)
  where
    order : (x y : ℕ) → (x ≤ y) ⊎ (y ≤ x)
    order x y = grind arith

    go : (a ≤ b) ⊎ (b ≤ a) → P (min a b) (max a b)
    go (inl l) = let x : a ≡ min a b = omega arith in let y : b ≡ max a b = omega arith in subst (λ (k : ℕ). P (min a b) k) y (subst (λ (k : ℕ). P k b) x one)
    go (inr l) = let x : b ≡ min a b = omega arith in let y : a ≡ max a b = omega arith in subst (λ (k : ℕ). P (min a b) k) y (subst (λ (k : ℕ). P k a) x two)

min_same : (a b : ℕ) → min b a ≡ min a b
min_same a b = omega arith

max_same : (a b : ℕ) → max b a ≡ max a b
max_same a b = omega arith

or_same : (x y : Bool) → (y || x) ≡ (x || y)
or_same true true = refl
or_same true false = refl
or_same false true = refl
or_same false false = refl

test_same : (a b : ℕ) → (b == a) ≡ (a == b)
test_same a b = grind (arith, nat_tests)

-- on a mesh
edges_same : (m : Undivided) (chunk a b : ℕ) → edge_clauses m chunk b a ≡ edge_clauses m chunk a b
edges_same m chunk a b i =
    when (test_same a b i || not (or_same (is_some (side_of m.tris a b)) (is_some (side_of m.tris b a)) i)) NoEdge
    ∷ when (not (or_same (is_owned chunk (side_of m.tris a b)) (is_owned chunk (side_of m.tris b a)) i)) Foreign
    ∷ []

flip_same : (m : Undivided) (chunk a b : ℕ) → first_failing m chunk (Flip b a) ≡ first_failing m chunk (Flip a b)
flip_same m chunk a b i = first_of (edges_same m chunk a b i ++ flip_clauses m (min_same a b i) (max_same a b i))

bisect_same : (m : Undivided) (chunk a b : ℕ) → first_failing m chunk (Bisect b a) ≡ first_failing m chunk (Bisect a b)
bisect_same m chunk a b i = first_of (edges_same m chunk a b i ++ bisect_clauses m (min_same a b i) (max_same a b i))

normal_fails : (m : Undivided) (chunk : ℕ) (op : Op) → first_failing m chunk (normal_of op) ≡ first_failing m chunk op
normal_fails m chunk (Flip a b) = either_way a b (λ x y. first_failing m chunk (Flip x y) ≡ first_failing m chunk (Flip a b)) refl (flip_same m chunk a b)
normal_fails m chunk (Bisect a b) = either_way a b (λ x y. first_failing m chunk (Bisect x y) ≡ first_failing m chunk (Bisect a b)) refl (bisect_same m chunk a b)
normal_fails m chunk (Contract u v) = refl

-- from held stars
rows_same : (chunk a b : ℕ) (l r : Option Side) → edge_rows chunk b a l r ≡ edge_rows chunk a b l r
rows_same chunk a b l r i = when (test_same a b i || not (is_some l || is_some r)) NoEdge ∷ when (not (is_owned chunk l || is_owned chunk r)) Foreign ∷ []

abbrev flip_table : (ℕ → Option Star) → List Band → ℕ → ℕ → Option Side → Option Side → List (Option Cond)
flip_table lent bands lo hi l r = flip_rows (sight_of bands (lent lo)) lo hi l r ++ there_row l r (is_neighbour (apex_or r) (spokes_in (lent (apex_or l)))) ∷ []

flip_judged_same : (lent : ℕ → Option Star) (bands : List Band) (chunk a b : ℕ) → judged lent bands chunk (Flip b a) ≡ judged lent bands chunk (Flip a b)
flip_judged_same lent bands chunk a b i =
    first_of
    (rows_same chunk a b (left_seen lent (min_same a b i) (max_same a b i)) (right_seen lent (min_same a b i) (max_same a b i)) i
    ++ flip_table lent bands (min_same a b i) (max_same a b i) (left_seen lent (min_same a b i) (max_same a b i)) (right_seen lent (min_same a b i) (max_same a b i)))

bisect_judged_same : (lent : ℕ → Option Star) (bands : List Band) (chunk a b : ℕ) → judged lent bands chunk (Bisect b a) ≡ judged lent bands chunk (Bisect a b)
bisect_judged_same lent bands chunk a b i =
    first_of
    (rows_same chunk a b (left_seen lent (min_same a b i) (max_same a b i)) (right_seen lent (min_same a b i) (max_same a b i)) i
    ++ bisect_rows (sight_of bands (lent (min_same a b i))) (min_same a b i) (max_same a b i) (left_seen lent (min_same a b i) (max_same a b i)) (right_seen lent (min_same a b i) (max_same a b i)))

normal_judged : (lent : ℕ → Option Star) (bands : List Band) (chunk : ℕ) (op : Op) → judged lent bands chunk (normal_of op) ≡ judged lent bands chunk op
normal_judged lent bands chunk (Flip a b) = either_way a b (λ x y. judged lent bands chunk (Flip x y) ≡ judged lent bands chunk (Flip a b)) refl (flip_judged_same lent bands chunk a b)
normal_judged lent bands chunk (Bisect a b) = either_way a b (λ x y. judged lent bands chunk (Bisect x y) ≡ judged lent bands chunk (Bisect a b)) refl (bisect_judged_same lent bands chunk a b)
normal_judged lent bands chunk (Contract u v) = refl

pub normal_is_judged : (m : Undivided) (lent : ℕ → Option Star) (bands : List Band) (chunk : ℕ) (op : Op) → (first_failing m chunk (normal_of op) ≡ first_failing m chunk op) × (judged lent bands chunk (normal_of op) ≡ judged lent bands chunk op)
normal_is_judged m lent bands chunk op = (normal_fails m chunk op, normal_judged lent bands chunk op)

-- the cavity
ends_same : (m : Undivided) (chunk a b : ℕ) → ends_failing m chunk b a ≡ ends_failing m chunk a b
ends_same m chunk a b i =
    first_of
    (rows_same chunk a b (side_of m.tris (min_same a b i) (max_same a b i)) (side_of m.tris (max_same a b i) (min_same a b i)) i
    ++ flip_rows m (min_same a b i) (max_same a b i) (side_of m.tris (min_same a b i) (max_same a b i)) (side_of m.tris (max_same a b i) (min_same a b i)))

sides_same : (m : Undivided) (a b : ℕ) → (apexes (side_of m.tris (min b a) (max b a)) ++ apexes (side_of m.tris (max b a) (min b a))) ≡ (apexes (side_of m.tris (min a b) (max a b)) ++ apexes (side_of m.tris (max a b) (min a b)))
sides_same m a b i = apexes (side_of m.tris (min_same a b i) (max_same a b i)) ++ apexes (side_of m.tris (max_same a b i) (min_same a b i))

swapped : (n a b : ℕ) (l k : List ℕ) → l ≡ k → Contains (b ∷ a ∷ l) n → Contains (a ∷ b ∷ k) n
swapped n a b l k e h = elim (cases n b (a ∷ l) h) [
  | inl x ↦ there n a (b ∷ k) (subst (λ w. Contains (w ∷ k) n) x (here n k))
  | inr j ↦ elim (cases n a l j) [
    | inl x ↦ subst (λ w. Contains (w ∷ b ∷ k) n) x (here n (b ∷ k))
    | inr c ↦ there n a (b ∷ k) (there n b k (subst (λ (w : List ℕ). Contains w n) e c))
  ]
]

flip_cavity : (m : Undivided) (chunk a b n : ℕ) → Contains (cavity_of m chunk (Flip b a)) n → Contains (cavity_of m chunk (Flip a b)) n
flip_cavity m chunk a b n h = swapped n a b _ _ (λ i. cond (is_none (ends_same m chunk a b i)) (sides_same m a b i) []) h

bisect_cavity : (m : Undivided) (chunk a b n : ℕ) → Contains (cavity_of m chunk (Bisect b a)) n → Contains (cavity_of m chunk (Bisect a b)) n
bisect_cavity m chunk a b n h = swapped n a b _ _ (λ i. cond (is_none (bisect_same m chunk a b i)) (sides_same m a b i) []) h

pub normal_has_cavity : (m : Undivided) (chunk : ℕ) (op : Op) (n : ℕ) → (Contains (cavity_of m chunk (normal_of op)) n → Contains (cavity_of m chunk op) n) × (Contains (cavity_of m chunk op) n → Contains (cavity_of m chunk (normal_of op)) n)
normal_has_cavity m chunk (Flip a b) n =
    either_way a b (λ x y. (Contains (cavity_of m chunk (Flip x y)) n → Contains (cavity_of m chunk (Flip a b)) n) × (Contains (cavity_of m chunk (Flip a b)) n → Contains (cavity_of m chunk (Flip x y)) n))
    ((λ h. h), (λ h. h))
    (flip_cavity m chunk a b n, flip_cavity m chunk b a n)
normal_has_cavity m chunk (Bisect a b) n =
    either_way a b (λ x y. (Contains (cavity_of m chunk (Bisect x y)) n → Contains (cavity_of m chunk (Bisect a b)) n) × (Contains (cavity_of m chunk (Bisect a b)) n → Contains (cavity_of m chunk (Bisect x y)) n))
    ((λ h. h), (λ h. h))
    (bisect_cavity m chunk a b n, bisect_cavity m chunk b a n)
normal_has_cavity m chunk (Contract u v) n = ((λ h. h), (λ h. h))

-- patches
abbrev bisect_sight : (ℕ → Option Star) → ℕ → ℕ → ℕ → Undivided
bisect_sight lent new lo hi = (let sight = sight_of [] (lent lo) in record sight { sites = sight.sites ++ new_site new (middle_seen lent lo hi) })

abbrev bisect_adds : (ℕ → Option Star) → ℕ → ℕ → ℕ → List Tri
bisect_adds lent new lo hi = halves_of new lo hi (left_seen lent lo hi) ++ halves_of new hi lo (right_seen lent lo hi)

flip_patched_same : (lent : ℕ → Option Star) (new a b n : ℕ) → patched lent new (Flip b a) n ≡ patched lent new (Flip a b) n
flip_patched_same lent new a b n i =
    option_map
    (star_after (sight_of [] (lent (min_same a b i))) (is_at_edge (min_same a b i) (max_same a b i)) (flip_added (min_same a b i) (max_same a b i) (left_seen lent (min_same a b i) (max_same a b i)) (right_seen lent (min_same a b i) (max_same a b i))))
    (lent n)

bisect_patched_same : (lent : ℕ → Option Star) (new a b n : ℕ) → patched lent new (Bisect b a) n ≡ patched lent new (Bisect a b) n
bisect_patched_same lent new a b n i =
    cond (n == new)
    (star_with new (place_of (bisect_sight lent new (min_same a b i) (max_same a b i)) new) (spokes_after (bisect_sight lent new (min_same a b i) (max_same a b i)) (is_at_edge (min_same a b i) (max_same a b i)) (bisect_adds lent new (min_same a b i) (max_same a b i)) new []))
    (option_map (star_after (bisect_sight lent new (min_same a b i) (max_same a b i)) (is_at_edge (min_same a b i) (max_same a b i)) (bisect_adds lent new (min_same a b i) (max_same a b i))) (lent n))

pub normal_patched : (lent : ℕ → Option Star) (new : ℕ) (op : Op) (n : ℕ) → patched lent new (normal_of op) n ≡ patched lent new op n
normal_patched lent new (Flip a b) n = either_way a b (λ x y. patched lent new (Flip x y) n ≡ patched lent new (Flip a b) n) refl (flip_patched_same lent new a b n)
normal_patched lent new (Bisect a b) n = either_way a b (λ x y. patched lent new (Bisect x y) n ≡ patched lent new (Bisect a b) n) refl (bisect_patched_same lent new a b n)
normal_patched lent new (Contract u v) n = refl

-- the names that change, in rising order
risen_same : (xs ys : List ℕ) → ((z : ℕ) → Contains xs z → Contains ys z) → ((z : ℕ) → Contains ys z → Contains xs z) → risen xs ≡ risen ys
risen_same xs ys forth back = rising-same nat_lt nat_lt-order (risen xs) (risen ys) (risen-rise xs) (risen-rise ys) (λ z h. risen-has ys z (forth z (risen-means xs z h))) (λ z h. risen-has xs z (back z (risen-means ys z h)))

more_same : (xs ys zs : List ℕ) → ((z : ℕ) → Contains xs z → Contains ys z) → (z : ℕ) → Contains (xs ++ zs) z → Contains (ys ++ zs) z
more_same xs ys zs forth z h = elim (Contains-append_cases xs zs z h) [ inl a ↦ Contains-append_left ys zs z (forth z a) | inr a ↦ Contains-append_right ys zs z a ]

seen_same : (lent : ℕ → Option Star) (a b : ℕ) → (apexes (left_seen lent (min b a) (max b a)) ++ apexes (right_seen lent (min b a) (max b a))) ≡ (apexes (left_seen lent (min a b) (max a b)) ++ apexes (right_seen lent (min a b) (max a b)))
seen_same lent a b i = apexes (left_seen lent (min_same a b i) (max_same a b i)) ++ apexes (right_seen lent (min_same a b i) (max_same a b i))

flip_changed : (lent : ℕ → Option Star) (new a b : ℕ) → changed_by lent new (Flip b a) ≡ changed_by lent new (Flip a b)
flip_changed lent new a b =
    risen_same (cavity_seen lent (Flip b a) ++ []) (cavity_seen lent (Flip a b) ++ [])
    (more_same (cavity_seen lent (Flip b a)) (cavity_seen lent (Flip a b)) [] (λ z h. swapped z a b _ _ (seen_same lent a b) h))
    (more_same (cavity_seen lent (Flip a b)) (cavity_seen lent (Flip b a)) [] (λ z h. swapped z b a _ _ (seen_same lent b a) h))

bisect_changed : (lent : ℕ → Option Star) (new a b : ℕ) → changed_by lent new (Bisect b a) ≡ changed_by lent new (Bisect a b)
bisect_changed lent new a b =
    risen_same (cavity_seen lent (Bisect b a) ++ new ∷ []) (cavity_seen lent (Bisect a b) ++ new ∷ [])
    (more_same (cavity_seen lent (Bisect b a)) (cavity_seen lent (Bisect a b)) (new ∷ []) (λ z h. swapped z a b _ _ (seen_same lent a b) h))
    (more_same (cavity_seen lent (Bisect a b)) (cavity_seen lent (Bisect b a)) (new ∷ []) (λ z h. swapped z b a _ _ (seen_same lent b a) h))

normal_changed : (lent : ℕ → Option Star) (new : ℕ) (op : Op) → changed_by lent new (normal_of op) ≡ changed_by lent new op
normal_changed lent new (Flip a b) = either_way a b (λ x y. changed_by lent new (Flip x y) ≡ changed_by lent new (Flip a b)) refl (flip_changed lent new a b)
normal_changed lent new (Bisect a b) = either_way a b (λ x y. changed_by lent new (Bisect x y) ≡ changed_by lent new (Bisect a b)) refl (bisect_changed lent new a b)
normal_changed lent new (Contract u v) = refl

abbrev pairs_by : (ℕ → Option Star) → List ℕ → List Held
pairs_by f ns = map (λ n. record { node = n; star = f n }) ns

pub normal_is_patched : (lent : ℕ → Option Star) (new : ℕ) (op : Op) → ((n : ℕ) → patched lent new (normal_of op) n ≡ patched lent new op n) × (patch_of lent new (normal_of op) ≡ patch_of lent new op)
normal_is_patched lent new op = (normal_patched lent new op, λ i. pairs_by (λ n. normal_patched lent new op n i) (normal_changed lent new op i))
