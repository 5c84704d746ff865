-- What a star shows of an edge is what the mesh has, where the mesh is conforming.
use Rattle.std.proofs.Common.{◌≡◌, ℕ, ◌≤◌, List, [], ◌∷◌, ◌++◌, refl, sym, ◌∙◌, ap, subst, Bool, true, false, cond, ◌⊎◌, inl, inr, arith, ◌&&◌, ◌||◌}
use Rattle.std.proofs.lemmas.Bool.Decides.{nat_tests}
use Rattle.std.specs.Prelude.{Contains, ℤ, pos, ◌*ℤ◌, nat_lt, int_lt, int_le, find, Option, Some, None, is_some, min, max, not, ◌==◌}
use Rattle.std.specs.Option.{option_map}
use Rattle.std.proofs.Math.IntN.{+ℤ_comm}
use Rattle.pf_geom.specs.declared.Point.{Point}
use Rattle.pf_geom.specs.Plane.{len2_of}
use Rattle.pf_geom.proofs.Orientations.{len2_of-swapped}
use Rattle.pf_model.specs.declared.Band.{Band}
use Rattle.pf_model.specs.declared.Cond.{Cond}
use Rattle.pf_model.specs.declared.Cond.TheVariants.{OnBoundary, NotConvex, NotShorter}
use Rattle.pf_model.specs.declared.Side.{Side}
use Rattle.pf_model.specs.declared.Spoke.{Spoke}
use Rattle.pf_model.specs.Mesh.{Undivided, side_of, is_edge, len2_at, place_of, turn_at}
use Rattle.pf_model.specs.Lengths.{Edge, edge_of, holds_middle, band_of, is_long}
use Rattle.pf_model.specs.Conforming.{IsConforming}
use Rattle.pf_model.specs.Clauses.{when, first_of}
use Rattle.pf_model.specs.Conditions.{edge_clauses, flip_clauses}
use Rattle.pf_model.specs.Rows.{apex_or, flip_rows, there_row, is_positive}
use Rattle.pf_model.specs.Stars.{Star, star_of, spokes_of, is_neighbour}
use Rattle.pf_model.specs.Wishes.{owner_of, longer_on, either_of, acting_chunk, is_short, next_longer}
use Rattle.pf_star_model.specs.Lent.{side_to, side_from, sight_of}
use Rattle.pf_star_model.proofs.Shown.{IsSeen, IsStarOf, spokes-placed, star_parts, side_to-shown, side_from-shown, edge-shown}
use Rattle.pf_star_model.proofs.Sights.{IsAlike, min_or_max, longest_of-alike}
use Rattle.pf_star_model.proofs.Judging.{IsEdgeSeen, edge_seen, alike, first_of-front}
use Rattle.pf_rings.specs.Points.{first_from, first_to, left_side, right_side}
use Rattle.pf_wishes.specs.Looks.{left_shown, right_shown, acting_shown, place_by, place_shown, length_shown, band_shown, is_above, is_below, is_across_below, is_long_shown, is_short_shown, is_shorter_shown, longer_shown}
use Rattle.pf_wishes.proofs.Spokes.{left-by, right-by, near-by, first_to-means, first_from-means}
use Rattle.pf_wishes.specs.Laws.{LookIsOfMesh, NeighboursHaveEdges, NoShorterNoFlip}

-- the neighbours
pub neighbours_have_edges : NeighboursHaveEdges
neighbours_have_edges m n x s ok e = let p = star_parts m n s e in ap (is_neighbour x) p.spokes ∙ edge-shown m ok n x

-- the sides, by the lower and the higher name
sides_sorted : (m : Undivided) → IsConforming m → (n x : ℕ) (s : Star) → star_of m n ≡ Some s → (left_shown s x ≡ side_of m.tris (min n x) (max n x)) × (right_shown s x ≡ side_of m.tris (max n x) (min n x))
sides_sorted m ok n x s e = go (nat_lt n x) refl
  where
    p : IsStarOf m n s
    p = star_parts m n s e

    to : side_to x s.spokes ≡ side_of m.tris n x
    to = ap (side_to x) p.spokes ∙ side_to-shown m ok n x

    from : side_from x s.spokes ≡ side_of m.tris x n
    from = ap (side_from x) p.spokes ∙ side_from-shown m ok n x

    named : nat_lt s.node x ≡ nat_lt n x
    named = ap (λ k. nat_lt k x) p.node

    go : (b : Bool) → nat_lt n x ≡ b → (left_shown s x ≡ side_of m.tris (min n x) (max n x)) × (right_shown s x ≡ side_of m.tris (max n x) (min n x))
    go true h =
        let lo : min n x ≡ n = grind (arith, nat_tests) in
        let hi : max n x ≡ x = grind (arith, nat_tests) in (
          ap (λ b. cond b (side_to x s.spokes) (side_from x s.spokes)) (named ∙ h) ∙ (to ∙ λ i. side_of m.tris (sym lo i) (sym hi i)),
          ap (λ b. cond b (side_from x s.spokes) (side_to x s.spokes)) (named ∙ h) ∙ (from ∙ λ i. side_of m.tris (sym hi i) (sym lo i)),
        )
    go false h =
        let lo : min n x ≡ x = grind (arith, nat_tests) in
        let hi : max n x ≡ n = grind (arith, nat_tests) in (
          ap (λ b. cond b (side_to x s.spokes) (side_from x s.spokes)) (named ∙ h) ∙ (from ∙ λ i. side_of m.tris (sym lo i) (sym hi i)),
          ap (λ b. cond b (side_from x s.spokes) (side_to x s.spokes)) (named ∙ h) ∙ (to ∙ λ i. side_of m.tris (sym hi i) (sym lo i)),
        )

-- lengths beside a band
long_by : (m : Undivided) (a b : ℕ) → is_above (band_of m a b) (len2_at m a b) ≡ is_long m a b
long_by m a b = go (band_of m a b)
  where
    go : (o : Option Band) → is_above o (len2_at m a b) ≡ elim o [ None ↦ false | Some row ↦ int_lt row.max2 (len2_at m a b) ]
    go None = refl
    go (Some row) = refl

short_by : (m : Undivided) (a b : ℕ) → is_below (band_of m a b) (len2_at m a b) ≡ is_short m a b
short_by m a b = go (band_of m a b)
  where
    go : (o : Option Band) → is_below o (len2_at m a b) ≡ int_lt (len2_at m a b) (elim o [ None ↦ pos 0 | Some row ↦ row.min2 ])
    go None = refl
    go (Some row) = refl

-- what doesn't tell two names apart is the same by the lower and the higher one
by_order : {X : Type 0} (f : ℕ → ℕ → X) → ((p q : ℕ) → f p q ≡ f q p) → (n x : ℕ) → f n x ≡ f (min n x) (max n x)
by_order f swapped n x = go (order n x)
  where
    order : (a b : ℕ) → (a ≤ b) ⊎ (b ≤ a)
    order a b = grind arith

    go : (n ≤ x) ⊎ (x ≤ n) → f n x ≡ f (min n x) (max n x)
    go (inl l) =
        let lo : min n x ≡ n = omega arith in
        let hi : max n x ≡ x = omega arith in
        λ i. f (sym lo i) (sym hi i)
    go (inr l) =
        let lo : min n x ≡ x = omega arith in
        let hi : max n x ≡ n = omega arith in
        swapped n x ∙ λ i. f (sym lo i) (sym hi i)

len2_at-swapped : (m : Undivided) (p q : ℕ) → len2_at m p q ≡ len2_at m q p
len2_at-swapped m p q = len2_of-swapped (place_of m p) (place_of m q)

holds_middle-swapped : (p q : Point) → holds_middle p q ≡ holds_middle q p
holds_middle-swapped p q =
    let across = +ℤ_comm p.x q.x in
    let up = +ℤ_comm p.y q.y in
    λ i row. int_le (pos 2 *ℤ row.xlo) (across i) && (int_le (across i) (pos 2 *ℤ row.xhi) && (int_le (pos 2 *ℤ row.ylo) (up i) && int_le (up i) (pos 2 *ℤ row.yhi)))

band_of-swapped : (m : Undivided) (p q : ℕ) → band_of m p q ≡ band_of m q p
band_of-swapped m p q = ap (λ f. find f m.bands) (holds_middle-swapped (place_of m p) (place_of m q))

-- there are two apexes, and they are nearer to one another than a squared length says
abbrev is_diagonal_below : Undivided → Option Side → Option Side → ℤ → Bool
is_diagonal_below m a b z = (is_some a && is_some b) && int_lt (len2_at m (apex_or a) (apex_or b)) z

is_diagonal_below-swapped : (m : Undivided) (a b : Option Side) (z : ℤ) → is_diagonal_below m a b z ≡ is_diagonal_below m b a z
is_diagonal_below-swapped m None None z = refl
is_diagonal_below-swapped m None (Some b) z = refl
is_diagonal_below-swapped m (Some a) None z = refl
is_diagonal_below-swapped m (Some a) (Some b) z = ap (λ d. int_lt d z) (len2_at-swapped m a.apex b.apex)

-- spokes of a mesh say where the other end of their edge stands, and how far the apexes are apart
place_by-shown : (m : Undivided) (n x : ℕ) (ss : List Spoke) → ss ≡ spokes_of m n → (a b : Option Spoke) → first_to x ss ≡ a → first_from x ss ≡ b → (is_some a || is_some b) ≡ true → place_by a b ≡ place_of m x
place_by-shown m n x ss h (Some t) b e f near =
    let k = first_to-means x ss t e in
    (spokes-placed m n t (subst (λ l. Contains l t) h k.0)).right ∙ ap (place_of m) k.1
place_by-shown m n x ss h None (Some t) e f near =
    let k = first_from-means x ss t f in
    (spokes-placed m n t (subst (λ l. Contains l t) h k.0)).left ∙ ap (place_of m) k.1
place_by-shown m n x ss h None None e f near = absurd (let z : false ≡ true = near in cc)

across_by-shown : (m : Undivided) (n x : ℕ) (ss : List Spoke) → ss ≡ spokes_of m n → (a b : Option Spoke) → first_to x ss ≡ a → first_from x ss ≡ b → (z : ℤ) → is_across_below a b z ≡ is_diagonal_below m (option_map left_side a) (option_map right_side b) z
across_by-shown m n x ss h None b e f z = refl
across_by-shown m n x ss h (Some t) None e f z = refl
across_by-shown m n x ss h (Some t) (Some r) e f z =
    let left = (spokes-placed m n t (subst (λ l. Contains l t) h (first_to-means x ss t e).0)).left in
    let right = (spokes-placed m n r (subst (λ l. Contains l r) h (first_from-means x ss r f).0)).right in
    λ i. int_lt (len2_of (left i) (right i)) z

-- the longest edge of a triangle at the edge
longer_on-alike : (w m : Undivided) (e : Edge) (o : Option Side) → IsAlike w m e.lo → IsAlike w m e.hi → ((x : Side) → o ≡ Some x → IsAlike w m x.apex) → longer_on w e o ≡ longer_on m e o
longer_on-alike w m e None hp hq hs = refl
longer_on-alike w m e (Some s) hp hq hs = ap (λ f. cond (f.lo == e.lo && f.hi == e.hi) None (Some f)) (longest_of-alike w m e.lo e.hi s.apex hp hq (hs s refl))

-- what is known of an edge at a star
record Sees (m : Undivided) (n x : ℕ) (s : Star) : Type 0 where
  named : s.node ≡ n
  length : length_shown s x ≡ len2_at m (min n x) (max n x)
  band : band_shown m.bands s x ≡ band_of m (min n x) (max n x)
  across : is_shorter_shown s x ≡ is_diagonal_below m (side_of m.tris (min n x) (max n x)) (side_of m.tris (max n x) (min n x)) (len2_at m (min n x) (max n x))
  left : left_shown s x ≡ side_of m.tris (min n x) (max n x)
  right : right_shown s x ≡ side_of m.tris (max n x) (min n x)
  at_lo : (bands : List Band) → IsAlike (sight_of bands (Some s)) m (min n x)
  at_hi : (bands : List Band) → IsAlike (sight_of bands (Some s)) m (max n x)
  at_left : (bands : List Band) (k : Side) → side_of m.tris (min n x) (max n x) ≡ Some k → IsAlike (sight_of bands (Some s)) m k.apex
  at_right : (bands : List Band) (k : Side) → side_of m.tris (max n x) (min n x) ≡ Some k → IsAlike (sight_of bands (Some s)) m k.apex

sees : (m : Undivided) (n x : ℕ) (s : Star) → IsConforming m → star_of m n ≡ Some s → is_neighbour x s.spokes ≡ true → Sees m n x s
sees m n x s ok e h = record { named = p.node; length = length; band = band; across = across; left = sides.0; right = sides.1; at_lo = λ bands. (ends bands).0; at_hi = λ bands. (ends bands).1; at_left = λ bands. (apexes bands).0; at_right = λ bands. (apexes bands).1 }
  where
    p : IsStarOf m n s
    p = star_parts m n s e

    sides : (left_shown s x ≡ side_of m.tris (min n x) (max n x)) × (right_shown s x ≡ side_of m.tris (max n x) (min n x))
    sides = sides_sorted m ok n x s e

    place : place_shown s x ≡ place_of m x
    place = place_by-shown m n x s.spokes p.spokes (first_to x s.spokes) (first_from x s.spokes) refl refl (near-by x s.spokes ∙ h)

    length : length_shown s x ≡ len2_at m (min n x) (max n x)
    length = (λ i. len2_of (p.at i) (place i)) ∙ by_order (len2_at m) (len2_at-swapped m) n x

    band : band_shown m.bands s x ≡ band_of m (min n x) (max n x)
    band = (λ i. find (holds_middle (p.at i) (place i)) m.bands) ∙ by_order (band_of m) (band_of-swapped m) n x

    to : option_map left_side (first_to x s.spokes) ≡ side_of m.tris n x
    to = left-by x s.spokes ∙ (ap (side_to x) p.spokes ∙ side_to-shown m ok n x)

    from : option_map right_side (first_from x s.spokes) ≡ side_of m.tris x n
    from = right-by x s.spokes ∙ (ap (side_from x) p.spokes ∙ side_from-shown m ok n x)

    across : is_shorter_shown s x ≡ is_diagonal_below m (side_of m.tris (min n x) (max n x)) (side_of m.tris (max n x) (min n x)) (len2_at m (min n x) (max n x))
    across =
        let z = length_shown s x in
        across_by-shown m n x s.spokes p.spokes (first_to x s.spokes) (first_from x s.spokes) refl refl z
        ∙ ((λ i. is_diagonal_below m (to i) (from i) (length i))
        ∙ by_order (λ a b. is_diagonal_below m (side_of m.tris a b) (side_of m.tris b a) (len2_at m (min n x) (max n x))) (λ a b. is_diagonal_below-swapped m (side_of m.tris a b) (side_of m.tris b a) (len2_at m (min n x) (max n x))) n x)

    seen : IsEdgeSeen m n x
    seen = edge_seen m ok n x (sym (neighbours_have_edges m n x s ok e) ∙ h)

    placed : (bands : List Band) (k : ℕ) → IsSeen m n k → IsAlike (sight_of bands (Some s)) m k
    placed bands k i = subst (λ o. IsAlike (sight_of bands o) m k) e (alike m ok bands n p.live k i)

    ends : (bands : List Band) → IsAlike (sight_of bands (Some s)) m (min n x) × IsAlike (sight_of bands (Some s)) m (max n x)
    ends bands = min_or_max (λ k. IsAlike (sight_of bands (Some s)) m k) n x (placed bands n (inl refl)) (placed bands x seen.other)

    -- a side of the edge, whichever way the edge rises
    apexes : (bands : List Band) → ((k : Side) → side_of m.tris (min n x) (max n x) ≡ Some k → IsAlike (sight_of bands (Some s)) m k.apex) × ((k : Side) → side_of m.tris (max n x) (min n x) ≡ Some k → IsAlike (sight_of bands (Some s)) m k.apex)
    apexes bands = go (order n x)
      where
        order : (a b : ℕ) → (a ≤ b) ⊎ (b ≤ a)
        order a b = grind arith

        go : (n ≤ x) ⊎ (x ≤ n) → ((k : Side) → side_of m.tris (min n x) (max n x) ≡ Some k → IsAlike (sight_of bands (Some s)) m k.apex) × ((k : Side) → side_of m.tris (max n x) (min n x) ≡ Some k → IsAlike (sight_of bands (Some s)) m k.apex)
        go (inl l) =
            let lo : min n x ≡ n = omega arith in
            let hi : max n x ≡ x = omega arith in
            (λ k f. placed bands k.apex (seen.left k ((λ i. side_of m.tris (sym lo i) (sym hi i)) ∙ f)), λ k f. placed bands k.apex (seen.right k ((λ i. side_of m.tris (sym hi i) (sym lo i)) ∙ f)))
        go (inr l) =
            let lo : min n x ≡ x = omega arith in
            let hi : max n x ≡ n = omega arith in
            (λ k f. placed bands k.apex (seen.right k ((λ i. side_of m.tris (sym lo i) (sym hi i)) ∙ f)), λ k f. placed bands k.apex (seen.left k ((λ i. side_of m.tris (sym hi i) (sym lo i)) ∙ f)))

pub look_is_of_mesh : LookIsOfMesh
look_is_of_mesh m n x s ok e h = record { chunk = chunk; long = long; short = short; longer = longer }
  where
    k : Sees m n x s
    k = sees m n x s ok e h

    edge : edge_of s.node x ≡ edge_of n x
    edge = ap (λ a. edge_of a x) k.named

    chunk : acting_shown s x ≡ acting_chunk m (edge_of s.node x)
    chunk = (λ i. owner_of (k.left i) (k.right i)) ∙ ap (acting_chunk m) (sym edge)

    length : length_shown s x ≡ len2_at m (min s.node x) (max s.node x)
    length = k.length ∙ λ i. len2_at m (min (sym k.named i) x) (max (sym k.named i) x)

    band : band_shown m.bands s x ≡ band_of m (min s.node x) (max s.node x)
    band = k.band ∙ λ i. band_of m (min (sym k.named i) x) (max (sym k.named i) x)

    long : is_long_shown m.bands s x ≡ is_long m (min s.node x) (max s.node x)
    long = (λ i. is_above (band i) (length i)) ∙ long_by m (min s.node x) (max s.node x)

    short : is_short_shown m.bands s x ≡ is_short m (min s.node x) (max s.node x)
    short = (λ i. is_below (band i) (length i)) ∙ short_by m (min s.node x) (max s.node x)

    on_left : longer_on (sight_of [] (Some s)) (edge_of n x) (side_of m.tris (min n x) (max n x)) ≡ longer_on m (edge_of n x) (side_of m.tris (min n x) (max n x))
    on_left = longer_on-alike (sight_of [] (Some s)) m (edge_of n x) (side_of m.tris (min n x) (max n x)) (k.at_lo []) (k.at_hi []) (k.at_left [])

    on_right : longer_on (sight_of [] (Some s)) (edge_of n x) (side_of m.tris (max n x) (min n x)) ≡ longer_on m (edge_of n x) (side_of m.tris (max n x) (min n x))
    on_right = longer_on-alike (sight_of [] (Some s)) m (edge_of n x) (side_of m.tris (max n x) (min n x)) (k.at_lo []) (k.at_hi []) (k.at_right [])

    longer : longer_shown s x ≡ next_longer m (edge_of s.node x)
    longer =
        (λ i. either_of (longer_on (sight_of [] (Some s)) (edge i) (k.left i)) (longer_on (sight_of [] (Some s)) (edge i) (k.right i)))
        ∙ ((λ i. either_of (on_left i) (on_right i)) ∙ ap (next_longer m) (sym edge))

-- a flip that passes has two sides, and a shorter diagonal
passing_flip : (m : Undivided) (lo hi : ℕ) (l r : Option Side) → first_of (flip_rows m lo hi l r) ≡ None → is_diagonal_below m l r (len2_at m lo hi) ≡ true
passing_flip m lo hi None r h = absurd (let z : Some OnBoundary ≡ None = h in cc)
passing_flip m lo hi (Some l) None h = absurd (let z : Some OnBoundary ≡ None = h in cc)
passing_flip m lo hi (Some l) (Some r) h = go (is_positive (turn_at m lo r.apex l.apex) && is_positive (turn_at m hi l.apex r.apex)) (int_lt (len2_at m l.apex r.apex) (len2_at m lo hi)) h
  where
    go : (a b : Bool) → first_of (when (not a) NotConvex ∷ when (not b) NotShorter ∷ []) ≡ None → b ≡ true
    go a true k = refl
    go true false k = absurd (let z : Some NotShorter ≡ None = k in cc)
    go false false k = absurd (let z : Some NotConvex ≡ None = k in cc)

pub no_shorter_no_flip : NoShorterNoFlip
no_shorter_no_flip m n x chunk s ok e h f p = absurd (let z : false ≡ true = sym f ∙ (k.across ∙ shorter) in cc)
  where
    k : Sees m n x s
    k = sees m n x s ok e h

    l : Option Side
    l = side_of m.tris (min n x) (max n x)

    r : Option Side
    r = side_of m.tris (max n x) (min n x)

    sorted : (min (min n x) (max n x) ≡ min n x) × (max (min n x) (max n x) ≡ max n x)
    sorted = (omega arith, omega arith)

    rows : first_of (flip_clauses m (min n x) (max n x)) ≡ None
    rows = after (edge_clauses m chunk (min n x) (max n x)) (flip_clauses m (min n x) (max n x)) ((λ i. first_of (edge_clauses m chunk (min n x) (max n x) ++ flip_clauses m (sym sorted.0 i) (sym sorted.1 i))) ∙ p)
      where
        after : (es fs : List (Option Cond)) → first_of (es ++ fs) ≡ None → first_of fs ≡ None
        after [] fs q = q
        after (None ∷ es) fs q = after es fs q
        after (Some c ∷ es) fs q = absurd (let z : Some c ≡ None = q in cc)

    shorter : is_diagonal_below m l r (len2_at m (min n x) (max n x)) ≡ true
    shorter = passing_flip m (min n x) (max n x) l r (first_of-front (flip_rows m (min n x) (max n x) l r) (there_row l r (is_edge m.tris (apex_or l) (apex_or r)) ∷ []) rows)
