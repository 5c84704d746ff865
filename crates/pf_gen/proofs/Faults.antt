-- A grid's lists have no fault.
use Rattle.std.proofs.Common.{◌≡◌, ◌∙◌, ℕ, zero, suc, ◌+◌, ◌*◌, ◌/◌, ◌%◌, ◌<◌, List, [], ◌∷◌, ◌++◌, Bool, true, false, cond, not, nat_lt, Option, Some, None, Ok, Err, ◌⊎◌, inl, inr, is_some, length, map, flat_map, pos, int_lt, slice_index_or, Result, sym, ap, subst, refl, arith, lt-ltb}
use Rattle.std.specs.Ordering.{int_eq}
use Rattle.std.proofs.lemmas.Nat.{mul-add-lt}
use Rattle.std.specs.List.{Contains, find, range_with_len}
use Rattle.pf_geom.specs.declared.Point.{Point}
use Rattle.pf_model.specs.declared.Tri.{Tri}
use Rattle.pf_model.specs.declared.BuildErr.{BuildErr}
use Rattle.pf_model.specs.declared.BuildErr.TheVariants.{BadNode, Flat, EdgeTwice}
use Rattle.pf_model.specs.Clauses.{when, when_some, first_of}
use Rattle.pf_model.specs.Mesh.{Undivided, DirectedEdge, tri_of, has_edge, side_of, directed_edges_in}
use Rattle.pf_model.specs.Build.{listed_turn, turned_left, build_clauses, first_fault, mesh_with}
use Rattle.pf_model.proofs.Triangles.{tri_of-edges, side_of-some}
use Rattle.pf_model.proofs.EdgeSum.{directed_edges_in-means}
use Rattle.pf_gen.specs.Grid.{grid_points, grid_triangles, corner_of, halves, lower_half, upper_half}
use Rattle.pf_gen.specs.Laws.{GridIsBuilt}
use Rattle.pf_gen.proofs.Corners.{grid-length, spot_at, row_below, column_below, corner_rises, lower_turns, upper_turns}
use Rattle.pf_gen.proofs.EdgesApart.{lowers, uppers, lower_upper}

-- the two triangles at a corner
abbrev lower : ℕ → ℕ → Tri
lower n p = tri_of p (p + 1) (p + (n + 2)) 0

abbrev upper : ℕ → ℕ → Tri
upper n p = tri_of p (p + (n + 2)) (p + (n + 1)) 0

-- a triangle of a corner before p
record IsBefore (n p : ℕ) (t : Tri) : Type 0 where
  q : ℕ
  less : q < p
  is : (t ≡ lower n q) ⊎ (t ≡ upper n q)

-- the triangle has no edge with those before it
abbrev IsApart : List Tri → Tri → Type 0
IsApart earlier t = (s : Tri) → Contains earlier s → (x y : ℕ) → has_edge x y t ≡ true → has_edge x y s ≡ true → ⊥

edge_is_new : (earlier : List Tri) (x y : ℕ) → ((s : Tri) → Contains earlier s → has_edge x y s ≡ true → ⊥) → is_some (side_of earlier x y) ≡ false
edge_is_new earlier x y apart =
    elim (side_of earlier x y) as (λ r. side_of earlier x y ≡ r → is_some r ≡ false) [
      | None ↦ λ e. refl
      | Some s ↦ λ e. let w = side_of-some earlier x y s e in absurd (apart w.0 w.1 w.2)
    ] refl

-- a first among three that no test passes
none_of_three : {X : Type 0} (p : X → Bool) (a b c : X) → p a ≡ false → p b ≡ false → p c ≡ false → find p (a ∷ b ∷ c ∷ []) ≡ None
none_of_three p a b c f g h = rw (f, g, h) refl

edges_are_new : (earlier : List Tri) (t : Tri) → IsApart earlier t → find (λ (e : DirectedEdge). is_some (side_of earlier e.from e.to)) (directed_edges_in t) ≡ None
edges_are_new earlier t apart =
    let new : (e : DirectedEdge) → Contains (directed_edges_in t) e → is_some (side_of earlier e.from e.to) ≡ false = λ e h. edge_is_new earlier e.from e.to (λ s there k. apart s there e.from e.to (directed_edges_in-means e t h) k) in
    none_of_three (λ (e : DirectedEdge). is_some (side_of earlier e.from e.to)) record { from = t.a; to = t.b } record { from = t.b; to = t.c } record { from = t.c; to = t.a }
    (new record { from = t.a; to = t.b } (0, omega arith, refl)) (new record { from = t.b; to = t.c } (1, omega arith, refl)) (new record { from = t.c; to = t.a } (2, omega arith, refl))

lower_apart : (n p : ℕ) (earlier : List Tri) → 0 < n → ((s : Tri) → Contains earlier s → IsBefore n p s) → IsApart earlier (lower n p)
lower_apart n p earlier some before s there x y h k =
    let b = before s there in
    let e = tri_of-edges x y p (p + 1) (p + (n + 2)) 0 h in
    elim b.is [
      | inl is ↦ lowers n p b.q x y some b.less e (tri_of-edges x y b.q (b.q + 1) (b.q + (n + 2)) 0 (subst (λ t. has_edge x y t ≡ true) is k))
      | inr is ↦ lower_upper n p b.q x y some e (tri_of-edges x y b.q (b.q + (n + 2)) (b.q + (n + 1)) 0 (subst (λ t. has_edge x y t ≡ true) is k))
    ]

-- the cases of an element of a list
cases : {X : Type 0} (x d : X) (xs : List X) → Contains (d ∷ xs) x → (x ≡ d) ⊎ Contains xs x
cases x d xs h = go h.0 h.1 h.2
  where
    go : (k : ℕ) → k < length (d ∷ xs) → slice_index_or (d ∷ xs) k x ≡ x → (x ≡ d) ⊎ Contains xs x
    go zero below is = inl (sym is)
    go (suc k) below is = inr (k, omega arith, is)

upper_apart : (n p : ℕ) (earlier : List Tri) → 0 < n → ((s : Tri) → Contains earlier s → IsBefore n p s) → IsApart (lower n p ∷ earlier) (upper n p)
upper_apart n p earlier some before s there x y h k =
    let e = tri_of-edges x y p (p + (n + 2)) (p + (n + 1)) 0 h in
    elim (cases s (lower n p) earlier there) [
      | inl is ↦ lower_upper n p p x y some (tri_of-edges x y p (p + 1) (p + (n + 2)) 0 (subst (λ t. has_edge x y t ≡ true) is k)) e
      | inr old ↦
          let b = before s old in
          elim b.is [
            | inl is ↦ lower_upper n b.q p x y some (tri_of-edges x y b.q (b.q + 1) (b.q + (n + 2)) 0 (subst (λ t. has_edge x y t ≡ true) is k)) e
            | inr is ↦ uppers n p b.q x y some b.less e (tri_of-edges x y b.q (b.q + (n + 2)) (b.q + (n + 1)) 0 (subst (λ t. has_edge x y t ≡ true) is k))
          ]
    ]

-- three clauses that do not come
passed_by : {X : Type 0} (a b c r : Option X) → a ≡ None → b ≡ None → c ≡ None → first_of (a ∷ b ∷ c ∷ r ∷ []) ≡ r
passed_by a b c r f g h = rw (f, g, h) (elim r as (λ o. first_of (o ∷ []) ≡ o) [ None ↦ refl | Some x ↦ refl ])

turned_is : (points : List Point) (a b c : ℕ) → listed_turn points (a ∷ b ∷ c ∷ []) ≡ pos 4096 → turned_left points (a ∷ b ∷ c ∷ []) ≡ tri_of a b c 0
turned_is points a b c turn = ap (λ z. cond (int_lt (pos 0) z) (tri_of a b c 0) (tri_of a c b 0)) turn

below : (a n : ℕ) → a < n → not (nat_lt a n) ≡ false
below a n h = ap not (lt-ltb a n h)

-- a triangle of three numbers in range, that turns left and has no edge with those before it, has no fault
no_fault : (points : List Point) (earlier : List Tri) (k a b c : ℕ) (rest : Option BuildErr)
    → a < length points → b < length points → c < length points
    → listed_turn points (a ∷ b ∷ c ∷ []) ≡ pos 4096
    → IsApart earlier (tri_of a b c 0)
    → first_of (build_clauses points earlier k (a ∷ b ∷ c ∷ []) ++ rest ∷ []) ≡ rest
no_fault points earlier k a b c rest ha hb hc turn apart =
    passed_by
    (when_some (find (λ n. not (nat_lt n (length points))) (a ∷ b ∷ c ∷ [])) (λ n. BadNode k n))
    (when (int_eq (listed_turn points (a ∷ b ∷ c ∷ [])) (pos 0)) (Flat k))
    (when_some (find (λ (e : DirectedEdge). is_some (side_of earlier e.from e.to)) (directed_edges_in (turned_left points (a ∷ b ∷ c ∷ [])))) (λ e. EdgeTwice e.from e.to))
    rest
    (ap (λ o. when_some o (λ n. BadNode k n)) (none_of_three (λ n. not (nat_lt n (length points))) a b c (below a _ ha) (below b _ hb) (below c _ hc)))
    (ap (λ z. when (int_eq z (pos 0)) (Flat k)) turn)
    (ap (λ t. when_some (find (λ (e : DirectedEdge). is_some (side_of earlier e.from e.to)) (directed_edges_in t)) (λ e. EdgeTwice e.from e.to)) (turned_is points a b c turn)
    ∙ ap (λ o. when_some o (λ (e : DirectedEdge). EdgeTwice e.from e.to)) (edges_are_new earlier (tri_of a b c 0) apart))

-- both halves of a cell have no fault, where those before it are of corners before its own
no_fault_in : (n cell k : ℕ) (earlier : List Tri) (rest : List (List ℕ)) → 0 < n → cell < n * n → ((s : Tri) → Contains earlier s → IsBefore n (corner_of n cell) s)
    → first_fault (grid_points n) earlier k (lower_half n (corner_of n cell) ∷ upper_half n (corner_of n cell) ∷ rest)
    ≡ first_fault (grid_points n) (upper n (corner_of n cell) ∷ lower n (corner_of n cell) ∷ earlier) (suc (suc k)) rest
no_fault_in n cell k earlier rest some inside before =
    let p : ℕ = corner_of n cell in
    let b : ℕ = cell / n in
    let a : ℕ = cell % n in
    let points : List Point = grid_points n in
    let hb : b < n = row_below n cell some inside in
    let ha : a < n = column_below n cell some in
    let size = grid-length n in
    let highest : p + (n + 2) < length points = let m = mul-add-lt (b + 1) (n + 1) (a + 1) (n + 1) (omega arith) (omega arith) in omega (arith, m, size) in
    let near = spot_at n a b (omega arith) (omega arith) p refl in
    let right = spot_at n (a + 1) b (omega arith) (omega arith) (p + 1) (omega arith) in
    let far = spot_at n (a + 1) (b + 1) (omega arith) (omega arith) (p + (n + 2)) (omega arith) in
    let above = spot_at n a (b + 1) (omega arith) (omega arith) (p + (n + 1)) (omega arith) in
    let low : listed_turn points (lower_half n p) ≡ pos 4096 = rw (near, right, far) (lower_turns a b) in
    let high : listed_turn points (upper_half n p) ≡ pos 4096 = rw (near, far, above) (upper_turns a b) in
    no_fault points earlier k p (p + 1) (p + (n + 2)) _ (omega arith) (omega arith) highest low (lower_apart n p earlier some before)
    ∙ ap (λ t. first_fault points (t ∷ earlier) (suc k) (upper_half n p ∷ rest)) (turned_is points p (p + 1) (p + (n + 2)) low)
    ∙ no_fault points (lower n p ∷ earlier) (suc k) p (p + (n + 2)) (p + (n + 1)) _ (omega arith) highest (omega arith) high (upper_apart n p earlier some before)
    ∙ ap (λ t. first_fault points (t ∷ lower n p ∷ earlier) (suc (suc k)) rest) (turned_is points p (p + (n + 2)) (p + (n + 1)) high)

no_fault_from : (n m cell k : ℕ) (earlier : List Tri) → 0 < n → cell + m ≡ n * n → ((s : Tri) → Contains earlier s → IsBefore n (corner_of n cell) s) → first_fault (grid_points n) earlier k (flat_map (halves n) (range_with_len cell m)) ≡ None
no_fault_from n zero cell k earlier some full before = refl
no_fault_from n (suc m) cell k earlier some full before =
    let rises = corner_rises n cell some in
    no_fault_in n cell k earlier (flat_map (halves n) (range_with_len (cell + 1) m)) some (omega arith) before
    ∙ no_fault_from n m (cell + 1) (suc (suc k)) (upper n (corner_of n cell) ∷ lower n (corner_of n cell) ∷ earlier) some (omega arith)
    (λ s there. elim (cases s (upper n (corner_of n cell)) (lower n (corner_of n cell) ∷ earlier) there) [
      | inl is ↦ record { q = corner_of n cell; less = rises; is = inr is }
      | inr more ↦ elim (cases s (lower n (corner_of n cell)) earlier more) [
        | inl is ↦ record { q = corner_of n cell; less = rises; is = inl is }
        | inr old ↦ let b = before s old in record { q = b.q; less = let l = b.less in omega arith; is = b.is }
      ]
    ])

pub grid_is_built : GridIsBuilt
grid_is_built n h =
    let none : first_fault (grid_points n) [] 0 (grid_triangles n) ≡ None = no_fault_from n (n * n) 0 0 [] h (omega arith) (λ s there. absurd (let x = there.1 in omega arith)) in
    ap (λ o. elim o as (λ _. Result Undivided BuildErr) [ Some fault ↦ Err fault | None ↦ Ok (mesh_with (grid_points n) (map (turned_left (grid_points n)) (grid_triangles n))) ]) none
