-- A grid's lists are fit for a mesh.
use Rattle.std.proofs.Common.{◌≡◌, ◌∙◌, ℕ, zero, suc, ◌+◌, ◌-◌, ◌*◌, ◌/◌, ◌%◌, ◌<◌, ◌≤◌, List, [], ◌∷◌, length, flat_map, pos, sym, subst, refl, arith, length-append}
use Rattle.std.specs.List.{All, range_with_len}
use Rattle.std.proofs.lemmas.Int.{ints}
use Rattle.std.proofs.lemmas.Nat.{div_below, mod_below, le-div}
use Rattle.std.proofs.lemmas.List.Elements.{All-map, All-nil, All-cons, All-append}
use Rattle.std.proofs.lemmas.List.FromFn.{length-range_with_len, get_or-range_with_len}
use Rattle.pf_geom.specs.Plane.{IsInRange, IsWithin}
use Rattle.pf_model.specs.Conforming.{HasDefault}
use Rattle.pf_gen.specs.Grid.{grid_point, grid_points, grid_owners, grid_chunks, grid_bands, halves, strip_of}
use Rattle.pf_gen.specs.Laws.{GridIsFit}
use Rattle.pf_gen.proofs.Corners.{grid-length}

-- two elements for each number
doubled : {X : Type 0} (f : ℕ → List X) → ((cell : ℕ) → length (f cell) ≡ 2) → (n a : ℕ) → length (flat_map f (range_with_len a n)) ≡ 2 * n
doubled f two zero a = refl
doubled f two (suc n) a = let e = length-append (f a) (flat_map f (range_with_len (a + 1) n)) in let t = two a in let r = doubled f two n (a + 1) in omega (arith, e)

all_flat : {X : Type 0} (P : X → Type 0) (f : ℕ → List X) (n a : ℕ) → ((cell : ℕ) → a ≤ cell → cell < a + n → All P (f cell)) → All P (flat_map f (range_with_len a n))
all_flat P f zero a each = All-nil P
all_flat P f (suc n) a each = All-append P (f a) (flat_map f (range_with_len (a + 1) n)) (each a (omega arith) (omega arith)) (all_flat P f n (a + 1) (λ cell h k. each cell (omega arith) (omega arith)))

within : (k : ℕ) → k ≤ 1023 → IsWithin 268435456 (pos (64 * k))
within k h = record { low = omega (arith, ints); high = omega (arith, ints) }

point_in_range : (n name : ℕ) → 0 < n → n ≤ 1023 → name < (n + 1) * (n + 1) → IsInRange (grid_point n name)
point_in_range n name some few inside =
    let column = mod_below name (n + 1) (omega arith) in
    let row = div_below name (n + 1) (n + 1) (omega arith) inside in
    record { x = within (name % (n + 1)) (omega arith); y = within (name / (n + 1)) (omega arith) }

points_in_range : (n : ℕ) → 0 < n → n ≤ 1023 → All IsInRange (grid_points n)
points_in_range n some few =
    let count : ℕ = (n + 1) * (n + 1) in
    All-map IsInRange (grid_point n) (range_with_len 0 count)
    (λ k d h. let small : k < count = subst (λ m. k < m) (length-range_with_len 0 count) h in
    subst (λ name. IsInRange (grid_point n name)) (sym (get_or-range_with_len 0 count k d small ∙ (let e : 0 + k ≡ k = omega arith in e))) (point_in_range n k some few small))

strip_below : (n cell : ℕ) → 0 < n → cell < n * n → strip_of n cell < grid_chunks n
strip_below n cell some inside =
    let row = div_below cell n n some inside in
    let most : 4 * (cell / n) / n ≤ 4 * (n - 1) / n = le-div (4 * (cell / n) / n) (4 * (n - 1)) n some (omega arith) in
    omega (arith, most)

owners_are_chunks : (n : ℕ) → 0 < n → All (λ owner. owner < grid_chunks n) (grid_owners n)
owners_are_chunks n some =
    all_flat (λ owner. owner < grid_chunks n) (λ cell. strip_of n cell ∷ strip_of n cell ∷ []) (n * n) 0
    (λ cell h k. let s = strip_below n cell some (omega arith) in All-cons (λ owner. owner < grid_chunks n) (strip_of n cell) (strip_of n cell ∷ []) s (All-cons (λ owner. owner < grid_chunks n) (strip_of n cell) [] s (All-nil (λ owner. owner < grid_chunks n))))

default_holds : (n : ℕ) → HasDefault (grid_bands n)
default_holds n p h = let x = h.x in let y = h.y in let xl = x.low in let xh = x.high in let yl = y.low in let yh = y.high in grind (arith, ints)

pub grid_is_fit : GridIsFit
grid_is_fit n some few =
    record {
      points = grid-length n;
      triangles = doubled (halves n) (λ cell. refl) (n * n) 0;
      owners = doubled (λ cell. strip_of n cell ∷ strip_of n cell ∷ []) (λ cell. refl) (n * n) 0;
      in_range = points_in_range n some few;
      owned = owners_are_chunks n some;
      default = default_holds n;
    }
