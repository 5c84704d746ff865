-- Rows that were written are read again, one after the other.
use Rattle.std.proofs.Common.{◌≡◌, ℕ, suc, ◌+◌, ◌-◌, ◌<◌, ◌≤◌, Bool, true, false, cond, List, [], ◌∷◌, length, map, Result, Ok, refl, add-one, arith}
use Rattle.std.specs.Prelude.{Contains, decimal, is_some, ◌==◌, nat_lt}
use Rattle.std.specs.Fmt.{signed_decimal}
use Rattle.std.specs.List.{AllByRecursion, list_all}
use Rattle.std.proofs.lemmas.Bool.{le-leb, lt-ltb}
use Rattle.std.proofs.lemmas.Bool.Decides.{nat_tests}
use Rattle.std.proofs.lemmas.List.Sums.{sum_by-cons, count_by-le-length}
use Rattle.pf_geom.specs.declared.Point.{Point}
use Rattle.pf_geom.specs.Plane.{IsInRange}
use Rattle.pf_lex.specs.Text.{TextLine, placed}
use Rattle.pf_lex.specs.Number.{number_limit}
use Rattle.pf_lex.specs.Written.{is_plain_row, written_lines}
use Rattle.pf_lex.proofs.NumberLaws.{is_plain_word-decimal, is_plain_word-signed_decimal}
use Rattle.pf_model.specs.declared.Site.{Site}
use Rattle.pf_model.specs.declared.Tri.{Tri}
use Rattle.pf_model.specs.Mesh.{point_of}
use Rattle.pf_model.specs.Texts.{node_lines, ele_lines, place_among, renumbered}
use Rattle.tri_text.specs.declared.fault.TriErr.{TriErr}
use Rattle.tri_text.specs.Reading.{tri_rows}
use Rattle.tri_text.specs.Node.{vertex_of}
use Rattle.tri_text.specs.Ele.{corner_in, triangle_of}
use Rattle.tri_text.specs.Laws.{corner_places}
use Rattle.tri_text.proofs.Numbers.{small, natural_in-decimal, due_in-decimal, coordinate_in-signed}

-- ---- any rows

-- the rows, on whatever lines they stand, are read as these values
abbrev pub AreReadAs : {Y : Type 0} → (ℕ → TextLine → Result Y TriErr) → ℕ → List (List (List ℕ)) → List Y → Type 0
AreReadAs row number [] [] = Unit {0}
AreReadAs row number [] (y ∷ ys) = ⊥
AreReadAs row number (ws ∷ ls) [] = ⊥
AreReadAs row number (ws ∷ ls) (y ∷ ys) = ((line : ℕ) → row number (record { line = line; words = placed 1 ws }) ≡ Ok y) × AreReadAs row (suc number) ls ys

pub tri_rows-written : {Y : Type 0} (row : ℕ → TextLine → Result Y TriErr) (past line number : ℕ) (ls : List (List (List ℕ))) (ys : List Y) → AreReadAs row number ls ys → tri_rows row past (length ys) number (written_lines line ls) ≡ Ok ys
tri_rows-written row past line number [] [] h = refl
tri_rows-written row past line number [] (y ∷ ys) h = absurd h
tri_rows-written row past line number (ws ∷ ls) [] h = absurd h
tri_rows-written row past line number (ws ∷ ls) (y ∷ ys) h =
    let others = tri_rows-written row past (line + 1) (suc number) ls ys h.1 in
    let first = h.0 line in
    rw (first, add-one number, others) refl

-- ---- what a list holds

pub each_held : {X : Type 0} (P : X → Type 0) (xs : List X) → ((x : X) → Contains xs x → P x) → AllByRecursion P xs
each_held P [] h = tt
each_held P (x ∷ xs) h = (h x (0, omega arith, refl), each_held P xs (λ y held. h y (suc held.0, (let l = held.1 in omega arith), held.2)))

-- ---- vertices

vertex_again : (p : Point) (number line : ℕ) → IsInRange p → number ≤ number_limit → vertex_of 1 number (record { line = line; words = placed 1 (decimal number ∷ signed_decimal p.x ∷ signed_decimal p.y ∷ []) }) ≡ Ok p
vertex_again p number line range small =
    rw (due_in-decimal line 1 number small, coordinate_in-signed line _ p.x range.x, coordinate_in-signed line _ p.y range.y) refl

pub vertices_again : (ps : List Point) (number : ℕ) → AllByRecursion IsInRange ps → number + length ps ≤ number_limit → AreReadAs (vertex_of 1) number (node_lines number ps) ps
vertices_again [] number range small = tt
vertices_again (p ∷ ps) number range small =
    (λ line. vertex_again p number line range.0 (omega arith), vertices_again ps (suc number) range.1 (omega arith))

plain_vertex : (p : Point) (number : ℕ) → IsInRange p → number ≤ number_limit → is_plain_row (decimal number ∷ signed_decimal p.x ∷ signed_decimal p.y ∷ []) ≡ true
plain_vertex p number range few =
    let x = small p.x range.x in
    let y = small p.y range.y in
    rw (is_plain_word-decimal number (omega arith), is_plain_word-signed_decimal p.x (omega arith), is_plain_word-signed_decimal p.y (omega arith)) refl

pub node_lines-plain : (ps : List Point) (number : ℕ) → AllByRecursion IsInRange ps → number + length ps ≤ number_limit → list_all is_plain_row (node_lines number ps) ≡ true
node_lines-plain [] number range few = refl
node_lines-plain (p ∷ ps) number range few =
    rw (plain_vertex p number range.0 (omega arith), node_lines-plain ps (suc number) range.1 (omega arith)) refl

-- ---- triangles

-- each corner has a place among the live names
pub record HasPlaces (sites : List Site) (t : Tri) : Type 0 where
  pub first : place_among sites t.a < length sites
  pub second : place_among sites t.b < length sites
  pub third : place_among sites t.c < length sites

place-cons : (s : Site) (ss : List Site) (n : ℕ) (found : Bool) → (s.name == n) ≡ found → is_some (point_of (s ∷ ss) n) ≡ true → (is_some (point_of ss n) ≡ true → place_among ss n < length ss) → place_among (s ∷ ss) n < length (s ∷ ss)
place-cons s ss n true e live others =
    let least : nat_lt s.name n ≡ false = grind (arith, nat_tests) in
    rw (sum_by-cons (λ r. cond (nat_lt r.name n) 1 0) s ss, least) (omega (arith, count_by-le-length (λ r. nat_lt r.name n) ss))
place-cons s ss n false e live others =
    let rest : is_some (point_of ss n) ≡ true = rw e at live in
    let below : cond (nat_lt s.name n) 1 0 ≤ 1 = grind (arith, nat_tests) in
    rw (sum_by-cons (λ r. cond (nat_lt r.name n) 1 0) s ss) (omega (arith, others rest))

-- a live name has a place
pub place_among-lt : (sites : List Site) (n : ℕ) → is_some (point_of sites n) ≡ true → place_among sites n < length sites
place_among-lt [] n live = absurd cc
place_among-lt (s ∷ ss) n live = place-cons s ss n (s.name == n) refl live (place_among-lt ss n)

corner_again : (base vertices line column place : ℕ) → place < vertices → base + vertices ≤ number_limit → corner_in base vertices line (record { text = decimal (base + place); column = column }) ≡ Ok place
unfolding corner_in
corner_again base vertices line column place there small =
    let above = le-leb base (base + place) (omega arith) in
    let below = lt-ltb (base + place) (base + vertices) (omega arith) in
    let less : base + place - base ≡ place = omega arith in
    rw (natural_in-decimal line column (base + place) (omega arith), above, below, less) refl

triangle_again : (base number line : ℕ) (sites : List Site) (t : Tri) → HasPlaces sites t → number ≤ number_limit → base + length sites ≤ number_limit
    → triangle_of base (length sites) number (record { line = line; words = placed 1 (decimal number ∷ decimal (base + place_among sites t.a) ∷ decimal (base + place_among sites t.b) ∷ decimal (base + place_among sites t.c) ∷ []) }) ≡ Ok (corner_places sites t)
triangle_again base number line sites t h small few =
    rw (due_in-decimal line 1 number small, corner_again base (length sites) line _ (place_among sites t.a) h.first few, corner_again base (length sites) line _ (place_among sites t.b) h.second few, corner_again base (length sites) line _ (place_among sites t.c) h.third few) refl

pub triangles_again : (base number : ℕ) (sites : List Site) (ts : List Tri) → AllByRecursion (HasPlaces sites) ts → number + length ts ≤ number_limit → base + length sites ≤ number_limit
    → AreReadAs (triangle_of base (length sites)) number (ele_lines base number (map (renumbered sites) ts)) (map (corner_places sites) ts)
triangles_again base number sites [] h small few = tt
triangles_again base number sites (t ∷ ts) h small few =
    (λ line. triangle_again base number line sites t h.0 (omega arith) few, triangles_again base (suc number) sites ts h.1 (omega arith) few)

plain_triangle : (n a b c : ℕ) → n ≤ number_limit → a ≤ number_limit → b ≤ number_limit → c ≤ number_limit → is_plain_row (decimal n ∷ decimal a ∷ decimal b ∷ decimal c ∷ []) ≡ true
plain_triangle n a b c h i j k = rw (is_plain_word-decimal n (omega arith), is_plain_word-decimal a (omega arith), is_plain_word-decimal b (omega arith), is_plain_word-decimal c (omega arith)) refl

pub ele_lines-plain : (base number : ℕ) (sites : List Site) (ts : List Tri) → AllByRecursion (HasPlaces sites) ts → number + length ts ≤ number_limit → base + length sites ≤ number_limit
    → list_all is_plain_row (ele_lines base number (map (renumbered sites) ts)) ≡ true
ele_lines-plain base number sites [] h small few = refl
ele_lines-plain base number sites (t ∷ ts) h small few =
    let a = h.0.first in
    let b = h.0.second in
    let c = h.0.third in
    rw (plain_triangle number (base + place_among sites t.a) (base + place_among sites t.b) (base + place_among sites t.c) (omega arith) (omega arith) (omega arith) (omega arith), ele_lines-plain base (suc number) sites ts h.1 (omega arith) few) refl
