-- What is kept of numbers that are read one after another, from what is kept of each.
use Rattle.std.proofs.Common.{◌≡◌, ℕ, Bool, true, false, List, ◌&&◌, refl, ap, ◌∙◌, arith}
use Rattle.std.proofs.lemmas.Int.{ints}
use Rattle.std.proofs.lemmas.Bool.Decides.{nat_tests}
use Rattle.std.specs.Prelude.{◌<◌, nat_lt, OnOk, IfOk, ℤ, Result, Ok, Err, Option, Some, None, [], ◌∷◌}
use Rattle.pf_lex.specs.Text.{Word}
use Rattle.pf_geom.specs.declared.Point.{Point}
use Rattle.row_text.specs.Rows.{◌>>=◌, at_line_end}
use Rattle.table_text.specs.Kept.{kept, kept_in, both, corner_with, rectangle_with, are_corners_ordered, band_kept, HoldsAll}
use Rattle.table_text.specs.Size.{is_coordinate, is_corner, is_rectangle, is_length_range, band_of, band_where, everywhere}
use Rattle.table_text.specs.declared.size.Rectangle.{Rectangle}
use Rattle.table_text.specs.declared.size.LengthRange.{LengthRange}
use Rattle.table_text.specs.declared.fault.TableErr.{TableErr}
use Rattle.table_text.specs.declared.fault.TableErr.TheVariants as fault

-- the test of what two values make asks their tests, and one of the two together
abbrev Asks : {A B C : Type 0} → (A → Bool) → (B → Bool) → (C → Bool) → (C → Bool) → (A → B → C) → Type 0
Asks {A} {B} p q together passes make = (x : A) (y : B) (b d : Bool) → p x ≡ b → q y ≡ d → passes (make x y) ≡ (b && (d && together (make x y)))

both-at : {A B C : Type 0} (p : A → Bool) (q : B → Bool) (together passes : C → Bool) (make : A → B → C) (x : A) (y : B) (b d : Bool) → p x ≡ b → q y ≡ d → Asks p q together passes make → kept passes (make x y) ≡ both together make (kept p x) (kept q y)
both-at p q together passes make x y true true e h asks = rw (e, h, asks x y true true e h) refl
both-at p q together passes make x y true false e h asks = rw (e, h, asks x y true false e h) refl
both-at p q together passes make x y false d e h asks = rw (e, asks x y false d e h) refl

-- what is kept of two results that are read one after the other
kept-both : {A B C : Type 0} (p : A → Bool) (q : B → Bool) (together passes : C → Bool) (make : A → B → C) (a : Result A TableErr) (b : Result B TableErr) (first : Option A) (second : Option B) → Asks p q together passes make → Ok first ≡ kept_in p a → Ok second ≡ kept_in q b → kept_in passes (a >>= (λ x. b >>= (λ y. Ok (make x y)))) ≡ Ok (both together make first second)
kept-both p q together passes make (Err e) b first second asks h k = cc
kept-both p q together passes make (Ok x) (Err e) first second asks h k = cc
kept-both p q together passes make (Ok x) (Ok y) first second asks h k =
    let e : first ≡ kept p x = cc in
    let i : second ≡ kept q y = cc in
    rw (e, i) (ap (λ o. Ok o) (both-at p q together passes make x y (p x) (q y) refl refl asks))

corner-asks : Asks is_coordinate is_coordinate (λ _. true) is_corner corner_with
corner-asks x y true true e h = rw (e, h) refl
corner-asks x y true false e h = rw (e, h) refl
corner-asks x y false d e h = rw e refl

rectangle-asks : Asks is_corner is_corner are_corners_ordered is_rectangle rectangle_with
rectangle-asks x y true true e h = rw (e, h) refl
rectangle-asks x y true false e h = rw (e, h) refl
rectangle-asks x y false d e h = rw e refl

-- the corner of two coordinates that were kept
pub corner-kept : (a b : Result ℤ TableErr) (x y : Option ℤ) → Ok x ≡ kept_in is_coordinate a → Ok y ≡ kept_in is_coordinate b → kept_in is_corner (a >>= (λ x. b >>= (λ y. Ok (corner_with x y)))) ≡ Ok (both (λ _. true) corner_with x y)
corner-kept a b x y h k = kept-both is_coordinate is_coordinate (λ _. true) is_corner corner_with a b x y corner-asks h k

-- the rectangle of two corners that were kept
pub rectangle-kept : (a b : Result Point TableErr) (low high : Option Point) → Ok low ≡ kept_in is_corner a → Ok high ≡ kept_in is_corner b → kept_in is_rectangle (a >>= (λ low. b >>= (λ high. Ok (rectangle_with low high)))) ≡ Ok (both are_corners_ordered rectangle_with low high)
rectangle-kept a b low high h k = kept-both is_corner is_corner are_corners_ordered is_rectangle rectangle_with a b low high rectangle-asks h k

answer-at : (fits : Bool) (line : ℕ) (r : Rectangle) (l : LengthRange) (b d : Bool) → is_rectangle r ≡ b → is_length_range l ≡ d → band_where (is_rectangle r && is_length_range l && fits) line (band_of r l) ≡ band_kept fits line (kept is_rectangle r) (kept is_length_range l)
answer-at fits line r l true true e h = rw (e, h) refl
answer-at fits line r l true false e h = rw (e, h) refl
answer-at fits line r l false d e h = rw e refl

-- a line without a further word has its value
at_end : {A : Type 0} (line : ℕ) (others : List Word) (value : Result A TableErr) → Ok tt ≡ at_line_end {A = Unit {0}} (fault.Word line) others (Ok tt) → at_line_end (fault.Word line) others value ≡ value
at_end line [] value h = refl
at_end line (word ∷ others) value h = cc

-- a row's band, by what was kept of its rectangle and its lengths
pub row-kept : (fits : Bool) (line : ℕ) (others : List Word) (a : Result Rectangle TableErr) (b : Result LengthRange TableErr) (r : Option Rectangle) (l : Option LengthRange) → Ok r ≡ kept_in is_rectangle a → Ok l ≡ kept_in is_length_range b → Ok tt ≡ at_line_end {A = Unit {0}} (fault.Word line) others (Ok tt) → (a >>= (λ r. b >>= (λ l. at_line_end (fault.Word line) others (band_where (is_rectangle r && is_length_range l && fits) line (band_of r l))))) ≡ band_kept fits line r l
row-kept fits line others (Err e) b r l h k end = cc
row-kept fits line others (Ok x) (Err e) r l h k end = cc
row-kept fits line others (Ok x) (Ok y) r l h k end =
    let e : r ≡ kept is_rectangle x = cc in
    let i : l ≡ kept is_length_range y = cc in
    rw (e, i) (at_end line others (band_where (is_rectangle x && is_length_range y && fits) line (band_of x y)) end ∙ answer-at fits line x y (is_rectangle x) (is_length_range y) refl refl)

everywhere-holds : (l : LengthRange) → HoldsAll (band_of everywhere l)
everywhere-holds l p h = grind (arith, ints, h.x.low, h.x.high, h.y.low, h.y.high)

-- the default band holds every point
pub default-holds : (line : ℕ) (l : Option LengthRange) → IfOk (band_kept true line (Some everywhere) l) HoldsAll
default-holds line (Some l) = everywhere-holds l
default-holds line None = tt

-- a line has a band only where it may stand there
pub band_kept-may_stand : (above line : ℕ) (r : Option Rectangle) (l : Option LengthRange) (b : Bool) → nat_lt above 1023 ≡ b → OnOk (band_kept b line r l) (above < 1023)
band_kept-may_stand above line (Some r) (Some l) true e = grind (arith, nat_tests)
band_kept-may_stand above line (Some r) (Some l) false e = tt
band_kept-may_stand above line (Some r) None b e = tt
band_kept-may_stand above line None l b e = tt
