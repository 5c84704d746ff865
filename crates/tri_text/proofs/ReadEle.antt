-- Reading the triangles of an `.ele` file, as the loop does.
use Rattle.std.proofs.Common.{◌≡◌, ℕ, ◌+◌, ◌-◌, ◌<◌, ◌≤◌, Bool, true, List, [], ◌∷◌, ◌++◌, Result, Ok, Err, refl, ap, sym, ◌∙◌, append-nil, arith}
use Rattle.std.specs.List.{AllByRecursion}
use Rattle.pf_lex.specs.Text.{Word, TextLine}
use Rattle.pf_lex.specs.Token.{word_of}
use Rattle.pf_lex.specs.declared.text.Token.{Token}
use Rattle.row_text.specs.Rows.{at_text_end}
use Rattle.row_text.proofs.Reading.{IsReadTo, all-append, read_to-more, read_to-fault, read_to-end, text_end-extra, text_end-none, rows_of-more, rows_of-refused, rows_of-short, rows_of-end}
use Rattle.tri_text.specs.declared.fault.TriErr.{TriErr}
use Rattle.tri_text.specs.declared.fault.TriErr.TheVariants as faults
use Rattle.tri_text.specs.Reading.{tri_rows}
use Rattle.tri_text.specs.Ele.{IsTriangleOver, triangle_words, triangle_of}

-- where the reading of triangles stands: the lines that are left, and the triangles that were read
pub record TrianglesStand (base vertices past count : ℕ) (all left : List TextLine) (now place : ℕ) (fits : Bool) (ts : List (List ℕ)) : Type 0 where
  pub past_is : now ≡ past
  pub read : IsReadTo (AllByRecursion (IsTriangleOver vertices)) (tri_rows (triangle_of base vertices) past count base all) (tri_rows (triangle_of base vertices) past (count - place) (base + place) left) place fits ts

module _ (base vertices past count : ℕ) (all left : List TextLine) (now place : ℕ) (fits : Bool) (ts : List (List ℕ)) (s : TrianglesStand base vertices past count all left now place fits ts) where
  abbrev rows : Result (List (List ℕ)) TriErr
  rows = tri_rows (triangle_of base vertices) past count base all

  -- the next line is missing
  pub is_short : (e : TriErr) → place < count → left ≡ [] → e ≡ faults.Short now → rows ≡ Err e
  is_short e more none is =
      read_to-fault _ _ _ _ _ _ e s.read (rw none (rows_of-short faults.Short faults.Extra (triangle_of base vertices) past (base + place) (count - place) (omega arith) ∙ ap (λ n. Err (faults.Short n)) (sym s.past_is) ∙ ap (λ f. Err f) (sym is)))

  module _ (line : TextLine) (rest : List TextLine) (number : Token) (others : List Word) (there : left ≡ line ∷ rest) (words : line.words ≡ word_of number ∷ others) (at : number.line ≡ line.line) where
    gives_row : (result : Result (List ℕ) TriErr) → result ≡ triangle_words base vertices (base + place) number.line (word_of number ∷ others) → triangle_of base vertices (base + place) line ≡ result
    gives_row result reads = rw words (ap (λ k. triangle_words base vertices (base + place) k (word_of number ∷ others)) (sym at) ∙ sym reads)

    -- the next line has a fault
    pub is_bad : (e : TriErr) → place < count → Err e ≡ triangle_words base vertices (base + place) number.line (word_of number ∷ others) → rows ≡ Err e
    is_bad e more reads =
        read_to-fault _ _ _ _ _ _ e s.read (rw there (rows_of-refused faults.Short faults.Extra (triangle_of base vertices) past (base + place) (count - place) line rest e (omega arith) (gives_row (Err e) reads)))

    -- the next triangle was read
    pub goes_on : (t : List ℕ) (now' : ℕ) (fits' : Bool) (ts' : List (List ℕ)) → place < count → now' ≡ now → Ok t ≡ triangle_words base vertices (base + place) number.line (word_of number ∷ others) → IsTriangleOver vertices t → (fits' ≡ true → (fits ≡ true) × (ts' ≡ ts ++ t ∷ [])) → TrianglesStand base vertices past count all rest now' (place + 1) fits' ts'
    goes_on t now' fits' ts' more same reads over kept =
        let next : base + place + 1 ≡ base + (place + 1) = omega arith in
        let less : count - place - 1 ≡ count - (place + 1) = omega arith in
        record {
          past_is = same ∙ s.past_is;
          read =
              read_to-more (AllByRecursion (IsTriangleOver vertices)) (AllByRecursion (IsTriangleOver vertices)) _ _ _ _ _ _ _ _ _ t s.read
              (rw (there, ← next, ← less) (rows_of-more faults.Short faults.Extra (triangle_of base vertices) past (base + place) (count - place) line rest t (omega arith) (gives_row (Ok t) reads)))
              (λ front _ each. all-append (IsTriangleOver vertices) front t each over) kept refl;
        }

  -- ---- how the reading ends

  ended : count ≤ place → tri_rows (triangle_of base vertices) past (count - place) (base + place) left ≡ at_text_end faults.Extra left (Ok [])
  ended done = rows_of-end faults.Short faults.Extra (triangle_of base vertices) past (base + place) (count - place) left (omega arith)

  -- a further line stands there
  pub is_extra : (e : TriErr) → count ≤ place → Err e ≡ at_text_end {A = Unit {0}} faults.Extra left (Ok tt) → rows ≡ Err e
  is_extra e done is = read_to-fault _ _ _ _ _ _ e s.read (ended done ∙ text_end-extra faults.Extra left (Ok []) e is)

  -- all triangles were read
  pub is_done : count ≤ place → Ok tt ≡ at_text_end {A = Unit {0}} faults.Extra left (Ok tt) → rows ≡ Ok s.read.front
  is_done done end = read_to-end _ _ _ _ _ _ [] s.read (ended done ∙ rw (text_end-none faults.Extra left end) refl) ∙ rw append-nil refl
