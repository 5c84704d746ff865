-- Reading the vertices of a `.node` file, as the loop does.
use Rattle.std.proofs.Common.{◌≡◌, ℕ, zero, suc, ◌+◌, ◌-◌, ◌<◌, ◌≤◌, Bool, true, List, [], ◌∷◌, ◌++◌, Result, Ok, Err, refl, ap, sym, ◌∙◌, append-nil, arith}
use Rattle.std.specs.Prelude.{if◌then◌else◌}
use Rattle.std.specs.List.{AllByRecursion}
use Rattle.pf_geom.specs.declared.Point.{Point}
use Rattle.pf_geom.specs.Plane.{IsInRange}
use Rattle.pf_lex.specs.Text.{Word, TextLine}
use Rattle.pf_lex.specs.Token.{word_of}
use Rattle.pf_lex.specs.Number.{natural_of}
use Rattle.pf_lex.specs.declared.text.Token.{Token}
use Rattle.row_text.specs.Rows.{at_text_end}
use Rattle.row_text.proofs.Reading.{IsReadTo, all-append, read_to-more, read_to-fault, read_to-end, text_end-extra, text_end-none, rows_of-more, rows_of-refused, rows_of-short, rows_of-end}
use Rattle.tri_text.specs.declared.fault.TriErr.{TriErr}
use Rattle.tri_text.specs.declared.fault.TriErr.TheVariants as faults
use Rattle.tri_text.specs.Reading.{tri_rows}
use Rattle.tri_text.specs.Node.{vertex_words, vertex_of, is_one, base_of, vertex_rows}

-- where the reading of vertices stands: the lines that are left, the base as it is known, and the points that were read
pub record VerticesStand (scale past count : ℕ) (all left : List TextLine) (now place base : ℕ) (fits : Bool) (points : List Point) : Type 0 where
  pub past_is : now ≡ past
  pub first : place ≡ 0 → left ≡ all
  pub start : place ≡ 0 → base ≡ 0
  pub later : 0 < place → base ≡ base_of all
  pub small : base ≤ 1
  pub read : IsReadTo (AllByRecursion IsInRange) (tri_rows (vertex_of scale) past count (base_of all) all) (tri_rows (vertex_of scale) past (count - place) (base_of all + place) left) place fits points

-- ---- the base

-- what the first word of a vertex's line tells of the base
pub record BaseFound (place base found : ℕ) (number : Token) : Type 0 where
  pub first : place ≡ 0 → found ≡ if is_one (natural_of number.text.now) then 1 else 0
  pub later : 0 < place → found ≡ base
  pub small : base ≤ 1 → found ≤ 1

base_of-line : (line : TextLine) (rest : List TextLine) (number : Token) (others : List Word) → line.words ≡ word_of number ∷ others → base_of (line ∷ rest) ≡ if is_one (natural_of number.text.now) then 1 else 0
unfolding base_of
base_of-line line rest number others words = rw words refl

module _ (scale past count : ℕ) (all left : List TextLine) (now place base : ℕ) (fits : Bool) (points : List Point) (s : VerticesStand scale past count all left now place base fits points) where
  -- the rows whose reading is looked at
  abbrev rows : Result (List Point) TriErr
  rows = tri_rows (vertex_of scale) past count (base_of all) all

  failed : (e : TriErr) → rows ≡ Err e → vertex_rows scale past count all ≡ Err e
  unfolding vertex_rows
  failed e h = rw h refl

  -- the next line is missing
  pub is_short : (e : TriErr) → place < count → left ≡ [] → e ≡ faults.Short now → vertex_rows scale past count all ≡ Err e
  is_short e more none is =
      failed e (read_to-fault _ _ _ _ _ _ e s.read (rw none (rows_of-short faults.Short faults.Extra (vertex_of scale) past (base_of all + place) (count - place) (omega arith) ∙ ap (λ n. Err (faults.Short n)) (sym s.past_is) ∙ ap (λ f. Err f) (sym is))))

  module _ (line : TextLine) (rest : List TextLine) (number : Token) (others : List Word) (there : left ≡ line ∷ rest) (words : line.words ≡ word_of number ∷ others) (at : number.line ≡ line.line) (found : ℕ) (f : BaseFound place base found number) where
    base_first : (place ≡ 0) → found ≡ base_of all
    base_first none = f.first none ∙ sym (base_of-line line rest number others words) ∙ ap base_of (sym there ∙ s.first none)

    base_is : found ≡ base_of all
    base_is = elim place as (λ k. (k ≡ place) → found ≡ base_of all) [ zero ↦ λ e. base_first (sym e) | suc k ↦ λ e. f.later (omega (arith, e)) ∙ s.later (omega (arith, e)) ] refl

    gives_row : (result : Result Point TriErr) → result ≡ vertex_words scale (found + place) number.line (word_of number ∷ others) → vertex_of scale (base_of all + place) line ≡ result
    gives_row result reads = rw words (ap (λ k. vertex_words scale (base_of all + place) k (word_of number ∷ others)) (sym at) ∙ ap (λ b. vertex_words scale (b + place) number.line (word_of number ∷ others)) (sym base_is) ∙ sym reads)

    -- the next line has a fault
    pub is_bad : (e : TriErr) → place < count → Err e ≡ vertex_words scale (found + place) number.line (word_of number ∷ others) → vertex_rows scale past count all ≡ Err e
    is_bad e more reads =
        failed e (read_to-fault _ _ _ _ _ _ e s.read (rw there (rows_of-refused faults.Short faults.Extra (vertex_of scale) past (base_of all + place) (count - place) line rest e (omega arith) (gives_row (Err e) reads))))

    -- the next vertex was read
    pub goes_on : (p : Point) (now' : ℕ) (fits' : Bool) (points' : List Point) → place < count → now' ≡ now → Ok p ≡ vertex_words scale (found + place) number.line (word_of number ∷ others) → IsInRange p → (fits' ≡ true → (fits ≡ true) × (points' ≡ points ++ p ∷ [])) → VerticesStand scale past count all rest now' (place + 1) found fits' points'
    goes_on p now' fits' points' more same reads range kept =
        let next : base_of all + place + 1 ≡ base_of all + (place + 1) = omega arith in
        let less : count - place - 1 ≡ count - (place + 1) = omega arith in
        record {
          past_is = same ∙ s.past_is;
          first = λ none. absurd (omega (arith, none));
          start = λ none. absurd (omega (arith, none));
          later = λ _. base_is;
          small = f.small s.small;
          read =
              read_to-more (AllByRecursion IsInRange) (AllByRecursion IsInRange) _ _ _ _ _ _ _ _ _ p s.read
              (rw (there, ← next, ← less) (rows_of-more faults.Short faults.Extra (vertex_of scale) past (base_of all + place) (count - place) line rest p (omega arith) (gives_row (Ok p) reads)))
              (λ front _ each. all-append IsInRange front p each range) kept refl;
        }

  -- ---- how the reading ends

  abbrev at_end : Result (List Point) TriErr
  at_end = tri_rows (vertex_of scale) past (count - place) (base_of all + place) left

  ended : count ≤ place → at_end ≡ at_text_end faults.Extra left (Ok [])
  ended done = rows_of-end faults.Short faults.Extra (vertex_of scale) past (base_of all + place) (count - place) left (omega arith)

  -- a further line stands there
  pub is_extra : (e : TriErr) → count ≤ place → Err e ≡ at_text_end {A = Unit {0}} faults.Extra left (Ok tt) → vertex_rows scale past count all ≡ Err e
  is_extra e done is = failed e (read_to-fault _ _ _ _ _ _ e s.read (ended done ∙ text_end-extra faults.Extra left (Ok []) e is))

  base_at_end : left ≡ [] → base ≡ base_of all
  unfolding base_of
  base_at_end none = elim place as (λ k. (k ≡ place) → base ≡ base_of all) [ zero ↦ λ e. at_start (sym e) | suc k ↦ λ e. s.later (omega (arith, e)) ] refl
    where
      at_start : place ≡ 0 → base ≡ base_of all
      at_start e = s.start e ∙ ap base_of (sym none ∙ s.first e)

  -- all vertices were read
  pub is_done : count ≤ place → Ok tt ≡ at_text_end {A = Unit {0}} faults.Extra left (Ok tt) → vertex_rows scale past count all ≡ Ok (record { base = base; points = s.read.front })
  unfolding vertex_rows
  is_done done end =
      let none = text_end-none faults.Extra left end in
      let rest : at_end ≡ Ok [] = ended done ∙ rw none refl in
      let is : rows ≡ Ok (s.read.front ++ []) = read_to-end _ _ _ _ _ _ [] s.read rest in
      rw (is, append-nil) (ap (λ k. Ok (record { base = k; points = s.read.front })) (sym (base_at_end none)))
