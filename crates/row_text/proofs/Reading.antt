-- A text that was read as far as some line: what the whole says, by the values that were read and by what the rest says.
use Rattle.std.proofs.Common.{◌≡◌, ℕ, zero, suc, ◌+◌, ◌-◌, ◌<◌, Bool, true, List, [], ◌∷◌, ◌++◌, length, Result, Ok, Err, refl, ap, sym, ◌∙◌, append_assoc, length-append, arith}
use Rattle.std.specs.Prelude.{◌≢◌, IfOk, IfErr}
use Rattle.std.specs.List.{AllByRecursion}
use Rattle.pf_lex.specs.Text.{TextLine}
use Rattle.row_text.specs.Rows.{◌>>=◌, at_text_end, rows_of, Refuses, Reads}

-- the values that were read, before those that are still to come
abbrev pub after : {X E : Type 0} → List X → Result (List X) E → Result (List X) E
after front rest = rest >>= λ xs. Ok (front ++ xs)

-- so many values were read, of which P holds; they stand in the list where they fitted
pub record IsReadTo {X E : Type 0} (P : List X → Type 0) (total rest : Result (List X) E) (count : ℕ) (fits : Bool) (items : List X) : Type 0 where
  pub front : List X
  pub answer : total ≡ after front rest
  pub counted : count ≡ length front
  pub holds : P front
  pub stands : fits ≡ true → items ≡ front

after-nil : {X E : Type 0} (r : Result (List X) E) → r ≡ after [] r
after-nil (Ok xs) = refl
after-nil (Err e) = refl

after-cons : {X E : Type 0} (front : List X) (x : X) (r : Result (List X) E) → after front (r >>= (λ xs. Ok (x ∷ xs))) ≡ after (front ++ x ∷ []) r
after-cons front x (Ok xs) = rw append_assoc refl
after-cons front x (Err e) = refl

-- nothing was read yet
pub read_to-none : {X E : Type 0} (P : List X → Type 0) (total : Result (List X) E) (items : List X) → P [] → items ≡ [] → IsReadTo P total total 0 true items
read_to-none P total items none is = record { front = []; answer = after-nil total; counted = refl; holds = none; stands = λ _. is }

-- one more was read
pub read_to-more : {X E : Type 0} (P Q : List X → Type 0) (total rest rest' : Result (List X) E) (count count' : ℕ) (fits fits' : Bool) (items items' : List X) (x : X) → IsReadTo P total rest count fits items → rest ≡ (rest' >>= λ xs. Ok (x ∷ xs)) → ((front : List X) → count ≡ length front → P front → Q (front ++ x ∷ [])) → (fits' ≡ true → (fits ≡ true) × (items' ≡ items ++ x ∷ [])) → count' ≡ count + 1 → IsReadTo Q total rest' count' fits' items'
read_to-more P Q total rest rest' count count' fits fits' items items' x h first holds kept counts =
    record {
      front = h.front ++ x ∷ [];
      answer = h.answer ∙ ap (after h.front) first ∙ after-cons h.front x rest';
      counted = omega (arith, counts, h.counted, length-append h.front (x ∷ []));
      holds = holds h.front h.counted h.holds;
      stands = λ e. let k = kept e in k.1 ∙ ap (λ xs. xs ++ x ∷ []) (h.stands k.0);
    }

-- the rest has a fault
pub read_to-fault : {X E : Type 0} (P : List X → Type 0) (total rest : Result (List X) E) (count : ℕ) (fits : Bool) (items : List X) (e : E) → IsReadTo P total rest count fits items → rest ≡ Err e → total ≡ Err e
read_to-fault P total rest count fits items e h is = h.answer ∙ rw is refl

-- the rest has none
pub read_to-end : {X E : Type 0} (P : List X → Type 0) (total rest : Result (List X) E) (count : ℕ) (fits : Bool) (items xs : List X) (h : IsReadTo P total rest count fits items) → rest ≡ Ok xs → total ≡ Ok (h.front ++ xs)
read_to-end P total rest count fits items xs h is = h.answer ∙ rw is refl

-- a fault that was found is the answer
pub refuses-fault : {Y E : Type 0} (memory : E) (said : Result Y E) (e : E) → said ≡ Err e → Refuses memory e said
refuses-fault memory (Ok y) e is = cc
refuses-fault memory (Err fault) e is = cc

-- there was no memory for what a text says
pub refuses-memory : {Y E : Type 0} (memory : E) (said : Result Y E) (y : Y) → said ≡ Ok y → Refuses memory memory said
refuses-memory memory (Ok x) y is = refl
refuses-memory memory (Err fault) y is = cc

-- of a reading: what is returned is what the text says,
pub reads-value : {X Y E : Type 0} (memory : E) (view : X → Y) (result : Result X E) (said : Result Y E) → Reads memory view result said → IfOk result (λ x. said ≡ Ok (view x))
reads-value memory view (Ok x) said h = h
reads-value memory view (Err e) said h = tt

-- an error but want of memory is the text's first fault,
pub reads-first_fault : {X Y E : Type 0} (memory : E) (view : X → Y) (result : Result X E) (said : Result Y E) → Reads memory view result said → IfErr result (λ e. e ≢ memory → said ≡ Err e)
reads-first_fault memory view (Ok x) said h = tt
reads-first_fault memory view (Err e) (Ok y) h = λ other. absurd (other h)
reads-first_fault memory view (Err e) (Err fault) h = λ _. ap (λ f. Err f) (sym h)

-- and a text with a fault is answered by its first one
pub reads-refused : {X Y E : Type 0} (memory : E) (view : X → Y) (result : Result X E) (said : Result Y E) → Reads memory view result said → IfErr said (λ fault. result ≡ Err fault)
reads-refused memory view result (Ok y) h = tt
reads-refused memory view (Ok x) (Err fault) h = cc
reads-refused memory view (Err e) (Err fault) h = ap (λ f. Err f) h

-- the end of a text

-- a line that is one too many
pub text_end-extra : {A E : Type 0} (extra : ℕ → E) (lines : List TextLine) (value : Result A E) (e : E) → Err e ≡ at_text_end {A = Unit {0}} extra lines (Ok tt) → at_text_end extra lines value ≡ Err e
text_end-extra extra [] value e h = cc
text_end-extra extra (line ∷ lines) value e h = cc

-- no line is one too many
pub text_end-none : {E : Type 0} (extra : ℕ → E) (lines : List TextLine) → Ok tt ≡ at_text_end {A = Unit {0}} extra lines (Ok tt) → lines ≡ []
text_end-none extra [] h = refl
text_end-none extra (line ∷ lines) h = cc

-- rows

module _ {X E : Type 0} (short extra : ℕ → E) (row : ℕ → TextLine → Result X E) (past number : ℕ) where
  -- one more row of so many that are due
  pub rows_of-more : (due : ℕ) (line : TextLine) (left : List TextLine) (x : X) → 0 < due → row number line ≡ Ok x → rows_of short extra row past due number (line ∷ left) ≡ (rows_of short extra row past (due - 1) (number + 1) left >>= λ xs. Ok (x ∷ xs))
  rows_of-more zero line left x some is = absurd (omega arith)
  rows_of-more (suc due) line left x some is = let e : suc due - 1 ≡ due = omega arith in rw (e, is) refl

  -- the next row has a fault
  pub rows_of-refused : (due : ℕ) (line : TextLine) (left : List TextLine) (e : E) → 0 < due → row number line ≡ Err e → rows_of short extra row past due number (line ∷ left) ≡ Err e
  rows_of-refused zero line left e some is = absurd (omega arith)
  rows_of-refused (suc due) line left e some is = rw is refl

  -- a row is missing
  pub rows_of-short : (due : ℕ) → 0 < due → rows_of short extra row past due number [] ≡ Err (short past)
  rows_of-short zero some = absurd (omega arith)
  rows_of-short (suc due) some = refl

  -- all rows were read
  pub rows_of-end : (due : ℕ) (left : List TextLine) → due ≡ 0 → rows_of short extra row past due number left ≡ at_text_end extra left (Ok [])
  rows_of-end due left none = rw none refl

-- what each of some values has, and one more, all have
pub all-append : {X : Type 0} (P : X → Type 0) (front : List X) (x : X) → AllByRecursion P front → P x → AllByRecursion P (front ++ x ∷ [])
all-append P [] x h is = (is, tt)
all-append P (y ∷ front) x h is = (h.0, all-append P front x h.1 is)
