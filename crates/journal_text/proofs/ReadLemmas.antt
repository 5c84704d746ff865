-- A journal that was read as far as some line: what the whole text says, by what was read and what is left.
use Prim.Native.Nat.{suc}
use Rattle.std.proofs.Common.{◌≡◌, ℕ, ◌+◌, ◌≤◌, Bool, true, false, List, [], ◌∷◌, ◌++◌, length, refl, ap, sym, ◌∙◌, arith, append-nil}
use Rattle.std.specs.Prelude.{Ok, Err, min, max}
use Rattle.std.specs.List.{AllByRecursion, slice_split}
use Rattle.std.proofs.lemmas.List.Splits.{length-slice_split}
use Rattle.std.proofs.lemmas.List.Sums.{length-filter, count_by-le-length}
use Rattle.pf_lex.specs.Text.{TextLine, is_nonempty, is_newline, numbered, lines_of, without_empty_last, text_lines, text_lines_from, lines_past}
use Rattle.pf_model.specs.declared.Entry.{Entry}
use Rattle.pf_model.specs.declared.Op.{Op}
use Rattle.pf_model.specs.declared.Op.TheVariants.{Flip, Bisect, Contract}
use Rattle.pf_model.specs.Ends.{normal_of, IsNormal}
use Rattle.pf_model.specs.Replay.{HasTicketsFrom, HasTickets}
use Rattle.row_text.specs.Rows.{◌>>=◌, at_text_end}
use Rattle.row_text.proofs.Reading.{IsReadTo, all-append, read_to-more, read_to-fault, read_to-end, text_end-extra, text_end-none}
use Rattle.journal_text.specs.Journal.{is_end, end_on, entry_on, entries_on, is_head, journal_of}
use Rattle.journal_text.specs.declared.fault.JourErr.{JourErr}
use Rattle.journal_text.specs.declared.fault.JourErr.TheVariants as fault

-- a normal form is normal
pub normal_of-normal : (op : Op) → IsNormal (normal_of op)
normal_of-normal (Flip a b) = let lo : min (min a b) (max a b) ≡ min a b = omega arith in let hi : max (min a b) (max a b) ≡ max a b = omega arith in rw (lo, hi) refl
normal_of-normal (Bisect a b) = let lo : min (min a b) (max a b) ≡ min a b = omega arith in let hi : max (min a b) (max a b) ≡ max a b = omega arith in rw (lo, hi) refl
normal_of-normal (Contract u v) = refl

-- the entries of a journal, as far as they were read
pub record AreEntries (entries : List Entry) : Type 0 where
  pub tickets : HasTickets entries
  pub normal : AllByRecursion (λ entry. IsNormal entry.op) entries

-- where the reading stands: the lines that are left, and the entries that were read
pub record EntriesStand (past : ℕ) (all left : List TextLine) (now due : ℕ) (fits : Bool) (entries : List Entry) : Type 0 where
  pub past_is : now ≡ past
  pub few : due + length left ≤ 268435457
  pub read : IsReadTo AreEntries (entries_on past 0 all) (entries_on past due left) due fits entries

tickets-append : (first : ℕ) (entries : List Entry) (entry : Entry) → HasTicketsFrom first entries → entry.ticket ≡ first + length entries → HasTicketsFrom first (entries ++ entry ∷ [])
tickets-append first [] entry h is = (omega (arith, is), tt)
tickets-append first (e ∷ entries) entry h is = (h.0, tickets-append (suc first) entries entry h.1 (omega (arith, is)))

-- a line that is an entry
pub entry-line : (past due : ℕ) (line : TextLine) (left : List TextLine) → is_end line.words ≡ false → entries_on past due (line ∷ left) ≡ (entry_on due line.line line.words >>= (λ entry. entries_on past (due + 1) left >>= (λ entries. Ok (entry ∷ entries))))
unfolding entries_on
entry-line past due line left more = rw more refl

-- the end line
pub end-line : (past due : ℕ) (line : TextLine) (left : List TextLine) → is_end line.words ≡ true → entries_on past due (line ∷ left) ≡ (end_on due line.line line.words >>= (λ n. at_text_end fault.Extra left (Ok [])))
unfolding entries_on
end-line past due line left is = rw is refl

module _ (past : ℕ) (all left : List TextLine) (now due : ℕ) (fits : Bool) (entries : List Entry) (s : EntriesStand past all left now due fits entries) where
  module _ (line : TextLine) (rest : List TextLine) (there : left ≡ line ∷ rest) where
    few_left : due + 1 + length rest ≤ 268435457
    few_left = let h : due + length (line ∷ rest) ≤ 268435457 = rw there at s.few in omega (arith, h)

    -- an entry was read
    pub goes_on : (entry : Entry) (now' : ℕ) (fits' : Bool) (entries' : List Entry) → now' ≡ now → is_end line.words ≡ false → Ok entry ≡ entry_on due line.line line.words → entry.ticket ≡ due → IsNormal entry.op → (fits' ≡ true → (fits ≡ true) × (entries' ≡ entries ++ entry ∷ [])) → EntriesStand past all rest now' (due + 1) fits' entries'
    goes_on entry now' fits' entries' same more is ticket normal kept =
        record {
          past_is = same ∙ s.past_is;
          few = few_left;
          read =
              read_to-more AreEntries AreEntries _ _ _ _ _ _ _ _ _ entry s.read (rw there (entry-line past due line rest more ∙ rw (sym is) refl))
              (λ front counted h. record { tickets = tickets-append 0 front entry h.tickets (omega (arith, ticket, counted)); normal = all-append (λ e. IsNormal e.op) front entry h.normal normal })
              kept refl;
        }

    -- an entry is refused
    pub is_bad : (e : JourErr) → is_end line.words ≡ false → Err e ≡ entry_on due line.line line.words → entries_on past 0 all ≡ Err e
    is_bad e more is = read_to-fault _ _ _ _ _ _ e s.read (rw there (entry-line past due line rest more ∙ rw (sym is) refl))

    -- the end line is refused
    pub is_bad_end : (e : JourErr) → is_end line.words ≡ true → Err e ≡ end_on due line.line line.words → entries_on past 0 all ≡ Err e
    is_bad_end e end is = read_to-fault _ _ _ _ _ _ e s.read (rw there (end-line past due line rest end ∙ rw (sym is) refl))

    -- a line stands below the end line
    pub is_extra : (n : ℕ) (e : JourErr) → is_end line.words ≡ true → Ok n ≡ end_on due line.line line.words → Err e ≡ at_text_end {A = Unit {0}} fault.Extra rest (Ok tt) → entries_on past 0 all ≡ Err e
    is_extra n e end is last =
        read_to-fault _ _ _ _ _ _ e s.read (rw there (end-line past due line rest end ∙ rw (sym is) (text_end-extra fault.Extra rest (Ok []) e last)))

    -- the end line is the last
    pub is_done : (n : ℕ) → is_end line.words ≡ true → Ok n ≡ end_on due line.line line.words → Ok tt ≡ at_text_end {A = Unit {0}} fault.Extra rest (Ok tt) → entries_on past 0 all ≡ Ok s.read.front
    is_done n end is last =
        let none : rest ≡ [] = text_end-none fault.Extra rest last in
        read_to-end _ _ _ _ _ _ [] s.read (rw there (end-line past due line rest end ∙ rw (sym is, none) refl)) ∙ rw append-nil refl

  -- there is no end line
  pub is_short : (e : JourErr) → left ≡ [] → e ≡ fault.Short now → entries_on past 0 all ≡ Err e
  unfolding entries_on
  is_short e none is = read_to-fault _ _ _ _ _ _ e s.read (rw none (ap (λ n. Err (fault.Short n)) (sym s.past_is) ∙ ap (λ f. Err f) (sym is)))

-- a text has no more lines than bytes, and one

length-numbered : (number : ℕ) (lines : List (List ℕ)) → length (numbered number lines) ≡ length lines
length-numbered number [] = refl
length-numbered number (line ∷ lines) = omega (arith, length-numbered (number + 1) lines)

last-shorter-at : (piece : List ℕ) (b : Bool) → is_nonempty piece ≡ b → length (without_empty_last (piece ∷ [])) ≤ 1
last-shorter-at piece true e = rw e (omega arith)
last-shorter-at piece false e = rw e (omega arith)

last-shorter : (pieces : List (List ℕ)) → length (without_empty_last pieces) ≤ length pieces
last-shorter [] = omega arith
last-shorter (piece ∷ []) = omega (arith, last-shorter-at piece (is_nonempty piece) refl)
last-shorter (piece ∷ next ∷ pieces) = omega (arith, last-shorter (next ∷ pieces))

pub length-text_lines : (bytes : List ℕ) → length (text_lines bytes) ≤ length bytes + 1
unfolding text_lines_from lines_of
length-text_lines bytes =
    let lines = numbered 1 (without_empty_last (slice_split is_newline bytes)) in
    omega (arith, length-filter (λ line. is_nonempty line.words) lines, count_by-le-length (λ line. is_nonempty line.words) lines, length-numbered 1 (without_empty_last (slice_split is_newline bytes)), last-shorter (slice_split is_newline bytes), length-slice_split is_newline bytes, count_by-le-length is_newline bytes)

-- a text without a line has no heading
pub journal_of-empty : (bytes : List ℕ) → text_lines bytes ≡ [] → journal_of bytes ≡ Err fault.Head
unfolding journal_of
journal_of-empty bytes none = rw none refl

-- a first line that is no heading
pub journal_of-headless : (bytes : List ℕ) (head : TextLine) (lines : List TextLine) → text_lines bytes ≡ head ∷ lines → is_head head.words ≡ false → journal_of bytes ≡ Err fault.Head
unfolding journal_of
journal_of-headless bytes head lines first other = rw (first, other) refl

-- the entries stand below the heading
pub journal_of-entries : (bytes : List ℕ) (head : TextLine) (lines : List TextLine) → text_lines bytes ≡ head ∷ lines → is_head head.words ≡ true → journal_of bytes ≡ entries_on (lines_past bytes) 0 lines
unfolding journal_of
journal_of-entries bytes head lines first is = rw (first, is) refl
