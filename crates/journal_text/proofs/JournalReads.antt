-- What is written of a journal is read again.
use Prim.Native.Nat.{suc}
use Rattle.std.proofs.Common.{◌≡◌, ℕ, ◌+◌, ◌<◌, ◌≤◌, ◌^◌, Bool, true, false, List, [], ◌∷◌, ◌++◌, length, refl, sym, ap, ◌∙◌, arith, lit<}
use Rattle.std.specs.Prelude.{Ok, map, decimal, codes, ◌==◌, min, max}
use Rattle.std.specs.List.{AllByRecursion, list_all}
use Rattle.std.proofs.lemmas.Bool.Decides.{nat_tests}
use Rattle.std.proofs.lemmas.List.Elements.{recursion_from_All}
use Rattle.std.specs.Str.{bytes_eq}
use Rattle.std.proofs.lemmas.Slice.Eq.{bytes_eq-Decides}
use Rattle.pf_lex.specs.Text.{Word, placed, lines_past}
use Rattle.pf_lex.specs.Written.{is_plain_row, written_lines}
use Rattle.pf_lex.proofs.Laws.{text_lines-text}
use Rattle.pf_lex.proofs.NumberLaws.{natural_of-decimal, is_plain_word-decimal}
use Rattle.pf_model.specs.declared.Op.{Op}
use Rattle.pf_model.specs.declared.Op.TheVariants.{Flip, Bisect, Contract}
use Rattle.pf_model.specs.declared.Entry.{Entry}
use Rattle.pf_model.specs.Ends.{normal_of, IsNormal}
use Rattle.pf_model.specs.Texts.{entry_words, op_words, journal_text}
use Rattle.pf_model.specs.Replay.{HasTicketsFrom}
use Rattle.row_text.proofs.Numbers.{read_natural, natural_within-decimal}
use Rattle.journal_text.specs.Entries.{IsNamedWithin}
use Rattle.journal_text.specs.declared.fault.JourErr.TheVariants as fault
use Rattle.journal_text.specs.Journal.{number_at, due_at, kind_at, op_of, entry_on, end_on, entries_on, is_end}
use Rattle.journal_text.specs.declared.step.Kind.{Kind}
use Rattle.journal_text.specs.declared.step.Kind.TheVariants as kind
use Rattle.journal_text.specs.Laws.{IsWritable, JournalReadsAgain}
use Rattle.journal_text.proofs.ReadLemmas.{entry-line, end-line, journal_of-entries}

-- a written number is read as itself
number_at-decimal : (most line column n : ℕ) → n ≤ most → most < 2 ^ 62 → number_at most line record { text = decimal n; column = column } ≡ Ok n
number_at-decimal most line column n within small = natural_within-decimal (fault.Word line) most n column within (omega arith)

due_at-same : (line due : ℕ) → due_at line due due ≡ Ok due
due_at-same line due = let e : (due == due) ≡ true = grind (arith, nat_tests) in rw e refl

-- five words that are read as an entry's parts are read as the entry
entry_on-words : (due line : ℕ) (ticket chunk kind a b : Word) (c : ℕ) (k : Kind) (x y : ℕ) → number_at 4294967295 line ticket ≡ Ok due → number_at 65535 line chunk ≡ Ok c → kind_at line kind ≡ Ok k → number_at 4294967295 line a ≡ Ok x → number_at 4294967295 line b ≡ Ok y → entry_on due line (ticket ∷ chunk ∷ kind ∷ a ∷ b ∷ []) ≡ Ok record { ticket = due; chunk = c; op = normal_of (op_of k x y) }
unfolding entry_on
entry_on-words due line ticket chunk kind a b c k x y e1 e2 e3 e4 e5 = rw (e1, due_at-same line due, e2, e3, e4, e5) refl

-- the same of a written entry
entry_on-written : (due line chunk : ℕ) (op : Op) → due ≤ 4294967295 → chunk ≤ 65535 → IsNormal op → IsNamedWithin 4294967295 op → entry_on due line (placed 1 (decimal due ∷ decimal chunk ∷ op_words op)) ≡ Ok record { ticket = due; chunk = chunk; op = op }
entry_on-written due line chunk (Flip a b) few small normal names =
    let lo : min a b ≡ a = cc in
    let hi : max a b ≡ b = cc in
    rw (lo, hi)
    (entry_on-words due line _ _ _ _ _ chunk kind.Flip a b (number_at-decimal _ _ _ _ few (lit< tt)) (number_at-decimal _ _ _ _ small (lit< tt)) refl (number_at-decimal _ _ _ _ names.0 (lit< tt)) (number_at-decimal _ _ _ _ names.1 (lit< tt))
    ∙ rw (lo, hi) refl)
entry_on-written due line chunk (Bisect a b) few small normal names =
    let lo : min a b ≡ a = cc in
    let hi : max a b ≡ b = cc in
    rw (lo, hi)
    (entry_on-words due line _ _ _ _ _ chunk kind.Bisect a b (number_at-decimal _ _ _ _ few (lit< tt)) (number_at-decimal _ _ _ _ small (lit< tt)) refl (number_at-decimal _ _ _ _ names.0 (lit< tt)) (number_at-decimal _ _ _ _ names.1 (lit< tt))
    ∙ rw (lo, hi) refl)
entry_on-written due line chunk (Contract u v) few small normal names =
    entry_on-words due line _ _ _ _ _ chunk kind.Contract u v (number_at-decimal _ _ _ _ few (lit< tt)) (number_at-decimal _ _ _ _ small (lit< tt)) refl (number_at-decimal _ _ _ _ names.0 (lit< tt)) (number_at-decimal _ _ _ _ names.1 (lit< tt))

-- a written end line is read as its count
end_on-written : (due line : ℕ) → due ≤ 4294967295 → end_on due line (placed 1 (codes "end" ∷ decimal due ∷ [])) ≡ Ok due
unfolding end_on
end_on-written due line few =
    let e = number_at-decimal 4294967295 line 5 due few (lit< tt) in
    rw (e, due_at-same line due) refl

not_end-at : (n : ℕ) (b : Bool) → n ≤ 4294967295 → bytes_eq (decimal n) (codes "end") ≡ b → bytes_eq (decimal n) (codes "end") ≡ false
not_end-at n true few e =
    let same : decimal n ≡ codes "end" = (bytes_eq-Decides (decimal n) (codes "end")).0 e in
    let read = read_natural (decimal n) n (natural_of-decimal n (omega arith)) in
    let k : false ≡ true = rw same at read.0 in
    cc
not_end-at n false few e = e

-- written entries, with the end line below them, are read as themselves
entries_on-written : (past number due total : ℕ) (entries : List Entry) → total ≡ due + length entries → total ≤ 4294967295 → HasTicketsFrom due entries → AllByRecursion IsWritable entries → entries_on past due (written_lines number (map entry_words entries ++ (codes "end" ∷ decimal total ∷ []) ∷ [])) ≡ Ok entries
entries_on-written past number due total [] count few tickets writable =
    let e : total ≡ due = omega arith in
    rw e
    (let fits : due ≤ 4294967295 = omega arith in
    end-line past due record { line = number; words = placed 1 (codes "end" ∷ decimal due ∷ []) } [] refl ∙ rw (end_on-written due number fits) refl)
entries_on-written past number due total (entry ∷ entries) count few tickets writable =
    let ticket : entry.ticket ≡ due = tickets.0 in
    let fits : due ≤ 4294967295 = omega arith in
    let more : is_end (placed 1 (entry_words entry)) ≡ false = rw ticket (not_end-at due (bytes_eq (decimal due) (codes "end")) fits refl) in
    let is : entry_on due number (placed 1 (entry_words entry)) ≡ Ok entry = rw ticket (entry_on-written due number entry.chunk entry.op fits writable.0.chunk writable.0.normal writable.0.names) ∙ ap (λ t. Ok record { ticket = t; chunk = entry.chunk; op = entry.op }) (sym ticket) in
    let counts : total ≡ due + 1 + length entries = omega (arith, count) in
    let next : suc due ≡ due + 1 = omega arith in
    let rest = entries_on-written past (number + 1) (due + 1) total entries counts few (rw next at tickets.1) writable.1 in
    entry-line past due record { line = number; words = placed 1 (entry_words entry) } (written_lines (number + 1) (map entry_words entries ++ (codes "end" ∷ decimal total ∷ []) ∷ [])) more
    ∙ rw (is, rest) refl

op_plain : (ticket chunk : ℕ) (op : Op) → ticket ≤ 4294967295 → chunk ≤ 65535 → IsNamedWithin 4294967295 op → is_plain_row (decimal ticket ∷ decimal chunk ∷ op_words op) ≡ true
op_plain ticket chunk (Flip a b) t c names = rw (is_plain_word-decimal ticket (omega arith), is_plain_word-decimal chunk (omega arith), is_plain_word-decimal (min a b) (omega (arith, names.0)), is_plain_word-decimal (max a b) (omega (arith, names.0, names.1))) refl
op_plain ticket chunk (Bisect a b) t c names = rw (is_plain_word-decimal ticket (omega arith), is_plain_word-decimal chunk (omega arith), is_plain_word-decimal (min a b) (omega (arith, names.0)), is_plain_word-decimal (max a b) (omega (arith, names.0, names.1))) refl
op_plain ticket chunk (Contract u v) t c names = rw (is_plain_word-decimal ticket (omega arith), is_plain_word-decimal chunk (omega arith), is_plain_word-decimal u (omega (arith, names.0)), is_plain_word-decimal v (omega (arith, names.1))) refl

plain : (due total : ℕ) (entries : List Entry) → total ≡ due + length entries → total ≤ 4294967295 → HasTicketsFrom due entries → AllByRecursion IsWritable entries → list_all is_plain_row (map entry_words entries ++ (codes "end" ∷ decimal total ∷ []) ∷ []) ≡ true
plain due total [] count few tickets writable = rw (is_plain_word-decimal total (omega arith)) refl
plain due total (entry ∷ entries) count few tickets writable =
    let ticket : entry.ticket ≤ 4294967295 = omega (arith, tickets.0) in
    let counts : total ≡ suc due + length entries = omega (arith, count) in
    rw (op_plain entry.ticket entry.chunk entry.op ticket writable.0.chunk writable.0.names) (plain (suc due) total entries counts few tickets.1 writable.1)

pub journal_reads_again : JournalReadsAgain
journal_reads_again entries few tickets all =
    let writable = recursion_from_All IsWritable entries all in
    let rows : List (List (List ℕ)) = (codes "parfum" ∷ codes "journal" ∷ codes "1" ∷ []) ∷ (map entry_words entries ++ (codes "end" ∷ decimal (length entries) ∷ []) ∷ []) in
    let first = text_lines-text rows (plain 0 (length entries) entries (omega arith) few tickets writable) in
    journal_of-entries (journal_text entries) record { line = 1; words = placed 1 (codes "parfum" ∷ codes "journal" ∷ codes "1" ∷ []) } (written_lines 2 (map entry_words entries ++ (codes "end" ∷ decimal (length entries) ∷ []) ∷ [])) first refl
    ∙ entries_on-written (lines_past (journal_text entries)) 2 0 (length entries) entries (omega arith) few tickets writable
