use Rattle.std.proofs.Common.{◌≡◌, ◌∷◌, ◌∙◌, ◌≤◌, ◌+◌, length, sym, refl, Vec, Global, arith}
use Rattle.pf_lex.specs.Text.{text_lines, lines_past}
use Rattle.pf_model.specs.declared.Entry.{Entry}
use Rattle.row_text.specs.Rows.{Reads}
use Rattle.row_text.proofs.Reading.{reads-value, reads-first_fault, reads-refused}
use Rattle.journal_text.specs.Journal.{journal_of}
use Rattle.journal_text.specs.declared.fault.JourErr.TheVariants as fault
use Rattle.journal_text.proofs.ReadLemmas.{length-text_lines, journal_of-empty, journal_of-headless, journal_of-entries}
use Rattle.journal_text.proofs.read.read_journal.Goals as goal

pub returns-in_default-clause-first_fault : goal.returns-in_default-clause-first_fault
returns-in_default-clause-first_fault c = λ _. journal_of-empty c.args.bytes.now (sym c.new-lines.ensures.left ∙ c.in_default.ensures.first)

pub returns-in_default-clause-refused : goal.returns-in_default-clause-refused
returns-in_default-clause-refused c = rw (journal_of-empty c.args.bytes.now (sym c.new-lines.ensures.left ∙ c.in_default.ensures.first)) refl

pub returns-then-not-is_heading-clause-first_fault : goal.returns-then-not-is_heading-clause-first_fault
returns-then-not-is_heading-clause-first_fault c =
    λ _. journal_of-headless c.args.bytes.now c.in-Some.words c.next_line.new.self.left (sym c.new-lines.ensures.left ∙ c.in-Some.ensures.first) (sym c.is_heading.ensures ∙ c.if-not-is_heading.true)

pub returns-then-not-is_heading-clause-refused : goal.returns-then-not-is_heading-clause-refused
returns-then-not-is_heading-clause-refused c =
    rw (journal_of-headless c.args.bytes.now c.in-Some.words c.next_line.new.self.left (sym c.new-lines.ensures.left ∙ c.in-Some.ensures.first) (sym c.is_heading.ensures ∙ c.if-not-is_heading.true)) refl

-- below the heading the journal is what the entries' lines say
below : (c : goal.After-entries) → Reads fault.Memory (λ (entries : Vec Entry Global). entries.items) c.entries.result (journal_of c.args.bytes.now)
below c =
    let first : text_lines c.args.bytes.now ≡ c.in-Some.words ∷ c.next_line.new.self.left = sym c.new-lines.ensures.left ∙ c.in-Some.ensures.first in
    let journal = journal_of-entries c.args.bytes.now c.in-Some.words c.next_line.new.self.left first (sym c.is_heading.ensures ∙ c.if-not-is_heading.false) in
    let past : c.next_line.new.self.past ≡ lines_past c.args.bytes.now = c.next_line.ensures.past ∙ c.new-lines.ensures.past in
    rw (journal, ← past) c.entries.ensures.reads

pub entries-requires : goal.entries-requires
entries-requires c =
    let first : text_lines c.args.bytes.now ≡ c.in-Some.words ∷ c.next_line.new.self.left = sym c.new-lines.ensures.left ∙ c.in-Some.ensures.first in
    let count : length (c.in-Some.words ∷ c.next_line.new.self.left) ≤ length c.args.bytes.now + 1 = rw first at (length-text_lines c.args.bytes.now) in
    omega (arith, count, c.requires)

pub returns-clause-value : goal.returns-clause-value
returns-clause-value c = reads-value fault.Memory (λ (entries : Vec Entry Global). entries.items) c.entries.result _ (below c)

pub returns-clause-first_fault : goal.returns-clause-first_fault
returns-clause-first_fault c = reads-first_fault fault.Memory (λ (entries : Vec Entry Global). entries.items) c.entries.result _ (below c)

pub returns-clause-refused : goal.returns-clause-refused
returns-clause-refused c = reads-refused fault.Memory (λ (entries : Vec Entry Global). entries.items) c.entries.result _ (below c)
