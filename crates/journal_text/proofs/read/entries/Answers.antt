use Rattle.std.proofs.Common.{◌≡◌, ◌∷◌, ◌∙◌, true, false, Ok, Err, sym, ap}
use Rattle.std.proofs.lemmas.Result.{err_from_is_err_and}
use Rattle.std.proofs.lemmas.List.Elements.{All-from_recursion}
use Rattle.pf_lex.specs.Token.{word_of}
use Rattle.pf_model.specs.Ends.{IsNormal}
use Rattle.row_text.proofs.Reading.{refuses-fault, refuses-memory}
use Rattle.journal_text.specs.Journal.{is_end, end_on, entry_on}
use Rattle.journal_text.specs.declared.fault.JourErr.TheVariants as fault
use Rattle.journal_text.proofs.ReadLemmas.{goes_on, is_bad, is_bad_end, is_extra, is_done, is_short}
use Rattle.journal_text.proofs.read.entries.Goals as goal

pub returns-in_err-end_count-clause-reads : goal.returns-in_err-end_count-clause-reads
returns-in_err-end_count-clause-reads c =
    let p = err_from_is_err_and c.from_residual.result c.from_residual.ensures.1 in
    let words : c.in-Some.words.words ≡ word_of c.in-Some-next.first ∷ c.next.new.self.words = c.in-Some-next.ensures.steps.0 in
    let line : c.in-Some-next.first.line ≡ c.in-Some.words.line = c.in-Some-next.ensures.steps.1 in
    let end : is_end c.in-Some.words.words ≡ true = rw words (sym c.is_word.ensures ∙ c.if-is_word.true) in
    let is : Err c.in_err-end_count.field-0.0 ≡ end_on c.loop-words.due c.in-Some.words.line c.in-Some.words.words = rw (words, ← line) c.in_err-end_count.ensures in
    rw (p.1, p.2) (refuses-fault _ _ _ (is_bad_end _ _ _ _ _ _ _ c.loop-words.invariant c.in-Some.words _ c.in-Some.ensures.first c.in_err-end_count.field-0.0 end is))

pub returns-in_err-end_text-clause-reads : goal.returns-in_err-end_text-clause-reads
returns-in_err-end_text-clause-reads c =
    let p = err_from_is_err_and c.from_residual-in_err-end_text.result c.from_residual-in_err-end_text.ensures.1 in
    let words : c.in-Some.words.words ≡ word_of c.in-Some-next.first ∷ c.next.new.self.words = c.in-Some-next.ensures.steps.0 in
    let line : c.in-Some-next.first.line ≡ c.in-Some.words.line = c.in-Some-next.ensures.steps.1 in
    let end : is_end c.in-Some.words.words ≡ true = rw words (sym c.is_word.ensures ∙ c.if-is_word.true) in
    let is : Ok c.in_ok-end_count.field-0 ≡ end_on c.loop-words.due c.in-Some.words.line c.in-Some.words.words = rw (words, ← line) c.in_ok-end_count.ensures in
    rw (p.1, p.2) (refuses-fault _ _ _ (is_extra _ _ _ _ _ _ _ c.loop-words.invariant c.in-Some.words _ c.in-Some.ensures.first c.in_ok-end_count.field-0 c.in_err-end_text.field-0.0 end is c.in_err-end_text.ensures))

pub returns-then-not-fits-clause-reads : goal.returns-then-not-fits-clause-reads
returns-then-not-fits-clause-reads c =
    let words : c.in-Some.words.words ≡ word_of c.in-Some-next.first ∷ c.next.new.self.words = c.in-Some-next.ensures.steps.0 in
    let line : c.in-Some-next.first.line ≡ c.in-Some.words.line = c.in-Some-next.ensures.steps.1 in
    let end : is_end c.in-Some.words.words ≡ true = rw words (sym c.is_word.ensures ∙ c.if-is_word.true) in
    let is : Ok c.in_ok-end_count.field-0 ≡ end_on c.loop-words.due c.in-Some.words.line c.in-Some.words.words = rw (words, ← line) c.in_ok-end_count.ensures in
    refuses-memory _ _ _ (is_done _ _ _ _ _ _ _ c.loop-words.invariant c.in-Some.words _ c.in-Some.ensures.first c.in_ok-end_count.field-0 end is c.in_ok-end_text.ensures)

pub returns-then-is_word-clause-reads : goal.returns-then-is_word-clause-reads
returns-then-is_word-clause-reads c =
    let words : c.in-Some.words.words ≡ word_of c.in-Some-next.first ∷ c.next.new.self.words = c.in-Some-next.ensures.steps.0 in
    let line : c.in-Some-next.first.line ≡ c.in-Some.words.line = c.in-Some-next.ensures.steps.1 in
    let end : is_end c.in-Some.words.words ≡ true = rw words (sym c.is_word.ensures ∙ c.if-is_word.true) in
    let is : Ok c.in_ok-end_count.field-0 ≡ end_on c.loop-words.due c.in-Some.words.line c.in-Some.words.words = rw (words, ← line) c.in_ok-end_count.ensures in
    is_done _ _ _ _ _ _ _ c.loop-words.invariant c.in-Some.words _ c.in-Some.ensures.first c.in_ok-end_count.field-0 end is c.in_ok-end_text.ensures
    ∙ ap (λ entries. Ok entries) (sym (c.loop-words.invariant.read.stands c.if-not-fits.false))

pub returns-then-is_word-clause-tickets : goal.returns-then-is_word-clause-tickets
returns-then-is_word-clause-tickets c = rw (c.loop-words.invariant.read.stands c.if-not-fits.false) c.loop-words.invariant.read.holds.tickets

pub returns-then-is_word-clause-normal : goal.returns-then-is_word-clause-normal
returns-then-is_word-clause-normal c =
    rw (c.loop-words.invariant.read.stands c.if-not-fits.false) (All-from_recursion (λ entry. IsNormal entry.op) _ c.loop-words.invariant.read.holds.normal)

pub returns-in_err-entry-clause-reads : goal.returns-in_err-entry-clause-reads
returns-in_err-entry-clause-reads c =
    let p = err_from_is_err_and c.from_residual-in_err-entry.result c.from_residual-in_err-entry.ensures.1 in
    let words : c.in-Some.words.words ≡ word_of c.in-Some-next.first ∷ c.next.new.self.words = c.in-Some-next.ensures.steps.0 in
    let line : c.in-Some-next.first.line ≡ c.in-Some.words.line = c.in-Some-next.ensures.steps.1 in
    let more : is_end c.in-Some.words.words ≡ false = rw words (sym c.is_word.ensures ∙ c.if-is_word.false) in
    let is : Err c.in_err-entry.field-0.0 ≡ entry_on c.loop-words.due c.in-Some.words.line c.in-Some.words.words = rw (words, ← line) c.in_err-entry.ensures.value in
    rw (p.1, p.2) (refuses-fault _ _ _ (is_bad _ _ _ _ _ _ _ c.loop-words.invariant c.in-Some.words _ c.in-Some.ensures.first c.in_err-entry.field-0.0 more is))

pub loop-words-preserved : goal.loop-words-preserved
loop-words-preserved c =
    let words : c.in-Some.words.words ≡ word_of c.in-Some-next.first ∷ c.next.new.self.words = c.in-Some-next.ensures.steps.0 in
    let line : c.in-Some-next.first.line ≡ c.in-Some.words.line = c.in-Some-next.ensures.steps.1 in
    let more : is_end c.in-Some.words.words ≡ false = rw words (sym c.is_word.ensures ∙ c.if-is_word.false) in
    let is : Ok c.in_ok-entry.entry ≡ entry_on c.loop-words.due c.in-Some.words.line c.in-Some.words.words = rw (words, ← line) c.in_ok-entry.ensures.value in
    goes_on _ _ _ _ _ _ _ c.loop-words.invariant c.in-Some.words _ c.in-Some.ensures.first c.in_ok-entry.entry _ _ _ c.next_line.ensures.past more is c.in_ok-entry.ensures.ticket c.in_ok-entry.ensures.normal c.keep-fits.ensures

pub returns-clause-reads : goal.returns-clause-reads
returns-clause-reads c =
    refuses-fault _ _ _ (is_short _ _ _ _ _ _ _ c.loop-words.invariant _ c.in_default.ensures.first (ap (λ n. fault.Short n) (c.past.ensures ∙ c.next_line.ensures.past)))
