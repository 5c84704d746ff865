use Rattle.std.proofs.Common.{◌≡◌, ◌∷◌, ◌∙◌, true, false, Ok, Err, sym, ap, arith, ◌++◌, [], length, length-append}
use Rattle.std.proofs.lemmas.Result.{err_from_is_err_and}
use Rattle.pf_lex.specs.Token.{word_of}
use Rattle.row_text.proofs.Reading.{refuses-fault, refuses-memory}
use Rattle.table_text.specs.Size.{is_default, row_on, default_on}
use Rattle.table_text.proofs.SizeLemmas.{goes_on, is_bad, is_bad_default, is_extra, is_done, is_open, has_default-append}
use Rattle.table_text.proofs.size.bands.Goals as goal

pub returns-in_err-band-clause-reads : goal.returns-in_err-band-clause-reads
returns-in_err-band-clause-reads c =
    let p = err_from_is_err_and c.from_residual.result c.from_residual.ensures.1 in
    let words : c.in-Some.words.words ≡ word_of c.in-Some-next.first ∷ c.next.new.self.words = c.in-Some-next.ensures.steps.0 in
    let line : c.in-Some-next.first.line ≡ c.in-Some.words.line = c.in-Some-next.ensures.steps.1 in
    let default : is_default c.in-Some.words.words ≡ true = rw words (sym c.is_word.ensures ∙ c.if-is_word.true) in
    let is : Err c.in_err-band.field-0.0 ≡ default_on c.in-Some.words.line c.in-Some.words.words = rw (words, ← line) c.in_err-band.ensures.value in
    rw (p.1, p.2) (refuses-fault _ _ _ (is_bad_default _ _ _ _ _ c.loop-words.invariant c.in-Some.words _ c.in-Some.ensures.first c.in_err-band.field-0.0 default is))

pub returns-in_err-end_text-clause-reads : goal.returns-in_err-end_text-clause-reads
returns-in_err-end_text-clause-reads c =
    let p = err_from_is_err_and c.from_residual-in_err-end_text.result c.from_residual-in_err-end_text.ensures.1 in
    let words : c.in-Some.words.words ≡ word_of c.in-Some-next.first ∷ c.next.new.self.words = c.in-Some-next.ensures.steps.0 in
    let line : c.in-Some-next.first.line ≡ c.in-Some.words.line = c.in-Some-next.ensures.steps.1 in
    let default : is_default c.in-Some.words.words ≡ true = rw words (sym c.is_word.ensures ∙ c.if-is_word.true) in
    let is : Ok c.in_ok-band.band ≡ default_on c.in-Some.words.line c.in-Some.words.words = rw (words, ← line) c.in_ok-band.ensures.value in
    rw (p.1, p.2) (refuses-fault _ _ _ (is_extra _ _ _ _ _ c.loop-words.invariant c.in-Some.words _ c.in-Some.ensures.first c.in_ok-band.band c.in_err-end_text.field-0.0 default is c.in_err-end_text.ensures))

pub returns-then-not-keep-clause-reads : goal.returns-then-not-keep-clause-reads
returns-then-not-keep-clause-reads c =
    let words : c.in-Some.words.words ≡ word_of c.in-Some-next.first ∷ c.next.new.self.words = c.in-Some-next.ensures.steps.0 in
    let line : c.in-Some-next.first.line ≡ c.in-Some.words.line = c.in-Some-next.ensures.steps.1 in
    let default : is_default c.in-Some.words.words ≡ true = rw words (sym c.is_word.ensures ∙ c.if-is_word.true) in
    let is : Ok c.in_ok-band.band ≡ default_on c.in-Some.words.line c.in-Some.words.words = rw (words, ← line) c.in_ok-band.ensures.value in
    refuses-memory _ _ _ (is_done _ _ _ _ _ c.loop-words.invariant c.in-Some.words _ c.in-Some.ensures.first c.in_ok-band.band default is c.in_ok-end_text.ensures)

pub returns-then-is_word-clause-reads : goal.returns-then-is_word-clause-reads
returns-then-is_word-clause-reads c =
    let words : c.in-Some.words.words ≡ word_of c.in-Some-next.first ∷ c.next.new.self.words = c.in-Some-next.ensures.steps.0 in
    let line : c.in-Some-next.first.line ≡ c.in-Some.words.line = c.in-Some-next.ensures.steps.1 in
    let default : is_default c.in-Some.words.words ≡ true = rw words (sym c.is_word.ensures ∙ c.if-is_word.true) in
    let is : Ok c.in_ok-band.band ≡ default_on c.in-Some.words.line c.in-Some.words.words = rw (words, ← line) c.in_ok-band.ensures.value in
    let kept = c.keep.ensures c.if-not-keep.false in
    is_done _ _ _ _ _ c.loop-words.invariant c.in-Some.words _ c.in-Some.ensures.first c.in_ok-band.band default is c.in_ok-end_text.ensures
    ∙ ap (λ bands. Ok (bands ++ c.in_ok-band.band ∷ [])) (sym (c.loop-words.invariant.read.stands kept.0))
    ∙ sym (ap (λ bands. Ok bands) kept.1)

pub returns-then-is_word-clause-default_last : goal.returns-then-is_word-clause-default_last
returns-then-is_word-clause-default_last c =
    let kept = c.keep.ensures c.if-not-keep.false in
    rw kept.1 (has_default-append c.loop-words.bands.items c.in_ok-band.band c.in_ok-band.ensures.everywhere)

pub returns-then-is_word-clause-rows : goal.returns-then-is_word-clause-rows
returns-then-is_word-clause-rows c =
    let kept = c.keep.ensures c.if-not-keep.false in
    let front = c.loop-words.invariant.read.stands kept.0 in
    omega (arith, ap length kept.1, length-append c.loop-words.bands.items (c.in_ok-band.band ∷ []), ap length front, c.loop-words.invariant.read.counted, c.loop-words.invariant.few, c.keep.new.values.ok)

pub returns-in_err-band-2-clause-reads : goal.returns-in_err-band-2-clause-reads
returns-in_err-band-2-clause-reads c =
    let p = err_from_is_err_and c.from_residual-in_err-band-2.result c.from_residual-in_err-band-2.ensures.1 in
    let words : c.in-Some.words.words ≡ word_of c.in-Some-next.first ∷ c.next.new.self.words = c.in-Some-next.ensures.steps.0 in
    let line : c.in-Some-next.first.line ≡ c.in-Some.words.line = c.in-Some-next.ensures.steps.1 in
    let row : is_default c.in-Some.words.words ≡ false = rw words (sym c.is_word.ensures ∙ c.if-is_word.false) in
    let is : Err c.in_err-band-2.field-0.0 ≡ row_on c.loop-words.above c.in-Some.words.line c.in-Some.words.words = rw (words, ← line) c.in_err-band-2.ensures.value in
    rw (p.1, p.2) (refuses-fault _ _ _ (is_bad _ _ _ _ _ c.loop-words.invariant c.in-Some.words _ c.in-Some.ensures.first c.in_err-band-2.field-0.0 row is))

pub loop-words-preserved : goal.loop-words-preserved
loop-words-preserved c =
    let words : c.in-Some.words.words ≡ word_of c.in-Some-next.first ∷ c.next.new.self.words = c.in-Some-next.ensures.steps.0 in
    let line : c.in-Some-next.first.line ≡ c.in-Some.words.line = c.in-Some-next.ensures.steps.1 in
    let row : is_default c.in-Some.words.words ≡ false = rw words (sym c.is_word.ensures ∙ c.if-is_word.false) in
    let is : Ok c.in_ok-band-2.band ≡ row_on c.loop-words.above c.in-Some.words.line c.in-Some.words.words = rw (words, ← line) c.in_ok-band-2.ensures.value in
    goes_on _ _ _ _ _ c.loop-words.invariant c.in-Some.words _ c.in-Some.ensures.first c.in_ok-band-2.band _ _ row is c.in_ok-band-2.ensures.room c.keep-fits.ensures

pub returns-clause-reads : goal.returns-clause-reads
returns-clause-reads c = refuses-fault _ _ _ (is_open _ _ _ _ _ c.loop-words.invariant c.in_default.ensures.first)
