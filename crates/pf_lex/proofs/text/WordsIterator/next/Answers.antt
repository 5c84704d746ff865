-- The first word is the run of word bytes after the gaps in front.
use Rattle.std.proofs.Common.{◌≡◌, ◌+◌, List, [], ◌∷◌, length, sym, ap, ◌∙◌, arith, refl}
use Rattle.pf_lex.specs.Text.{Word, TextLine, words_from}
use Rattle.pf_lex.specs.Token.{word_of}
use Rattle.pf_lex.proofs.RunLemmas.{rest_from}
use Rattle.pf_lex.proofs.WordLemmas.{words_from-next, words_from-end}
use Rattle.pf_lex.proofs.text.WordsIterator.next.Goals as goal

pub returns-then-len-eq0-clause-steps : goal.returns-then-len-eq0-clause-steps
returns-then-len-eq0-clause-steps c =
    let ends : words_from c.self.inside.column c.self.inside.rest.now ≡ [] = words_from-end c.self.inside.column c.self.inside.rest.now _ c.gap_len-gaps.result c.gap_len-gaps.ensures.run (rest_from c.gap_len-gaps.result c.self.inside.rest.now) (sym c.word_len-len.ensures.run ∙ c.if-len-eq0.true) in
    (ap (λ (line : TextLine). line.words) (sym c.self.view_is) ∙ ends, refl)

taken : (c : goal.After-way_told-2-1) → c.args.self.now.words ≡ word_of record { text = c.split_at.result.0; line = c.self.inside.line; column = c.self.inside.column + c.gap_len-gaps.result } ∷ words_from (c.self.inside.column + c.gap_len-gaps.result + c.word_len-len.result) c.split_at.result.1.now
taken c =
    rw (c.split_at.ensures.front, c.split_at.ensures.back)
    (ap (λ (line : TextLine). line.words) (sym c.self.view_is)
    ∙ words_from-next c.self.inside.column c.self.inside.rest.now _ c.gap_len-gaps.result c.word_len-len.result c.gap_len-gaps.ensures.run (rest_from c.gap_len-gaps.result c.self.inside.rest.now) c.word_len-len.ensures.run (omega arith))

pub returns-clause-steps : goal.returns-clause-steps
returns-clause-steps c =
    (taken c, ap (λ (line : TextLine). line.line) c.self.view_is, ap (λ (line : TextLine). line.line) c.self.view_is)

pub returns-clause-goes : goal.returns-clause-goes
returns-clause-goes c =
    record {
      on = λ finite. (tt, tt, rw (ap (λ (words : List Word). length words) (taken c)) (omega arith));
      keeps = tt;
      rests = λ finite. tt;
    }
