-- Nothing has no words.
use Rattle.std.proofs.Common.{◌≡◌, length, sym, ap, ◌∙◌, arith}
use Rattle.pf_lex.specs.Text.{TextLine}
use Rattle.pf_lex.proofs.RunLemmas.{empty_list}
use Rattle.pf_lex.proofs.WordLemmas.{words_from-nil}
use Rattle.pf_lex.proofs.text.Words.is_at_end.Goals as goal

pub returns : goal.returns
returns c = λ empty.
    let none : length c.self.inside.rest.now ≡ 0 = grind arith in
    ap (λ (line : TextLine). line.words) (sym c.self.view_is) ∙ rw (empty_list c.self.inside.rest.now none) (words_from-nil c.self.inside.column)
