use Rattle.std.proofs.Common.{List, ◌∷◌, sym, ap, ◌∙◌, subst}
use Rattle.pf_star_model.specs.Lent.{Held}
use Rattle.pf_holder.specs.Facts.{won_pair}
use Rattle.pf_attempt.specs.Stages.{HoldsEnds}
use Rattle.pf_attempt.proofs.Parts.{one_end, two_ends}
use Rattle.pf_attempt.proofs.trying.ends_held.Goals as goal

pub returns-then-a-b-clause-ends : goal.returns-then-a-b-clause-ends
returns-then-a-b-clause-ends g c = λ none.
    let w = c.end_held.ensures.won c.in_default.is in
    let e = c.ends_of-a.ensures in
    subst (λ (x : List Held). HoldsEnds c.args.op x) (sym (w.1 ∙ ap (λ (x : List Held). won_pair c.ends_of-a.result.0 w.0 ∷ x) c.requires.nothing))
    (one_end c.args.op c.ends_of-a.result.0 w.0 e.0 (c.if-a-b.true ∙ e.1))

pub returns-clause-ends : goal.returns-clause-ends
returns-clause-ends g c = λ none.
    let v = c.end_held.ensures.won c.in_default.is in
    let w = c.end_held-2.ensures.won none in
    let e = c.ends_of-a.ensures in
    subst (λ (x : List Held). HoldsEnds c.args.op x) (sym (w.1 ∙ ap (λ (x : List Held). won_pair c.ends_of-a.result.1 w.0 ∷ x) (v.1 ∙ ap (λ (x : List Held). won_pair c.ends_of-a.result.0 v.0 ∷ x) c.requires.nothing)))
    (two_ends c.args.op c.ends_of-a.result.0 c.ends_of-a.result.1 v.0 w.0 e.0 e.1 c.if-a-b.false)
