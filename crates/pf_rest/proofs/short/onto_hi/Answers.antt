use Rattle.std.proofs.Common.{◌≡◌, sym, ◌∙◌, ap, subst}
use Rattle.std.proofs.lemmas.Option.{get_or_from_slice_get}
use Rattle.pf_model.specs.Conditions.{first_failing}
use Rattle.pf_edge_list.specs.Edges.{sided_edge}
use Rattle.pf_rest.specs.Rest.{told_of, onto_hi, AreTold}
use Rattle.pf_edge_list.proofs.EdgesLocated.{listed-at}
use Rattle.pf_rest.proofs.short.onto_hi.Goals as goal

pub returns-in-Some-clause-cond : goal.returns-in-Some-clause-cond
returns-in-Some-clause-cond c = λ m e ok s b es are at.
    let list = c.args.edges.now.list.items in
    c.in-Some.ensures m list onto_hi e (subst (λ l. AreTold m list onto_hi l) (sym c.deref.ensures.value) are.hi) at

pub returns-in-Some-noted-clause-cond : goal.returns-in-Some-noted-clause-cond
returns-in-Some-noted-clause-cond c = λ m e ok s b es are at.
    let list = c.args.edges.now.list.items in
    c.in-Some-noted.ensures m list onto_hi e (subst (λ l. AreTold m list onto_hi l) (sym c.deref-2.ensures.value) (c.note_all.ensures m ok s b es are).hi) at

pub returns-clause-cond : goal.returns-clause-cond
returns-clause-cond c = λ m e ok s b es are at.
    let list = c.args.edges.now.list.items in
    let first = c.index-e.result.now in
    let sided = (listed-at c.args.table.now.sides list c.args.place first c.requires.listed c.requires.place c.index-e.ensures).sided in
    subst (λ x. c.contract_star.result ≡ told_of m onto_hi (sided_edge x)) (c.index-e.ensures ∙ get_or_from_slice_get list c.args.place e first at)
    (c.contract_star.ensures.cond m ok s b ∙ ap (λ chunk. first_failing m chunk (onto_hi (sided_edge first))) (c.acting_chunk.ensures m s sided))
