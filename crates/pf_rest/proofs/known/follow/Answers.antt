use Rattle.std.proofs.Common.{sym, ◌∙◌, subst}
use Rattle.std.proofs.lemmas.Option.{get_or_from_slice_get}
use Rattle.pf_model.specs.Wishes.{terminal_of}
use Rattle.pf_edge_list.specs.Edges.{sided_edge}
use Rattle.pf_rest.specs.Rest.{AreAtEnds, IsEnd, LeadTo}
use Rattle.pf_edge_list.proofs.EdgesLocated.{listed-at}
use Rattle.pf_rest.proofs.WalkEnds.{finite-listed}
use Rattle.pf_rest.proofs.known.follow.Goals as goal

pub returns-clause-end : goal.returns-clause-end
returns-clause-end c = λ m e ok s b are h.
    let list = c.args.edges.now.list.items in
    let first = c.index.result.now in
    let finite = finite-listed m (sided_edge first) (listed-at c.args.table.now.sides list c.args.place first c.requires.listed c.requires.place c.index.ensures).sorted in
    let known = subst (λ ends. AreAtEnds m list ends) (sym c.deref.ensures.value) (c.in_ok-make_room.ensures m list are) in
    subst (λ x. IsEnd m (terminal_of m (sided_edge x)) c.in_ok-end.end) (c.index.ensures ∙ get_or_from_slice_get list c.args.place e first h) (c.in_ok-end.ensures.end m ok s b known finite)

pub returns-clause-noted : goal.returns-clause-noted
returns-clause-noted c = λ m ok s b are.
    let list = c.args.edges.now.list.items in
    let first = c.index.result.now in
    let end = terminal_of m (sided_edge first) in
    let finite = finite-listed m (sided_edge first) (listed-at c.args.table.now.sides list c.args.place first c.requires.listed c.requires.place c.index.ensures).sorted in
    let known = subst (λ ends. AreAtEnds m list ends) (sym c.deref.ensures.value) (c.in_ok-make_room.ensures m list are) in
    c.note_way.ensures m list end (c.in_ok-make_room.ensures m list are) (subst (λ way. LeadTo m list way end) (sym c.deref-2.ensures.value) (c.in_ok-end.ensures.way m s known finite)) (c.in_ok-end.ensures.end m ok s b known finite)
