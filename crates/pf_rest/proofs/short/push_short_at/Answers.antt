use Rattle.std.proofs.Common.{◌≡◌, ◌++◌, length, refl, sym, ◌∙◌, ap, subst}
use Rattle.std.proofs.lemmas.List.{append-nil}
use Rattle.std.proofs.lemmas.Option.{get_or_from_slice_get, slice_get_read}
use Rattle.pf_model.specs.Wishes.{short_lines}
use Rattle.pf_edge_list.specs.Edges.{sided_edge}
use Rattle.pf_rest.proofs.ToldNotes.{no_short}
use Rattle.pf_rest.proofs.short.push_short_at.Goals as goal

pub returns-then-not-is_short-clause-line : goal.returns-then-not-is_short-clause-line
returns-then-not-is_short-clause-line c = λ m e ok s b es are h.
    let lines = c.args.lines.now.items in
    let first = c.index.result.now in
    let none = no_short m (sided_edge first) (sym (c.is_short.ensures m s b) ∙ c.if-not-is_short.true) in
    subst (λ x. lines ≡ lines ++ short_lines m (sided_edge x)) (c.index.ensures ∙ get_or_from_slice_get c.args.edges.now.list.items c.args.place e first h)
    (sym (append-nil lines) ∙ ap (λ l. lines ++ l) (sym none))

pub returns-clause-line : goal.returns-clause-line
returns-clause-line c = λ m e ok s b es are h.
    let list = c.args.edges.now.list.items in
    let lines = c.args.lines.now.items in
    let first = c.index.result.now in
    let short = sym (c.is_short.ensures m s b) ∙ c.if-not-is_short.false in
    let stands = slice_get_read list (length list) c.args.place first refl c.requires.place c.index.ensures in
    let room = c.in_ok-reserve.ensures m list are in
    let onto_b = c.onto_hi-onto_b.ensures.cond m first ok s b es room stands in
    let onto_a = c.onto_lo-onto_a.ensures.cond m first ok s b es (c.onto_hi-onto_b.ensures.notes m ok s b es room) stands in
    subst (λ x. c.push_line.new.lines.items ≡ lines ++ short_lines m (sided_edge x)) (c.index.ensures ∙ get_or_from_slice_get list c.args.place e first h)
    (c.in_ok-push_line.ensures ∙ ap (λ l. lines ++ l) (c.short_line.ensures m short onto_b onto_a))
