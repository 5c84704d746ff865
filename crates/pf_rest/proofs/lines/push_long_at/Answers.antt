use Rattle.std.proofs.Common.{◌≡◌, ◌++◌, length, refl, sym, ◌∙◌, ap, subst}
use Rattle.std.proofs.lemmas.List.{append-nil}
use Rattle.std.proofs.lemmas.Option.{get_or_from_slice_get, slice_get_read}
use Rattle.pf_model.specs.Wishes.{long_lines}
use Rattle.pf_edge_list.specs.Edges.{sided_edge}
use Rattle.pf_rest.proofs.WalksLocated.{no_line}
use Rattle.pf_rest.proofs.lines.push_long_at.Goals as goal

pub returns-then-not-is_long-clause-line : goal.returns-then-not-is_long-clause-line
returns-then-not-is_long-clause-line c = λ m e ok s b are h.
    let lines = c.args.lines.now.items in
    let first = c.index.result.now in
    let none = no_line m (sided_edge first) (sym (c.is_long.ensures m s b) ∙ c.if-not-is_long.true) in
    subst (λ x. lines ≡ lines ++ long_lines m (sided_edge x)) (c.index.ensures ∙ get_or_from_slice_get c.args.edges.now.list.items c.args.place e first h)
    (sym (append-nil lines) ∙ ap (λ l. lines ++ l) (sym none))

pub returns-clause-line : goal.returns-clause-line
returns-clause-line c = λ m e ok s b are h.
    let list = c.args.edges.now.list.items in
    let lines = c.args.lines.now.items in
    let first = c.index.result.now in
    let long = sym (c.is_long.ensures m s b) ∙ c.if-not-is_long.false in
    let end = c.in_ok-end.ensures.end m first ok s b are (slice_get_read list (length list) c.args.place first refl c.requires.place c.index.ensures) in
    subst (λ x. c.push_line.new.lines.items ≡ lines ++ long_lines m (sided_edge x)) (c.index.ensures ∙ get_or_from_slice_get list c.args.place e first h)
    (c.in_ok-push_line.ensures ∙ ap (λ l. lines ++ l) (c.long_line.ensures m long end))
