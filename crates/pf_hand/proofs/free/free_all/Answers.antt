use Rattle.std.proofs.Common.{◌≡◌, sym, ap, ◌∙◌}
use Rattle.std.specs.Prelude.{Some, None}
use Rattle.pf_hand.specs.Next.{first_kept}
use Rattle.pf_hand.proofs.Freed.{first_is, none_kept, is_held_node, freed_due, fewer_kept, none_held, freed_view, view_free}
use Rattle.pf_hand.proofs.free.free_all.Goals as goal

pub free_one-requires-clause-held : goal.free_one-requires-clause-held
free_one-requires-clause-held c =
    let s = c.frees.s in
    let first : first_kept s.kept.items ≡ Some c.in-Some.field-0 = sym (c.next_kept.ensures ∙ ap first_kept c.deref.ensures.value) ∙ c.in-Some.is in
    is_held_node c.args.board.now.table.shared.key s c.in-Some.field-0.node c.frees.invariant.1 (first_is s.kept.items c.in-Some.field-0 first).named

pub frees-smaller : goal.frees-smaller
frees-smaller c =
    let o = c.args.board.now.table.shared.key in
    let s = c.frees.s in
    let first : first_kept s.kept.items ≡ Some c.in-Some.field-0 = sym (c.next_kept.ensures ∙ ap first_kept c.deref.ensures.value) ∙ c.in-Some.is in
    let named = (first_is s.kept.items c.in-Some.field-0 first).named in
    fewer_kept o s c.free_one.new.s c.in-Some.field-0.node c.frees.invariant.1 c.free_one.ensures.seat (is_held_node o s c.in-Some.field-0.node c.frees.invariant.1 named) c.free_one.ensures.told

pub frees-preserved : goal.frees-preserved
frees-preserved c =
    let o = c.args.board.now.table.shared.key in
    let s = c.frees.s in
    let n = c.in-Some.field-0.node in (
      c.free_one.ensures.board ∙ c.frees.invariant.0,
      c.free_one.ensures.seat,
      freed_view c.args.s.now.seat.me.0 s.seat.me.0 c.free_one.new.s.seat.me.0 n c.frees.invariant.2 c.free_one.ensures.told,
      freed_due s c.free_one.new.s n c.frees.invariant.3 c.free_one.ensures.told c.free_one.ensures.kept,
    )

pub returns-clause-view : goal.returns-clause-view
returns-clause-view c =
    let s = c.frees.s in
    let none : first_kept s.kept.items ≡ None = sym (c.next_kept.ensures ∙ ap first_kept c.deref.ensures.value) ∙ c.in_default.is in
    view_free c.args.s.now.seat.me.0 s.seat.me.0 c.frees.invariant.2 (none_held c.args.board.now.table.shared.key s c.frees.invariant.1 (none_kept s.kept.items none))
