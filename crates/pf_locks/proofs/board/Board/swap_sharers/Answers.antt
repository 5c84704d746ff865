use Rattle.std.proofs.Common.{[], false, refl, ap, ◌∙◌}
use Rattle.std.specs.Prelude.{None}
use Rattle.pf_locks.specs.declared.kept.Kept.{Kept}
use Rattle.pf_locks.specs.Lists.{list_in, list_of, lent_in, lent_of}
use Rattle.pf_locks.proofs.Keeping.{look_set}
use Rattle.pf_locks.proofs.Seating.{kept_name, put_shape}
use Rattle.pf_locks.proofs.board.Board.swap_sharers.Goals as goal

pub put_list-requires : goal.put_list-requires
put_list-requires c = kept_name c.args.n _ _ _ _ c.requires.seat.shape c.requires.held

pub returns-clause-seat : goal.returns-clause-seat
returns-clause-seat c =
    let x : Kept = record { node = c.args.n; list = c.args.list; lent = false } in
    let r = c.requires.seat in
    record { shape = put_shape c.args.n _ _ c.args.s.now.kept.items _ _ _ x r.shape refl c.put_list.ensures.items c.put_list.ensures.room; counts = r.counts; knows = r.knows }

pub returns-clause-lists : goal.returns-clause-lists
returns-clause-lists c =
    let x : Kept = record { node = c.args.n; list = c.args.list; lent = false } in
    let ks = c.args.s.now.kept.items in
    let h = kept_name c.args.n _ _ _ _ c.requires.seat.shape c.requires.held in
    let items = c.put_list.ensures.items in
    λ k. (ap (λ l. list_in l k) items ∙ look_set list_of [] c.args.n ks x refl h k, ap (λ l. lent_in l k) items ∙ look_set lent_of None c.args.n ks x refl h k)
