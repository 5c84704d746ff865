use Rattle.std.proofs.Common.{◌∙◌, sym, ap, subst, refl}
use Rattle.pf_model.specs.Conforming.{IsLive}
use Rattle.pf_core_model.specs.Guards.{IsAlone}
use Rattle.pf_holder.specs.Facts.{mesh_alone}
use Rattle.pf_locks.specs.declared.board.Board.{Board}
use Rattle.pf_locks.specs.declared.seat.BoardSeat.{BoardSeat}
use Rattle.pf_adapt.proofs.Finishing.{names_cover, finished_lone, finished_ended}
use Rattle.pf_adapt.proofs.work.finished.Goals as goal

pub last_pass-requires-clause-live : goal.last_pass-requires-clause-live
last_pass-requires-clause-live c =
    let o = c.args.board.now.table.shared.key in
    let s = c.args.seat in
    let board = c.new-hand.ensures.board in
    let seat = c.new-hand.ensures.seat in
    λ n live. names_cover c.alone_log_is_own.ensures o s c.requires.seat c.requires.alone c.args.board.now.first_new s.seen c.deref.result.now c.args.board.now.first_is refl (c.deref.ensures.value ∙ c.in_ok-names.ensures) n
    (subst (λ (b : Board). IsLive (mesh_alone b.table.shared.key s.seat.me.0.entries) n) (ap (λ b. b.now) board)
    (subst (λ (x : BoardSeat). IsLive (mesh_alone c.new-hand.result.board.now.table.shared.key x.seat.me.0.entries) n) seat live))

pub last_pass-requires-clause-alone : goal.last_pass-requires-clause-alone
last_pass-requires-clause-alone c = subst (λ (x : BoardSeat). IsAlone x.seat.me.0) (sym c.new-hand.ensures.seat) c.requires.alone

pub returns-clause-lone : goal.returns-clause-lone
returns-clause-lone c =
    finished_lone c.args.board.now c.new-hand.result c.last_pass.new.h c.fold.result (ap (λ b. b.now) c.new-hand.ensures.board) (subst (λ (x : BoardSeat). IsAlone x.seat.me.0) (sym c.new-hand.ensures.seat) c.requires.alone) c.last_pass.ensures.same c.last_pass.ensures.nothing.0 c.fold.ensures.value c.fold.ensures.board c.fold.ensures.seat c.fold.ensures.clear

pub returns-clause-ended : goal.returns-clause-ended
returns-clause-ended c =
    finished_ended c.args.board.now c.new-hand.result c.last_pass.new.h c.fold.result (ap (λ b. b.now) c.new-hand.ensures.board) (subst (λ (x : BoardSeat). IsAlone x.seat.me.0) (sym c.new-hand.ensures.seat) c.requires.alone) c.last_pass.ensures.same c.last_pass.ensures.nothing.0 c.fold.ensures.value c.fold.ensures.board c.fold.ensures.seat c.fold.ensures.clear c.alone_log_is_own.ensures c.in_ok-last_pass.ensures.ended
