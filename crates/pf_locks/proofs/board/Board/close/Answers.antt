use Rattle.std.proofs.Common.{sym, subst}
use Rattle.pf_core_model.specs.declared.view.View.{View}
use Rattle.pf_core_model.specs.Guards.{IsAlone}
use Rattle.pf_locks.proofs.board.Board.close.Goals as goal

pub copies_at_end-copies-requires-clause-alone : goal.copies_at_end-copies-requires-clause-alone
copies_at_end-copies-requires-clause-alone c = subst (λ (w : View). IsAlone w) (sym c.room_for.ensures.stays.2) c.requires.alone
