use Rattle.std.proofs.Common.{refl, sym, subst, inl}
use Rattle.pf_core_model.specs.declared.view.View.{View}
use Rattle.pf_core_model.specs.Lists.{In}
use Rattle.pf_core_model.specs.Moves.{spares_in}
use Rattle.board_tests.proofs.tests.what_one_holds_the_other_loses.Goals as goal

pub split_seat-requires-clause-spare : goal.split_seat-requires-clause-spare
split_seat-requires-clause-spare g c = (1, subst (λ (v : View). In 1 (spares_in v.numbers)) (sym c.in_ok-board.ensures.view) (inl refl))
