use Rattle.std.proofs.Common.{ℕ, ◌<◌, [], ◌∷◌, sym, subst, inl, arith}
use Rattle.pf_core_model.specs.declared.view.View.{View}
use Rattle.pf_core_model.specs.Lists.{In}
use Rattle.pf_core_model.specs.Guards.{IsAlone}
use Rattle.board_tests.proofs.tests.a_new_board_closes_with_the_copies_of_its_mesh.Goals as goal

all_there : (k : ℕ) → k < 1 → In k (0 ∷ [])
all_there k h = inl (omega arith)

pub close-requires-clause-alone : goal.close-requires-clause-alone
close-requires-clause-alone g c = subst (λ (v : View). IsAlone v) (sym c.in_ok-board.ensures.view) all_there
