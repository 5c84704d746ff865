use Rattle.pf_core_model.specs.Core.{Opening}
use Rattle.pf_core_model.specs.State.{CoreState}
use Rattle.pf_core.specs.declared.state.State.{State}
use Rattle.pf_core.specs.Shown.{ShowsState, IsShownState}
use Rattle.core_tests.proofs.tests.take.Goals as goal

-- what shows a state shows the next one after it
still-shown : (old new : State) (next : Opening → CoreState → CoreState) (P : Opening → CoreState → Type 0) → IsShownState old → ((o : Opening) (c : CoreState) → ShowsState o c old → ShowsState o (next o c) new × P o c) → IsShownState new
still-shown old new next P h step = record { opening = h.opening; state = next h.opening h.state; shown = (step h.opening h.state h.shown).0 }

pub returns : goal.returns
returns g c = still-shown _ _ _ _ c.requires c.in_ok-verdict.ensures.took
