use Rattle.pf_finish.proofs.Wishing.{on_ok}
use Rattle.pf_finish.proofs.wishes.left_kept.Goals as goal

pub returns-clause-kept : goal.returns-clause-kept
returns-clause-kept c = on_ok c.rising_kept.result _ _ (λ k first low near wished. k low near wished) c.rising_kept.ensures.kept
