use Rattle.pf_finish.proofs.Wishing.{on_ok}
use Rattle.pf_finish.proofs.wishes.rising_kept.Goals as goal

pub returns-clause-kept : goal.returns-clause-kept
returns-clause-kept c = on_ok c.wish_kept.result _ _ (λ k low near wished. k near wished) c.wish_kept.ensures.kept
