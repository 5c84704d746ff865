-- What a backed answer is to the one history, as a statement.
use Rattle.std.specs.Prelude.{◌≢◌, ℕ, List}
use Rattle.pf_model.specs.declared.Op.{Op}
use Rattle.pf_model.specs.declared.Entry.{Entry}
use Rattle.pf_core_model.specs.declared.answer.Answer.{Answer}
use Rattle.pf_core_model.specs.Laws.{OverSound}
use Rattle.pf_core_model.specs.Right.{HasGained, IsRight}
use Rattle.pf_holder.specs.Facts.{lost_to}
use Rattle.pf_holder.specs.Answers.{IsBacked, IsEntered}

-- an answer that is backed by what the caller's view has, with what became of entries and allowance, is right of the one history, where
-- each lost try names another actor than the caller
abbrev pub BackedIsRight : Type 0
BackedIsRight = OverSound (λ o words homes views log id v. (number seen rich chunk : ℕ) (op : Op) (before : List Entry) (left : ℕ) (a : Answer) → IsBacked o chunk op seen (HasGained v) a → IsEntered chunk op rich before left v.entries a
    → ((n k : ℕ) → HasGained v (lost_to n k) → k ≢ number) → IsRight o log (record { number = number; seen = seen; allowance = rich; chunk = chunk; op = op }) a)
