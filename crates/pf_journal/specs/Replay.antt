-- The error of a replay, and what it leaves of the mesh.
use Rattle.std.specs.Prelude.{◌≡◌, ℕ, ◌+◌, ◌<◌, List, Option, Some, None, length, take}
use Rattle.pf_model.specs.declared.Entry.{Entry}
use Rattle.pf_model.specs.declared.Refusal.{Refusal}
use Rattle.pf_model.specs.declared.Refusal.TheVariants as why
use Rattle.pf_model.specs.declared.FirstRefusal.{FirstRefusal}
use Rattle.pf_model.specs.Mesh.{Undivided}
use Rattle.pf_model.specs.Replay.{replayed, IsLegal}
use Rattle.pf_journal.specs.declared.run.ReplayErr.{ReplayErr}
use Rattle.pf_journal.specs.declared.run.ReplayErr.TheVariants.{At, Gone, Memory}

-- the error that names the entry with this ticket, and why it isn't applied
abbrev pub error_at : ℕ → Refusal → ReplayErr
error_at ticket (why.Gone node) = Gone ticket node
error_at ticket (why.Failing cond) = At ticket cond

-- the error that names a refusal
abbrev pub error_of : FirstRefusal → ReplayErr
error_of refusal = error_at refusal.ticket refusal.why

-- the ticket that an error names
abbrev pub ticket_in : ReplayErr → Option ℕ
ticket_in (At ticket cond) = Some ticket
ticket_in (Gone ticket node) = Some ticket
ticket_in Memory = None

-- after an error the mesh is the replay of the entries before some entry, which is that with the ticket, where the error names
-- one; an entry for which memory ran out passes
pub record IsReplayedBefore (m new : Undivided) (es : List Entry) (err : ReplayErr) : Type 0 where
  pub count : ℕ
  pub within : count < length es
  pub legal : IsLegal m (take count es)
  pub replay : new ≡ replayed m (take count es)
  pub named : (ticket : ℕ) → ticket_in err ≡ Some ticket → count ≡ ticket
  pub memory : err ≡ Memory → IsLegal m (take (count + 1) es)
