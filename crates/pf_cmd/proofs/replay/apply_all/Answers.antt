use Rattle.std.proofs.Common.{◌≡◌, ◌≢◌, ℕ, refl, Option, Some, None}
use Rattle.std.specs.Option.{option_map}
use Rattle.pf_model.specs.declared.Cond.{Cond}
use Rattle.pf_model.specs.declared.FirstRefusal.{FirstRefusal}
use Rattle.pf_model.specs.declared.Refusal.TheVariants.{Gone as GoneNode, Failing}
use Rattle.pf_journal.specs.declared.run.ReplayErr.{ReplayErr}
use Rattle.pf_journal.specs.declared.run.ReplayErr.TheVariants.{At, Gone}
use Rattle.pf_journal.specs.Replay.{error_of}
use Rattle.pf_say.specs.declared.stop.Stop.TheVariants.{Operation}
use Rattle.pf_cmd.specs.Commands.{refusal_stop, IsRefused}
use Rattle.pf_cmd.proofs.replay.apply_all.Goals as goal

-- the error of a condition that fails is that refusal
at-refused : (o : Option FirstRefusal) (ticket : ℕ) (cond : Cond) → option_map error_of o ≡ Some (At ticket cond) → IsRefused o (Operation ticket (Failing cond))
at-refused None ticket cond e = absurd (let k = e in cc)
at-refused (Some r) ticket cond e = go r.why refl e
  where
    go : (why : _) → r.why ≡ why → option_map error_of (Some r) ≡ Some (At ticket cond) → IsRefused (Some r) (Operation ticket (Failing cond))
    go (GoneNode node) q e = absurd (let k = rw q at e in cc)
    go (Failing other) q e = (let k = rw q at e in rw q cc)

-- the error of a node that isn't live is that refusal
gone-refused : (o : Option FirstRefusal) (ticket node : ℕ) → option_map error_of o ≡ Some (Gone ticket node) → IsRefused o (Operation ticket (GoneNode node))
gone-refused None ticket node e = absurd (let k = e in cc)
gone-refused (Some r) ticket node e = go r.why refl e
  where
    go : (why : _) → r.why ≡ why → option_map error_of (Some r) ≡ Some (Gone ticket node) → IsRefused (Some r) (Operation ticket (GoneNode node))
    go (GoneNode other) q e = (let k = rw q at e in rw q cc)
    go (Failing cond) q e = absurd (let k = rw q at e in cc)

pub returns-in-Err-At-clause-stop : goal.returns-in-Err-At-clause-stop
returns-in-Err-At-clause-stop c = λ no.
    let ens = rw c.in-Err-At.field-0-is at c.in-Err-At.ensures in
    at-refused _ _ _ (ens.refused (λ e. absurd (let k = e in cc)))

pub returns-in-Err-Gone-clause-stop : goal.returns-in-Err-Gone-clause-stop
returns-in-Err-Gone-clause-stop c = λ no.
    let ens = rw c.in-Err-Gone.field-0-is at c.in-Err-Gone.ensures in
    gone-refused _ _ _ (ens.refused (λ e. absurd (let k = e in cc)))
