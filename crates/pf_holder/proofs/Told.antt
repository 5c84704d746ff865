-- What an attempt tells is what the core asks for: so its answer is right of the one history.
use Rattle.std.proofs.Common.{◌≡◌, ◌≢◌, ℕ, ◌+◌, ◌<◌, ◌≤◌, List, ◌∷◌, refl, sym, subst, inl, arith}
use Rattle.pf_model.specs.declared.Band.{Band}
use Rattle.pf_model.specs.declared.Op.{Op}
use Rattle.pf_model.specs.declared.Entry.{Entry}
use Rattle.pf_model.specs.Mesh.{Undivided}
use Rattle.pf_model.specs.Ends.{normal_of}
use Rattle.pf_star_model.specs.Cavity.{cavity_of}
use Rattle.pf_core_model.specs.declared.answer.Answer.{Answer}
use Rattle.pf_core_model.specs.declared.answer.Answer.TheVariants.{Done, Refused, Busy, Gone, Unborn, Spent, Memory}
use Rattle.pf_core_model.specs.declared.view.Mark.{Mark}
use Rattle.pf_core_model.specs.Lists.{In}
use Rattle.pf_core_model.specs.Core.{Opening}
use Rattle.pf_core_model.specs.Right.{Gain, AgreesAt, IsTold}
use Rattle.pf_holder.specs.Facts.{IsSeen, lost_to}
use Rattle.pf_holder.specs.Answers.{IsBacked, IsEntered}
use Rattle.pf_holder.proofs.Held.{in_has}

seen_at : (bands : List Band) (k : Mark) (m : Undivided) → AgreesAt bands k m → IsSeen bands k.pairs m
seen_at bands k m a = record { conforming = a.conforming; banded = a.same; shown = a.pairs }

-- a backed answer, and what became of entries and allowance, are what the core asks for
pub backed_told : (o : Opening) (number seen rich chunk : ℕ) (op : Op) (G : Gain → Type 0) (before after : List Entry) (left : ℕ) (a : Answer) → IsBacked o chunk op seen G a → IsEntered chunk op rich before left after a → ((n k : ℕ) → G (lost_to n k) → k ≢ number)
    → IsTold o G after record { number = number; seen = seen; allowance = rich; chunk = chunk; op = op } a
backed_told o number seen rich chunk op G before after left (Done t) r e others = ((let k = e.0 in omega (arith, k)), r, subst (λ (l : List Entry). In (record { ticket = t; chunk = chunk; op = normal_of op }) l) (sym e.1) (inl refl))
backed_told o number seen rich chunk op G before after left (Refused t why) r e others = (e.0, r.0, r.1, (r.2.0, r.2.1, r.2.2, r.2.3))
backed_told o number seen rich chunk op G before after left (Busy t n k) r e others = (e.0, r.0, r.1, others n k r.1, (r.2.0, r.2.1, r.2.2, λ m a. in_has n (cavity_of m chunk op) (r.2.3 m (seen_at o.mesh.bands r.2.0 m a))))
backed_told o number seen rich chunk op G before after left (Gone t n) r e others = (e.0, r.0, r.1, r.2, (r.3.0, r.3.1, r.3.2, r.3.3))
backed_told o number seen rich chunk op G before after left (Unborn n) r e others = (e.0, r.0, r.1)
backed_told o number seen rich chunk op G before after left Spent r e others = e.0
backed_told o number seen rich chunk op G before after left Memory r e others = (r.0, r.1, (r.2.0, r.2.1, r.2.2, λ m a. r.2.3 m (seen_at o.mesh.bands r.2.0 m a)))
