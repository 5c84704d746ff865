-- The field says only that there is a proof of what is known. An entailment is a proposition, so the proof may be opened in front of the walk
-- that is made of the body.
use seplogic.Bi.Basic.{Entails-prop}
use mathlib.Core.Logic.{∥∥₁_elim}
use base.Logic.{via, mono_r}
use denote.Triple.Entry.{on_entry}
use borrow.Fn.Kinds.{sig_of}
use contract.Monad.{fact_mono}
use Rattle.pf_hand.specs.Hands.{IsHand}
use Rattle.pf_hand.proofs.hand.Hand.known.Statement.{statement}
use Rattle.pf_hand.proofs.hand.Hand.known.Lts as lts
use Rattle.pf_hand.proofs.hand.Hand.known.Reads as reads
use Rattle.pf_hand.proofs.hand.Hand.known.Tie as tie

pub known_spec : {M : Type 1} → statement M
known_spec {M} =
    tie.close (λ 𝓤 𝓛 𝓣 y.
    ∥∥₁_elim y.0.3.0.now.fits (Entails-prop 𝓤.op _ _) (λ fits.
    via 𝓤 _ (mono_r 𝓤 (on_entry 𝓛 (sig_of 2 lts.ps lts.r) y.0.0 y.0.1 y.0.3 y.0.4) (fact_mono 𝓤 _ (IsHand y.0.3.0.now.board.now.table.shared.key y.0.3.0.now.seat y.0.3.0.now.changed) (λ _. fits)))
    (lts.spec (λ κs a. IsHand a.0.now.board.now.table.shared.key a.0.now.seat a.0.now.changed) reads.Post (λ c. c.requires) 𝓤 𝓛 𝓣 y)))
