-- The jobs of a crew before and after the turns of the workers.
use Rattle.std.proofs.Common.{◌≡◌, ◌∙◌, ℕ, zero, suc, ◌-◌, ◌<◌, List, [], ◌∷◌, ◌++◌, length, take, drop, Bool, true, false, sym, ap, refl, arith}
use Rattle.std.specs.Prelude.{slice_index_or, Option, None}
use Rattle.pf_star_model.specs.Lent.{Held, star_held}
use Rattle.pf_holder.specs.Facts.{LendsAll}
use Rattle.pf_locks.specs.declared.board.Board.{Board}
use Rattle.pf_hand.specs.declared.hand.Hand.{Hand}
use Rattle.pf_hand.specs.Hands.{lent_pairs}
use Rattle.pf_hand.specs.Later.{IsLater}
use Rattle.pf_workers.specs.declared.jobs.Job.{Job}
use Rattle.pf_workers.specs.Jobs.{IsIdle}
use Rattle.pf_adapt.specs.Crew.{IsNumbered}
use Rattle.pf_adapt.proofs.Places.{AtEach}

-- a hand that holds nothing lends nothing
lends_nothing : (changed : Bool) (held : List Held) → held ≡ [] → LendsAll (star_held (lent_pairs changed held)) held
lends_nothing true held e = ap star_held (sym e)
lends_nothing false held e = refl

pub idle_hand : (changed : Bool) (held : List Held) (unborn : Option ℕ) → held ≡ [] → unborn ≡ None → IsIdle held unborn [] (star_held (lent_pairs changed held))
idle_hand changed held unborn e f = record { nothing = (e, f, refl); lends = lends_nothing changed held e }

-- what was written to the whole of a list
pub written : {X : Type 0} (n : ℕ) (old new : List X) → length new ≡ length old → length old ≡ n → take n (new ++ drop (length new) old) ≡ new
written n old new same long =
    (λ i. take (long' i) (new ++ none old (length new) same i)) ∙ whole new
  where
    none : {X : Type 0} (xs : List X) (k : ℕ) → k ≡ length xs → drop k xs ≡ []
    none [] zero e = refl
    none [] (suc k) e = refl
    none (x ∷ xs) zero e = absurd (omega (arith, e))
    none (x ∷ xs) (suc k) e = none xs k (omega (arith, e))

    long' : n ≡ length new
    long' = sym (same ∙ long)

    whole : {X : Type 0} (xs : List X) → take (length xs) (xs ++ []) ≡ xs
    whole [] = refl
    whole (x ∷ xs) = ap (λ l. x ∷ l) (whole xs)

module _ (board : Board) (many : ℕ) where
  -- a job whose worker has ended
  abbrev pub IsOver : ℕ → Job Hand → Type 0
  IsOver k j = (j.hand.board.now ≡ board) × (j.hand.seat.seat.me.0.numbers ≡ (many - 1 - k) ∷ []) × (j.hand.seat.seat.me.0.held ≡ [])

  -- a hand and the same hand later
  abbrev pub IsSameHand : Hand → Hand → Type 0
  IsSameHand g h = (g.board ≡ h.board) × IsLater g.seat.seat.me.0 h.seat.seat.me.0

  pub over_each : (old new : List (Job Hand)) → length new ≡ length old
      → ((k : ℕ) (d : Job Hand) → k < length old → IsSameHand (slice_index_or old k d).hand (slice_index_or new k d).hand)
      → ((k : ℕ) (d : Job Hand) → k < length old → (slice_index_or new k d).hand.seat.seat.me.0.held ≡ [])
      → ((k : ℕ) (d : Job Hand) → k < length old → (slice_index_or old k d).hand.board.now ≡ board)
      → ((k : ℕ) (d : Job Hand) → k < length old → IsNumbered board.table.shared.table_id board.table.shared.key (many - 1 - k) (slice_index_or old k d).hand.seat)
      → AtEach new IsOver
  over_each old new long same nothing on number k d low =
      let near : k < length old = omega (arith, low, long) in
      let s = same k d near in
      (sym (ap (λ b. b.now) s.0) ∙ on k d near, s.1.numbers ∙ (number k d near).1.numbers, nothing k d near)
