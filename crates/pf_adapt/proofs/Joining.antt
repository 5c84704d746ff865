-- Seats are joined one after another, until one has the numbers of all.
use Rattle.std.proofs.Common.{◌≡◌, ◌∙◌, ℕ, suc, ◌<◌, List, [], ◌∷◌, ◌++◌, None, sym, ap, subst, inl, arith}
use mathlib.Core.Logic.{dite}
use native.Mathlib.Decide.{ℕ_discrete}
use Rattle.atomic_table.specs.Seated.{TableId}
use Rattle.pf_core_model.specs.Lists.{In}
use Rattle.pf_core_model.specs.Moves.{both_of}
use Rattle.pf_core_model.specs.Core.{Opening}
use Rattle.pf_core_model.proofs.Lists.{in_left, in_right}
use Rattle.pf_locks.specs.declared.seat.BoardSeat.{BoardSeat}
use Rattle.pf_locks.specs.Seats.{IsSeat}
use Rattle.pf_adapt.specs.Crew.{IsLone}

-- a seat with the numbers below n, which holds nothing
pub record IsJoined (id : TableId) (o : Opening) (n : ℕ) (s : BoardSeat) : Type 0 where
  pub board : s.seat.table_id ≡ id
  pub seat : IsSeat o s
  pub numbers : (k : ℕ) → k < n → In k s.seat.me.0.numbers
  pub nothing : s.seat.me.0.held ≡ []
  pub clear : s.seat.me.0.unborn ≡ None

-- the seat with the number 0
pub joined_first : (id : TableId) (o : Opening) (s : BoardSeat) → s.seat.table_id ≡ id → IsSeat o s → s.seat.me.0.numbers ≡ 0 ∷ [] → s.seat.me.0.held ≡ [] → s.seat.me.0.unborn ≡ None → IsJoined id o 1 s
joined_first id o s board seat numbers nothing clear =
    record {
      board = board;
      seat = seat;
      numbers = λ k low. subst (λ (l : List ℕ). In k l) (sym numbers) (inl (let z : k ≡ 0 = omega (arith, low) in z));
      nothing = nothing;
      clear = clear;
    }

-- after the seat with the number n was joined to it
pub joined_next : (id : TableId) (o : Opening) (n : ℕ) (s t u : BoardSeat) → IsJoined id o n s → u.seat.me.0.numbers ≡ n ∷ [] → t.seat.table_id ≡ s.seat.table_id → IsSeat o t → t.seat.me.0 ≡ both_of s.seat.me.0 u.seat.me.0 → IsJoined id o (suc n) t
joined_next id o n s t u h number board seat told =
    record {
      board = board ∙ h.board;
      seat = seat;
      numbers = λ k low. subst (λ (l : List ℕ). In k l) (sym numbers) (has k low);
      nothing = (λ i. (told i).held) ∙ h.nothing;
      clear = (λ i. (told i).unborn) ∙ h.clear;
    }
  where
    numbers : t.seat.me.0.numbers ≡ s.seat.me.0.numbers ++ n ∷ []
    numbers = (λ i. (told i).numbers) ∙ ap (λ (l : List ℕ). s.seat.me.0.numbers ++ l) number

    has : (k : ℕ) → k < suc n → In k (s.seat.me.0.numbers ++ n ∷ [])
    has k low =
        dite (ℕ_discrete k n)
        (λ e. in_right k s.seat.me.0.numbers (n ∷ []) (inl e))
        (λ far. in_left k s.seat.me.0.numbers (n ∷ []) (h.numbers k (omega (arith, low, far))))

-- with all numbers it is alone
pub joined_all : (id : TableId) (o : Opening) (s : BoardSeat) → IsJoined id o o.workers s → IsLone id o s
joined_all id o s h =
    record {
      board = h.board;
      seat = h.seat;
      alone = λ k low. h.numbers k (subst (λ (w : ℕ). k < w) h.seat.knows.0.opening.0 low);
      nothing = h.nothing;
      clear = h.clear;
    }
