-- The first seat has all numbers and the whole budget.
use Rattle.std.proofs.Common.{◌≡◌, ◌∙◌, ℕ, zero, suc, ◌+◌, ◌-◌, ◌*◌, ◌/◌, ◌%◌, ◌<◌, ◌∷◌, cond, nat_lt, sym, ap, arith}
use Rattle.std.proofs.lemmas.Nat.{mod_below, div-add-mod'}
use Rattle.std.proofs.lemmas.Bool.Decides.{nat_tests}
use Rattle.atomic_table.specs.Seated.{TableId}
use Rattle.pf_core_model.specs.Lists.{counting}
use Rattle.pf_core_model.specs.Core.{Opening}
use Rattle.pf_core_model.specs.State.{first_view}
use Rattle.pf_locks.specs.declared.seat.BoardSeat.{BoardSeat}
use Rattle.pf_locks.specs.Seats.{IsSeat}
use Rattle.pf_workers.specs.Shares.{share_of, shares_from}
use Rattle.pf_workers.specs.Crew.{IsFirst}

-- one more for a worker among the first r
one_more : (w r : ℕ) → cond (nat_lt w r) 1 0 + (r - suc w) ≡ r - w
one_more w r = grind (arith, nat_tests)

-- the shares of n workers from w on are n equal parts, and the ones of the rest that are theirs
shares_part : (budget workers w n : ℕ) → shares_from budget workers w n + (budget % workers - (w + n)) ≡ n * (budget / workers) + (budget % workers - w)
shares_part budget workers w zero = omega arith
shares_part budget workers w (suc n) =
    let a = shares_part budget workers (suc w) n in
    let b = one_more w (budget % workers) in
    omega (arith, a, b)

-- all shares are the budget
pub shares_all : (budget workers : ℕ) → 0 < workers → shares_from budget workers 0 workers ≡ budget
shares_all budget workers some =
    let a = shares_part budget workers 0 workers in
    let b = mod_below budget workers some in
    let c = div-add-mod' budget workers in
    omega (arith, a, b, c)

-- the first seat of a board, before any other is split off
pub first_seat : (id : TableId) (o : Opening) (s : BoardSeat) (budget workers : ℕ) → 0 < workers → s.seat.table_id ≡ id → IsSeat o s → s.seat.me.0 ≡ first_view o → o.budget ≡ budget → o.workers ≡ workers → IsFirst id o budget workers 1 s
first_seat id o s budget zero some board seat view rich many = absurd (omega (arith, some))
first_seat id o s budget (suc n) some board seat view rich many =
    let before : n ≡ suc n - 1 = omega arith in
    record {
      board = board;
      seat = seat;
      numbers = (λ i. (view i).numbers) ∙ ap (λ (k : ℕ). counting 0 k) many ∙ ap (λ (k : ℕ). 0 ∷ counting 1 k) before;
      allowance = (λ i. (view i).allowance) ∙ rich ∙ sym (shares_all budget (suc n) some) ∙ ap (λ (k : ℕ). share_of budget (suc n) 0 + shares_from budget (suc n) 1 k) before;
      nothing = λ i. (view i).held;
      clear = λ i. (view i).unborn;
    }
