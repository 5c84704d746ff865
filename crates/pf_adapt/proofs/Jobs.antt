-- The jobs of a crew are made one after another, and taken back one after another.
use Rattle.std.proofs.Common.{◌≡◌, ◌∙◌, ℕ, suc, ◌+◌, ◌-◌, ◌<◌, List, [], ◌∷◌, ◌++◌, length, length-append, None, sym, ap, subst, arith}
use Rattle.std.specs.Prelude.{slice_index}
use Rattle.pf_core_model.specs.Moves.{both_of}
use Rattle.pf_locks.specs.declared.board.Board.{Board}
use Rattle.pf_locks.specs.declared.seat.BoardSeat.{BoardSeat}
use Rattle.pf_locks.specs.Seats.{IsSeat}
use Rattle.pf_hand.specs.declared.hand.Hand.{Hand}
use Rattle.pf_workers.specs.declared.jobs.Job.{Job}
use Rattle.pf_workers.specs.Jobs.{IsPartFor}
use Rattle.pf_adapt.specs.Crew.{IsNumbered}
use Rattle.pf_adapt.proofs.Places.{AtEach, front_each, last_each, more_each}
use Rattle.pf_adapt.proofs.Joining.{IsJoined, joined_first, joined_next}

module _ (board : Board) where
  -- the seat of a worker that has no job yet, the place counted from that of worker 1 on
  abbrev pub IsWaiting : ℕ → BoardSeat → Type 0
  IsWaiting k s = IsNumbered board.table.shared.table_id board.table.shared.key (k + 1) s

  -- the job at a place, of so many, from the greatest number down
  abbrev pub IsJobAt : ℕ → ℕ → Job Hand → Type 0
  IsJobAt many k j = (j.hand.board.now ≡ board) × IsNumbered board.table.shared.table_id board.table.shared.key (many - 1 - k) j.hand.seat × (j.worker ≡ many - 1 - k) × IsPartFor board.table.shared.key.mesh many (many - 1 - k) j.part.now

  -- while the jobs are made
  abbrev pub AreMade : ℕ → List BoardSeat → List (Job Hand) → Type 0
  AreMade many left jobs = (length left + length jobs + 1 ≡ many) × AtEach left IsWaiting × AtEach jobs (IsJobAt many)

  -- the same job at its end
  abbrev pub IsEndedAt : ℕ → Job Hand → Type 0
  IsEndedAt k j = (j.hand.board.now ≡ board) × (j.hand.seat.seat.me.0.numbers ≡ (board.table.shared.key.workers - 1 - k) ∷ []) × (j.hand.seat.seat.me.0.held ≡ [])

  -- while the seats are joined
  abbrev pub AreJoined : List (Job Hand) → BoardSeat → Type 0
  AreJoined left s = (length left < board.table.shared.key.workers) × IsJoined board.table.shared.table_id board.table.shared.key (board.table.shared.key.workers - length left) s × AtEach left IsEndedAt

  -- the number of a worker's seat
  pub numbered : (w : ℕ) (s : BoardSeat) → IsNumbered board.table.shared.table_id board.table.shared.key w s → s.number ≡ w
  numbered w s h = h.1.seat.counts.number ∙ ap (λ (l : List ℕ). slice_index l 0) h.1.numbers

  longer : {X : Type 0} (xs old : List X) (x : X) → old ≡ xs ++ x ∷ [] → length old ≡ length xs + 1
  longer xs old x e = ap (λ l. length l) e ∙ length-append xs (x ∷ [])

  -- the next seat of those that wait
  pub waits : (many : ℕ) (old left : List BoardSeat) (jobs : List (Job Hand)) (s : BoardSeat) → AreMade many old jobs → old ≡ left ++ s ∷ [] → IsWaiting (length left) s
  waits many old left jobs s h is = last_each IsWaiting left s (subst (λ (l : List BoardSeat). AtEach l IsWaiting) is h.1)

  pub waits_below : (many : ℕ) (old left : List BoardSeat) (jobs : List (Job Hand)) (s : BoardSeat) → AreMade many old jobs → old ≡ left ++ s ∷ [] → s.number < many
  waits_below many old left jobs s h is =
      let n = numbered (length left + 1) s (waits many old left jobs s h is) in
      let l = longer left old s is in
      let e = h.0 in
      omega (arith, n, l, e)

  pub made_next : (many : ℕ) (old left : List BoardSeat) (jobs jobs' : List (Job Hand)) (s : BoardSeat) (j : Job Hand) → AreMade many old jobs → old ≡ left ++ s ∷ [] → jobs' ≡ jobs ++ j ∷ [] → j.hand.board.now ≡ board → j.hand.seat ≡ s → j.worker ≡ s.number → IsPartFor board.table.shared.key.mesh many s.number j.part.now → AreMade many left jobs'
  made_next many old left jobs jobs' s j h is put on seat worker part =
      let l = longer left old s is in
      let l' = longer jobs jobs' j put in
      let e = h.0 in
      let place : length left + 1 ≡ many - 1 - length jobs = omega (arith, l, e) in
      let own : s.number ≡ many - 1 - length jobs = numbered (length left + 1) s (waits many old left jobs s h is) ∙ place in
      let number : IsNumbered board.table.shared.table_id board.table.shared.key (many - 1 - length jobs) s = subst (λ (w : ℕ). IsNumbered board.table.shared.table_id board.table.shared.key w s) place (waits many old left jobs s h is) in
      let job : IsJobAt many (length jobs) j = (on, subst (λ (x : BoardSeat). IsNumbered board.table.shared.table_id board.table.shared.key (many - 1 - length jobs) x) (sym seat) number, worker ∙ own, subst (λ (w : ℕ). IsPartFor board.table.shared.key.mesh many w j.part.now) own part) in (
        (let w : length left + length jobs' + 1 ≡ many = omega (arith, l, l', e) in w),
        front_each IsWaiting left s (subst (λ (x : List BoardSeat). AtEach x IsWaiting) is h.1),
        subst (λ (x : List (Job Hand)). AtEach x (IsJobAt many)) (sym put) (more_each (IsJobAt many) jobs j h.2 job),
      )

  pub made_last : (many : ℕ) (left : List BoardSeat) (jobs jobs' : List (Job Hand)) (s : BoardSeat) (j : Job Hand) → AreMade many left jobs → length left ≡ 0 → IsNumbered board.table.shared.table_id board.table.shared.key 0 s → jobs' ≡ jobs ++ j ∷ [] → j.hand.board.now ≡ board → j.hand.seat ≡ s → j.worker ≡ s.number → IsPartFor board.table.shared.key.mesh many s.number j.part.now → (length jobs' ≡ many) × AtEach jobs' (IsJobAt (length jobs'))
  made_last many left jobs jobs' s j h none first put on seat worker part =
      let l' = longer jobs jobs' j put in
      let e = h.0 in
      let place : 0 ≡ many - 1 - length jobs = omega (arith, none, e) in
      let own : s.number ≡ many - 1 - length jobs = numbered 0 s first ∙ place in
      let all : length jobs' ≡ many = omega (arith, none, l', e) in
      let number : IsNumbered board.table.shared.table_id board.table.shared.key (many - 1 - length jobs) s = subst (λ (w : ℕ). IsNumbered board.table.shared.table_id board.table.shared.key w s) place first in
      let job : IsJobAt many (length jobs) j = (on, subst (λ (x : BoardSeat). IsNumbered board.table.shared.table_id board.table.shared.key (many - 1 - length jobs) x) (sym seat) number, worker ∙ own, subst (λ (w : ℕ). IsPartFor board.table.shared.key.mesh many w j.part.now) own part) in (
        all,
        subst (λ (n : ℕ). AtEach jobs' (IsJobAt n)) (sym all) (subst (λ (x : List (Job Hand)). AtEach x (IsJobAt many)) (sym put) (more_each (IsJobAt many) jobs j h.2 job)),
      )

  -- the job that is taken back next
  pub next_ended : (old left : List (Job Hand)) (j : Job Hand) → AtEach old IsEndedAt → old ≡ left ++ j ∷ [] → IsEndedAt (length left) j
  next_ended old left j h is = last_each IsEndedAt left j (subst (λ (l : List (Job Hand)). AtEach l IsEndedAt) is h)

  pub others_ended : (old left : List (Job Hand)) (j : Job Hand) → AtEach old IsEndedAt → old ≡ left ++ j ∷ [] → AtEach left IsEndedAt
  others_ended old left j h is = front_each IsEndedAt left j (subst (λ (l : List (Job Hand)). AtEach l IsEndedAt) is h)

  -- its seat is one of the board
  pub seat_on : (j : Job Hand) (u : BoardSeat) → j.hand.board.now ≡ board → u.seat.table_id ≡ j.hand.board.now.table.shared.table_id → u.seat.table_id ≡ board.table.shared.table_id
  seat_on j u on h = h ∙ ap (λ (b : Board). b.table.shared.table_id) on

  pub seat_fits : (j : Job Hand) (u : BoardSeat) → j.hand.board.now ≡ board → IsSeat j.hand.board.now.table.shared.key u → IsSeat board.table.shared.key u
  seat_fits j u on h = subst (λ (b : Board). IsSeat b.table.shared.key u) on h

  pub first_joined : (old left : List (Job Hand)) (j : Job Hand) (s : BoardSeat) → length old ≡ board.table.shared.key.workers → AtEach old IsEndedAt → old ≡ left ++ j ∷ [] → s ≡ j.hand.seat → s.seat.table_id ≡ j.hand.board.now.table.shared.table_id → IsSeat j.hand.board.now.table.shared.key s → s.seat.me.0.unborn ≡ None → AreJoined left s
  first_joined old left j s all h is value id fits clear =
      let e = next_ended old left j h is in
      let l = longer left old j is in
      let low : length left < board.table.shared.key.workers = omega (arith, l, all) in
      let zero : board.table.shared.key.workers - 1 - length left ≡ 0 = omega (arith, l, all) in
      let one : 1 ≡ board.table.shared.key.workers - length left = omega (arith, l, all) in
      let numbers : s.seat.me.0.numbers ≡ 0 ∷ [] = (λ i. (value i).seat.me.0.numbers) ∙ e.1 ∙ ap (λ (k : ℕ). k ∷ []) zero in
      let first : IsJoined board.table.shared.table_id board.table.shared.key 1 s = joined_first board.table.shared.table_id board.table.shared.key s (seat_on j s e.0 id) (seat_fits j s e.0 fits) numbers ((λ i. (value i).seat.me.0.held) ∙ e.2) clear in
      (low, subst (λ (n : ℕ). IsJoined board.table.shared.table_id board.table.shared.key n s) one first, others_ended old left j h is)

  pub more_joined : (old left : List (Job Hand)) (j : Job Hand) (s t u : BoardSeat) → AreJoined old s → old ≡ left ++ j ∷ [] → u ≡ j.hand.seat → t.seat.table_id ≡ s.seat.table_id → IsSeat board.table.shared.key t → t.seat.me.0 ≡ both_of s.seat.me.0 u.seat.me.0 → AreJoined left t
  more_joined old left j s t u h is value id fits told =
      let e = next_ended old left j h.2 is in
      let l = longer left old j is in
      let b = h.0 in
      let low : length left < board.table.shared.key.workers = omega (arith, l, b) in
      let place : board.table.shared.key.workers - 1 - length left ≡ board.table.shared.key.workers - length old = omega (arith, l, b) in
      let more : suc (board.table.shared.key.workers - length old) ≡ board.table.shared.key.workers - length left = omega (arith, l, b) in
      let number : u.seat.me.0.numbers ≡ (board.table.shared.key.workers - length old) ∷ [] = (λ i. (value i).seat.me.0.numbers) ∙ e.1 ∙ ap (λ (k : ℕ). k ∷ []) place in
      let next = joined_next board.table.shared.table_id board.table.shared.key (board.table.shared.key.workers - length old) s t u h.1 number id fits told in
      (low, subst (λ (n : ℕ). IsJoined board.table.shared.table_id board.table.shared.key n t) more next, others_ended old left j h.2 is)
