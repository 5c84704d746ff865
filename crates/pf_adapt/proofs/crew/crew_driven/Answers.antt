use Rattle.std.proofs.Common.{rules, ◌≡◌, ◌∙◌, ℕ, ◌-◌, List, [], ◌∷◌, length, sym, ap, subst}
use Rattle.std.specs.Prelude.{slice_index_or}
use Rattle.pf_star_model.specs.Lent.{star_held}
use Rattle.pf_hand.specs.declared.hand.Hand.{Hand}
use Rattle.pf_hand.specs.Hands.{lent_pairs}
use Rattle.pf_workers.specs.declared.jobs.Job.{Job}
use Rattle.pf_workers.specs.Jobs.{IsIdle, IsPartFor}
use Rattle.pf_locks.specs.declared.board.Board.{Board}
use Rattle.pf_adapt.specs.Crew.{IsNumbered}
use Rattle.pf_adapt.proofs.Places.{AtEach}
use Rattle.pf_adapt.proofs.Driven.{idle_hand, written, over_each}
use Rattle.pf_adapt.proofs.crew.crew_driven.Goals as goal

pub drive_all-requires-clause-idle : goal.drive_all-requires-clause-idle
drive_all-requires-clause-idle g c κs within =
    let read : c.in_ok-jobs.jobs.items ≡ c.deref_mut.result.now = search rules in
    subst (λ (xs : List (Job Hand)). AtEach xs (λ k j. IsIdle j.hand.seat.seat.me.0.held j.hand.seat.seat.me.0.unborn [] (star_held (lent_pairs j.hand.changed j.hand.seat.seat.me.0.held)))) read
    (λ k d low. let n = c.in_ok-jobs.ensures.seat k d low in idle_hand (slice_index_or c.in_ok-jobs.jobs.items k d).hand.changed (slice_index_or c.in_ok-jobs.jobs.items k d).hand.seat.seat.me.0.held (slice_index_or c.in_ok-jobs.jobs.items k d).hand.seat.seat.me.0.unborn n.1.nothing n.1.clear)

pub drive_all-requires-clause-part : goal.drive_all-requires-clause-part
drive_all-requires-clause-part g c κs within =
    let read : c.in_ok-jobs.jobs.items ≡ c.deref_mut.result.now = search rules in
    subst (λ (xs : List (Job Hand)). AtEach xs (λ k j. IsPartFor j.hand.board.now.table.shared.key.mesh (length xs) (length xs - 1 - k) j.part.now)) read
    (λ k d low. subst (λ (b : Board). IsPartFor b.table.shared.key.mesh (length c.in_ok-jobs.jobs.items) (length c.in_ok-jobs.jobs.items - 1 - k) (slice_index_or c.in_ok-jobs.jobs.items k d).part.now) (sym (c.in_ok-jobs.ensures.board k d low)) (c.in_ok-jobs.ensures.part k d low))

pub drive_all-requires-clause-worker : goal.drive_all-requires-clause-worker
drive_all-requires-clause-worker g c κs within =
    let read : c.in_ok-jobs.jobs.items ≡ c.deref_mut.result.now = search rules in
    subst (λ (xs : List (Job Hand)). AtEach xs (λ k j. j.worker ≡ length xs - 1 - k)) read c.in_ok-jobs.ensures.worker

pub joined-requires-clause-board : goal.joined-requires-clause-board
joined-requires-clause-board g c =
    let read : c.in_ok-jobs.jobs.items ≡ c.deref_mut.result.now = search rules in
    let long : length c.drive_all.new.jobs ≡ length c.deref_mut.result.now = c.drive_all.ensures.len in
    let over =
    over_each c.args.board.now (length c.in_ok-jobs.jobs.items) c.deref_mut.result.now c.drive_all.new.jobs long c.drive_all.ensures.same (λ k d low. (c.drive_all.ensures.idle k d low).nothing.0)
    (subst (λ (xs : List (Job Hand)). AtEach xs (λ k j. j.hand.board.now ≡ c.args.board.now)) read c.in_ok-jobs.ensures.board)
    (subst (λ (xs : List (Job Hand)). AtEach xs (λ k j. IsNumbered c.args.board.now.table.shared.table_id c.args.board.now.table.shared.key (length c.in_ok-jobs.jobs.items - 1 - k) j.hand.seat)) read c.in_ok-jobs.ensures.seat) in
    let whole = written c.in_ok-jobs.jobs.len c.in_ok-jobs.jobs.items c.drive_all.new.jobs (long ∙ sym (ap (λ l. length l) read)) (sym c.in_ok-jobs.jobs.ok.0) in
    subst (λ (xs : List (Job Hand)). AtEach xs (λ k j. j.hand.board.now ≡ c.args.board.now)) (sym whole) (λ k d low. (over k d low).0)

pub joined-requires-clause-number : goal.joined-requires-clause-number
joined-requires-clause-number g c =
    let read : c.in_ok-jobs.jobs.items ≡ c.deref_mut.result.now = search rules in
    let long : length c.drive_all.new.jobs ≡ length c.deref_mut.result.now = c.drive_all.ensures.len in
    let over =
    over_each c.args.board.now (length c.in_ok-jobs.jobs.items) c.deref_mut.result.now c.drive_all.new.jobs long c.drive_all.ensures.same (λ k d low. (c.drive_all.ensures.idle k d low).nothing.0)
    (subst (λ (xs : List (Job Hand)). AtEach xs (λ k j. j.hand.board.now ≡ c.args.board.now)) read c.in_ok-jobs.ensures.board)
    (subst (λ (xs : List (Job Hand)). AtEach xs (λ k j. IsNumbered c.args.board.now.table.shared.table_id c.args.board.now.table.shared.key (length c.in_ok-jobs.jobs.items - 1 - k) j.hand.seat)) read c.in_ok-jobs.ensures.seat) in
    let whole = written c.in_ok-jobs.jobs.len c.in_ok-jobs.jobs.items c.drive_all.new.jobs (long ∙ sym (ap (λ l. length l) read)) (sym c.in_ok-jobs.jobs.ok.0) in
    let same : length c.in_ok-jobs.jobs.items ≡ length c.drive_all.new.jobs = ap (λ l. length l) read ∙ sym long in
    subst (λ (xs : List (Job Hand)). AtEach xs (λ k j. j.hand.seat.seat.me.0.numbers ≡ (length xs - 1 - k) ∷ [])) (sym whole) (λ k d low. (over k d low).1 ∙ ap (λ (n : ℕ). (n - 1 - k) ∷ []) same)

pub joined-requires-clause-nothing : goal.joined-requires-clause-nothing
joined-requires-clause-nothing g c =
    let read : c.in_ok-jobs.jobs.items ≡ c.deref_mut.result.now = search rules in
    let long : length c.drive_all.new.jobs ≡ length c.deref_mut.result.now = c.drive_all.ensures.len in
    let over =
    over_each c.args.board.now (length c.in_ok-jobs.jobs.items) c.deref_mut.result.now c.drive_all.new.jobs long c.drive_all.ensures.same (λ k d low. (c.drive_all.ensures.idle k d low).nothing.0)
    (subst (λ (xs : List (Job Hand)). AtEach xs (λ k j. j.hand.board.now ≡ c.args.board.now)) read c.in_ok-jobs.ensures.board)
    (subst (λ (xs : List (Job Hand)). AtEach xs (λ k j. IsNumbered c.args.board.now.table.shared.table_id c.args.board.now.table.shared.key (length c.in_ok-jobs.jobs.items - 1 - k) j.hand.seat)) read c.in_ok-jobs.ensures.seat) in
    let whole = written c.in_ok-jobs.jobs.len c.in_ok-jobs.jobs.items c.drive_all.new.jobs (long ∙ sym (ap (λ l. length l) read)) (sym c.in_ok-jobs.jobs.ok.0) in
    subst (λ (xs : List (Job Hand)). AtEach xs (λ k j. j.hand.seat.seat.me.0.held ≡ [])) (sym whole) (λ k d low. (over k d low).2)
