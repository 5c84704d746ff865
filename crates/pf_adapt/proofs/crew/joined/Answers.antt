use Rattle.std.proofs.Common.{◌∙◌, ℕ, ◌-◌, [], ◌∷◌, ◌++◌, ap, option_to_list}
use Rattle.pf_adapt.proofs.Jobs.{next_ended, seat_on, seat_fits, first_joined, more_joined}
use Rattle.pf_adapt.proofs.crew.joined.Goals as goal

pub jobs-init : goal.jobs-init
jobs-init c =
    first_joined c.args.board.now c.args.jobs.items c.pop.new.self.items c.in-Some.job c.seat_of-seat.result c.requires.all
    (λ k d low. (c.requires.board k d low, c.requires.number k d low ∙ ap (λ (w : ℕ). (w - 1 - k) ∷ []) c.requires.all, c.requires.nothing k d low))
    (c.pop.ensures.items ∙ ap (λ o. c.pop.new.self.items ++ option_to_list o) c.in-Some.is) c.seat_of-seat.ensures.value c.seat_of-seat.ensures.board c.seat_of-seat.ensures.seat c.seat_of-seat.ensures.clear

pub seat_of-requires : goal.seat_of-requires
seat_of-requires c = record { nothing = (next_ended c.args.board.now c.jobs.left.items c.pop-in-jobs.new.self.items c.in-Some-pop.job c.jobs.invariant.2 (c.pop-in-jobs.ensures.items ∙ ap (λ o. c.pop-in-jobs.new.self.items ++ option_to_list o) c.in-Some-pop.is)).2 }

pub join_seat-requires-clause-other : goal.join_seat-requires-clause-other
join_seat-requires-clause-other c = seat_on c.args.board.now c.in-Some-pop.job c.seat_of.result (next_ended c.args.board.now c.jobs.left.items c.pop-in-jobs.new.self.items c.in-Some-pop.job c.jobs.invariant.2 (c.pop-in-jobs.ensures.items ∙ ap (λ o. c.pop-in-jobs.new.self.items ++ option_to_list o) c.in-Some-pop.is)).0 c.seat_of.ensures.board

pub join_seat-requires-clause-second : goal.join_seat-requires-clause-second
join_seat-requires-clause-second c = seat_fits c.args.board.now c.in-Some-pop.job c.seat_of.result (next_ended c.args.board.now c.jobs.left.items c.pop-in-jobs.new.self.items c.in-Some-pop.job c.jobs.invariant.2 (c.pop-in-jobs.ensures.items ∙ ap (λ o. c.pop-in-jobs.new.self.items ++ option_to_list o) c.in-Some-pop.is)).0 c.seat_of.ensures.seat

pub join_seat-requires-clause-nothing : goal.join_seat-requires-clause-nothing
join_seat-requires-clause-nothing c = (c.jobs.invariant.1.nothing, (λ i. (c.seat_of.ensures.value i).seat.me.0.held) ∙ (next_ended c.args.board.now c.jobs.left.items c.pop-in-jobs.new.self.items c.in-Some-pop.job c.jobs.invariant.2 (c.pop-in-jobs.ensures.items ∙ ap (λ o. c.pop-in-jobs.new.self.items ++ option_to_list o) c.in-Some-pop.is)).2)

pub jobs-preserved : goal.jobs-preserved
jobs-preserved c =
    more_joined c.args.board.now c.jobs.left.items c.pop-in-jobs.new.self.items c.in-Some-pop.job c.jobs.seat c.join_seat.new.s c.seat_of.result c.jobs.invariant
    (c.pop-in-jobs.ensures.items ∙ ap (λ o. c.pop-in-jobs.new.self.items ++ option_to_list o) c.in-Some-pop.is) c.seat_of.ensures.value c.join_seat.ensures.board c.join_seat.ensures.seat c.join_seat.ensures.told
