use Rattle.std.proofs.Common.{rules, ◌≡◌, ◌∙◌, [], ◌∷◌, ◌++◌, length, ap, arith, option_to_list}
use Rattle.pf_adapt.proofs.Jobs.{waits, waits_below, made_next, made_last}
use Rattle.pf_adapt.proofs.crew.jobs_of.Goals as goal

pub seats-init : goal.seats-init
seats-init c =
    let none : length c.new-jobs.result.items ≡ 0 = ap (λ l. length l) c.new-jobs.ensures.items in
    let many = c.requires.many in (
      omega (arith, none, many),
      c.requires.others,
      (λ k d low. absurd (omega (arith, none, low))),
    )

pub job_of-requires-clause-board : goal.job_of-requires-clause-board
job_of-requires-clause-board c =
    let is = c.pop.ensures.items ∙ ap (λ o. c.pop.new.self.items ++ option_to_list o) c.in-Some.is in
    (waits c.args.board.now (length c.args.parts.now) c.seats.left.items c.pop.new.self.items c.seats.jobs.items c.in-Some.seat c.seats.invariant is).1.board

pub job_of-requires-clause-seat : goal.job_of-requires-clause-seat
job_of-requires-clause-seat c =
    let is = c.pop.ensures.items ∙ ap (λ o. c.pop.new.self.items ++ option_to_list o) c.in-Some.is in
    (waits c.args.board.now (length c.args.parts.now) c.seats.left.items c.pop.new.self.items c.seats.jobs.items c.in-Some.seat c.seats.invariant is).1.seat

pub job_of-requires-clause-nothing : goal.job_of-requires-clause-nothing
job_of-requires-clause-nothing c =
    let is = c.pop.ensures.items ∙ ap (λ o. c.pop.new.self.items ++ option_to_list o) c.in-Some.is in
    (waits c.args.board.now (length c.args.parts.now) c.seats.left.items c.pop.new.self.items c.seats.jobs.items c.in-Some.seat c.seats.invariant is).1.nothing

pub job_of-requires-clause-clear : goal.job_of-requires-clause-clear
job_of-requires-clause-clear c =
    let is = c.pop.ensures.items ∙ ap (λ o. c.pop.new.self.items ++ option_to_list o) c.in-Some.is in
    (waits c.args.board.now (length c.args.parts.now) c.seats.left.items c.pop.new.self.items c.seats.jobs.items c.in-Some.seat c.seats.invariant is).1.clear

pub job_of-requires-clause-number : goal.job_of-requires-clause-number
job_of-requires-clause-number c =
    let is = c.pop.ensures.items ∙ ap (λ o. c.pop.new.self.items ++ option_to_list o) c.in-Some.is in
    waits_below c.args.board.now (length c.args.parts.now) c.seats.left.items c.pop.new.self.items c.seats.jobs.items c.in-Some.seat c.seats.invariant is

pub seats-preserved : goal.seats-preserved
seats-preserved c =
    let is = c.pop.ensures.items ∙ ap (λ o. c.pop.new.self.items ++ option_to_list o) c.in-Some.is in
    let put : c.push.new.self.items ≡ c.seats.jobs.items ++ c.job_of.result ∷ [] = search rules in
    made_next c.args.board.now (length c.args.parts.now) c.seats.left.items c.pop.new.self.items c.seats.jobs.items c.push.new.self.items c.in-Some.seat c.job_of.result c.seats.invariant is put c.job_of.ensures.board c.job_of.ensures.seat c.job_of.ensures.worker c.job_of.ensures.part

pub returns-clause-seat : goal.returns-clause-seat
returns-clause-seat c =
    let put : c.push-2.new.self.items ≡ c.seats.jobs.items ++ c.job_of-2.result ∷ [] = search rules in
    let none : length c.seats.left.items ≡ 0 = omega (arith, c.in_default.ensures.cases.0, c.seats.left.ok) in
    let both = made_last c.args.board.now (length c.args.parts.now) c.seats.left.items c.seats.jobs.items c.push-2.new.self.items c.args.first c.job_of-2.result c.seats.invariant none c.requires.first put c.job_of-2.ensures.board c.job_of-2.ensures.seat c.job_of-2.ensures.worker c.job_of-2.ensures.part in
    λ k d low. (both.1 k d low).1

pub returns-clause-worker : goal.returns-clause-worker
returns-clause-worker c =
    let put : c.push-2.new.self.items ≡ c.seats.jobs.items ++ c.job_of-2.result ∷ [] = search rules in
    let none : length c.seats.left.items ≡ 0 = omega (arith, c.in_default.ensures.cases.0, c.seats.left.ok) in
    let both = made_last c.args.board.now (length c.args.parts.now) c.seats.left.items c.seats.jobs.items c.push-2.new.self.items c.args.first c.job_of-2.result c.seats.invariant none c.requires.first put c.job_of-2.ensures.board c.job_of-2.ensures.seat c.job_of-2.ensures.worker c.job_of-2.ensures.part in
    λ k d low. (both.1 k d low).2

pub returns-clause-part : goal.returns-clause-part
returns-clause-part c =
    let put : c.push-2.new.self.items ≡ c.seats.jobs.items ++ c.job_of-2.result ∷ [] = search rules in
    let none : length c.seats.left.items ≡ 0 = omega (arith, c.in_default.ensures.cases.0, c.seats.left.ok) in
    let both = made_last c.args.board.now (length c.args.parts.now) c.seats.left.items c.seats.jobs.items c.push-2.new.self.items c.args.first c.job_of-2.result c.seats.invariant none c.requires.first put c.job_of-2.ensures.board c.job_of-2.ensures.seat c.job_of-2.ensures.worker c.job_of-2.ensures.part in
    λ k d low. (both.1 k d low).3
