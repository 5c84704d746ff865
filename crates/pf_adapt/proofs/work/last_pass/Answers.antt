use Rattle.std.proofs.Common.{◌≤◌, ◌∙◌, ap, subst, length, inl, inr}
use Rattle.pf_core_model.specs.Core.{Opening}
use Rattle.pf_holder.specs.Facts.{history_in}
use Rattle.pf_adapt.proofs.Known.{done-within, done-all}
use Rattle.pf_adapt.proofs.work.last_pass.Goals as goal

pub returns-in-Quiet-clause-within : goal.returns-in-Quiet-clause-within
returns-in-Quiet-clause-within g c =
    let m = g.H.Holder in
    let h = c.finish.new.h in
    let same = g.met.H.Holder.same_opening c.args.h.now h c.finish.ensures.same in
    let within = done-within (m.opening h) (m.pairs h) (m.allowance h) (m.entries h) (g.met.H.Holder.alone_knows h (g.met.H.Holder.same_alone c.args.h.now h c.finish.ensures.same c.requires.alone)) in
    subst (λ n. length (history_in (m.entries h)) ≤ n) (ap (λ (o : Opening). o.budget) same) within

pub returns-in-Quiet-clause-ended : goal.returns-in-Quiet-clause-ended
returns-in-Quiet-clause-ended g c = inl c.in-Quiet.ensures.finished

pub returns-in-Spent-clause-within : goal.returns-in-Spent-clause-within
returns-in-Spent-clause-within g c =
    let m = g.H.Holder in
    let h = c.finish.new.h in
    let same = g.met.H.Holder.same_opening c.args.h.now h c.finish.ensures.same in
    let within = done-within (m.opening h) (m.pairs h) (m.allowance h) (m.entries h) (g.met.H.Holder.alone_knows h (g.met.H.Holder.same_alone c.args.h.now h c.finish.ensures.same c.requires.alone)) in
    subst (λ n. length (history_in (m.entries h)) ≤ n) (ap (λ (o : Opening). o.budget) same) within

pub returns-in-Spent-clause-ended : goal.returns-in-Spent-clause-ended
returns-in-Spent-clause-ended g c =
    let m = g.H.Holder in
    let h = c.finish.new.h in
    let same = g.met.H.Holder.same_opening c.args.h.now h c.finish.ensures.same in
    let all = done-all (m.opening h) (m.pairs h) (m.allowance h) (m.entries h) (g.met.H.Holder.alone_knows h (g.met.H.Holder.same_alone c.args.h.now h c.finish.ensures.same c.requires.alone)) c.in-Spent.ensures.finished.0 in
    inr (all ∙ ap (λ (o : Opening). o.budget) same)
