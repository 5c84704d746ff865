use Rattle.std.proofs.Common.{◌≡◌, ℕ, ◌<◌, ◌≤◌, ◌+◌, ◌-◌, List, [], ◌∷◌, ◌++◌, Bool, true, false, not, ◌&&◌, ◌==◌, nat_lt, refl, sym, ap, ◌∙◌, set, length, take, drop, subst, suc, arith, rules, add-one, append_assoc}
use Rattle.pf_core.specs.First.{start_seat}
use Rattle.pf_core.proofs.Begins.{mapped_more}
use Rattle.pf_core.proofs.opening.seats_for.Goals as goal

pub loop-k-preserved : goal.loop-k-preserved
loop-k-preserved c =
    let put : c.push.new.self.items ≡ c.loop-k.list.items ++ c.seat_for.result ∷ [] = search rules in
    put ∙ (λ i. c.loop-k.invariant i ++ c.seat_for.ensures i ∷ []) ∙ mapped_more (start_seat c.args.budget) c.loop-k.k
