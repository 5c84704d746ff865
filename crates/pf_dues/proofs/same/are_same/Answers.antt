use Rattle.std.proofs.Common.{◌≡◌, ℕ, ◌<◌, ◌≤◌, ◌+◌, ◌-◌, List, [], ◌∷◌, ◌++◌, Bool, true, false, not, ◌&&◌, ◌==◌, nat_lt, refl, sym, ap, ◌∙◌, set, length, take, drop, subst, suc, arith, rules, add-one, append_assoc}
use Rattle.pf_dues.proofs.Alike.{same_long}
use Rattle.pf_dues.proofs.same.are_same.Goals as goal

pub returns-then-a-b : goal.returns-then-a-b
returns-then-a-b c = sym (same_long c.args.a.now c.args.b.now c.if-a-b.true)
