use Rattle.std.proofs.Common.{◌≡◌, ℕ, ◌<◌, ◌≤◌, ◌+◌, ◌-◌, List, [], ◌∷◌, ◌++◌, Bool, true, false, not, ◌&&◌, refl, sym, ap, ◌∙◌, set, length, take, drop, subst, suc, arith, rules}
use Rattle.pf_core.proofs.Noting.{look_taken}
use Rattle.pf_core.proofs.note.look.Goals as goal

pub returns : goal.returns
returns c = look_taken c.args.s.now c.args.a _ (let z = c.len.ensures in omega (arith, c.args.s.now.log.ok))
