use Rattle.std.proofs.Common.{◌≡◌, ℕ, ◌<◌, ◌≤◌, ◌+◌, ◌-◌, List, [], ◌∷◌, ◌++◌, Bool, true, false, not, ◌&&◌, ◌==◌, nat_lt, refl, sym, ap, ◌∙◌, set, length, take, drop, subst, suc, arith, rules, add-one, append_assoc}
use Rattle.pf_core.proofs.Shared.{count_low}
use Rattle.pf_core.proofs.part.counts_of.Goals as goal

pub overflow_add-free : goal.overflow_add-free
overflow_add-free c = let z = count_low (λ w. w == 0) c.args.nodes.now in let y = c.loop-node.invariant.0 in let x = c.requires in omega arith

pub overflow_add-held : goal.overflow_add-held
overflow_add-held c = let z = count_low (λ w. nat_lt 2 w) c.args.nodes.now in let y = c.loop-node.invariant.1.0 in let x = c.requires in omega arith

pub overflow_add-dead : goal.overflow_add-dead
overflow_add-dead c = let z = count_low (λ w. w == 1) c.args.nodes.now in let y = c.loop-node.invariant.1.1.0 in let x = c.requires in omega arith

pub overflow_add-never : goal.overflow_add-never
overflow_add-never c = let z = count_low (λ w. w == 2) c.args.nodes.now in let y = c.loop-node.invariant.1.1.1 in let x = c.requires in omega arith
