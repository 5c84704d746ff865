use Rattle.std.proofs.Common.{◌≡◌, ℕ, ◌<◌, ◌≤◌, ◌+◌, ◌-◌, List, [], ◌∷◌, ◌++◌, Bool, true, false, not, ◌&&◌, ◌==◌, nat_lt, refl, sym, ap, ◌∙◌, set, length, take, drop, subst, suc, arith, rules, add-one, append_assoc}
use Rattle.pf_model.specs.declared.Tri.{Tri}
use Rattle.pf_core.specs.Part.{tris_from, part_from}
use Rattle.pf_core.proofs.part.part_of.Goals as goal

pub loop-n-preserved : goal.loop-n-preserved
loop-n-preserved c =
    let more : ℕ = length c.args.nodes.now - (c.loop-n.n + 1) in
    let low : c.loop-n.n < length c.args.nodes.now = omega (arith, c.loop-n-test.true) in
    let left : length c.args.nodes.now - c.loop-n.n ≡ suc more = omega arith in
    let next : c.loop-n.n + 1 ≡ suc c.loop-n.n = omega arith in
    ap (λ (l : List Tri). l ++ part_from c.args.nodes.now (c.loop-n.n + 1) more) c.in_ok-push_node.ensures
    ∙ append_assoc c.loop-n.list.items (tris_from c.args.nodes.now c.loop-n.n) (part_from c.args.nodes.now (c.loop-n.n + 1) more)
    ∙ ap (λ (k : ℕ). c.loop-n.list.items ++ (tris_from c.args.nodes.now c.loop-n.n ++ part_from c.args.nodes.now k more)) next
    ∙ ap (λ (k : ℕ). c.loop-n.list.items ++ part_from c.args.nodes.now c.loop-n.n k) (sym left)
    ∙ c.loop-n.invariant
