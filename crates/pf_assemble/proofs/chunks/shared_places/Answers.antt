use Rattle.std.proofs.Common.{◌≤◌, ◌∙◌, [], ◌∷◌, ℕ, cond, length, filter, arith}
use Rattle.pf_assemble.specs.Placed.{star_at, has_other}
use Rattle.pf_assemble.proofs.Loops.{made-all, picked, alone}
use Rattle.pf_assemble.proofs.chunks.shared_places.Goals as goal

pub returns : goal.returns
returns c =
    let past : length c.args.nodes.now ≤ c.nodes.place-index = omega arith in
    made-all (λ p. cond (has_other c.args.chunk (star_at c.args.stars.now p)) (p ∷ []) []) c.nodes.list.items _ c.args.nodes.now c.nodes.place-index past c.nodes.invariant
    ∙ (picked (λ p. has_other c.args.chunk (star_at c.args.stars.now p)) (λ (p : ℕ). p ∷ []) c.args.nodes.now
    ∙ alone (filter (λ p. has_other c.args.chunk (star_at c.args.stars.now p)) c.args.nodes.now))
