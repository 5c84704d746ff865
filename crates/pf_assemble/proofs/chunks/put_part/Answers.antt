use Rattle.std.proofs.Common.{◌∙◌, ◌<◌, length, subst, sym}
use Rattle.std.proofs.lemmas.List.Elements.{All-filter}
use Rattle.pf_assemble.specs.Placed.{star_at, has_other}
use Rattle.pf_assemble.specs.Rows.{AreBelow}
use Rattle.pf_assemble.proofs.chunks.put_part.Goals as goal

pub put_lines-requires-clause-shared : goal.put_lines-requires-clause-shared
put_lines-requires-clause-shared c =
    subst (AreBelow (length c.args.stars.now)) (sym (c.deref.ensures.value ∙ c.in_ok-shared.ensures))
    (All-filter (λ p. has_other c.args.chunk (star_at c.args.stars.now p)) (λ k. k < length c.args.stars.now) c.args.nodes.now c.requires.nodes)
