use Rattle.std.specs.Prelude.{pos}
use Rattle.pf_model.specs.declared.Spoke.{Spoke}
use Rattle.pf_rest.proofs.StarAround.{rising-after}
use Rattle.pf_rest.proofs.around.is_after.Goals as goal

pub returns : goal.returns
returns c = λ told up s e.
    let blank : Spoke = record { right = 0; right_at = record { x = pos 0; y = pos 0 }; left = 0; left_at = record { x = pos 0; y = pos 0 }; owner = 0 } in
    rising-after c.args.spokes.now s blank c.args.right c.if-is_empty.ensures told up e
