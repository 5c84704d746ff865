use Rattle.std.proofs.Common.{◌≡◌, ◌++◌, take, drop, get_or, ◌∙◌, ap, suc, add-one}
use Rattle.std.specs.Prelude.{map, pos, slice_set}
use Rattle.pf_model.specs.declared.Spoke.{Spoke}
use Rattle.pf_star_model.specs.Patched.{renamed_spoke}
use Rattle.pf_rings.proofs.Renamed.{next-is, next-set}
use Rattle.pf_rings.proofs.rename.rename_spokes.Goals as goal

pub loop-k-preserved : goal.loop-k-preserved
loop-k-preserved c =
    let blank : Spoke = record { right = 0; right_at = record { x = pos 0; y = pos 0 }; left = 0; left_at = record { x = pos 0; y = pos 0 }; owner = 0 } in
    let f : Spoke → Spoke = λ s. renamed_spoke c.args.old c.args.name s in
    let is : c.loop-k.spokes ≡ map f (take c.loop-k.k c.args.spokes.now) ++ drop c.loop-k.k c.args.spokes.now = c.loop-k.invariant in
    let new : c.renamed_spoke.result ≡ f (get_or c.args.spokes.now c.loop-k.k blank) = c.renamed_spoke.ensures ∙ ap f (ap (λ l. get_or l c.loop-k.k blank) is ∙ next-is f c.args.spokes.now c.loop-k.k blank c.loop-k-test.true) in
    let step : slice_set c.loop-k.spokes c.loop-k.k c.renamed_spoke.result ≡ map f (take (suc c.loop-k.k) c.args.spokes.now) ++ drop (suc c.loop-k.k) c.args.spokes.now = ap (λ l. slice_set l c.loop-k.k c.renamed_spoke.result) is ∙ (ap (λ v. slice_set (map f (take c.loop-k.k c.args.spokes.now) ++ drop c.loop-k.k c.args.spokes.now) c.loop-k.k v) new ∙ next-set f c.args.spokes.now c.loop-k.k blank c.loop-k-test.true) in
    rw (add-one c.loop-k.k) step
