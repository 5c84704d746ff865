use Rattle.std.proofs.Common.{◌≡◌, ◌<◌, ◌++◌, take, drop, get_or, ◌∙◌, ap, suc, add-one, arith, length}
use Rattle.std.specs.Prelude.{map, slice_set}
use Rattle.pf_model.specs.Stars.{Star}
use Rattle.pf_core_model.specs.declared.sharer.Sharer.{Sharer}
use Rattle.pf_ghost.specs.Renamed.{renamed_sharer}
use Rattle.pf_rings.proofs.Renamed.{next-is, next-set}
use Rattle.pf_ghost.proofs.sharers.rename_all.Goals as goal

pub loop-k-preserved : goal.loop-k-preserved
loop-k-preserved c =
    let f : Sharer → Sharer = λ s. renamed_sharer c.args.old c.args.name s in
    let near : c.loop-k.k < length c.args.list.now.items = omega (arith, c.args.list.now.ok) in
    let is : c.loop-k.list.items ≡ map f (take c.loop-k.k c.args.list.now.items) ++ drop c.loop-k.k c.args.list.now.items = c.loop-k.invariant in
    let old : Sharer = c.index_mut.result.now in
    let new : Sharer = record { chunk = old.chunk; star = c.rename_star.new.star } in
    let made : new ≡ f (get_or c.args.list.now.items c.loop-k.k old) = ap (λ (s : Star). record { chunk = old.chunk; star = s }) c.rename_star.ensures ∙ ap f (c.index_mut.ensures.value ∙ ap (λ l. get_or l c.loop-k.k old) is ∙ next-is f c.args.list.now.items c.loop-k.k old near) in
    let step : slice_set c.loop-k.list.items c.loop-k.k new ≡ map f (take (suc c.loop-k.k) c.args.list.now.items) ++ drop (suc c.loop-k.k) c.args.list.now.items = ap (λ l. slice_set l c.loop-k.k new) is ∙ (ap (λ v. slice_set (map f (take c.loop-k.k c.args.list.now.items) ++ drop c.loop-k.k c.args.list.now.items) c.loop-k.k v) made ∙ next-set f c.args.list.now.items c.loop-k.k old near) in
    rw (add-one c.loop-k.k) step
