use Rattle.std.proofs.Common.{◌≡◌, ◌<◌, ◌++◌, take, drop, get_or, ◌∙◌, ap, suc, add-one, arith, length}
use Rattle.std.specs.Prelude.{map, slice_set}
use Rattle.pf_rings.proofs.Renamed.{next-is, next-set}
use Rattle.pf_core.specs.declared.tables.Seat.{Seat}
use Rattle.pf_core.specs.Tables.{led_by}
use Rattle.pf_core.proofs.numbers.lead_all.Goals as goal

pub loop-k-preserved : goal.loop-k-preserved
loop-k-preserved c =
    let f : Seat → Seat = λ t. led_by c.args.b c.args.a t in
    let near : c.loop-k.k < length c.args.seats.now.items = omega (arith, c.args.seats.now.ok) in
    let is : c.loop-k.seats.items ≡ map f (take c.loop-k.k c.args.seats.now.items) ++ drop c.loop-k.k c.args.seats.now.items = c.loop-k.invariant in
    let old : Seat = c.index_mut.result.now in
    let new : Seat = c.lead.new.seat in
    let made : new ≡ f (get_or c.args.seats.now.items c.loop-k.k old) = c.lead.ensures ∙ ap f (c.index_mut.ensures.value ∙ ap (λ l. get_or l c.loop-k.k old) is ∙ next-is f c.args.seats.now.items c.loop-k.k old near) in
    let step : slice_set c.loop-k.seats.items c.loop-k.k new ≡ map f (take (suc c.loop-k.k) c.args.seats.now.items) ++ drop (suc c.loop-k.k) c.args.seats.now.items = ap (λ l. slice_set l c.loop-k.k new) is ∙ (ap (λ v. slice_set (map f (take c.loop-k.k c.args.seats.now.items) ++ drop c.loop-k.k c.args.seats.now.items) c.loop-k.k v) made ∙ next-set f c.args.seats.now.items c.loop-k.k old near) in
    rw (add-one c.loop-k.k) step
