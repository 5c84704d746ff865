use Rattle.std.proofs.Common.{List, sym, subst, arith}
use Rattle.pf_model.specs.declared.Tri.{Tri}
use Rattle.pf_model.specs.Rising.{IsRising}
use Rattle.pf_model.specs.Mesh.{tri_lt}
use Rattle.pf_apply.proofs.ListingLemmas.{rising-without_all}
use Rattle.pf_apply.proofs.listing.exchange_listed.Goals as goal

pub enter_all-requires-clause-rising : goal.enter_all-requires-clause-rising
enter_all-requires-clause-rising c =
    let Q : List Tri → Type 0 = λ l. IsRising tri_lt l in
    subst Q (sym c.remove_all.ensures.removed) (rising-without_all c.args.removed.now c.args.tris.now.items c.requires.rising)

pub enter_all-requires-clause-room : goal.enter_all-requires-clause-room
enter_all-requires-clause-room c =
    let len = c.remove_all.ensures.len in
    let cap = c.remove_all.ensures.capacity in
    let room = c.requires.room in
    omega (arith, len, cap, room)
