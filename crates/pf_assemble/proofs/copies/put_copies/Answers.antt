use Rattle.std.proofs.Common.{◌≤◌, ◌∙◌, ◌++◌, [], ◌∷◌, ap, map, length, arith}
use Rattle.std.proofs.lemmas.List.Concat.{flat_map_single}
use Rattle.pf_locks.specs.Closes.{shown_copy}
use Rattle.pf_assemble.specs.Placed.{copy_at}
use Rattle.pf_assemble.proofs.Loops.{made-all}
use Rattle.pf_assemble.proofs.copies.put_copies.Goals as goal

pub returns : goal.returns
returns c =
    let past : length c.args.places.now ≤ c.places.place-index = omega arith in
    made-all (λ p. copy_at c.args.chunk c.args.stars.now p ∷ []) (map shown_copy c.places.list.items) _ c.args.places.now c.places.place-index past c.places.invariant
    ∙ ap (λ l. map shown_copy c.args.list.now.items ++ l) (flat_map_single (copy_at c.args.chunk c.args.stars.now) c.args.places.now)
