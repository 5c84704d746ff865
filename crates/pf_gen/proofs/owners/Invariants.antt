use Rattle.std.proofs.Common.{◌≡◌, ◌*◌, flat_map, vec_len, vec_capacity, ◌∷◌, []}
use Rattle.std.specs.List.{range_with_len}
use Rattle.pf_gen.specs.Grid.{strip_of}
use Rattle.pf_gen.proofs.owners.Given as goal

abbrev pub invariant-loop-cell : goal.invariant-loop-cell
invariant-loop-cell l =
    record {
      made : l.list.items ≡ flat_map (λ cell. strip_of l.cells cell ∷ strip_of l.cells cell ∷ []) (range_with_len 0 l.cell);
      len : vec_len l.list ≡ 2 * l.cell;
      room : vec_capacity l.list ≡ 2 * l.count;
    }
