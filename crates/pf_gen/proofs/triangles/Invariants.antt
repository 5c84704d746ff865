use Rattle.std.proofs.Common.{◌≡◌, ◌*◌, flat_map, vec_len, vec_capacity}
use Rattle.std.specs.List.{range_with_len}
use Rattle.pf_gen.specs.Grid.{halves}
use Rattle.pf_gen.proofs.triangles.Given as goal

abbrev pub invariant-loop-cell : goal.invariant-loop-cell
invariant-loop-cell l =
    record {
      made : l.list.items ≡ flat_map (halves l.cells) (range_with_len 0 l.cell);
      len : vec_len l.list ≡ 2 * l.cell;
      room : vec_capacity l.list ≡ 2 * l.count;
    }
