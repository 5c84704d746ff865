use Rattle.std.proofs.Common.{◌≡◌, map, vec_len, vec_capacity}
use Rattle.std.specs.List.{range_with_len}
use Rattle.pf_gen.specs.Grid.{grid_point}
use Rattle.pf_gen.proofs.points.Given as goal

abbrev pub invariant-loop-name : goal.invariant-loop-name
invariant-loop-name l =
    record {
      nodes : l.list.items ≡ map (grid_point l.cells) (range_with_len 0 l.name);
      len : vec_len l.list ≡ l.name;
      room : vec_capacity l.list ≡ l.count;
    }
