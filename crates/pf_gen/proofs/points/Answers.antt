use Rattle.std.proofs.Common.{◌∙◌, sym, arith}
use Rattle.std.proofs.lemmas.List.FromFn.{map-range_with_len_more}
use Rattle.pf_gen.specs.Grid.{grid_point}
use Rattle.pf_gen.proofs.points.Goals as goal

pub loop-name-preserved : goal.loop-name-preserved
loop-name-preserved c =
    record {
      nodes = rw (c.push_reserved.ensures.items, c.loop-name.invariant.nodes, c.node_at.ensures) (sym (map-range_with_len_more (grid_point c.args.cells) 0 c.loop-name.name c.loop-name.name (omega arith)));
      len = omega (arith, c.push_reserved.ensures.len, c.loop-name.invariant.len);
      room = c.push_reserved.ensures.capacity ∙ c.loop-name.invariant.room;
    }
