use Rattle.std.proofs.Common.{◌∙◌, ◌∷◌, [], sym, append_assoc, arith}
use Rattle.pf_gen.specs.Grid.{strip_of}
use Rattle.pf_gen.proofs.Ranges.{flat_map_more}
use Rattle.pf_gen.proofs.owners.Goals as goal

pub loop-cell-preserved : goal.loop-cell-preserved
loop-cell-preserved c =
    record {
      made = rw (c.push_reserved-in-loop-cell.ensures.items, c.push_reserved.ensures.items, c.loop-cell.invariant.made, c.strip_at-chunk.ensures, append_assoc)
          (sym (flat_map_more (λ cell. strip_of c.args.cells cell ∷ strip_of c.args.cells cell ∷ []) c.loop-cell.cell));
      len = omega (arith, c.push_reserved-in-loop-cell.ensures.len, c.push_reserved.ensures.len, c.loop-cell.invariant.len);
      room = c.push_reserved-in-loop-cell.ensures.capacity ∙ c.push_reserved.ensures.capacity ∙ c.loop-cell.invariant.room;
    }
