use Rattle.std.proofs.Common.{◌≤◌, length, arith}
use Rattle.pf_assemble.specs.Placed.{ghost_line}
use Rattle.pf_assemble.proofs.Loops.{made-more, made-all}
use Rattle.pf_assemble.proofs.chunks.put_ghost_lines.Goals as goal

pub places-preserved : goal.places-preserved
places-preserved c = rw c.in_ok-put_ghost_line.ensures (made-more (ghost_line c.args.tris.now) _ _ c.args.places.now c.places.place-index 0 c.places-test.true c.places.invariant)

pub returns : goal.returns
returns c =
    let past : length c.args.places.now ≤ c.places.place-index = omega arith in
    made-all (ghost_line c.args.tris.now) c.places.text.items _ c.args.places.now c.places.place-index past c.places.invariant
