use Rattle.std.proofs.Common.{◌≤◌, length, arith}
use Rattle.pf_assemble.specs.Placed.{sharing_line}
use Rattle.pf_assemble.proofs.Loops.{made-all}
use Rattle.pf_assemble.proofs.chunks.put_shared_lines.Goals as goal

pub returns : goal.returns
returns c =
    let past : length c.args.places.now ≤ c.places.place-index = omega arith in
    made-all (sharing_line c.args.stars.now c.args.owners.now c.args.chunk) c.places.text.items _ c.args.places.now c.places.place-index past c.places.invariant
