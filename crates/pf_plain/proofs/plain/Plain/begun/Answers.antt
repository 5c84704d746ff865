use Rattle.std.proofs.Common.{length, ap, arith}
use Rattle.pf_plain.proofs.Begun.{plain_begun, stars_begun}
use Rattle.pf_plain.proofs.plain.Plain.begun.Goals as goal

pub invariant_of-result : goal.invariant_of-result
invariant_of-result c =
    let empty = ap length c.requires.empty in
    record {
      plain = plain_begun c.args.mesh.mesh c.args.budget c.args.journal.items c.new.result.items c.requires.empty c.new.ensures c.requires.conforming c.requires.fresh c.requires.small;
      stars_are = stars_begun c.args.mesh.mesh c.args.budget c.args.journal.items c.args.stars.items c.requires.empty c.requires.stars;
      long = c.requires.long;
      room = c.requires.room;
      count = omega (arith, empty);
      small = c.requires.small;
    }
