use Rattle.std.proofs.Common.{◌≡◌, ◌≤◌, ◌-◌, length, take}
use Rattle.pf_shelf.specs.Sink.{extended}
use Rattle.pf_shelf.proofs.all.say_all.Given as goal

abbrev pub invariant-loop-said : goal.invariant-loop-said
invariant-loop-said g l = record {
  within : l.said ≤ length l.bytes;
  gained : (g.K.Sink.heard l.sink).told ≡ extended (g.K.Sink.heard l.fn.sink).told (take l.said l.bytes);
  faults : (g.K.Sink.heard l.sink).faults ≡ (g.K.Sink.heard l.fn.sink).faults;
}

abbrev pub decreases-loop-said : goal.decreases-loop-said
decreases-loop-said g l = length l.bytes - l.said
