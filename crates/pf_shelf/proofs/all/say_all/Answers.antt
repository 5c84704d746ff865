use Rattle.std.proofs.Common.{◌∙◌}
use Rattle.pf_shelf.proofs.Told.{extended-next, next_fits}
use Rattle.pf_shelf.proofs.all.say_all.Goals as goal

pub loop-said-preserved : goal.loop-said-preserved
loop-said-preserved g c = record {
  within = next_fits c.loop-said.said c.in-Ok.n c.args.bytes.now c.loop-said.invariant.within (c.in-Ok.ensures).fits;
  gained = extended-next (g.K.Sink.heard c.args.sink.now).told (g.K.Sink.heard c.loop-said.sink).told (g.K.Sink.heard c.append.new.self).told c.loop-said.said c.in-Ok.n c.args.bytes.now c.loop-said.invariant.gained (c.in-Ok.ensures).taken;
  faults = (c.in-Ok.ensures).no_fault ∙ c.loop-said.invariant.faults;
}
