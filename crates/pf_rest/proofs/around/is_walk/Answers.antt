use Rattle.std.proofs.Common.{length}
use Rattle.pf_rules.proofs.StarLists.{eq_holds}
use Rattle.pf_rest.proofs.StarAround.{walked-one, walked-more, walked-all}
use Rattle.pf_rest.proofs.around.is_walk.Goals as goal

pub turns-init : goal.turns-init
turns-init c = λ m u ok e. walked-one m ok u c.args.star.now c.args.first c.in-Some.second e c.in-Some.ensures

pub turns-preserved : goal.turns-preserved
turns-preserved c = λ m u ok e. walked-more m ok u c.args.star.now c.turns.met c.args.first c.turns.right c.in-Some-left_of.left e (c.turns.invariant m u ok e) c.if-right-first.true c.in-Some-left_of.ensures

pub returns : goal.returns
returns c = λ m u ok e told. walked-all m ok u c.args.star.now c.turns.met c.args.first c.turns.right e (c.turns.invariant m u ok e) (eq_holds c.turns.met (length c.args.star.now) told)
