use Rattle.std.proofs.Common.{arith}
use Rattle.std.proofs.lemmas.Option.{slice_get-get_or}
use Rattle.pf_edge_list.proofs.EdgeSearch.{blank, below-more, up-from, up-none}
use Rattle.pf_edge_list.proofs.edges.start_from.Goals as goal

pub returns-then-edges-place : goal.returns-then-edges-place
returns-then-edges-place c = λ rise below. record {
  below = c.pass.invariant below;
  up = up-from c.args.edges.now c.args.name c.pass.place _ rise (slice_get-get_or c.args.edges.now c.pass.place blank (omega arith)) (omega arith);
}

pub pass-preserved : goal.pass-preserved
pass-preserved c = λ below. below-more c.args.edges.now c.args.name c.pass.place _ (c.pass.invariant below) (slice_get-get_or c.args.edges.now c.pass.place blank (omega arith)) (omega arith)

pub returns : goal.returns
returns c = λ rise below. record { below = c.pass.invariant below; up = up-none c.args.edges.now c.args.name c.pass.place (omega arith) }
