use Rattle.std.proofs.Common.{arith}
use Rattle.pf_rest.specs.Crossed.{IsClear}
use Rattle.pf_rest.proofs.Uncrossed.{clear-more, clear-uncrossed, named-each}
use Rattle.pf_rest.proofs.crossed.is_crossed.Goals as goal

pub loop-v-preserved : goal.loop-v-preserved
loop-v-preserved c = λ m ok are k d l.
    clear-more m c.args.star.now c.args.names.now c.loop-v.v-index _ (omega (arith, c.loop-v-test.true)) (c.is_crossed_at.ensures m ok are c.if-is_crossed_at.false) (c.loop-v.invariant m ok are) k d l

pub returns : goal.returns
returns c = λ m u ok are star around none.
    clear-uncrossed m ok u c.args.star.now c.args.names.now star.all around
    (named-each (IsClear m c.args.star.now c.args.names.now) c.args.names.now (λ k d l. c.loop-v.invariant m ok are k d (omega (arith, l, c.loop-v-test.false, c.loop-v.auto.v-index-end))))
