use Rattle.std.proofs.Common.{◌+◌, subst, sym, arith}
use Rattle.pf_model.proofs.Fans.{IsSimple}
use Rattle.pf_model.proofs.Spokes.{spokes-simple}
use Rattle.pf_rings.proofs.Runs.{IsAtRun, IsGoing, begun, ended, full, round, stepped, goes_on}
use Rattle.pf_rings.proofs.fan.passed_from.Goals as goal

pub turns-init : goal.turns-init
turns-init c o = begun c.args.spokes.now c.args.start o

pub returns-in_default : goal.returns-in_default
returns-in_default c m n ok e =
    let o = subst IsSimple (sym e) (spokes-simple m ok n) in
    ended c.args.spokes.now c.args.start c.turns.passed c.turns.right (c.turns.invariant o).run (sym c.in_default.ensures.left)

pub returns-then-right-start : goal.returns-then-right-start
returns-then-right-start c m n ok e =
    let o = subst IsSimple (sym e) (spokes-simple m ok n) in
    let going = subst (λ r. IsGoing c.args.spokes.now c.args.start c.turns.passed r) (sym c.in-Some.ensures.found.1) (c.turns.invariant o) in
    let at = stepped c.args.spokes.now c.args.start c.turns.passed c.in-Some.spoke o c.in-Some.ensures.found.0 going in
    round c.args.spokes.now c.args.start c.turns.passed o (subst (λ r. IsAtRun c.args.spokes.now c.args.start (c.turns.passed + 1) r) c.if-right-start.true at)

pub turns-preserved : goal.turns-preserved
turns-preserved c o =
    let going = subst (λ r. IsGoing c.args.spokes.now c.args.start c.turns.passed r) (sym c.in-Some.ensures.found.1) (c.turns.invariant o) in
    let at = stepped c.args.spokes.now c.args.start c.turns.passed c.in-Some.spoke o c.in-Some.ensures.found.0 going in
    goes_on c.args.spokes.now c.args.start (c.turns.passed + 1) c.in-Some.spoke.left o at c.if-right-start.false

pub returns : goal.returns
returns c m n ok e =
    let o = subst IsSimple (sym e) (spokes-simple m ok n) in
    full c.args.spokes.now c.args.start c.turns.passed c.turns.right (c.turns.invariant o).run (omega (arith, c.turns-test.false))
