use Rattle.std.proofs.Common.{ℕ, sym, ◌∙◌}
use Rattle.std.specs.Prelude.{Option, Some, None, IfSome}
use Rattle.pf_model.specs.declared.Cond.{Cond}
use Rattle.pf_model.specs.declared.Op.TheVariants.{Bisect}
use Rattle.pf_core_model.specs.declared.view.View.{View}
use Rattle.pf_core_model.specs.Guards.{IsViewJudged}
use Rattle.board_tests.proofs.Making.{seen_by}
use Rattle.board_tests.proofs.seats.asked.Goals as goal

if_some : (v : View) (chunk a b : ℕ) (x : Option Cond) → IsViewJudged v chunk (Bisect a b) x → IfSome x (λ cond. IsViewJudged v chunk (Bisect a b) (Some cond))
if_some v chunk a b None j = tt
if_some v chunk a b (Some cond) j = j

pub returns : goal.returns
returns c =
    let s = c.args.s.now in
    let v = s.seat.me.0 in
    if_some v c.args.chunk c.args.a c.args.b c.bisection_judged.result
    (seen_by c.args.board.now.table.shared.key v s.kept.items c.args.chunk c.args.a c.args.b c.bisection_judged.result c.requires.seat.knows c.requires.lends (sym c.lends.ensures ∙ c.if-not-lends.false) (sym c.lends-2.ensures ∙ c.if-not-lends-2.false) (sym c.bisection_judged.ensures))
