use Rattle.std.proofs.Common.{◌≡◌, ◌∙◌, sym, subst, false}
use Rattle.pf_edges.specs.TableSteps.{AreBare}
use Rattle.pf_edges.proofs.TableSteps.{bare-all, bare-both}
use Rattle.pf_edges.proofs.table.bare_edges.Goals as goal

pub returns-then-not-is_corner_of : goal.returns-then-not-is_corner_of
returns-then-not-is_corner_of c = λ all e. bare-all c.args.tris.now c.args.u c.args.v all (sym c.is_corner_of.ensures ∙ c.if-not-is_corner_of.true)

pub returns-then-not-has_both : goal.returns-then-not-has_both
returns-then-not-has_both c = λ all e.
    let same : false ≡ all = cc in
    subst (λ a. AreBare c.args.u c.args.v a c.args.tris.now) same (bare-both c.args.tris.now c.args.u c.args.v (sym c.has_both.ensures ∙ c.if-not-has_both.true))
