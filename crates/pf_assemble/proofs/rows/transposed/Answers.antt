use Rattle.std.proofs.Common.{◌≡◌, ◌∙◌, ℕ, Bool, false, ◌||◌, ◌==◌, ap, arith, Vec, Global}
use Rattle.std.specs.List.{list_any}
use Rattle.pf_assemble.specs.Rows.{taken}
use Rattle.pf_assemble.proofs.Filling.{rows-open, rows-close, or-none}
use Rattle.pf_assemble.proofs.Places.{taken-any}
use Rattle.pf_assemble.proofs.rows.transposed.Goals as goal

pub rows-preserved : goal.rows-preserved
rows-preserved c = (
  c.mark_all.ensures.len ∙ c.rows.invariant.0,
  λ p h.
      let q : ℕ → ℕ → Bool = λ n w. p w n in
      let row = c.deref.result.now in
      let row-is : row ≡ taken (p c.rows.row) c.args.count = (c.deref.ensures.value ∙ ap (λ (v : Vec ℕ Global). v.items) c.index-rows-row.is) ∙ h c.rows.row c.index-rows-row.result c.rows-test.true in
      let long = c.mark_all.ensures.len ∙ c.rows.invariant.0 in
      rows-close c.mark_all.new.rows.items q c.rows.row (λ w. list_any (λ k. k == w) row || false)
      (c.in_ok-mark_all.ensures.marked q (λ w. false) (rows-open c.rows.new.items q c.rows.row (c.rows.invariant.1 p h)))
      (λ w l. or-none (list_any (λ k. k == w) row) ∙ (ap (list_any (λ k. k == w)) row-is ∙ taken-any (p c.rows.row) c.args.count w (omega (arith, l, long)))),
)
