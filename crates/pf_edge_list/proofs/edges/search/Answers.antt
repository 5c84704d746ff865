use Rattle.std.proofs.Common.{ℕ, ◌+◌, ◌-◌, ◌/◌, sym, ◌∙◌, arith}
use Rattle.std.proofs.lemmas.Option.{slice_get-get_or}
use Rattle.pf_rules.specs.Lengths.{span_value}
use Rattle.pf_edge_list.proofs.EdgeSearch.{blank, only-after, only-until}
use Rattle.pf_edge_list.proofs.edges.search.Goals as goal

pub halve-preserved-then-is_before : goal.halve-preserved-then-is_before
halve-preserved-then-is_before c = (
  omega arith,
  λ rise only.
      let edges = c.args.edges.now in
      let middle : ℕ = c.halve.first + (c.halve.end - c.halve.first) / 2 in
      only-after edges (span_value c.args.e) c.halve.first c.halve.end middle _ rise (c.halve.invariant.1 rise only) (slice_get-get_or edges middle blank (omega arith)) (sym c.is_before.ensures ∙ c.if-is_before.true),
)

pub halve-preserved : goal.halve-preserved
halve-preserved c = (
  omega arith,
  λ rise only.
      let edges = c.args.edges.now in
      let middle : ℕ = c.halve.first + (c.halve.end - c.halve.first) / 2 in
      only-until edges (span_value c.args.e) c.halve.first c.halve.end middle _ rise (c.halve.invariant.1 rise only) (slice_get-get_or edges middle blank (omega arith)) (sym c.is_before.ensures ∙ c.if-is_before.false),
)
