use Rattle.std.proofs.Common.{◌∙◌, ap, subst}
use Rattle.std.specs.Prelude.{Option, Some, None}
use Rattle.std.specs.Option.{option_map}
use Rattle.pf_model.specs.Mesh.{Undivided}
use Rattle.pf_model.specs.Lengths.{edge_of}
use Rattle.pf_rules.specs.declared.lengths.Span.{Span}
use Rattle.pf_rules.specs.Lengths.{span_value}
use Rattle.pf_finish.specs.declared.edges.EdgeSeen.{EdgeSeen}
use Rattle.pf_holder.specs.Facts.{mesh_alone}
use Rattle.pf_finish.specs.Seen.{LooksAt}
use Rattle.pf_finish.proofs.Walking.{at-end, at-falls, at-edge, at-next}
use Rattle.pf_finish.proofs.Wishing.{mesh_same}
use Rattle.pf_finish.proofs.edges.walk_end.Goals as goal

pub returns-in_default-clause-end : goal.returns-in_default-clause-end
returns-in_default-clause-end g c =
    let m = g.H.Holder in
    at-end (mesh_alone (m.opening c.args.h.now) (m.entries c.args.h.now)) (span_value c.args.e) (span_value c.walk.at) c.walk.look c.walk.invariant.4 (ap (λ (o : Option Span). option_map span_value o) c.in_default.is)

pub walk-smaller : goal.walk-smaller
walk-smaller g c =
    let m = g.H.Holder in
    at-falls (mesh_alone (m.opening c.args.h.now) (m.entries c.args.h.now)) (span_value c.args.e) (span_value c.walk.at) (span_value c.in-Some.next) c.walk.look c.walk.invariant.4 (ap (λ (o : Option Span). option_map span_value o) c.in-Some.is)

pub walk-preserved : goal.walk-preserved
walk-preserved g c =
    let m = g.H.Holder in
    let t = g.met.H.Holder in
    let h0 = c.args.h.now in
    let h1 = c.walk.h in
    let h2 = c.edge_seen.new.h in
    let i = c.walk.invariant in
    let e = c.in-Some-edge_seen.ensures in
    let same = mesh_same (m.opening h0) (m.opening h1) (m.entries h0) (m.entries h1) (t.same_opening h0 h1 i.0) i.3.0 in (
      t.same_then h0 h1 h2 i.0 e.same,
      e.nothing,
      e.lends,
      (e.kept.0 ∙ i.3.0, e.kept.1 ∙ i.3.1),
      at-next (mesh_alone (m.opening h0) (m.entries h0)) (span_value c.args.e) (span_value c.walk.at) (span_value c.in-Some.next) c.walk.look c.in-Some-edge_seen.found i.4 (ap (λ (o : Option Span). option_map span_value o) c.in-Some.is)
          (subst (λ (x : Undivided). LooksAt x (edge_of c.in-Some.next.lo c.in-Some.next.hi) (Some c.in-Some-edge_seen.found)) same e.seen),
    )

pub unreachable-requires : goal.unreachable-requires
unreachable-requires g c =
    let m = g.H.Holder in
    let t = g.met.H.Holder in
    let h0 = c.args.h.now in
    let h1 = c.walk.h in
    let i = c.walk.invariant in
    let same = mesh_same (m.opening h0) (m.opening h1) (m.entries h0) (m.entries h1) (t.same_opening h0 h1 i.0) i.3.0 in
    let none : Option EdgeSeen = None in
    at-edge (mesh_alone (m.opening h0) (m.entries h0)) (span_value c.args.e) (span_value c.walk.at) (span_value c.in-Some.next) c.walk.look i.4 (ap (λ (o : Option Span). option_map span_value o) c.in-Some.is)
    (subst (λ (x : Undivided). LooksAt x (edge_of c.in-Some.next.lo c.in-Some.next.hi) none) same (subst (λ (o : Option EdgeSeen). LooksAt (mesh_alone (m.opening h1) (m.entries h1)) (edge_of c.in-Some.next.lo c.in-Some.next.hi) o) c.in-None.is c.edge_seen.ensures.seen))
