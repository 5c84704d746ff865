use Rattle.std.proofs.Common.{◌∙◌}
use Rattle.std.specs.Prelude.{Some}
use Rattle.pf_model.specs.Lengths.{edge_of}
use Rattle.pf_rules.specs.Lengths.{span_value}
use Rattle.pf_holder.specs.Facts.{mesh_alone}
use Rattle.pf_finish.proofs.Wishing.{mesh_same, looks_from, settled_edge}
use Rattle.pf_finish.proofs.edges.edge_answered.Goals as goal

pub long_answered-requires-clause-seen : goal.long_answered-requires-clause-seen
long_answered-requires-clause-seen g c =
    let m = g.H.Holder in
    let t = g.met.H.Holder in
    let h0 = c.args.h.now in
    let h1 = c.edge_seen.new.h in
    looks_from (mesh_alone (m.opening h0) (m.entries h0)) (mesh_alone (m.opening h1) (m.entries h1)) (edge_of c.args.a c.args.b) (span_value c.span_of-e.result) (Some c.in-Some.seen)
    (mesh_same (m.opening h0) (m.opening h1) (m.entries h0) (m.entries h1) (t.same_opening h0 h1 c.edge_seen.ensures.same) c.edge_seen.ensures.kept.0) c.span_of-e.ensures.value c.in-Some.ensures.seen

pub short_answered-requires-clause-seen : goal.short_answered-requires-clause-seen
short_answered-requires-clause-seen g c =
    let m = g.H.Holder in
    let t = g.met.H.Holder in
    let h0 = c.args.h.now in
    let h1 = c.edge_seen.new.h in
    let h2 = c.long_answered.new.h in
    let o1 = t.same_opening h0 h1 c.edge_seen.ensures.same in
    let e1 = c.edge_seen.ensures.kept.0 in
    let m0 = mesh_alone (m.opening h0) (m.entries h0) in
    let l = c.long_answered.ensures.settled c.in_default-long_answered.is in
    let o2 = t.same_opening h1 h2 c.long_answered.ensures.same ∙ o1 in
    let e2 = l.0 ∙ e1 in
    looks_from m0 (mesh_alone (m.opening h2) (m.entries h2)) (edge_of c.args.a c.args.b) (span_value c.span_of-e.result) (Some c.in-Some.seen)
    (mesh_same (m.opening h0) (m.opening h2) (m.entries h0) (m.entries h2) o2 e2) c.span_of-e.ensures.value c.in-Some.ensures.seen

pub flip_answered-requires-clause-seen : goal.flip_answered-requires-clause-seen
flip_answered-requires-clause-seen g c =
    let m = g.H.Holder in
    let t = g.met.H.Holder in
    let h0 = c.args.h.now in
    let h1 = c.edge_seen.new.h in
    let h2 = c.long_answered.new.h in
    let h3 = c.short_answered.new.h in
    let o1 = t.same_opening h0 h1 c.edge_seen.ensures.same in
    let e1 = c.edge_seen.ensures.kept.0 in
    let m0 = mesh_alone (m.opening h0) (m.entries h0) in
    let l = c.long_answered.ensures.settled c.in_default-long_answered.is in
    let o2 = t.same_opening h1 h2 c.long_answered.ensures.same ∙ o1 in
    let e2 = l.0 ∙ e1 in
    let s = c.short_answered.ensures.settled c.in_default-short_answered.is in
    looks_from m0 (mesh_alone (m.opening h3) (m.entries h3)) (edge_of c.args.a c.args.b) (span_value c.span_of-e.result) (Some c.in-Some.seen)
    (mesh_same (m.opening h0) (m.opening h3) (m.entries h0) (m.entries h3) (t.same_opening h2 h3 c.short_answered.ensures.same ∙ o2) (s.0 ∙ e2)) c.span_of-e.ensures.value c.in-Some.ensures.seen

pub returns-clause-settled : goal.returns-clause-settled
returns-clause-settled g c = λ none.
    let m = g.H.Holder in
    let t = g.met.H.Holder in
    let h0 = c.args.h.now in
    let h1 = c.edge_seen.new.h in
    let h2 = c.long_answered.new.h in
    let h3 = c.short_answered.new.h in
    let o1 = t.same_opening h0 h1 c.edge_seen.ensures.same in
    let e1 = c.edge_seen.ensures.kept.0 in
    let m0 = mesh_alone (m.opening h0) (m.entries h0) in
    let l = c.long_answered.ensures.settled c.in_default-long_answered.is in
    let o2 = t.same_opening h1 h2 c.long_answered.ensures.same ∙ o1 in
    let e2 = l.0 ∙ e1 in
    let s = c.short_answered.ensures.settled c.in_default-short_answered.is in
    let f = c.flip_answered.ensures.settled none in
    let o3 = t.same_opening h2 h3 c.short_answered.ensures.same ∙ o2 in
    let e3 = s.0 ∙ e2 in (
      f.0 ∙ e3,
      f.1 ∙ s.1 ∙ l.1 ∙ c.edge_seen.ensures.kept.1,
      settled_edge m0 (mesh_alone (m.opening h1) (m.entries h1)) (mesh_alone (m.opening h2) (m.entries h2)) (mesh_alone (m.opening h3) (m.entries h3)) (edge_of c.args.a c.args.b) (span_value c.span_of-e.result)
          (mesh_same (m.opening h0) (m.opening h1) (m.entries h0) (m.entries h1) o1 e1) (mesh_same (m.opening h0) (m.opening h2) (m.entries h0) (m.entries h2) o2 e2) (mesh_same (m.opening h0) (m.opening h3) (m.entries h0) (m.entries h3) o3 e3) c.span_of-e.ensures.value l.2 s.2 f.2,
    )
