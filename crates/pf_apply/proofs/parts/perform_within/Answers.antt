use Rattle.std.proofs.Common.{◌∙◌, ◌<◌, List, sym, ap, subst}
use Rattle.std.specs.Prelude.{AllPairs}
use Rattle.pf_geom.specs.declared.Point.{Point}
use Rattle.pf_model.specs.declared.Tri.{Tri}
use Rattle.pf_model.specs.declared.Site.{Site}
use Rattle.pf_model.specs.Rising.{IsRising}
use Rattle.pf_model.specs.Mesh.{tri_lt}
use Rattle.pf_model.specs.Exchange.{CanExchange, exchanged}
use Rattle.pf_apply.specs.Sites.{sites_after}
use Rattle.pf_apply.proofs.OperationLemmas.{sites-applied}
use Rattle.pf_apply.proofs.parts.perform_within.Goals as goal

pub perform_on_table-requires-clause-can : goal.perform_on_table-requires-clause-can
perform_on_table-requires-clause-can c = record { mesh = c.requires.can.mesh; kept = c.requires.can.parts.kept; can = c.requires.can.can; change = c.requires.can.change }

pub exchange_listed-requires-clause-rising : goal.exchange_listed-requires-clause-rising
exchange_listed-requires-clause-rising c =
    let P : List Tri → Type 0 = λ ts. IsRising tri_lt ts in
    subst P (sym c.requires.can.parts.tris_are) c.requires.can.parts.kept.conforming.tris_rise

pub exchange_listed-requires-clause-can : goal.exchange_listed-requires-clause-can
exchange_listed-requires-clause-can c =
    let m = c.requires.can.mesh in
    let P : List Tri → Type 0 = λ g. CanExchange g c.args.change.now.new.items m.tris in
    let Q : List Tri → Type 0 = λ n. CanExchange c.deref.result.now n m.tris in
    let R : List Tri → Type 0 = λ ts. CanExchange c.deref.result.now c.deref-2.result.now ts in
    subst R (sym c.requires.can.parts.tris_are) (subst Q (sym c.deref-2.ensures.0) (subst P (sym c.deref.ensures.0) (c.requires.can.change.fits c.requires.can.can)))

pub point-requires : goal.point-requires
point-requires c = (c.perform_on_table.ensures.applied c.requires.can.mesh c.requires.can.parts.kept c.requires.can.can c.requires.can.change).in_range

pub change_sites-requires-clause-rising : goal.change_sites-requires-clause-rising
change_sites-requires-clause-rising c =
    let P : List Site → Type 0 = λ ss. AllPairs (λ r s. r.name < s.name) ss in
    subst P (sym c.requires.can.parts.sites_are) c.requires.can.parts.kept.conforming.sites_rise

pub returns-clause-applied : goal.returns-clause-applied
returns-clause-applied c = λ m parts can h.
    let removed = c.args.change.now.removed.items in
    let new = c.args.change.now.new.items in
    let table = c.perform_on_table.new.table in
    let kept = c.perform_on_table.ensures.applied m parts.kept can h in
    record {
      kept = kept;
      sites_are =
          c.change_sites.ensures.changed
          ∙ (ap (λ (ss : List Site). sites_after ss c.args.n c.point.result c.args.op) parts.sites_are
          ∙ (ap (λ (p : Point). sites_after m.sites c.args.n p c.args.op) c.point.ensures.value ∙ sites-applied table.sides table.nodes.items m c.args.n c.args.op can kept));
      tris_are =
          c.exchange_listed.ensures.exchanged
          ∙ (ap (λ (g : List Tri). exchanged g c.deref-2.result.now c.args.tris.now.items) c.deref.ensures.0
          ∙ (ap (λ (n : List Tri). exchanged removed n c.args.tris.now.items) c.deref-2.ensures.0 ∙ (ap (exchanged removed new) parts.tris_are ∙ h.makes can)));
    }
