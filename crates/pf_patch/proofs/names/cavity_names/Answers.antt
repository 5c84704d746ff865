use Rattle.std.proofs.Common.{◌≡◌, ℕ, List, ◌∙◌, sym, ap, subst}
use Rattle.std.specs.Prelude.{OnOk}
use Rattle.pf_star_model.specs.Cavity.{cavity_seen}
use Rattle.pf_patch.specs.Plans.{edge_by, put_names}
use Rattle.pf_patch.proofs.PutNames.{edge-names}
use Rattle.pf_patch.proofs.names.cavity_names.Goals as goal

pub returns-in-Flip : goal.returns-in-Flip
returns-in-Flip g c =
    let lent = g.R.Rings.lent c.args.r.now in
    let P : List ℕ → Type 0 = λ ns. OnOk c.edge_names.result (c.edge_names.new.names.items ≡ put_names ns c.args.names.now.items) in
    subst P (edge-names lent c.in-Flip.a c.in-Flip.b c.args.edge.now (c.requires ∙ ap (edge_by lent) c.in-Flip.is) ∙ ap (cavity_seen lent) (sym c.in-Flip.is)) c.edge_names.ensures

pub returns-in-Bisect : goal.returns-in-Bisect
returns-in-Bisect g c =
    let lent = g.R.Rings.lent c.args.r.now in
    let P : List ℕ → Type 0 = λ ns. OnOk c.edge_names-in-Bisect.result (c.edge_names-in-Bisect.new.names.items ≡ put_names ns c.args.names.now.items) in
    subst P (edge-names lent c.in-Bisect.a c.in-Bisect.b c.args.edge.now (c.requires ∙ ap (edge_by lent) c.in-Bisect.is) ∙ ap (cavity_seen lent) (sym c.in-Bisect.is)) c.edge_names-in-Bisect.ensures
