use Rattle.std.proofs.Common.{◌≡◌, sym, subst, rules}
use Rattle.pf_geom.specs.Plane.{IsInRange}
use Rattle.pf_geom.specs.declared.Point.{Point}
use Rattle.pf_model.specs.Mesh.{place_of}
use Rattle.pf_forms.proofs.Places.{place_of-in_range}
use Rattle.pf_forms.proofs.place.Goals as goal

pub returns-clause-in_range : goal.returns-clause-in_range
returns-clause-in_range c =
    let value : c.unwrap_or.result ≡ place_of c.args.m.now.mesh c.args.n = search rules in
    subst (λ (p : Point). IsInRange p) (sym value) (place_of-in_range c.args.m.now.mesh c.args.n c.site.ensures.conforming)
