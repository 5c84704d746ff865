use Rattle.std.proofs.Common.{◌≡◌, length}
use Rattle.std.proofs.lemmas.List.Elements.{All-contains}
use Rattle.pf_geom.specs.Plane.{IsInRange}
use Rattle.pf_model.proofs.BuiltConforms.{built-conforms}
use Rattle.pf_model.proofs.laws.built_is_conforming.Goals as goal

pub returns : goal.returns
returns c points tris m in_range three ok = built-conforms points tris m (λ p h. All-contains IsInRange points p in_range h) (λ t h. All-contains (λ w. length w ≡ 3) tris t three h) ok
