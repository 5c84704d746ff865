-- That a mesh is conforming has one proof at most, so a ghost field can hold it.
use Rattle.std.proofs.Common.{List, [], ◌∷◌}
use Rattle.std.proofs.Props.{props}
use Rattle.pf_model.specs.declared.Tri.{Tri}
use Rattle.pf_model.specs.declared.Band.{Band}
use Rattle.pf_model.specs.Mesh.{Undivided}
use Rattle.pf_model.specs.Conforming.{IsConforming, IsProper, HasDefault}

pub is_proper_prop : (m : Undivided) (t : Tri) → IsProp (IsProper m t)
is_proper_prop m t = hlevel props

pub has_default_prop : (bs : List Band) → IsProp (HasDefault bs)
has_default_prop [] = hlevel props
has_default_prop (b ∷ []) = hlevel props
has_default_prop (b ∷ c ∷ bs) = has_default_prop (c ∷ bs)

pub is_conforming_prop : (m : Undivided) → IsProp (IsConforming m)
is_conforming_prop m = hlevel (props, has_default_prop, is_proper_prop)
