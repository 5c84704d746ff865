-- What a ring lends.
use Rattle.pf_model.specs.Stars.{Star}
use Rattle.pf_rings.specs.declared.ring.Ring.{Ring}

-- the star that a ring lends
abbrev pub star_in : Ring → Star
star_in r = r.star.now
