-- What is lent, by the ring that lends it.
use Rattle.std.proofs.Common.{◌≡◌, sym, ◌∙◌, ap}
use Rattle.std.specs.Prelude.{Option, Some, None}
use Rattle.std.specs.Option.{option_map}
use Rattle.pf_model.specs.Stars.{Star}
use Rattle.pf_rings.specs.declared.ring.Ring.{Ring}
use Rattle.pf_rings.specs.Lending.{star_in}

pub lent-star : (o : Option Ring) (r : Ring) (l : Option Star) → option_map star_in o ≡ l → o ≡ Some r → l ≡ Some (star_in r)
lent-star o r l h e = sym h ∙ ap (option_map star_in) e

pub lent-none : (o : Option Ring) (l : Option Star) → option_map star_in o ≡ l → o ≡ None → l ≡ None
lent-none o l h e = sym h ∙ ap (option_map star_in) e
