use Rattle.std.proofs.Common.{◌∙◌}
use Rattle.pf_rings.specs.Lending.{star_in}
use Rattle.pf_finish.proofs.Wishing.{lent_sight, some_star}
use Rattle.pf_finish.proofs.edges.star_looked.Goals as goal

pub returns-in-Some : goal.returns-in-Some
returns-in-Some g c = λ m s ok banded star l.
    lent_sight (record { of_mesh = c.look_is_of_mesh.ensures; edges = c.neighbours_have_edges.ensures; no_flip = c.no_shorter_no_flip.ensures }) m (g.H.Holder.opening c.args.h.now).mesh.bands c.bands.result.now c.args.a c.args.b s c.star.result.now c.star_shown.result ok banded star
    (c.star.ensures ∙ some_star (star_in c.in-Some.ring) s (c.in-Some.ensures ∙ l)) c.bands.ensures c.star_shown.ensures.none c.star_shown.ensures.fields
