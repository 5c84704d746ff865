use Rattle.std.proofs.Common.{◌≡◌, ℕ, List, sym, subst, ◌∙◌, ap}
use Rattle.pf_star_model.specs.Lent.{Held, star_held}
use Rattle.pf_model.specs.Stars.{star_of}
use Rattle.pf_sweep.specs.Lists.{mesh_by}
use Rattle.pf_sweep.proofs.Blocks.{SitesRise}
use Rattle.pf_star.specs.Sets.{AreRising}
use Rattle.pf_star.proofs.Chosen.{pairs-rise, all-held}
use Rattle.pf_star.proofs.set.all_pairs.Goals as goal

pub returns-clause-rises : goal.returns-clause-rises
returns-clause-rises c =
    let w = mesh_by c.args.sites.now c.args.tris.now in
    let P : List Held → Type 0 = λ l. AreRising l in
    subst P (sym c.in_ok-pairs.ensures) (pairs-rise w c.in_ok-stars.stars.items c.args.sites.now (subst (λ l. SitesRise l) c.requires.sites_are c.requires.conforming.sites_rise) c.in_ok-stars.ensures)

pub returns-clause-stars : goal.returns-clause-stars
returns-clause-stars c n =
    let w = mesh_by c.args.sites.now c.args.tris.now in
    ap (λ l. star_held l n) c.in_ok-pairs.ensures ∙ all-held w c.in_ok-stars.stars.items c.in_ok-stars.ensures n
