use Rattle.std.proofs.Common.{◌≡◌, [], ◌∙◌, sym, ap, rules}
use Rattle.pf_star_model.specs.Cavity.{cavity_seen}
use Rattle.pf_star_model.specs.Patched.{made_by}
use Rattle.pf_patch.specs.Plans.{put_names}
use Rattle.pf_patch.proofs.PutNames.{changed-is}
use Rattle.pf_patch.proofs.names.changed.Goals as goal

pub returns : goal.returns
returns g c =
    let none : c.in_ok-names.names.items ≡ [] = search rules in
    c.in_ok-cavity_names.ensures
    ∙ (ap (put_names (cavity_seen (g.R.Rings.lent c.args.r.now) c.args.op)) (c.in_ok-made_names.ensures ∙ ap (put_names (made_by 4294967295 c.args.op)) none)
    ∙ sym (changed-is (g.R.Rings.lent c.args.r.now) 4294967295 c.args.op))
