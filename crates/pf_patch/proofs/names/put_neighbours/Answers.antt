use Rattle.std.proofs.Common.{◌∙◌, sym, ap}
use Rattle.std.specs.Prelude.{map}
use Rattle.pf_patch.specs.Plans.{put_names}
use Rattle.pf_patch.proofs.PutNames.{put_names-append}
use Rattle.pf_patch.proofs.names.put_neighbours.Goals as goal

pub returns : goal.returns
returns c =
    c.in_ok-put_rights.ensures
    ∙ (ap (put_names (map (λ s. s.right) c.args.spokes.now)) c.in_ok-put_lefts.ensures
    ∙ sym (put_names-append (map (λ s. s.right) c.args.spokes.now) (map (λ s. s.left) c.args.spokes.now) c.args.names.now.items))
