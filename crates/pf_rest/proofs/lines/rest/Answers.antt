use Rattle.std.proofs.Common.{◌≡◌, ◌++◌, map, ◌∙◌, ap}
use Rattle.std.specs.Prelude.{flat_map}
use Rattle.pf_model.specs.Sums.{edges_of}
use Rattle.pf_model.specs.Wishes.{long_lines, short_lines, flip_lines}
use Rattle.pf_edge_list.specs.Edges.{sided_edge}
use Rattle.pf_rest.proofs.WalkSteps.{three_parts}
use Rattle.pf_rest.proofs.lines.rest.Goals as goal

pub returns : goal.returns
returns c = λ m ok s ts bs.
    let all = c.in_ok-edges.ensures.all m ok s ts in
    let third : map sided_edge c.deref.result.now ≡ edges_of m = ap (map sided_edge) c.deref.ensures.value ∙ all in
    three_parts _ _ _ _ _ _ _ c.in_ok-lines.ensures (c.in_ok-push_long.ensures m ok s bs) (c.in_ok-push_short.ensures m ok s bs (c.in_ok-edges.ensures.are m ok s ts)) (c.in_ok-push_flips.ensures m ok s)
    ∙ (λ i. flat_map (long_lines m) (all i) ++ (flat_map (short_lines m) (all i) ++ flat_map (flip_lines m) (third i)))
