use Rattle.std.proofs.Common.{◌≡◌, ℕ, true, false, ◌&&◌, not, pos, ◌∙◌, ap}
use Rattle.std.specs.Prelude.{Option, Some, is_some, unwrap_or}
use Rattle.std.specs.Ordering.{int_eq}
use Rattle.pf_model.specs.Mesh.{turn_at}
use Rattle.pf_model.specs.Stars.{path_start, path_end}
use Rattle.pf_star_model.specs.Lent.{sight_of}
use Rattle.pf_contract.proofs.shape.shape_of.Goals as goal

pub returns : goal.returns
returns c = λ bands.
    let us = c.args.star.now.spokes in
    let first : c.first_right-first.result ≡ path_start us us = c.first_right-first.ensures ∙ ap (λ l. path_start l l) c.spokes.ensures.value in
    let last : c.unwrap_or-last.result ≡ unwrap_or (path_end us us) 0 = c.unwrap_or-last.ensures ∙ ap (λ (o : Option ℕ). unwrap_or o 0) (c.last_left.ensures ∙ ap (λ l. path_end l l) c.spokes-2.ensures.value) in
    record {
      first = first;
      last = last;
      bent = c.is_bent-bent.ensures bands ∙ (λ i. is_some (first i) && not (int_eq (turn_at (sight_of bands (Some c.args.star.now)) (unwrap_or (first i) 0) c.args.u (last i)) (pos 0)));
      close = λ h. absurd (let k : false ≡ true = h in cc);
    }
