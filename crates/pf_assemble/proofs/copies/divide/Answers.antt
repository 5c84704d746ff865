use Rattle.std.proofs.Common.{◌∙◌, flat_map}
use Rattle.std.specs.List.{range_with_len}
use Rattle.pf_assemble.specs.Divided.{copies_in}
use Rattle.pf_assemble.proofs.Texted.{copies-of-mesh}
use Rattle.pf_assemble.proofs.copies.divide.Goals as goal

pub returns : goal.returns
returns c = record {
  first_new = c.first_new.ensures.value;
  bands = c.in_ok-bands.ensures ∙ c.bands.ensures.value;
  chunks = c.chunks-2.ensures.value;
  list =
      c.in_ok-list.ensures
      ∙ ((λ i. flat_map (λ k. copies_in k (c.deref.ensures.value i)) (range_with_len 0 (c.chunks.ensures.value i)))
      ∙ copies-of-mesh c.args.m.now.mesh c.in_ok-stars.stars.items c.in_ok-stars.ensures);
}
