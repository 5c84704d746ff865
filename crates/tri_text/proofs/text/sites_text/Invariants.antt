use Rattle.std.proofs.Common.{map}
use Rattle.pf_model.specs.Texts.{node_text}
use Rattle.tri_text.proofs.WriteRows.{NodesLeft}
use Rattle.tri_text.proofs.text.sites_text.Given as goal

abbrev pub invariant-loop-place : goal.invariant-loop-place
invariant-loop-place l = NodesLeft l.out.items l.base l.place l.sites (node_text l.base (map (λ s. s.at) l.sites))
