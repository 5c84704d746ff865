use Rattle.std.proofs.Common.{◌≡◌, ℕ, true, false}
use Rattle.pf_rest.specs.Crossed.{is_name, is_link_edge}
use Rattle.pf_edge_list.specs.Edges.{IsOnlyIn}
use Rattle.pf_rest.proofs.crossed.is_crossed_in.Given as goal

abbrev pub invariant-loop-place : goal.invariant-loop-place
invariant-loop-place l =
    (w : ℕ) → is_name w l.names ≡ true → is_link_edge l.v w l.star ≡ false
    → IsOnlyIn l.edges record { lo = l.v; hi = w } l.from l.to → IsOnlyIn l.edges record { lo = l.v; hi = w } l.place l.to
