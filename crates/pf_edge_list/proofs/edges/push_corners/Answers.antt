use Rattle.std.proofs.Common.{All}
use Rattle.pf_edge_list.specs.declared.edges.Corner.TheVariants.{First, Second, Third}
use Rattle.pf_edge_list.specs.Edges.{IsListed, part_of}
use Rattle.pf_edge_list.proofs.edges.push_corners.Goals as goal

pub returns-clause-listed : goal.returns-clause-listed
returns-clause-listed c = λ corner. elim corner as (λ k. All (IsListed c.args.table.now.sides) (part_of k c.args.parts.now) → All (IsListed c.args.table.now.sides) (part_of k record { first = c.push_from.new.edges; second = c.push_from-2.new.edges; third = c.push_from-3.new.edges })) [
  | First ↦ c.in_ok-push_from.ensures.listed
  | Second ↦ c.in_ok-push_from-2.ensures.listed
  | Third ↦ c.in_ok-push_from-3.ensures.listed
]
