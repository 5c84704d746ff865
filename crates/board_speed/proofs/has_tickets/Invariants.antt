use Rattle.std.proofs.Common.{◌≡◌, drop}
use Rattle.pf_model.specs.Replay.{HasTicketsFrom}
use Rattle.board_speed.proofs.has_tickets.Given as goal

abbrev pub invariant-loop-e : goal.invariant-loop-e
invariant-loop-e l = (l.due ≡ l.e-index) × (HasTicketsFrom l.e-index (drop l.e-index l.entries) → HasTicketsFrom 0 l.entries)
