-- The lists of copies that an operation owes.
use Rattle.std.specs.Prelude.{ℕ, ◌<◌, List, map, Contains, Option}
use Rattle.pf_model.specs.declared.Spoke.{Spoke}
use Rattle.pf_model.specs.Rising.{AreDifferent}
use Rattle.pf_model.specs.Stars.{Star}
use Rattle.pf_star_model.specs.Lent.{Held, spokes_in}
use Rattle.pf_core_model.specs.Sharers.{sharers_in}
use Rattle.pf_ghost.specs.declared.ready.Listed.{Listed}

-- a node, and the copies of its star
abbrev pub listed_of : ℕ → Held → Listed
listed_of chunks h = record { node = h.node; list = sharers_in chunks h.star }

abbrev pub ready_of : ℕ → List Held → List Listed
ready_of chunks fresh = map (listed_of chunks) fresh

-- the nodes differ
abbrev pub AreNodesApart : List Held → Type 0
AreNodesApart fresh = AreDifferent (map (λ (h : Held). h.node) fresh)

-- each owner in these stars, and in the stars of their nodes before, is below the number of chunks
abbrev pub AreOwnersBelow : (ℕ → Option Star) → ℕ → List Held → Type 0
AreOwnersBelow lent chunks fresh = (h : Held) → Contains fresh h → ((s : Spoke) → Contains (spokes_in h.star) s → s.owner < chunks) × ((s : Spoke) → Contains (spokes_in (lent h.node)) s → s.owner < chunks)
