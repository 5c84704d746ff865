-- What is owed of nodes whose stars changed.
use Rattle.std.specs.Prelude.{ℕ, List, [], ◌∷◌, ◌++◌, cond, Option, map}
use Rattle.pf_model.specs.declared.Spoke.{Spoke}
use Rattle.pf_model.specs.Stars.{Star}
use Rattle.pf_star_model.specs.Lent.{Held as Pair, spokes_in}
use Rattle.pf_core_model.specs.declared.event.Owed.{Owed}
use Rattle.pf_core_model.specs.Same.{same_star}

-- the copies that are owed of a node with these spokes
abbrev pub owed_of : ℕ → Spoke → Owed
owed_of n s = record { chunk = s.owner; node = n }

abbrev pub owed_by : ℕ → List Spoke → List Owed
owed_by n spokes = map (owed_of n) spokes

-- those of a pair whose star changed, and of several
abbrev pub owed_for : (ℕ → Option Star) → Pair → List Owed
owed_for lent h = cond (same_star (lent h.node) h.star) [] (owed_by h.node (spokes_in (lent h.node)) ++ owed_by h.node (spokes_in h.star))

abbrev pub owed_all : (ℕ → Option Star) → List Pair → List Owed
owed_all lent [] = []
owed_all lent (h ∷ hs) = owed_for lent h ++ owed_all lent hs
