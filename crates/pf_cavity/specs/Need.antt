-- The answer of `need`.
use Rattle.std.specs.Prelude.{ℕ, Option, Some, None}
use Rattle.pf_cavity.specs.declared.answer.Need.{Need}
use Rattle.pf_cavity.specs.declared.answer.Need.TheVariants.{Hold, Whole}

-- the node to hold next, and that the cavity is whole where there is none
abbrev pub need_of : Option ℕ → Need
need_of None = Whole
need_of (Some n) = Hold n
