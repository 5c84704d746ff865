-- The code's stems, as what they say.
use Rattle.pf_say.specs.declared.place.Stems.{Stems as CodedStems}
use Rattle.pf_say.specs.Place.{Stems}

-- the two stems as texts
abbrev pub stems_of : CodedStems → Stems
stems_of stems = record { base = stems.base.now; out = stems.out.now }
