-- The files of a command by their places, and their names.
use Rattle.std.specs.Prelude.{ℕ, List, [], ◌++◌, codes}
use Rattle.pf_say.specs.declared.place.Place.{Place}
use Rattle.pf_say.specs.declared.place.Place.TheVariants.{Node, Ele, Part, Size, Journal, Trace, OutNode, OutEle, OutPart, OutJournal, OutRest}

-- the two stems that the words name
pub record Stems : Type 0 where
  pub base : List ℕ
  pub out : List ℕ

-- the stem of a file's name
abbrev pub stem_of : Stems → Place → List ℕ
stem_of stems Node = stems.base
stem_of stems Ele = stems.base
stem_of stems Part = stems.base
stem_of stems Size = stems.base
stem_of stems Journal = stems.out
stem_of stems Trace = stems.out
stem_of stems OutNode = stems.out
stem_of stems OutEle = stems.out
stem_of stems OutPart = stems.out
stem_of stems OutJournal = stems.out
stem_of stems OutRest = stems.out

-- how the name goes on
abbrev pub ending_of : Place → List ℕ
ending_of Node = codes ".node"
ending_of Ele = codes ".ele"
ending_of Part = codes ".part"
ending_of Size = codes ".size"
ending_of Journal = codes ".journal"
ending_of Trace = []
ending_of OutNode = codes ".node"
ending_of OutEle = codes ".ele"
ending_of OutPart = codes ".part"
ending_of OutJournal = codes ".journal"
ending_of OutRest = codes ".rest"

-- the whole name
abbrev pub name_of : Stems → Place → List ℕ
name_of stems place = stem_of stems place ++ ending_of place
