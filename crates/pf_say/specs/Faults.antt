-- What is said of a file's fault, behind the file's name.
use Rattle.std.specs.Prelude.{ℕ, List, ◌++◌, codes, decimal}
use Rattle.pf_say.specs.declared.fault.LineFault.{LineFault}
use Rattle.pf_say.specs.declared.fault.LineFault.TheVariants.{Short, Word, Number, Ticket, Range, Chunk, Band, Extra, Event}
use Rattle.pf_say.specs.declared.fault.Fault.{Fault}
use Rattle.pf_say.specs.declared.fault.Fault.TheVariants.{Line, TooLong, TooMany, Dimension, Order, Head, NoDefault, NoNode, Flat, EdgeTwice}

-- the number that was found, in place of the one that is due
abbrev pub instead : ℕ → ℕ → List ℕ
instead found expected = decimal found ++ codes " instead of " ++ decimal expected ++ codes "\n"

-- what is said of a line's fault, behind the number of the line
abbrev pub line_fault_text : LineFault → List ℕ
line_fault_text Short = codes ": too few words\n"
line_fault_text (Word column) = codes " column " ++ decimal column ++ codes ": word refused\n"
line_fault_text (Number expected found) = codes ": number " ++ instead found expected
line_fault_text (Ticket expected found) = codes ": ticket " ++ instead found expected
line_fault_text Range = codes ": out of range\n"
line_fault_text (Chunk found) = codes ": chunk " ++ decimal found ++ codes " above 63\n"
line_fault_text Band = codes ": band refused\n"
line_fault_text Extra = codes ": line after the end\n"
line_fault_text Event = codes ": event refused\n"

-- what is said of a fault. A corner that is no node can't come from a file, whose corners are in range
abbrev pub fault_text : Fault → List ℕ
fault_text (Line line fault) = codes " line " ++ decimal line ++ line_fault_text fault
fault_text TooLong = codes ": longer than 268435456 bytes\n"
fault_text (TooMany count most) = codes ": count " ++ decimal count ++ codes " above " ++ decimal most ++ codes "\n"
fault_text (Dimension found) = codes ": dimension " ++ decimal found ++ codes "\n"
fault_text (Order found) = codes ": nodes per triangle " ++ decimal found ++ codes "\n"
fault_text Head = codes ": heading refused\n"
fault_text NoDefault = codes ": no default line\n"
fault_text (NoNode tri node) = codes " triangle " ++ decimal tri ++ codes ": no node " ++ decimal node ++ codes "\n"
fault_text (Flat tri) = codes " triangle " ++ decimal tri ++ codes ": flat\n"
fault_text (EdgeTwice a b) = codes ": edge " ++ decimal a ++ codes " " ++ decimal b ++ codes " twice\n"
