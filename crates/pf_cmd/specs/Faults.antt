-- The faults that readers find, as reasons to stop.
use Rattle.std.specs.Prelude.{ℕ}
use Rattle.pf_model.specs.declared.BuildErr.{BuildErr}
use Rattle.pf_model.specs.declared.BuildErr.TheVariants as build
use Rattle.tri_text.specs.declared.fault.TriErr.{TriErr}
use Rattle.tri_text.specs.declared.fault.TriErr.TheVariants as tri
use Rattle.table_text.specs.declared.fault.TableErr.{TableErr}
use Rattle.table_text.specs.declared.fault.TableErr.TheVariants as table
use Rattle.journal_text.specs.declared.fault.JourErr.{JourErr}
use Rattle.journal_text.specs.declared.fault.JourErr.TheVariants as jour
use Rattle.trace_text.specs.declared.fault.TraceErr.{TraceErr}
use Rattle.trace_text.specs.declared.fault.TraceErr.TheVariants as trace
use Rattle.pf_say.specs.declared.fault.LineFault.TheVariants.{Short, Word, Number, Ticket, Range, Chunk, Band, Extra, Event}
use Rattle.pf_say.specs.declared.fault.Fault.TheVariants.{Line, TooMany, Dimension, Order, Head, NoDefault, NoNode, Flat, EdgeTwice}
use Rattle.pf_say.specs.declared.place.Place.{Place}
use Rattle.pf_say.specs.declared.place.Place.TheVariants.{Node, Ele, Journal, Trace}
use Rattle.pf_say.specs.declared.stop.Stop.{Stop}
use Rattle.pf_say.specs.declared.stop.Stop.TheVariants.{Input}
use Rattle.pf_say.specs.Stop.{memory_stop}

-- how many rows a file of nodes or triangles may say
abbrev pub most_in : Place → ℕ
most_in Node = 1048576
most_in place = 2097152

-- a file of nodes or triangles
abbrev pub tri_stop : Place → TriErr → Stop
tri_stop place (tri.Short line) = Input place (Line line Short)
tri_stop place (tri.Word line column) = Input place (Line line (Word column))
tri_stop place (tri.Dimension found) = Input place (Dimension found)
tri_stop place (tri.Order found) = Input place (Order found)
tri_stop place (tri.Number line expected found) = Input place (Line line (Number expected found))
tri_stop place (tri.Range line) = Input place (Line line Range)
tri_stop place (tri.TooMany count) = Input place (TooMany count (most_in place))
tri_stop place (tri.Extra line) = Input place (Line line Extra)
tri_stop place tri.Memory = memory_stop

-- triangles that make no mesh
abbrev pub build_stop : BuildErr → Stop
build_stop (build.BadNode tri node) = Input Ele (NoNode tri node)
build_stop (build.Flat tri) = Input Ele (Flat tri)
build_stop (build.EdgeTwice a b) = Input Ele (EdgeTwice a b)
build_stop build.Memory = memory_stop

-- a partition or a size table
abbrev pub table_stop : Place → TableErr → Stop
table_stop place (table.Short line) = Input place (Line line Short)
table_stop place (table.Word line column) = Input place (Line line (Word column))
table_stop place (table.Chunk line found) = Input place (Line line (Chunk found))
table_stop place (table.Band line) = Input place (Line line Band)
table_stop place table.NoDefault = Input place NoDefault
table_stop place (table.Extra line) = Input place (Line line Extra)
table_stop place table.Memory = memory_stop

-- a journal
abbrev pub jour_stop : JourErr → Stop
jour_stop jour.Head = Input Journal Head
jour_stop (jour.Short line) = Input Journal (Line line Short)
jour_stop (jour.Word line column) = Input Journal (Line line (Word column))
jour_stop (jour.Ticket line expected found) = Input Journal (Line line (Ticket expected found))
jour_stop (jour.Extra line) = Input Journal (Line line Extra)
jour_stop jour.Memory = memory_stop

-- a trace
abbrev pub trace_stop : TraceErr → Stop
trace_stop (trace.Line line) = Input Trace (Line line Event)
trace_stop trace.Memory = memory_stop
