-- What the files that a command reads say, in the order of reading, or why the run stops there.
use Rattle.std.specs.Prelude.{◌≡◌, ℕ, ◌+◌, List, length, nat_le, nat_lt, if◌then◌else◌, Bool, true, false, Option, Some, None, Result, Ok, Err}
use Rattle.pf_model.specs.declared.BuildErr.{BuildErr}
use Rattle.pf_model.specs.declared.Band.{Band}
use Rattle.pf_model.specs.declared.Entry.{Entry}
use Rattle.pf_model.specs.Mesh.{Undivided}
use Rattle.pf_model.specs.Build.{built}
use Rattle.pf_model.specs.Tables.{with_tables_of}
use Rattle.tri_text.specs.declared.fault.TriErr.{TriErr}
use Rattle.tri_text.specs.Node.{Vertices, node_read}
use Rattle.tri_text.specs.Ele.{ele_read}
use Rattle.table_text.specs.declared.fault.TableErr.{TableErr}
use Rattle.table_text.specs.Part.{PartTable, part_of}
use Rattle.table_text.specs.Size.{size_of}
use Rattle.journal_text.specs.declared.fault.JourErr.{JourErr}
use Rattle.journal_text.specs.Journal.{journal_of}
use Rattle.trace_text.specs.declared.fault.TraceErr.{TraceErr}
use Rattle.trace_text.specs.Trace.{Told, trace_of}
use Rattle.pf_shelf.specs.Files.{held}
use Rattle.pf_shelf.specs.Seen.{Seen}
use Rattle.pf_say.specs.declared.fault.Fault.TheVariants.{TooLong}
use Rattle.pf_say.specs.declared.place.Place.{Place}
use Rattle.pf_say.specs.declared.place.Place.TheVariants.{Node, Ele, Part, Size, Journal, Trace, OutNode, OutEle, OutPart, OutJournal, OutRest}
use Rattle.pf_say.specs.declared.stop.Trouble.TheVariants.{Missing}
use Rattle.pf_say.specs.declared.stop.Stop.{Stop}
use Rattle.pf_say.specs.declared.stop.Stop.TheVariants.{Input, Limit, Device}
use Rattle.pf_say.specs.Place.{Stems, name_of}
use Rattle.pf_cmd.specs.Faults.{tri_stop, build_stop, table_stop, jour_stop, trace_stop}

-- the files of a command by their places: the bytes of each, and none where it isn't held
abbrev pub HeldFiles : Type 0
HeldFiles = Place → Option (List ℕ)

-- the files that a shelf tells, under the names that the stems give
abbrev pub files_in : Seen → Stems → HeldFiles
files_in shelf stems place = held shelf.told (name_of stems place)

-- the two places are one
abbrev pub is_place : Place → Place → Bool
is_place Node Node = true
is_place Ele Ele = true
is_place Part Part = true
is_place Size Size = true
is_place Journal Journal = true
is_place Trace Trace = true
is_place OutNode OutNode = true
is_place OutEle OutEle = true
is_place OutPart OutPart = true
is_place OutJournal OutJournal = true
is_place OutRest OutRest = true
is_place place other = false

-- the same files, but the one of this place isn't held
abbrev pub without : Place → HeldFiles → HeldFiles
without place files other = if is_place other place then None else files other

-- a step, and what comes after it where the run doesn't stop
infixl 10 ◌>>=◌
abbrev pub ◌>>=◌ : {A B : Type 0} → Result A Stop → (A → Result B Stop) → Result B Stop
Ok x >>= next = next x
Err stop >>= next = Err stop

-- the bytes of a file, which is held and has at most 268,435,456
abbrev pub file_of : Place → Option (List ℕ) → Result (List ℕ) Stop
file_of place None = Err (Device (Missing place))
file_of place (Some bytes) = if nat_lt 268435456 (length bytes) then Err (Input place TooLong) else Ok bytes

unfoldable pub bytes_in : Place → HeldFiles → Result (List ℕ) Stop
bytes_in place files = file_of place (files place)

-- what a file of nodes or triangles says
abbrev pub tri_accepted : {A : Type 0} → Place → Result A TriErr → Result A Stop
tri_accepted place (Ok value) = Ok value
tri_accepted place (Err fault) = Err (tri_stop place fault)

-- the vertices
unfoldable pub vertices_in : ℕ → HeldFiles → Result Vertices Stop
vertices_in scale files = do
  bytes ← bytes_in Node files
  tri_accepted Node (node_read scale bytes)

-- the triangles over these vertices
unfoldable pub triangles_in : Vertices → HeldFiles → Result (List (List ℕ)) Stop
triangles_in vertices files = do
  bytes ← bytes_in Ele files
  tri_accepted Ele (ele_read vertices.base (length vertices.points) bytes)

-- the mesh that they make
abbrev pub build_accepted : Result Undivided BuildErr → Result Undivided Stop
build_accepted (Ok mesh) = Ok mesh
build_accepted (Err fault) = Err (build_stop fault)

-- a mesh of one chunk, the number of the first node in its files, and its triangles as they are listed there
pub record Listed : Type 0 where
  pub base : ℕ
  pub mesh : Undivided
  pub triangles : List (List ℕ)

-- the mesh of the two files
unfoldable pub mesh_in : ℕ → HeldFiles → Result Listed Stop
mesh_in scale files = do
  vertices ← vertices_in scale files
  triangles ← triangles_in vertices files
  mesh ← build_accepted (built vertices.points triangles)
  Ok record { base = vertices.base; mesh = mesh; triangles = triangles }

-- what a table says
abbrev pub table_accepted : {A : Type 0} → Place → Result A TableErr → Result A Stop
table_accepted place (Ok value) = Ok value
table_accepted place (Err fault) = Err (table_stop place fault)

-- the chunks of so many triangles
unfoldable pub parts_in : ℕ → HeldFiles → Result PartTable Stop
parts_in triangles files = do
  bytes ← bytes_in Part files
  table_accepted Part (part_of triangles bytes)

-- the wanted lengths
unfoldable pub bands_in : HeldFiles → Result (List Band) Stop
bands_in files = do
  bytes ← bytes_in Size files
  table_accepted Size (size_of bytes)

-- a mesh as it is listed, and the chunks of its triangles
pub record Partitioned : Type 0 where
  pub listed : Listed
  pub parts : PartTable

unfoldable pub partitioned_in : ℕ → HeldFiles → Result Partitioned Stop
partitioned_in scale files = do
  listed ← mesh_in scale files
  parts ← parts_in (length listed.triangles) files
  Ok record { listed = listed; parts = parts }

-- a mesh with its chunks and wanted lengths, and the number of the first node in its files
pub record Numbered : Type 0 where
  pub base : ℕ
  pub mesh : Undivided

unfoldable pub numbered_in : ℕ → HeldFiles → Result Numbered Stop
numbered_in scale files = do
  parted ← partitioned_in scale files
  bands ← bands_in files
  Ok record { base = parted.listed.base; mesh = with_tables_of parted.listed.triangles parted.parts.owners parted.parts.chunks bands parted.listed.mesh }

-- what a journal says
abbrev pub jour_accepted : Result (List Entry) JourErr → Result (List Entry) Stop
jour_accepted (Ok entries) = Ok entries
jour_accepted (Err fault) = Err (jour_stop fault)

-- what makes so many operations on a mesh of so many vertices, where there are as many names left
abbrev pub within_limit : {A : Type 0} → ℕ → ℕ → A → Result A Stop
within_limit vertices operations value = if nat_le (vertices + operations) 1048576 then Ok value else Err (Limit (vertices + operations))

-- the journal for a mesh of so many vertices

unfoldable pub entries_in : ℕ → HeldFiles → Result (List Entry) Stop
entries_in vertices files = do
  bytes ← bytes_in Journal files
  entries ← jour_accepted (journal_of bytes)
  within_limit vertices (length entries) entries

-- what a trace says
abbrev pub trace_accepted : Result Told TraceErr → Result Told Stop
trace_accepted (Ok said) = Ok said
trace_accepted (Err fault) = Err (trace_stop fault)

-- the trace over a mesh of so many vertices and so many chunks
unfoldable pub said_in : ℕ → ℕ → HeldFiles → Result Told Stop
said_in vertices chunks files = do
  bytes ← bytes_in Trace files
  trace_accepted (trace_of vertices chunks bytes)
