-- The commands: what each reads and writes, and what it may give of what it reads.
use Rattle.std.specs.Prelude.{◌≡◌, ◌≢◌, ◌≤◌, ◌+◌, ◌*◌, ◌-◌, ℕ, List, [], ◌∷◌, ◌++◌, min, codes, decimal, if◌then◌else◌, length, Result, Ok, Err, Option, Some, None}
use Rattle.std.specs.Fmt.{signed_decimal}
use Rattle.std.specs.Option.{option_map}
use Rattle.pf_model.specs.declared.Entry.{Entry}
use Rattle.pf_model.specs.declared.FirstRefusal.{FirstRefusal}
use Rattle.pf_model.specs.Mesh.{Undivided}
use Rattle.pf_model.specs.Replay.{replayed, first_refusal, IsLegal}
use Rattle.pf_model.specs.Limits.{most_names}
use Rattle.pf_model.specs.Tables.{with_tables_of}
use Rattle.pf_model.specs.Sums.{area2_of, euler_of}
use Rattle.pf_model.specs.Texts.{mesh_node_text, mesh_ele_text, mesh_lines, lines_text, journal_text, rest_text, replay_report, check_report}
use Rattle.pf_model.specs.Wishes.{rest_of}
use Rattle.pf_assemble.specs.ChunkList.{chunk_list_of}
use Rattle.pf_grid.specs.Mesh.{grid_mesh}
use Rattle.pf_adapt.specs.Adapted.{is_quiet, IsAdapted}
use Rattle.table_text.specs.Part.{part_text_of}
use Rattle.trace_text.specs.Trace.{Told}
use Rattle.trace_text.specs.Verdicts.{answer_text}
use Rattle.pf_say.specs.declared.place.Place.{Place}
use Rattle.pf_say.specs.declared.place.Place.TheVariants.{Node, Ele, Part, Size, Journal, Trace, OutNode, OutEle, OutPart, OutJournal, OutRest}
use Rattle.pf_say.specs.declared.stop.Stop.{Stop}
use Rattle.pf_say.specs.declared.stop.Stop.TheVariants.{Operation}
use Rattle.pf_say.specs.Place.{Stems, name_of}
use Rattle.pf_cmd.specs.declared.words.Task.{Task}
use Rattle.pf_cmd.specs.declared.words.Task.TheVariants as act
use Rattle.pf_cmd.specs.Input.{HeldFiles, ◌>>=◌, Numbered, Partitioned, numbered_in, entries_in, partitioned_in, said_in, within_limit}
use Rattle.pf_cmd.specs.Output.{NamedText, Given, written_to}

-- a command: what is to be done, with which stems, and what coordinates are multiplied by
pub record Command : Type 0 where
  pub task : Task
  pub stems : Stems
  pub scale : ℕ

-- the files that a command reads, in order
abbrev pub reads_of : Task → List Place
reads_of (act.Adapt workers ops turns) = Node ∷ Ele ∷ Part ∷ Size ∷ []
reads_of act.Replay = Node ∷ Ele ∷ Part ∷ Size ∷ Journal ∷ []
reads_of act.Check = Node ∷ Ele ∷ Part ∷ []
reads_of act.Chunks = Node ∷ Ele ∷ Part ∷ []
reads_of act.Trace = Node ∷ Ele ∷ Part ∷ Size ∷ Trace ∷ []
reads_of (act.Demo cells) = []

-- the files that it writes, in order
abbrev pub writes_of : Task → List Place
writes_of (act.Adapt workers ops turns) = OutNode ∷ OutEle ∷ OutPart ∷ OutJournal ∷ OutRest ∷ []
writes_of act.Replay = OutNode ∷ OutEle ∷ OutPart ∷ []
writes_of act.Check = []
writes_of act.Chunks = []
writes_of act.Trace = []
writes_of (act.Demo cells) = []

-- the name is that of none of these files
abbrev pub AreUnnamed : Stems → List Place → List ℕ → Type 0
AreUnnamed stems [] name = Unit {0}
AreUnnamed stems (place ∷ places) name = (name ≢ name_of stems place) × AreUnnamed stems places name

-- the name is that of no file that the command writes
abbrev pub IsUnnamed : Command → List ℕ → Type 0
IsUnnamed command name = AreUnnamed command.stems (writes_of command.task) name

-- the scale is from 1 to 1,048,576
abbrev pub IsScaled : Command → Type 0
IsScaled command = (1 ≤ command.scale) × (command.scale ≤ 1048576)

-- the numbers of a task are in range: there are 1 to 64 workers, and a grid has 1 to 64 cells a side
abbrev pub IsTaskBounded : Task → Type 0
IsTaskBounded (act.Adapt workers ops turns) = (1 ≤ workers) × (workers ≤ 64)
IsTaskBounded act.Replay = Unit {0}
IsTaskBounded act.Check = Unit {0}
IsTaskBounded act.Chunks = Unit {0}
IsTaskBounded act.Trace = Unit {0}
IsTaskBounded (act.Demo cells) = (1 ≤ cells) × (cells ≤ 64)

-- what a replay works on: a mesh, the number of the first node in its files, and the journal
pub record Journalled : Type 0 where
  pub base : ℕ
  pub mesh : Undivided
  pub entries : List Entry

-- why an entry isn't applied, as a reason to stop
abbrev pub refusal_stop : FirstRefusal → Stop
refusal_stop refusal = Operation refusal.ticket refusal.why

-- an entry is refused, and this is the reason to stop
abbrev pub IsRefused : Option FirstRefusal → Stop → Type 0
IsRefused refusal stop = option_map refusal_stop refusal ≡ Some stop

-- the entries, each of which passes on the replay of those before it, or the first that is refused
abbrev pub passed : {A : Type 0} → Option FirstRefusal → A → Result A Stop
passed None value = Ok value
passed (Some refusal) value = Err (refusal_stop refusal)

unfoldable pub journalled_in : ℕ → HeldFiles → Result Journalled Stop
journalled_in scale files = do
  read ← numbered_in scale files
  entries ← entries_in read.mesh.first_new files
  passed (first_refusal read.mesh entries) (record { base = read.base; mesh = read.mesh; entries = entries })

-- how many operations an adaptation may make: as many as are asked for; else the lesser of four for each vertex and a
-- thousand more, and the names that are left
abbrev pub budget_of : Option ℕ → ℕ → ℕ
budget_of (Some ops) vertices = ops
budget_of None vertices = min (4 * vertices + 1000) (most_names - vertices)

-- what an adaptation works on: a mesh, the number of the first node in its files, and how many operations it may make
pub record Budgeted : Type 0 where
  pub base : ℕ
  pub mesh : Undivided
  pub budget : ℕ

unfoldable pub budgeted_in : Option ℕ → ℕ → HeldFiles → Result Budgeted Stop
budgeted_in ops scale files = do
  read ← numbered_in scale files
  budget ← within_limit read.mesh.first_new (budget_of ops read.mesh.first_new) (budget_of ops read.mesh.first_new)
  Ok record { base = read.base; mesh = read.mesh; budget = budget }

-- what a chunk list is of: a mesh with its chunks
unfoldable pub divided_in : ℕ → HeldFiles → Result Undivided Stop
divided_in scale files = do
  parted ← partitioned_in scale files
  Ok (with_tables_of parted.listed.triangles parted.parts.owners parted.parts.chunks parted.listed.mesh.bands parted.listed.mesh)

-- what a trace works on: a mesh, and what the trace says
pub record Traced : Type 0 where
  pub mesh : Undivided
  pub said : Told

unfoldable pub traced_in : ℕ → HeldFiles → Result Traced Stop
traced_in scale files = do
  read ← numbered_in scale files
  said ← said_in read.mesh.first_new read.mesh.chunks files
  Ok record { mesh = read.mesh; said = said }

-- what a command works on
pub data Input : Type 0 where
  -- a mesh, and how many operations it is adapted by
  to_adapt : Budgeted → Input
  -- a mesh and the journal that is replayed on it
  to_replay : Journalled → Input
  -- a mesh and its chunks
  to_check : Partitioned → Input
  -- a mesh whose chunks are listed
  to_divide : Undivided → Input
  -- a mesh and the trace that is run on it
  to_trace : Traced → Input
  -- how many cells a side the grid has that is adapted
  to_show : ℕ → Input

-- what a command works on, by its files as they are, or their first refusal in the order of reading
abbrev pub task_input : Task → ℕ → HeldFiles → Result Input Stop
task_input (act.Adapt workers ops turns) scale files = do
  input ← budgeted_in ops scale files
  Ok (to_adapt input)
task_input act.Replay scale files = do
  input ← journalled_in scale files
  Ok (to_replay input)
task_input act.Check scale files = do
  parted ← partitioned_in scale files
  Ok (to_check parted)
task_input act.Chunks scale files = do
  mesh ← divided_in scale files
  Ok (to_divide mesh)
task_input act.Trace scale files = do
  input ← traced_in scale files
  Ok (to_trace input)
task_input (act.Demo cells) scale files = Ok (to_show cells)

abbrev pub input_in : Command → HeldFiles → Result Input Stop
input_in command files = task_input command.task command.scale files

-- the texts of a mesh after so many operations, and what is said of it
abbrev pub replay_texts : Stems → ℕ → Undivided → ℕ → Given
replay_texts stems base mesh operations =
    record {
      writes =
          written_to stems OutNode (mesh_node_text base mesh)
          ∷ written_to stems OutEle (mesh_ele_text base mesh)
          ∷ written_to stems OutPart (part_text_of mesh.tris)
          ∷ [];
      report = replay_report operations mesh;
    }

-- what a replay gives
abbrev pub replay_given : Stems → Journalled → Given
replay_given stems input = replay_texts stems input.base (replayed input.mesh input.entries) (length input.entries)

-- what a check gives
abbrev pub check_given : Partitioned → Given
check_given parted = record { writes = []; report = check_report parted.parts.chunks parted.listed.mesh }

-- the report of an adaptation of so many operations, on the mesh after it
abbrev pub adapt_report : ℕ → Undivided → List ℕ
adapt_report operations mesh =
    lines_text (
    (codes "operations" ∷ decimal operations ∷ [])
    ∷ mesh_lines mesh
    ++ (codes "rest" ∷ decimal (length (rest_of mesh)) ∷ [])
    ∷ ((if is_quiet (rest_of mesh) then codes "quiet" else codes "spent") ∷ [])
    ∷ []
    )

-- the texts of a mesh after a journal, and what is said of it
abbrev pub adapt_texts : Stems → ℕ → Undivided → List Entry → Given
adapt_texts stems base mesh journal =
    record {
      writes =
          written_to stems OutNode (mesh_node_text base mesh)
          ∷ written_to stems OutEle (mesh_ele_text base mesh)
          ∷ written_to stems OutPart (part_text_of mesh.tris)
          ∷ written_to stems OutJournal (journal_text journal)
          ∷ written_to stems OutRest (rest_text (rest_of mesh))
          ∷ [];
      report = adapt_report (length journal) mesh;
    }

-- what an adaptation gives, with this journal
abbrev pub adapt_given : Stems → Budgeted → List Entry → Given
adapt_given stems input journal = adapt_texts stems input.base (replayed input.mesh journal) journal

-- what a chunk list gives
abbrev pub chunks_given : Undivided → Given
chunks_given mesh = record { writes = []; report = chunk_list_of mesh }

-- what a trace gives
abbrev pub trace_given : Traced → Given
trace_given input = record { writes = []; report = answer_text input.mesh input.said }

-- the report of a grid with so many cells a side: its twice area and its Euler number, which no adaptation changes
abbrev pub demo_report : ℕ → List ℕ
demo_report cells =
    lines_text (
    (codes "grid" ∷ decimal cells ∷ [])
    ∷ (codes "area2" ∷ signed_decimal (area2_of (grid_mesh cells)) ∷ [])
    ∷ (codes "euler" ∷ signed_decimal (euler_of (grid_mesh cells)) ∷ [])
    ∷ []
    )

-- what the adaptation of a grid gives
abbrev pub demo_given : ℕ → Given
demo_given cells = record { writes = []; report = demo_report cells }

-- What a command may give of what it works on. Of an adaptation there is one for each journal that is legal from the mesh, no
-- longer than the budget, and at whose end no line of the rest list passes or the budget is spent. Of each other command
-- there is one.
abbrev pub MayGive : Task → Stems → Input → Given → Type 0
MayGive (act.Adapt workers ops turns) stems (to_adapt input) given = (journal : List Entry) × IsAdapted input.mesh input.budget journal × (given ≡ adapt_given stems input journal)
MayGive act.Replay stems (to_replay input) given = IsLegal input.mesh input.entries × (given ≡ replay_given stems input)
MayGive act.Check stems (to_check parted) given = given ≡ check_given parted
MayGive act.Chunks stems (to_divide mesh) given = given ≡ chunks_given mesh
MayGive act.Trace stems (to_trace input) given = given ≡ trace_given input
MayGive (act.Demo cells) stems (to_show side) given = given ≡ demo_given side
MayGive other stems input given = ⊥
