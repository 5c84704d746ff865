-- The event that the words of a line say, and None where they are in no form.
use Rattle.std.specs.Prelude.{ℕ, List, [], ◌∷◌, if◌then◌else◌, Option, Some, None, codes}
use Rattle.std.specs.Str.{bytes_eq}
use Rattle.pf_lex.specs.Text.{Word}
use Rattle.pf_core_model.specs.declared.event.Asked.{Asked}
use Rattle.pf_core_model.specs.declared.event.Event.{Event}
use Rattle.pf_core_model.specs.declared.event.Event.TheVariants.{Split, Lock, Lost, Note, Commit, Push, Birth, Release, Bury, Join}
use Rattle.trace_text.specs.declared.part.Two.{Two}
use Rattle.trace_text.specs.declared.part.Three.{Three}
use Rattle.trace_text.specs.Parts.{most_number, most_chunk, number_of, two_of, three_of, asked_of}

-- split a b share
abbrev pub split_by : Option Three → Option Event
split_by None = None
split_by (Some n) = Some (Split n.a n.b n.c)

abbrev pub split_of : List Word → Option Event
split_of words = split_by (three_of most_number words)

-- push a chunk n
abbrev pub push_by : Option Three → Option Event
push_by None = None
push_by (Some n) = Some (Push n.a n.b n.c)

abbrev pub push_of : List Word → Option Event
push_of words = push_by (three_of most_chunk words)

-- note a, and note a chunk op x y
abbrev pub noting : Option ℕ → Option Asked → Option Event
noting (Some a) (Some asked) = Some (Note a (Some asked))
noting (Some a) None = None
noting None asked = None

abbrev pub plain_note : Option ℕ → Option Event
plain_note (Some a) = Some (Note a None)
plain_note None = None

abbrev pub note_of : List Word → Option Event
note_of [] = None
note_of (a ∷ []) = plain_note (number_of most_number a)
note_of (a ∷ chunk ∷ words) = noting (number_of most_number a) (asked_of (chunk ∷ words))

-- commit a chunk op x y
abbrev pub committing : Option ℕ → Option Asked → Option Event
committing (Some a) (Some asked) = Some (Commit a asked.chunk asked.op)
committing (Some a) None = None
committing None asked = None

abbrev pub commit_of : List Word → Option Event
commit_of [] = None
commit_of (a ∷ words) = committing (number_of most_number a) (asked_of words)

-- lock a n, lost a n, birth a n, release a n, bury a n, join a b
abbrev pub named_of : List ℕ → Two → Option Event
named_of name n =
    if bytes_eq name (codes "lock") then Some (Lock n.a n.b)
    else if bytes_eq name (codes "lost") then Some (Lost n.a n.b)
    else if bytes_eq name (codes "birth") then Some (Birth n.a n.b)
    else if bytes_eq name (codes "release") then Some (Release n.a n.b)
    else if bytes_eq name (codes "bury") then Some (Bury n.a n.b)
    else if bytes_eq name (codes "join") then Some (Join n.a n.b)
    else None

abbrev pub named_by : List ℕ → Option Two → Option Event
named_by name None = None
named_by name (Some n) = named_of name n

abbrev pub two_event_of : List ℕ → List Word → Option Event
two_event_of name words = named_by name (two_of words)

-- the event of a line
abbrev pub event_of : List Word → Option Event
event_of [] = None
event_of (name ∷ words) =
    if bytes_eq name.text (codes "split") then split_of words
    else if bytes_eq name.text (codes "push") then push_of words
    else if bytes_eq name.text (codes "note") then note_of words
    else if bytes_eq name.text (codes "commit") then commit_of words
    else two_event_of name.text words
