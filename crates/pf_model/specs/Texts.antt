-- The texts that are written, as bytes. A text is a list of lines, and a line a list of words.
use Rattle.std.specs.Prelude.{ℕ, ◌+◌, suc, List, [], ◌∷◌, ◌++◌, Option, Some, None, nat_lt, codes, decimal, flat_map, length, map, count_by, min, max}
use Rattle.std.specs.Fmt.{signed_decimal}
use Rattle.std.specs.List.{join_with_byte}
use Rattle.pf_geom.specs.declared.Point.{Point}
use Rattle.pf_model.specs.declared.Tri.{Tri}
use Rattle.pf_model.specs.declared.Site.{Site}
use Rattle.pf_model.specs.declared.Op.{Op}
use Rattle.pf_model.specs.declared.Op.TheVariants.{Flip, Bisect, Contract}
use Rattle.pf_model.specs.declared.Entry.{Entry}
use Rattle.pf_model.specs.declared.Cond.{Cond}
use Rattle.pf_model.specs.declared.Cond.TheVariants.{NoEdge, Foreign, OnBoundary, NotConvex, NotShorter, EdgeThere, TooShort, NotLongest, OddMidpoint, TooWide, Pinched, Corner, OffBoundary, LinkNode, Inverts, TooLong}
use Rattle.pf_model.specs.declared.RestLine.{RestLine}
use Rattle.pf_model.specs.declared.RestLine.TheVariants as line
use Rattle.pf_model.specs.Mesh.{Undivided}
use Rattle.pf_model.specs.Sums.{area2_of, euler_of, boundary_of}

-- a line's words parted by one space each, and a newline
abbrev pub line_text : List (List ℕ) → List ℕ
line_text words = join_with_byte 32 words ++ 10 ∷ []

-- the lines one after the other
abbrev pub lines_text : List (List (List ℕ)) → List ℕ
lines_text ls = flat_map line_text ls

-- a line for each point: its number, counted from the base, and its coordinates
abbrev pub node_lines : ℕ → List Point → List (List (List ℕ))
node_lines number [] = []
node_lines number (p ∷ ps) = (decimal number ∷ signed_decimal p.x ∷ signed_decimal p.y ∷ []) ∷ node_lines (suc number) ps

-- the text of a `.node` file
abbrev pub node_text : ℕ → List Point → List ℕ
node_text base points = lines_text ((decimal (length points) ∷ codes "2" ∷ codes "0" ∷ codes "0" ∷ []) ∷ node_lines base points)

-- a line for each triangle: its number, counted from the base, and its corners, places counted from 0, with the base added
abbrev pub ele_lines : ℕ → ℕ → List Tri → List (List (List ℕ))
ele_lines base number [] = []
ele_lines base number (t ∷ ts) = (decimal number ∷ decimal (base + t.a) ∷ decimal (base + t.b) ∷ decimal (base + t.c) ∷ []) ∷ ele_lines base (suc number) ts

-- the text of an `.ele` file
abbrev pub ele_text : ℕ → List Tri → List ℕ
ele_text base tris = lines_text ((decimal (length tris) ∷ codes "3" ∷ codes "0" ∷ []) ∷ ele_lines base base tris)

-- a live name's place among the live names, counted from 0: how many are below it
abbrev pub place_among : List Site → ℕ → ℕ
place_among sites n = count_by (λ s. nat_lt s.name n) sites

-- the triangle with the places of its corners among the live names
abbrev pub renumbered : List Site → Tri → Tri
renumbered sites t = record t { a = place_among sites t.a; b = place_among sites t.b; c = place_among sites t.c }

-- the `.node` text of a mesh, numbered from the base
abbrev pub mesh_node_text : ℕ → Undivided → List ℕ
mesh_node_text base m = node_text base (map (λ s. s.at) m.sites)

-- the `.ele` text of a mesh, numbered from the base
abbrev pub mesh_ele_text : ℕ → Undivided → List ℕ
mesh_ele_text base m = ele_text base (map (renumbered m.sites) m.tris)

-- an operation's word and its two names; the lower name of a flip or a bisection stands first
abbrev pub op_words : Op → List (List ℕ)
op_words (Flip a b) = codes "flip" ∷ decimal (min a b) ∷ decimal (max a b) ∷ []
op_words (Bisect a b) = codes "bisect" ∷ decimal (min a b) ∷ decimal (max a b) ∷ []
op_words (Contract u v) = codes "contract" ∷ decimal u ∷ decimal v ∷ []

-- an entry's line: ticket, chunk, operation
abbrev pub entry_words : Entry → List (List ℕ)
entry_words e = decimal e.ticket ∷ decimal e.chunk ∷ op_words e.op

-- the text of a journal
abbrev pub journal_text : List Entry → List ℕ
journal_text entries =
    lines_text (
    (codes "parfum" ∷ codes "journal" ∷ codes "1" ∷ [])
    ∷ map entry_words entries
    ++ (codes "end" ∷ decimal (length entries) ∷ [])
    ∷ []
    )

-- a condition's word and its names
abbrev pub condition_words : Cond → List (List ℕ)
condition_words NoEdge = codes "no-edge" ∷ []
condition_words Foreign = codes "foreign" ∷ []
condition_words OnBoundary = codes "on-boundary" ∷ []
condition_words NotConvex = codes "not-convex" ∷ []
condition_words NotShorter = codes "not-shorter" ∷ []
condition_words (EdgeThere c d) = codes "edge-there" ∷ decimal c ∷ decimal d ∷ []
condition_words (TooShort a b) = codes "too-short" ∷ decimal a ∷ decimal b ∷ []
condition_words (NotLongest a b) = codes "not-longest" ∷ decimal a ∷ decimal b ∷ []
condition_words OddMidpoint = codes "odd-middle" ∷ []
condition_words TooWide = codes "too-wide" ∷ []
condition_words Pinched = codes "pinched" ∷ []
condition_words Corner = codes "corner" ∷ []
condition_words OffBoundary = codes "off-boundary" ∷ []
condition_words (LinkNode x) = codes "link-node" ∷ decimal x ∷ []
condition_words (Inverts x y) = codes "inverts" ∷ decimal x ∷ decimal y ∷ []
condition_words (TooLong a b) = codes "too-long" ∷ decimal a ∷ decimal b ∷ []

-- the words of the condition that forbids an operation, or that it passes
abbrev pub outcome_words : Option Cond → List (List ℕ)
outcome_words None = codes "passes" ∷ []
outcome_words (Some c) = condition_words c

-- the words of a line of the rest list
abbrev pub rest_words : RestLine → List (List ℕ)
rest_words (line.Long a b c d bisect) = codes "long" ∷ decimal a ∷ decimal b ∷ codes "at" ∷ decimal c ∷ decimal d ∷ outcome_words bisect
rest_words (line.Short a b onto_b onto_a) = codes "short" ∷ decimal a ∷ decimal b ∷ outcome_words onto_b ++ outcome_words onto_a
rest_words (line.Flip a b) = codes "flip" ∷ decimal a ∷ decimal b ∷ []

-- the text of a rest list
abbrev pub rest_text : List RestLine → List ℕ
rest_text lines =
    lines_text (
    (codes "parfum" ∷ codes "rest" ∷ codes "1" ∷ [])
    ∷ map rest_words lines
    ++ (codes "end" ∷ decimal (length lines) ∷ [])
    ∷ []
    )

-- what every report says of a mesh
abbrev pub mesh_lines : Undivided → List (List (List ℕ))
mesh_lines m =
    (codes "nodes" ∷ decimal (length m.sites) ∷ [])
    ∷ (codes "triangles" ∷ decimal (length m.tris) ∷ [])
    ∷ (codes "area2" ∷ signed_decimal (area2_of m) ∷ [])
    ∷ []

-- the report of a replay of so many operations, on the mesh after it
abbrev pub replay_report : ℕ → Undivided → List ℕ
replay_report operations m = lines_text ((codes "operations" ∷ decimal operations ∷ []) ∷ mesh_lines m)

-- the report of a check of a mesh of so many chunks
abbrev pub check_report : ℕ → Undivided → List ℕ
check_report chunks m =
    lines_text (
    mesh_lines m
    ++ (codes "euler" ∷ signed_decimal (euler_of m) ∷ [])
    ∷ (codes "boundary" ∷ decimal (length (boundary_of m)) ∷ [])
    ∷ (codes "chunks" ∷ decimal chunks ∷ [])
    ∷ []
    )
