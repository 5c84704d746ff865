-- What was written is read again.
use Rattle.std.proofs.Common.{◌≡◌, ℕ, ◌+◌, ◌<◌, ◌≤◌, true, List, [], ◌∷◌, length, map, Ok, refl, ap, sym, subst, ◌∙◌, arith}
use Rattle.std.specs.Prelude.{decimal, codes, if◌then◌else◌}
use Rattle.std.specs.List.{AllByRecursion, list_all}
use Rattle.std.proofs.lemmas.Bool.Decides.{nat_tests}
use Rattle.std.proofs.lemmas.List.{length-map}
use Rattle.pf_geom.specs.declared.Point.{Point}
use Rattle.pf_geom.specs.Plane.{IsInRange}
use Rattle.pf_lex.specs.Text.{Word, TextLine, placed, is_nonempty, lines_past}
use Rattle.pf_lex.specs.Number.{natural_of}
use Rattle.pf_lex.specs.Written.{is_plain_row, written_lines}
use Rattle.pf_lex.proofs.Laws.{text_lines-text}
use Rattle.pf_lex.proofs.NumberLaws.{natural_of-decimal, is_plain_word-decimal}
use Rattle.pf_model.specs.declared.Site.{Site}
use Rattle.pf_model.specs.declared.Tri.{Tri}
use Rattle.pf_model.specs.Mesh.{Undivided}
use Rattle.pf_model.specs.Conforming.{IsConforming}
use Rattle.pf_model.specs.Texts.{node_lines, ele_lines, mesh_node_text, mesh_ele_text, renumbered}
use Rattle.tri_text.specs.Reading.{natural_in, tri_rows}
use Rattle.tri_text.specs.Node.{vertex_of, node_heading_of, base_of, vertex_rows, vertices_in, node_read}
use Rattle.tri_text.specs.Ele.{triangle_of, ele_heading_of, triangles_in, ele_read}
use Rattle.tri_text.specs.Laws.{corner_places, WrittenNodesAreReadAgain, WrittenTrianglesAreReadAgain}
use Rattle.tri_text.proofs.Numbers.{count_in-decimal}
use Rattle.tri_text.proofs.WrittenRows.{tri_rows-written, each_held, vertices_again, node_lines-plain, HasPlaces, place_among-lt, triangles_again, ele_lines-plain}

digit_in : (line column d : ℕ) → d < 10 → natural_of ((48 + d) ∷ []) ≡ Ok d → natural_in line (record { text = (48 + d) ∷ []; column = column }) ≡ Ok d
unfolding natural_in
digit_in line column d small is = rw is refl

two : natural_of (codes "2") ≡ Ok 2
unfolding natural_of
two = refl

three : natural_of (codes "3") ≡ Ok 3
unfolding natural_of
three = refl

-- ---- `.node`

node_heading : (n line : ℕ) → n ≤ 1048576 → node_heading_of line (placed 1 (decimal n ∷ codes "2" ∷ codes "0" ∷ codes "0" ∷ [])) ≡ Ok n
node_heading n line few =
    rw (count_in-decimal 1048576 line 1 n (omega arith) few, digit_in line _ 2 (omega arith) two) refl

base_again : (base : ℕ) (s : Site) (ss : List Site) → base ≤ 1 → base_of (written_lines 2 (node_lines base (map (λ r. r.at) (s ∷ ss)))) ≡ base
unfolding base_of
base_again base s ss small = rw (natural_of-decimal base (omega arith)) (grind (arith, nat_tests))

base_again-nil : (base : ℕ) → base_of [] ≡ 0
unfolding base_of
base_again-nil base = refl

-- the points of sites, written from the base on, are read again
record AreRead (past base : ℕ) (sites : List Site) (lines : List TextLine) : Type 0 where
  rows : tri_rows (vertex_of 1) past (length (map (λ r. r.at) sites)) (base_of lines) lines ≡ Ok (map (λ r. r.at) sites)
  base_is : base_of lines ≡ if is_nonempty sites then base else 0

rows_from : (past base : ℕ) (sites : List Site) → base ≤ 1 → AllByRecursion IsInRange (map (λ r. r.at) sites) → length (map (λ r. r.at) sites) ≤ 1048576 → AreRead past base sites (written_lines 2 (node_lines base (map (λ r. r.at) sites)))
rows_from past base [] small range few = record { rows = refl; base_is = base_again-nil base }
rows_from past base (s ∷ ss) small range few =
    let ps : List Point = map (λ r. r.at) (s ∷ ss) in
    let lines : List TextLine = written_lines 2 (node_lines base ps) in
    let same : base_of lines ≡ base = base_again base s ss small in
    let rows = tri_rows-written (vertex_of 1) past 2 base (node_lines base ps) ps (vertices_again ps base range (omega arith)) in
    record { rows = subst (λ b. tri_rows (vertex_of 1) past (length ps) b lines ≡ Ok ps) (sym same) rows; base_is = same }

vertices_in-parts : (past line count base : ℕ) (words : List Word) (lines : List TextLine) (points : List Point) → node_heading_of line words ≡ Ok count → tri_rows (vertex_of 1) past count (base_of lines) lines ≡ Ok points → base_of lines ≡ base → vertices_in 1 past (record { line = line; words = words } ∷ lines) ≡ Ok (record { base = base; points = points })
unfolding vertex_rows
vertices_in-parts past line count base words lines points head rows base_is = rw (head, rows, base_is) refl

points_in_range : (m : Undivided) → IsConforming m → AllByRecursion IsInRange (map (λ s. s.at) m.sites)
points_in_range m ok = at_each m.sites (each_held (λ s. IsInRange s.at) m.sites ok.in_range)
  where
    at_each : (sites : List Site) → AllByRecursion (λ s. IsInRange s.at) sites → AllByRecursion IsInRange (map (λ s. s.at) sites)
    at_each [] h = tt
    at_each (s ∷ ss) h = (h.0, at_each ss h.1)

pub nodes_again : WrittenNodesAreReadAgain
unfolding node_read
nodes_again m base ok small few =
    let ps : List Point = map (λ s. s.at) m.sites in
    let len : length ps ≡ length m.sites = length-map m.sites (λ (r : Site). r.at) in
    let range = points_in_range m ok in
    let plain : list_all is_plain_row ((decimal (length ps) ∷ codes "2" ∷ codes "0" ∷ codes "0" ∷ []) ∷ node_lines base ps) ≡ true = rw (is_plain_word-decimal (length ps) (omega arith), node_lines-plain ps base range (omega arith)) refl in
    let lines = text_lines-text ((decimal (length ps) ∷ codes "2" ∷ codes "0" ∷ codes "0" ∷ []) ∷ node_lines base ps) plain in
    let past : ℕ = lines_past (mesh_node_text base m) in
    let read = rows_from past base m.sites small range (omega arith) in
    ap (vertices_in 1 past) lines
    ∙ vertices_in-parts past 1 (length ps) _ (placed 1 (decimal (length ps) ∷ codes "2" ∷ codes "0" ∷ codes "0" ∷ [])) (written_lines 2 (node_lines base ps)) ps (node_heading (length ps) 1 (omega arith)) read.rows read.base_is

-- ---- `.ele`

ele_heading : (n line : ℕ) → n ≤ 2097152 → ele_heading_of line (placed 1 (decimal n ∷ codes "3" ∷ codes "0" ∷ [])) ≡ Ok n
ele_heading n line few =
    rw (count_in-decimal 2097152 line 1 n (omega arith) few, digit_in line _ 3 (omega arith) three) refl

triangles_in-parts : (base vertices past line count : ℕ) (words : List Word) (lines : List TextLine) (ts : List (List ℕ)) → ele_heading_of line words ≡ Ok count → tri_rows (triangle_of base vertices) past count base lines ≡ Ok ts → triangles_in base vertices past (record { line = line; words = words } ∷ lines) ≡ Ok ts
triangles_in-parts base vertices past line count words lines ts head rows = rw (head, rows) refl

have_places : (m : Undivided) → IsConforming m → AllByRecursion (HasPlaces m.sites) m.tris
have_places m ok =
    each_held (HasPlaces m.sites) m.tris (λ t held. (let p = ok.proper t held in record {
      first = place_among-lt m.sites t.a p.first;
      second = place_among-lt m.sites t.b p.second;
      third = place_among-lt m.sites t.c p.third;
    }))

pub triangles_again_all : WrittenTrianglesAreReadAgain
unfolding ele_read
triangles_again_all m base ok small nodes few =
    let ts : List Tri = map (renumbered m.sites) m.tris in
    let values : List (List ℕ) = map (corner_places m.sites) m.tris in
    let len : length ts ≡ length m.tris = length-map m.tris (renumbered m.sites) in
    let same : length values ≡ length ts = length-map m.tris (corner_places m.sites) ∙ sym len in
    let places = have_places m ok in
    let plain : list_all is_plain_row ((decimal (length ts) ∷ codes "3" ∷ codes "0" ∷ []) ∷ ele_lines base base ts) ≡ true = rw (is_plain_word-decimal (length ts) (omega arith), ele_lines-plain base base m.sites m.tris places (omega arith) (omega arith)) refl in
    let lines = text_lines-text ((decimal (length ts) ∷ codes "3" ∷ codes "0" ∷ []) ∷ ele_lines base base ts) plain in
    let past : ℕ = lines_past (mesh_ele_text base m) in
    let rows = tri_rows-written (triangle_of base (length m.sites)) past 2 base (ele_lines base base ts) values (triangles_again base base m.sites m.tris places (omega arith) (omega arith)) in
    ap (triangles_in base (length m.sites) past) lines
    ∙ triangles_in-parts base (length m.sites) past 1 (length ts) (placed 1 (decimal (length ts) ∷ codes "3" ∷ codes "0" ∷ [])) (written_lines 2 (ele_lines base base ts)) values (ele_heading (length ts) 1 (omega arith)) (subst (λ n. tri_rows (triangle_of base (length m.sites)) past n base (written_lines 2 (ele_lines base base ts)) ≡ Ok values) same rows)
