-- The lines of a chunk, by the stars of the nodes and the triangles.
use Rattle.std.specs.Prelude.{ℕ, List, ◌++◌, ◌==◌, filter, flat_map, length}
use Rattle.pf_model.specs.declared.Tri.{Tri}
use Rattle.pf_model.specs.Stars.{Star}
use Rattle.pf_model.specs.Texts.{line_text}
use Rattle.pf_star_model.specs.Copies.{Copy}
use Rattle.pf_assemble.specs.declared.lines.Counts.{Counts}
use Rattle.pf_assemble.specs.ChunkList.{is_ghost, is_shared_by_others, shared_words, ghost_words}
use Rattle.pf_assemble.specs.Divided.{copies_in}
use Rattle.pf_assemble.specs.Spaced.{counts_words}

-- the copies of nodes that others share too
abbrev pub shared_in : ℕ → List Star → List Copy
shared_in c stars = filter (is_shared_by_others c) (copies_in c stars)

-- the counts of a chunk
abbrev pub counts_of : List Star → List Tri → ℕ → Counts
counts_of stars tris c =
    record {
      triangles = length (filter (λ t. t.owner == c) tris);
      nodes = length (copies_in c stars);
      shared = length (shared_in c stars);
      ghosts = length (filter (is_ghost tris c) tris);
    }

-- the text of a chunk
abbrev pub part_text : List Star → List Tri → ℕ → ℕ → List ℕ
part_text stars tris chunks c =
    line_text (counts_words c (counts_of stars tris c))
    ++ flat_map (λ x. line_text (shared_words chunks c x)) (shared_in c stars)
    ++ flat_map (λ t. line_text (ghost_words t)) (filter (is_ghost tris c) tris)
