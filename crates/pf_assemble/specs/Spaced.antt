-- Numbers in a line, each with a space behind it, and the line of a chunk by its counts.
use Rattle.std.specs.Prelude.{ℕ, List, [], ◌∷◌, ◌++◌, cond, not, ◌==◌, codes, decimal}
use Rattle.pf_assemble.specs.declared.lines.Counts.{Counts}

-- the number and a space
abbrev pub spaced : ℕ → List ℕ
spaced n = decimal n ++ 32 ∷ []

-- a number and a space, where it isn't the chunk's
abbrev pub spaced_other : ℕ → ℕ → List ℕ
spaced_other c d = cond (not (d == c)) (spaced d) []

-- the line of a chunk with these counts
abbrev pub counts_words : ℕ → Counts → List (List ℕ)
counts_words c counts =
    codes "chunk"
    ∷ decimal c
    ∷ codes "triangles"
    ∷ decimal counts.triangles
    ∷ codes "nodes"
    ∷ decimal counts.nodes
    ∷ codes "shared"
    ∷ decimal counts.shared
    ∷ codes "ghosts"
    ∷ decimal counts.ghosts
    ∷ []
