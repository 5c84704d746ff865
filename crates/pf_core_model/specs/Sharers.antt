-- The copies of a node: the list of all of them by rising chunk, and which copy in it is a chunk's.
use Rattle.std.specs.Prelude.{◌≡◌, ℕ, zero, suc, ◌<◌, ◌≤◌, List, [], ◌∷◌, ◌++◌, cond, ◌==◌, nat_lt, Option, Some, None}
use Rattle.pf_model.specs.Stars.{Star}
use Rattle.pf_star_model.specs.Copies.{due_copy}
use Rattle.pf_core_model.specs.declared.sharer.Sharer.{Sharer}

-- a chunk's copy as a list
abbrev pub sharer_list : ℕ → Option Star → List Sharer
sharer_list chunk None = []
sharer_list chunk (Some s) = record { chunk = chunk; star = s } ∷ []

-- the copies of a node with this star at the chunks from this one on
abbrev pub sharers_from : ℕ → ℕ → Option Star → List Sharer
sharers_from chunk zero star = []
sharers_from chunk (suc n) star = sharer_list chunk (due_copy chunk star) ++ sharers_from (suc chunk) n star

-- the copies of a node with this star: one for each chunk that shares it, by rising chunk
abbrev pub sharers_in : ℕ → Option Star → List Sharer
sharers_in chunks star = sharers_from 0 chunks star

-- the copy of a chunk in such a list
abbrev pub copy_in : List Sharer → ℕ → Option Star
copy_in [] chunk = None
copy_in (s ∷ ss) chunk = cond (s.chunk == chunk) (Some s.star) (copy_in ss chunk)

-- the keeper's copy: the first
abbrev pub kept_in : List Sharer → Option Star
kept_in [] = None
kept_in (s ∷ ss) = Some s.star

-- the list with this copy, or none, for the chunk
abbrev pub put_copy : ℕ → Option Star → List Sharer → List Sharer
put_copy chunk c [] = sharer_list chunk c
put_copy chunk c (s ∷ ss) = cond (nat_lt s.chunk chunk) (s ∷ put_copy chunk c ss) (sharer_list chunk c ++ cond (s.chunk == chunk) ss (s ∷ ss))

-- the chunks of a list of copies rise from this one on, and are below the bound
abbrev pub IsListFrom : ℕ → ℕ → List Sharer → Type 0
IsListFrom first chunks [] = Unit {0}
IsListFrom first chunks (s ∷ ss) = (first ≤ s.chunk) × (s.chunk < chunks) × IsListFrom (suc s.chunk) chunks ss

abbrev pub IsSharerList : ℕ → List Sharer → Type 0
IsSharerList chunks l = IsListFrom 0 chunks l

-- the list of a node's copies gives each chunk the copy that it is due, and no other
abbrev pub SharersAreDue : Type 0
SharersAreDue = (chunks : ℕ) (star : Option Star) (chunk : ℕ) → chunk < chunks → copy_in (sharers_in chunks star) chunk ≡ due_copy chunk star
