-- Which chunks a worker has, and at which nodes it starts.
use Rattle.std.specs.Prelude.{ℕ, ◌%◌, List, Bool, false, ◌==◌, Option, Some, None, filter}
use Rattle.std.specs.List.{range_with_len}
use Rattle.pf_model.specs.Mesh.{Undivided}
use Rattle.pf_model.specs.Stars.{keeper_of}

-- the chunk is this worker's: it leaves the worker's number when divided by the number of workers
abbrev pub is_chunk_of : ℕ → ℕ → ℕ → Bool
is_chunk_of workers worker chunk = chunk % workers == worker

-- the chunks of a worker, rising
abbrev pub chunks_for : ℕ → ℕ → ℕ → List ℕ
chunks_for workers worker chunks = filter (is_chunk_of workers worker) (range_with_len 0 chunks)

-- there is a keeper, and it is a chunk of this worker
abbrev pub is_kept_by : ℕ → ℕ → Option ℕ → Bool
is_kept_by workers worker None = false
is_kept_by workers worker (Some keeper) = is_chunk_of workers worker keeper

-- the nodes whose keeper is a chunk of the worker, by rising name
abbrev pub starts_for : Undivided → ℕ → ℕ → List ℕ
starts_for m workers worker = filter (λ n. is_kept_by workers worker (keeper_of m n)) (range_with_len 0 m.first_new)
