use Rattle.std.proofs.Common.{◌≡◌, ℕ, ◌<◌, [], length, slice_index_or}
use Rattle.pf_workers.specs.declared.parts.Part.{Part}
use Rattle.pf_workers.specs.Parts.{chunks_for}
use Rattle.pf_workers.proofs.parts.chunk_parts.Given as goal

abbrev pub invariant-workers : goal.invariant-workers
invariant-workers l =
    (length l.parts.items ≡ l.worker)
    × ((w : ℕ) (d : Part) → w < length l.parts.items → ((slice_index_or l.parts.items w d).chunks.items ≡ chunks_for l.workers w l.chunks) × ((slice_index_or l.parts.items w d).start.items ≡ []))
