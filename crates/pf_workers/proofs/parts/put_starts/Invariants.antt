use Rattle.std.proofs.Common.{◌≡◌, ℕ, ◌<◌, length, slice_index_or, filter}
use Rattle.std.specs.List.{range_with_len}
use Rattle.pf_workers.specs.declared.parts.Part.{Part}
use Rattle.pf_workers.specs.Parts.{is_kept_by}
use Rattle.pf_workers.specs.Keepers.{kept_at}
use Rattle.pf_workers.proofs.parts.put_starts.Given as goal

abbrev pub invariant-names : goal.invariant-names
invariant-names l =
    (length l.parts ≡ length l.initial.parts)
    × ((w : ℕ) (d : Part) → w < length l.initial.parts → (slice_index_or l.parts w d).chunks.items ≡ (slice_index_or l.initial.parts w d).chunks.items)
    × ((w : ℕ) (d : Part) → w < length l.initial.parts → (slice_index_or l.parts w d).start.items ≡ filter (λ n. is_kept_by (length l.initial.parts) w (kept_at l.keepers n)) (range_with_len 0 l.n))
