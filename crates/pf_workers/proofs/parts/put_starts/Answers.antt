use Rattle.std.proofs.Common.{ℕ, ◌<◌, List, length, sym, ap, ◌∙◌, subst}
use Rattle.std.specs.Prelude.{slice_index_or}
use Rattle.pf_workers.specs.declared.parts.Part.{Part}
use Rattle.pf_workers.specs.Keepers.{kept_at}
use Rattle.pf_workers.proofs.Parting.{start_kept, start_none}
use Rattle.pf_workers.proofs.parts.put_starts.Goals.{in-Some+in_ok-put_start, in_default}
use Rattle.pf_workers.proofs.parts.put_starts.Goals as goal

pub names-preserved : goal.names-preserved
names-preserved c =
    let many = length c.args.parts.now in
    elim c.match-keepers-n.branch [
      | in-Some+in_ok-put_start w ↦ (
        ap (λ (l : List Part). length l) w.parts-is ∙ w.put_start.ensures.len ∙ c.names.invariant.0,
        (λ v d l. ap (λ (ps : List Part). (slice_index_or ps v d).chunks.items) w.parts-is ∙ w.put_start.ensures.chunks v d (subst (λ (k : ℕ). v < k) (sym c.names.invariant.0) l) ∙ c.names.invariant.1 v d l),
        (λ v d l. ap (λ (ps : List Part). (slice_index_or ps v d).start.items) w.parts-is ∙ w.in_ok-put_start.ensures.start v d (subst (λ (k : ℕ). v < k) (sym c.names.invariant.0) l) ∙ start_kept many v w.in-Some.keeper c.names.n (kept_at c.args.keepers.now) (slice_index_or c.names.parts v d).start.items (c.names.invariant.2 v d l) w.in-Some.is),
      )
      | in_default w ↦ (
        ap (λ (l : List Part). length l) w.parts-is ∙ c.names.invariant.0,
        (λ v d l. ap (λ (ps : List Part). (slice_index_or ps v d).chunks.items) w.parts-is ∙ c.names.invariant.1 v d l),
        (λ v d l. ap (λ (ps : List Part). (slice_index_or ps v d).start.items) w.parts-is ∙ start_none many v c.names.n (kept_at c.args.keepers.now) (slice_index_or c.names.parts v d).start.items (c.names.invariant.2 v d l) w.in_default.is),
      )
    ]
