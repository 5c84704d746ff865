use Rattle.std.proofs.Common.{rules, ◌≡◌, [], ◌∷◌, ◌++◌, ◌%◌, ap, ◌∙◌}
use Rattle.pf_workers.specs.Parts.{is_chunk_of}
use Rattle.pf_workers.proofs.Parting.{number_taken, number_left, is_same, is_other}
use Rattle.pf_workers.proofs.parts.chunks_of.Goals.{then-chunk-workers+in_ok-map_err, else-chunk-workers}
use Rattle.pf_workers.proofs.parts.chunks_of.Goals as goal

pub chunks-preserved : goal.chunks-preserved
chunks-preserved c =
    elim c.if-chunk-workers.branch [
      | then-chunk-workers+in_ok-map_err w ↦ (let pushed : w.push.new.self.items ≡ c.chunks.list.items ++ c.chunks.chunk ∷ [] = search rules in ap (λ l. l.items) w.list-is ∙ pushed ∙ number_taken (is_chunk_of c.args.workers c.args.worker) c.chunks.chunk c.chunks.list.items c.chunks.invariant (is_same (c.chunks.chunk % c.args.workers) c.args.worker w.if-chunk-workers.true))
      | else-chunk-workers w ↦ ap (λ l. l.items) w.list-is ∙ number_left (is_chunk_of c.args.workers c.args.worker) c.chunks.chunk c.chunks.list.items c.chunks.invariant (is_other (c.chunks.chunk % c.args.workers) c.args.worker w.if-chunk-workers.false)
    ]
