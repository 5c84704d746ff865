use Rattle.std.proofs.Common.{◌≡◌, List, ℕ, ◌++◌, length, ap, ◌∙◌, arith}
use Rattle.std.specs.Prelude.{slice_index, ◌==◌, nat_lt}
use Rattle.pf_model.specs.Texts.{lines_text}
use Rattle.pf_core_model.specs.Core.{Opening}
use Rattle.pf_core_model.specs.State.{CoreState, counted, free_part_of, tickets_in}
use Rattle.pf_core.specs.Shown.{ShowsState}
use Rattle.trace_text.specs.declared.write.Closing.{Closing}
use Rattle.trace_text.specs.Verdicts.{closing_of, closing_lines}
use Rattle.pf_trace.proofs.Lines.{closing-is}
use Rattle.pf_trace.proofs.closing.push_end.Goals as goal

pub returns : goal.returns
returns c = λ o k shows.
    let e = c.counts-counts.ensures o k shows in
    let n : c.len.result ≡ length c.in_ok-free_part.free_part.items = omega (arith, c.in_ok-free_part.free_part.ok) in
    c.in_ok-put_closing.ensures
    ∙ ap (λ x. c.args.text.now.items ++ lines_text (closing_lines x))
    (closing-is o k _ (c.tickets.ensures o k shows) (ap (λ (l : List ℕ). slice_index l 0) e) (ap (λ (l : List ℕ). slice_index l 1) e) (ap (λ (l : List ℕ). slice_index l 2) e) (ap (λ (l : List ℕ). slice_index l 3) e) (n ∙ ap length (c.in_ok-free_part.ensures o k shows)))
