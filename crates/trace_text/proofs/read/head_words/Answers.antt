use Rattle.std.proofs.Common.{◌∙◌, sym}
use Rattle.trace_text.proofs.ReadLemmas.{kept-within}
use Rattle.trace_text.proofs.read.head_words.Goals as goal

pub returns-then-are_kept-clause-within : goal.returns-then-are_kept-clause-within
returns-then-are_kept-clause-within c = kept-within _ c.args.first_new c.args.chunks (sym c.are_kept.ensures ∙ c.if-are_kept.true)
