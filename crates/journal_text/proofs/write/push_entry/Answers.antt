use Rattle.std.specs.Prelude.{decimal}
use Rattle.journal_text.proofs.WriteLemmas.{entry_text-words}
use Rattle.journal_text.proofs.write.push_entry.Goals as goal

pub returns : goal.returns
returns c =
    rw (c.in_ok-push_number-4.ensures, c.in_ok-push_number-3.ensures, c.in_ok-push_word.ensures, c.in_ok-push_number-2.ensures, c.in_ok-push_number.ensures, c.op_parts-a.ensures)
    (entry_text-words c.args.text.now.items (decimal c.args.entry.ticket) (decimal c.args.entry.chunk) c.op_parts-a.result.0.now (decimal c.op_parts-a.result.1) (decimal c.op_parts-a.result.2))
