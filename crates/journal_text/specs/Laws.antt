-- Laws of the journal's format.
use Rattle.std.specs.Prelude.{◌≡◌, ◌≤◌, List, length, All, Ok}
use Rattle.pf_model.specs.declared.Entry.{Entry}
use Rattle.pf_model.specs.Ends.{IsNormal}
use Rattle.pf_model.specs.Texts.{journal_text}
use Rattle.pf_model.specs.Replay.{HasTickets}
use Rattle.journal_text.specs.Entries.{IsNamedWithin}
use Rattle.journal_text.specs.Journal.{chunk_limit, number_limit, journal_of}

-- the entry's operation is in normal form, and its numbers are in range
pub record IsWritable (entry : Entry) : Type 0 where
  pub normal : IsNormal entry.op
  pub chunk : entry.chunk ≤ chunk_limit
  pub names : IsNamedWithin number_limit entry.op

-- the text of entries whose tickets count up from 0 says those entries
abbrev pub JournalReadsAgain : Type 0
JournalReadsAgain = (entries : List Entry) → length entries ≤ number_limit → HasTickets entries → All IsWritable entries → journal_of (journal_text entries) ≡ Ok entries
