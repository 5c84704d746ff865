-- A journal's replay, which journals are legal, and the first entry that is refused.
use Rattle.std.specs.Prelude.{◌≡◌, ℕ, suc, List, [], ◌∷◌, Option, Some, None}
use Rattle.pf_model.specs.declared.Entry.{Entry}
use Rattle.pf_model.specs.declared.Cond.{Cond}
use Rattle.pf_model.specs.declared.Refusal.{Refusal}
use Rattle.pf_model.specs.declared.Refusal.TheVariants.{Gone, Failing}
use Rattle.pf_model.specs.declared.FirstRefusal.{FirstRefusal}
use Rattle.pf_model.specs.Mesh.{Undivided}
use Rattle.pf_model.specs.Ends.{gone_end}
use Rattle.pf_model.specs.Applied.{applied}
use Rattle.pf_model.specs.Conditions.{first_failing}

-- the entries applied from the left
abbrev pub replayed : Undivided → List Entry → Undivided
replayed m [] = m
replayed m (e ∷ es) = replayed (applied m e) es

-- tickets count up from this one, and each entry passes on the replay of those before it
abbrev pub IsLegalFrom : ℕ → Undivided → List Entry → Type 0
IsLegalFrom ticket m [] = Unit {0}
IsLegalFrom ticket m (e ∷ es) = (e.ticket ≡ ticket) × (first_failing m e.chunk e.op ≡ None) × IsLegalFrom (suc ticket) (applied m e) es

-- tickets count up from 0, and each entry passes on the replay of those before it
abbrev pub IsLegal : Undivided → List Entry → Type 0
IsLegal m es = IsLegalFrom 0 m es

-- the tickets count up from this one
abbrev pub HasTicketsFrom : ℕ → List Entry → Type 0
HasTicketsFrom ticket [] = Unit {0}
HasTicketsFrom ticket (e ∷ es) = (e.ticket ≡ ticket) × HasTicketsFrom (suc ticket) es

-- the tickets are 0, 1, 2 and so on
abbrev pub HasTickets : List Entry → Type 0
HasTickets es = HasTicketsFrom 0 es

-- a name that isn't live, else a condition that fails
abbrev pub refusal_by : Option ℕ → Option Cond → Option Refusal
refusal_by (Some n) failing = Some (Gone n)
refusal_by None (Some cond) = Some (Failing cond)
refusal_by None None = None

-- why an entry isn't applied: its first end, as written, that isn't live, else the first condition that it fails
abbrev pub refusal_of : Undivided → Entry → Option Refusal
refusal_of m e = refusal_by (gone_end m e.op) (first_failing m e.chunk e.op)

-- the refusal of the entry with this ticket, where it has one, and else the later one
abbrev pub refusal_or : ℕ → Option Refusal → Option FirstRefusal → Option FirstRefusal
refusal_or ticket (Some why) later = Some record { ticket = ticket; why = why }
refusal_or ticket None later = later

-- the refusal of the first entry that isn't applied to the replay of those before it
abbrev pub first_refusal : Undivided → List Entry → Option FirstRefusal
first_refusal m [] = None
first_refusal m (e ∷ es) = refusal_or e.ticket (refusal_of m e) (first_refusal (applied m e) es)
