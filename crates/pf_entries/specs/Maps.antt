-- Entries by ticket, as a finite map, beside the number of entries for which there is room.
use Rattle.std.specs.Prelude.{◌≡◌, ℕ, List, [], ◌∷◌, ◌++◌, ◌⊎◌, None, map, refl}
use Rattle.std.specs.Ordering.{nat_cmp}
use Rattle.std.specs.FinMap as fin
use Rattle.std.specs.Coded.{Coded, code_by, coded×, coded_ℕ}
use Rattle.pf_model.specs.declared.Entry.{Entry}
use Rattle.pf_model.specs.contracts.Entry as entry

-- what contracts see: the entries, each under its ticket, and for how many more there is room
pub record EntryMap : Type 0 where
  pub entries : fin.FinMap nat_cmp Entry
  pub spare : ℕ

-- a map is stored as the pair of its parts
abbrev pub entry_map_code : Coded EntryMap
entry_map_code =
    code_by (fin.FinMap nat_cmp Entry × ℕ) (coded× (fin.code coded_ℕ entry.the_row.coded) coded_ℕ) (λ m. (m.entries, m.spare)) (λ p. record { entries = p.0; spare = p.1 }) (λ _. refl)

-- the tickets of the entries
abbrev pub tickets_of : List Entry → List ℕ
tickets_of es = map (λ (e : Entry). e.ticket) es

-- the entries, each with its ticket before it
abbrev pub keyed : List Entry → List (ℕ × Entry)
keyed [] = []
keyed (e ∷ es) = (e.ticket, e) ∷ keyed es

-- the map of a list of entries
abbrev pub map_of : List Entry → fin.FinMap nat_cmp Entry
map_of es = fin.from_entries (keyed es)

-- no ticket stands in both maps
abbrev pub AreDisjoint : fin.FinMap nat_cmp Entry → fin.FinMap nat_cmp Entry → Type 0
AreDisjoint a b = (t : ℕ) → (fin.get a t ≡ None) ⊎ (fin.get b t ≡ None)

-- the union of two maps; a ticket that stood in both would keep the first entry
abbrev pub joined : fin.FinMap nat_cmp Entry → fin.FinMap nat_cmp Entry → fin.FinMap nat_cmp Entry
joined a b = fin.from_entries (fin.entries a ++ fin.entries b)
