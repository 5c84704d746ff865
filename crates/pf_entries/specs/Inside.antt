-- What is kept of entries: two chains of parts, those in which there is room and those in which there is none.
use Rattle.std.specs.Prelude.{ℕ, ◌+◌, ◌-◌, ◌<◌, ◌≤◌, List, [], ◌++◌, cond, vec_len, vec_capacity}
use Rattle.std.specs.List.{sum_by}
use Rattle.std.specs.Ordering.{nat_cmp, eq_by_cmp}
use Rattle.pf_model.specs.declared.Entry.{Entry}
use Rattle.pf_entries.specs.declared.parts.Chain.{Chain, End, Part'}
use Rattle.pf_entries.specs.Maps.{EntryMap, map_of}

-- the entries of a chain, part by part
abbrev pub entries_in : Chain → List Entry
entries_in End = []
entries_in (Part' items place rest) = items.items ++ entries_in rest

-- for how many more entries the parts of a chain have room
abbrev pub room_in : Chain → ℕ
room_in End = 0
room_in (Part' items place rest) = (vec_capacity items - vec_len items) + room_in rest

-- there is room in each part of a chain
abbrev pub HasRoom : Chain → Type 0
HasRoom End = Unit {0}
HasRoom (Part' items place rest) = (vec_len items < vec_capacity items) × HasRoom rest

-- how many of the entries have the ticket
abbrev pub times : ℕ → List Entry → ℕ
times t es = sum_by (λ e. cond (eq_by_cmp nat_cmp t e.ticket) 1 0) es

-- no ticket stands twice
abbrev pub AreApart : List Entry → Type 0
AreApart es = (t : ℕ) → times t es ≤ 1

-- what contracts see of two chains, the first with room
abbrev pub seen_in : Chain → Chain → EntryMap
seen_in ready full = record { entries = map_of (entries_in ready ++ entries_in full); spare = room_in ready }

pub record AreKeptChains (ready full : Chain) : Type 0 where
  pub room : HasRoom ready
  pub apart : AreApart (entries_in ready ++ entries_in full)
