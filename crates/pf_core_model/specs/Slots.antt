-- What a seat owes, by its held pairs and the lists of copies that stand in its hands.
use Rattle.std.specs.Prelude.{◌≡◌, ◌≢◌, ℕ, zero, suc, ◌<◌, List, [], ◌∷◌, ◌++◌, cond, Option}
use Rattle.pf_model.specs.Stars.{Star}
use Rattle.pf_core_model.specs.declared.sharer.Sharer.{Sharer}
use Rattle.pf_star_model.specs.Lent.{Held}
use Rattle.pf_core_model.specs.declared.event.Owed.{Owed}
use Rattle.pf_core_model.specs.Lists.{In}
use Rattle.pf_star_model.specs.Copies.{due_copy}
use Rattle.pf_core_model.specs.Sharers.{sharers_in, copy_in, IsSharerList}
use Rattle.pf_core_model.specs.Same.{same_star}

-- the chunks, from this one on, at which a list of copies of n hasn't the due one
abbrev pub lacks_from : ℕ → ℕ → ℕ → Option Star → List Sharer → List Owed
lacks_from chunk zero n star l = []
lacks_from chunk (suc more) n star l = cond (same_star (copy_in l chunk) (due_copy chunk star)) (lacks_from (suc chunk) more n star l) (record { chunk = chunk; node = n } ∷ lacks_from (suc chunk) more n star l)

-- what is owed of held pairs, where these are the lists of their nodes; what is kept out of a slot, to be lent, counts as in it
abbrev pub owed_in : ℕ → List Held → (ℕ → List Sharer) → List Owed
owed_in chunks [] lists = []
owed_in chunks (p ∷ ps) lists = lacks_from 0 chunks p.node p.star (lists p.node) ++ owed_in chunks ps lists

-- a pair is owed exactly where a held node's list hasn't the due copy
pub record Lacks (chunks : ℕ) (held : List Held) (lists : ℕ → List Sharer) (d : Owed) : Type 0 where
  pub pair : Held
  pub inside : In pair held
  pub node : d.node ≡ pair.node
  pub below : d.chunk < chunks
  pub behind : copy_in (lists pair.node) d.chunk ≢ due_copy d.chunk pair.star

abbrev pub OwedIsLacking : Type 0
OwedIsLacking = (chunks : ℕ) (held : List Held) (lists : ℕ → List Sharer) (d : Owed) → (In d (owed_in chunks held lists) → Lacks chunks held lists d) × (Lacks chunks held lists d → In d (owed_in chunks held lists))

-- the copies of a star are such a list
abbrev pub SharersAreListed : Type 0
SharersAreListed = (chunks : ℕ) (star : Option Star) → IsSharerList chunks (sharers_in chunks star)

-- and there is no other with the due copy at each chunk
abbrev pub DueListIsSharers : Type 0
DueListIsSharers = (chunks : ℕ) (star : Option Star) (l : List Sharer) → IsSharerList chunks l → ((chunk : ℕ) → chunk < chunks → copy_in l chunk ≡ due_copy chunk star) → l ≡ sharers_in chunks star

-- the list of a held node of which nothing is owed is that of its star
abbrev pub PaidIsShared : Type 0
PaidIsShared = (chunks : ℕ) (held : List Held) (lists : ℕ → List Sharer) (p : Held) → In p held → IsSharerList chunks (lists p.node)
    → ((chunk : ℕ) → In (record { chunk = chunk; node = p.node }) (owed_in chunks held lists) → ⊥) → lists p.node ≡ sharers_in chunks p.star
