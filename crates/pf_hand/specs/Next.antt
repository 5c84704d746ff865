-- The first node that is kept.
use Rattle.std.specs.Prelude.{List, [], ◌∷◌, Option, Some, None, is_some}
use Rattle.pf_core_model.specs.Sharers.{kept_in}
use Rattle.pf_locks.specs.declared.kept.Kept.{Kept}
use Rattle.pf_hand.specs.declared.next.Next.{Next}

abbrev pub next_of : Kept → Next
next_of k = record { node = k.node; live = is_some (kept_in k.list) }

abbrev pub first_kept : List Kept → Option Next
first_kept [] = None
first_kept (k ∷ ks) = Some (next_of k)
