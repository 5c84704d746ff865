-- Worked lists of events, computed on the definitions.
use Rattle.std.specs.Prelude.{◌≡◌, ℕ, List, [], ◌∷◌, Some, None, is_some, true, refl}
use Rattle.pf_model.specs.declared.Op.TheVariants.{Flip, Bisect, Contract}
use Rattle.pf_model.specs.Mesh.{Undivided}
use Rattle.pf_model.proofs.Rows.{kite, square}
use Rattle.pf_core_model.specs.declared.event.Event.{Event}
use Rattle.pf_core_model.specs.declared.event.Event.TheVariants.{Split, Lock, Lost, Note, Commit, Push, Birth, Release, Bury, Join}
use Rattle.pf_core_model.specs.declared.event.Verdict.{Verdict}
use Rattle.pf_core_model.specs.declared.event.Verdict.TheVariants.{Taken, Ignored}
use Rattle.pf_core_model.specs.Core.{Opening}
use Rattle.pf_core_model.specs.State.{opening_state, state_after, verdicts_of, free_part_of, counts_of, copy_at}

abbrev opens : Undivided → ℕ → ℕ → Opening
opens m budget workers = record { mesh = m; budget = budget; workers = workers }

abbrev taken : Verdict
taken = Taken None

abbrev gives : ℕ → Verdict
gives k = Taken (Some k)

abbrev two_on_kite : Opening
two_on_kite = opens kite 2 2

-- two actors on the kite: one flips its edge while the other tries
abbrev kite_events : List Event
kite_events =
    Split 0 1 1 ∷ Lock 0 0 ∷ Lock 0 1 ∷ Lock 1 1 ∷ Lost 1 1 ∷ Commit 0 0 (Flip 0 1) ∷ Lock 0 2 ∷ Lock 0 3 ∷ Commit 0 0 (Flip 0 1) ∷ Release 0 0 ∷ Push 0 0 0 ∷ Release 0 0 ∷ Lock 1 0 ∷ []

kite_verdicts : verdicts_of two_on_kite (opening_state two_on_kite) kite_events
    ≡ taken ∷ taken ∷ taken ∷ Ignored ∷ gives 0 ∷ Ignored ∷ taken ∷ taken ∷ gives 0 ∷ Ignored ∷ taken ∷ taken ∷ taken ∷ []
kite_verdicts = refl

kite_words : (state_after two_on_kite (opening_state two_on_kite) kite_events).words ≡ 4 ∷ 3 ∷ 3 ∷ 3 ∷ 2 ∷ 2 ∷ 1 ∷ []
kite_words = refl

kite_counts : counts_of two_on_kite (state_after two_on_kite (opening_state two_on_kite) kite_events) ≡ 0 ∷ 4 ∷ 0 ∷ 2 ∷ []
kite_counts = refl

kite_free : free_part_of two_on_kite (state_after two_on_kite (opening_state two_on_kite) kite_events) ≡ []
kite_free = refl

kite_all_free : free_part_of two_on_kite (opening_state two_on_kite) ≡ kite.tris
kite_all_free = refl

-- guards that fail, on the square
abbrev two_on_square : Opening
two_on_square = opens square 1 2

abbrev refused_events : List Event
refused_events =
    Lock 5 0 ∷ Join 0 0 ∷ Split 0 0 1 ∷ Split 0 1 2 ∷ Split 0 1 0 ∷ Lock 1 0 ∷ Lock 1 2 ∷ Commit 1 0 (Bisect 0 2) ∷ Note 1 (Some record { chunk = 0; op = Flip 0 2 })
    ∷ Release 0 0 ∷ Join 0 1 ∷ Lost 0 2 ∷ Bury 1 0 ∷ Release 1 0 ∷ Lock 0 0 ∷ Lock 0 9 ∷ Push 0 0 0 ∷ []

refused_verdicts : verdicts_of two_on_square (opening_state two_on_square) refused_events
    ≡ Ignored ∷ Ignored ∷ Ignored ∷ Ignored ∷ taken ∷ taken ∷ taken ∷ Ignored ∷ gives 0 ∷ Ignored ∷ Ignored ∷ gives 1 ∷ Ignored ∷ taken ∷ taken ∷ Ignored ∷ Ignored ∷ []
refused_verdicts = refl

refused_words : (state_after two_on_square (opening_state two_on_square) refused_events).words ≡ 3 ∷ 0 ∷ 4 ∷ 0 ∷ 2 ∷ 0 ∷ []
refused_words = refl

refused_counts : counts_of two_on_square (state_after two_on_square (opening_state two_on_square) refused_events) ≡ 2 ∷ 2 ∷ 0 ∷ 1 ∷ []
refused_counts = refl

refused_free : free_part_of two_on_square (state_after two_on_square (opening_state two_on_square) refused_events) ≡ []
refused_free = refl

-- a bisection and the birth of its node
abbrev one_on_square : Opening
one_on_square = opens square 1 1

abbrev birth_events : List Event
birth_events =
    Lock 0 0 ∷ Lock 0 1 ∷ Lock 0 2 ∷ Lock 0 3 ∷ Commit 0 0 (Bisect 0 2) ∷ Birth 0 4 ∷ Push 0 0 4 ∷ Birth 0 4 ∷ Release 0 0 ∷ Push 0 0 0 ∷ Release 0 0 ∷ Commit 0 0 (Bisect 0 4) ∷ Push 0 0 0 ∷ Note 0 None ∷ []

birth_verdicts : verdicts_of one_on_square (opening_state one_on_square) birth_events
    ≡ taken ∷ taken ∷ taken ∷ taken ∷ gives 0 ∷ Ignored ∷ taken ∷ taken ∷ Ignored ∷ taken ∷ taken ∷ Ignored ∷ Ignored ∷ gives 1 ∷ []
birth_verdicts = refl

birth_words : (state_after one_on_square (opening_state one_on_square) birth_events).words ≡ 0 ∷ 3 ∷ 3 ∷ 3 ∷ 3 ∷ 1 ∷ []
birth_words = refl

birth_counts : counts_of one_on_square (state_after one_on_square (opening_state one_on_square) birth_events) ≡ 1 ∷ 4 ∷ 0 ∷ 0 ∷ []
birth_counts = refl

birth_free : free_part_of one_on_square (state_after one_on_square (opening_state one_on_square) birth_events) ≡ []
birth_free = refl

-- the bisection undone by a contraction, whose node is buried
abbrev undone_events : List Event
undone_events =
    Lock 0 0 ∷ Lock 0 1 ∷ Lock 0 2 ∷ Lock 0 3 ∷ Commit 0 0 (Bisect 0 2) ∷ Push 0 0 0 ∷ Push 0 0 1 ∷ Push 0 0 2 ∷ Push 0 0 3 ∷ Push 0 0 4 ∷ Birth 0 4
    ∷ Commit 0 0 (Contract 4 0) ∷ Release 0 4 ∷ Bury 0 4 ∷ Push 0 0 0 ∷ Push 0 0 1 ∷ Push 0 0 2 ∷ Push 0 0 3 ∷ Push 0 0 4 ∷ Bury 0 4 ∷ Release 0 0 ∷ Release 0 1 ∷ Release 0 2 ∷ Release 0 3 ∷ Lock 0 4 ∷ []

abbrev twice_on_square : Opening
twice_on_square = opens square 2 1

undone_verdicts : verdicts_of twice_on_square (opening_state twice_on_square) undone_events
    ≡ taken ∷ taken ∷ taken ∷ taken ∷ gives 0 ∷ taken ∷ taken ∷ taken ∷ taken ∷ taken ∷ taken
    ∷ gives 1 ∷ Ignored ∷ Ignored ∷ taken ∷ taken ∷ taken ∷ taken ∷ taken ∷ taken ∷ taken ∷ taken ∷ taken ∷ taken ∷ Ignored ∷ []
undone_verdicts = refl

undone_words : (state_after twice_on_square (opening_state twice_on_square) undone_events).words ≡ 0 ∷ 0 ∷ 0 ∷ 0 ∷ 1 ∷ 2 ∷ 2 ∷ []
undone_words = refl

undone_free : free_part_of twice_on_square (state_after twice_on_square (opening_state twice_on_square) undone_events) ≡ square.tris
undone_free = refl

-- a chunk that ceases to share a node has no copy of it after the push
abbrev shared_kite : Undivided
shared_kite = record kite { tris = record { a = 0; b = 1; c = 2; owner = 0 } ∷ record { a = 0; b = 3; c = 1; owner = 1 } ∷ []; chunks = 2 }

abbrev one_on_shared : Opening
one_on_shared = opens shared_kite 1 1

abbrev shared_events : List Event
shared_events = Lock 0 0 ∷ Lock 0 1 ∷ Lock 0 2 ∷ Lock 0 3 ∷ Commit 0 0 (Flip 0 1) ∷ Push 0 0 0 ∷ Push 0 1 0 ∷ Push 0 1 0 ∷ Release 0 0 ∷ []

shared_verdicts : verdicts_of one_on_shared (opening_state one_on_shared) shared_events ≡ taken ∷ taken ∷ taken ∷ taken ∷ gives 0 ∷ taken ∷ taken ∷ Ignored ∷ taken ∷ []
shared_verdicts = refl

shared_before : is_some (copy_at (opening_state one_on_shared).lists 1 0) ≡ true
shared_before = refl

shared_after : copy_at (state_after one_on_shared (opening_state one_on_shared) shared_events).lists 1 0 ≡ None
shared_after = refl
