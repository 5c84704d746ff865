-- Worked traces: the text that each is answered by, computed on the definitions.
use Rattle.std.specs.Prelude.{◌≡◌, ℕ, [], ◌∷◌, Some, None, codes, refl}
use Rattle.std.specs.Fmt.{digits}
use Rattle.pf_model.specs.declared.Op.TheVariants.{Flip, Bisect}
use Rattle.pf_model.specs.Mesh.{Undivided}
use Rattle.pf_model.proofs.Rows.{kite, square}
use Rattle.pf_core_model.specs.declared.event.Event.TheVariants.{Split, Lock, Lost, Note, Commit, Push, Birth, Release, Bury, Join}
use Rattle.pf_core_model.specs.Core.{Opening}
use Rattle.trace_text.specs.Verdicts.{trace_text}

abbrev opens : Undivided → ℕ → ℕ → Opening
opens m budget workers = record { mesh = m; budget = budget; workers = workers }

-- two actors on the kite: one flips its edge while the other tries
kite-text : trace_text (opens kite 2 2) (Split 0 1 1 ∷ Lock 0 0 ∷ Lock 0 1 ∷ Lock 1 1 ∷ Lost 1 1 ∷ Commit 0 0 (Flip 0 1) ∷ Lock 0 2 ∷ Lock 0 3 ∷ Commit 0 0 (Flip 0 1) ∷ Release 0 0 ∷ Push 0 0 0 ∷ Release 0 0 ∷ Lock 1 0 ∷ [])
    ≡ codes "1 taken\n2 taken\n3 taken\n4 ignored\n5 taken holder 0\n6 ignored\n7 taken\n8 taken\n9 taken ticket 0\n10 ignored\n11 taken\n12 taken\n13 taken\ntickets 1\nfree 0 held 4 dead 0 never 2\ntriangles 0\n"
unfolding digits
kite-text = refl

-- guards that fail, on the square
refused-text : trace_text (opens square 1 2) (Lock 5 0 ∷ Join 0 0 ∷ Split 0 0 1 ∷ Split 0 1 2 ∷ Split 0 1 0 ∷ Lock 1 0 ∷ Lock 1 2 ∷ Commit 1 0 (Bisect 0 2) ∷ Note 1 (Some record { chunk = 0; op = Flip 0 2 }) ∷ Release 0 0 ∷ Join 0 1 ∷ Lost 0 2 ∷ Bury 1 0 ∷ Release 1 0 ∷ Lock 0 0 ∷ Lock 0 9 ∷ Push 0 0 0 ∷ [])
    ≡ codes "1 ignored\n2 ignored\n3 ignored\n4 ignored\n5 taken\n6 taken\n7 taken\n8 ignored\n9 taken ticket 0\n10 ignored\n11 ignored\n12 taken holder 1\n13 ignored\n14 taken\n15 taken\n16 ignored\n17 ignored\ntickets 0\nfree 2 held 2 dead 0 never 1\ntriangles 0\n"
unfolding digits
refused-text = refl

-- a bisection and the birth of its node
birth-text : trace_text (opens square 1 1) (Lock 0 0 ∷ Lock 0 1 ∷ Lock 0 2 ∷ Lock 0 3 ∷ Commit 0 0 (Bisect 0 2) ∷ Birth 0 4 ∷ Push 0 0 4 ∷ Birth 0 4 ∷ Release 0 0 ∷ Push 0 0 0 ∷ Release 0 0 ∷ Commit 0 0 (Bisect 0 4) ∷ Push 0 0 0 ∷ Note 0 None ∷ [])
    ≡ codes "1 taken\n2 taken\n3 taken\n4 taken\n5 taken ticket 0\n6 ignored\n7 taken\n8 taken\n9 ignored\n10 taken\n11 taken\n12 ignored\n13 ignored\n14 taken ticket 1\ntickets 1\nfree 1 held 4 dead 0 never 0\ntriangles 0\n"
unfolding digits
birth-text = refl

-- nothing happens, and the whole mesh is free
idle-text : trace_text (opens square 0 1) [] ≡ codes "tickets 0\nfree 4 held 0 dead 0 never 0\ntriangles 2\n"
unfolding digits
idle-text = refl
