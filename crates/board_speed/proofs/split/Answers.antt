use Rattle.std.proofs.Common.{◌≡◌, ◌≢◌, ℕ, List, [], ◌∷◌, sym, ◌∙◌, inl, inr}
use Rattle.std.specs.Prelude.{slice_index}
use Rattle.pf_core_model.specs.Lists.{In}
use Rattle.pf_core_model.specs.Moves.{spares_in}
use Rattle.board_speed.proofs.split.Goals as goal

-- a number of the seat that isn't its own is spare
spare_there : (numbers : List ℕ) (own k : ℕ) → own ≡ slice_index numbers 0 → In k numbers → k ≢ own → (x : ℕ) × In x (spares_in numbers)
spare_there [] own k e i ne = absurd i
spare_there (x ∷ xs) own k e (inl f) ne = absurd (ne (f ∙ sym e))
spare_there (x ∷ xs) own k e (inr i) ne = (k, i)

pub split_seat-requires-clause-spare : goal.split_seat-requires-clause-spare
split_seat-requires-clause-spare c =
    let s = c.args.s.now in
    let seat = c.requires.rest.seat in
    let r = c.has_spare.ensures c.if-not-has_spare.false in
    spare_there s.seat.me.0.numbers s.number r.0 seat.counts.number (seat.counts.set r.0 r.1) r.2
