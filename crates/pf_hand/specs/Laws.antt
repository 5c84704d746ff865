-- What a hand tells of the one history, as statements.
use Rattle.std.specs.Prelude.{◌≡◌, ℕ}
use Rattle.pf_model.specs.declared.Op.{Op}
use Rattle.pf_core_model.specs.declared.answer.Answer.{Answer}
use Rattle.pf_core_model.specs.declared.view.View.{View}
use Rattle.pf_core_model.specs.Core.{Opening, number_of}
use Rattle.pf_core_model.specs.Guards.{IsAlone}
use Rattle.pf_core_model.specs.Laws.{OverSound}
use Rattle.pf_core_model.specs.Right.{IsRight}
use Rattle.pf_core_model.specs.Seats.{own_log}
use Rattle.pf_holder.specs.Facts.{history_in}
use Rattle.pf_holder.specs.Answers.{IsBacked, IsEntered}
use Rattle.pf_locks.specs.declared.seat.BoardSeat.{BoardSeat}
use Rattle.pf_locks.specs.Seats.{IsSeat}
use Rattle.pf_hand.specs.Later.{GainedIn}

-- an answer that is backed by what a seat's view w came to know since v is right of the one history, in each sound state that has w
abbrev pub HandIsRight : Type 0
HandIsRight = OverSound (λ o words homes views log id w. (v : View) (chunk : ℕ) (op : Op) (a : Answer) → IsBacked o chunk op v.seen (GainedIn v w) a → IsEntered chunk op v.allowance v.entries w.allowance w.entries a
    → IsRight o log (record { number = number_of v; seen = v.seen; allowance = v.allowance; chunk = chunk; op = op }) a)

-- the history of a seat that is alone, by its entries, is its log
abbrev pub AloneLogIsOwn : Type 0
AloneLogIsOwn = (o : Opening) (s : BoardSeat) → IsSeat o s → IsAlone s.seat.me.0 → history_in s.seat.me.0.entries ≡ own_log s.seat.me.0
