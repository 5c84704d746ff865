use Rattle.std.proofs.Common.{◌≡◌, ◌<◌, ◌+◌, ◌-◌, ◌∷◌, true, refl, sym, ap, ◌∙◌, set, arith}
use Rattle.std.specs.Prelude.{Option, map}
use Rattle.pf_model.specs.Stars.{Star}
use Rattle.std.proofs.Common.{List}
use Rattle.pf_core.specs.declared.tables.Seat.{Seat}
use Rattle.pf_core.specs.Tables.{first_seat}
use Rattle.pf_core.specs.Gates.{can_split}
use Rattle.pf_core.proofs.Numbering.{split_ignored, split_taken, split_near}
use Rattle.pf_core.proofs.numbers.split.Goals as goal

pub returns-then-not-is_splittable : goal.returns-then-not-is_splittable
returns-then-not-is_splittable c = split_ignored c.args.s.now c.args.a c.args.b c.args.share ((λ i. can_split (sym c.deref.ensures.value i) c.args.a c.args.b c.args.share) ∙ sym c.is_splittable.ensures ∙ c.if-not-is_splittable.true)

pub returns : goal.returns
returns c = split_taken c.args.s.now _ c.args.a c.args.b c.args.share ((λ i. can_split (sym c.deref.ensures.value i) c.args.a c.args.b c.args.share) ∙ sym c.is_splittable.ensures ∙ c.if-not-is_splittable.false)
    record { first_new = refl; chunks = refl; bands = refl } refl refl
    (c.begin.ensures ∙ ap (λ (l : List Seat). set l c.args.b (first_seat c.args.b c.args.share)) c.give.ensures)
