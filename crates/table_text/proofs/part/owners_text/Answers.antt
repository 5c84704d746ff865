use Rattle.row_text.proofs.Writing.{text_of, written-more, written-all}
use Rattle.std.proofs.Common.{◌≤◌, length, append_assoc, refl, arith}
use Rattle.table_text.specs.Part.{owner_words, part_text_of}
use Rattle.table_text.proofs.part.owners_text.Goals as goal

pub loop-tri-init : goal.loop-tri-init
unfolding text_of part_text_of
loop-tri-init c = rw c.new-text.ensures.items refl

pub loop-tri-preserved : goal.loop-tri-preserved
loop-tri-preserved c = rw (c.in_ok-push_number.ensures, append_assoc c.loop-tri.text.items _ _) (written-more owner_words _ _ _ _ _ c.loop-tri-test.true c.loop-tri.invariant)

pub returns : goal.returns
returns c =
    let past : length c.args.tris.now ≤ c.loop-tri.tri-index = omega arith in
    written-all owner_words _ _ _ _ past c.loop-tri.invariant
