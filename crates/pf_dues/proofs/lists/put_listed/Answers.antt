use Rattle.std.proofs.Common.{◌≡◌, ◌<◌, ◌≤◌, List, true, false, refl, sym, ap, ◌∙◌, subst, arith}
use Rattle.std.specs.Prelude.{Option, Result, Ok, Err, OnOk, OnErr}
use Rattle.pf_model.specs.Stars.{Star}
use Rattle.pf_core_model.specs.declared.sharer.Sharer.{Sharer}
use Rattle.pf_core_model.specs.Sharers.{put_copy, IsSharerList}
use Rattle.pf_core_model.proofs.Sharing.{put_listed}
use Rattle.pf_dues.proofs.lists.put_listed.Goals as goal

either : {T E : Type 0} (r : Result T E) (l l' old : List Sharer) → OnOk r (l ≡ l') → OnErr r (l ≡ old) → IsSharerList 65536 l' → IsSharerList 65536 old → IsSharerList 65536 l
either (Ok x) l l' old p q a b = subst (IsSharerList 65536) (sym p) a
either (Err e) l l' old p q a b = subst (IsSharerList 65536) (sym q) b

pub of-requires : goal.of-requires
of-requires c =
    let old : IsSharerList 65536 c.into_list-list.result.items = subst (IsSharerList 65536) (sym c.into_list-list.ensures.value) c.into_list-list.ensures.rise in
    let low : c.args.chunk < 65536 = omega (arith, c.ranges.chunk.fits) in
    either c.put-result.result c.put-result.new.list.items (put_copy c.args.chunk c.args.copy c.into_list-list.result.items) c.into_list-list.result.items
    c.put-result.ensures.put c.put-result.ensures.same (put_listed 0 65536 c.args.chunk c.args.copy c.into_list-list.result.items (omega arith) low old) old
