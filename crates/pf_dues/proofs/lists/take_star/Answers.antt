use Rattle.std.proofs.Common.{◌≡◌, ◌<◌, ◌≤◌, ◌+◌, ◌-◌, List, ◌∷◌, ◌++◌, true, false, refl, sym, ap, ◌∙◌, set, length, take, drop, subst, suc, arith}
use Rattle.std.specs.Prelude.{Option, Some, None, slice_set, insert, remove}
use Rattle.pf_model.specs.Stars.{Star}
use Rattle.pf_core_model.specs.declared.sharer.Sharer.{Sharer}
use Rattle.pf_core_model.specs.Sharers.{put_copy}
use Rattle.pf_dues.specs.Lists.{index_of, has_copy}
use Rattle.pf_dues.proofs.Copying.{place_low, there_low, set_put, remove_put, insert_put, none_put}
use Rattle.pf_dues.proofs.lists.take_star.Goals as goal

pub remove-requires : goal.remove-requires
remove-requires c =
    let at : c.place-at.result ≡ index_of c.args.chunk c.args.list.now.items = c.place-at.ensures ∙ ap (index_of c.args.chunk) c.deref.ensures.value in
    let there : has_copy c.args.chunk c.args.list.now.items ≡ true = ap (has_copy c.args.chunk) (sym c.deref-2.ensures.value) ∙ sym c.is_there.ensures ∙ c.if-is_there.true in
    let low = there_low c.args.chunk c.args.list.now.items there in
    omega (arith, c.args.list.now.ok)

pub returns-then-is_there : goal.returns-then-is_there
returns-then-is_there c =
    let at : c.place-at.result ≡ index_of c.args.chunk c.args.list.now.items = c.place-at.ensures ∙ ap (index_of c.args.chunk) c.deref.ensures.value in
    let there : has_copy c.args.chunk c.args.list.now.items ≡ true = ap (has_copy c.args.chunk) (sym c.deref-2.ensures.value) ∙ sym c.is_there.ensures ∙ c.if-is_there.true in
    c.remove.ensures.items ∙ (λ i. remove c.args.list.now.items (at i)) ∙ remove_put c.args.chunk c.args.list.now.items there

pub returns-else-is_there : goal.returns-else-is_there
returns-else-is_there c =
    let absent : has_copy c.args.chunk c.args.list.now.items ≡ false = ap (has_copy c.args.chunk) (sym c.deref-2.ensures.value) ∙ sym c.is_there.ensures ∙ c.if-is_there.false in
    none_put c.args.chunk c.args.list.now.items absent
